-- Chains of folds, each folded map the next one's full map. Assumes nothing.
use Rattle.std.specs.Prelude.{ℕ, Bool, List, map}
use Rattle.map.specs.Meaning.{Meaning}
use Rattle.sharing.specs.Accepts.{class_of, Accepts}

-- the table that takes a state through two tables
abbrev pub chained : List ℕ → List ℕ → List ℕ
chained first second = map (class_of second) first

-- one accepted fold or more, from the first map to the last, with the table that takes a state through all of them
pub data Chain {L : Type 0} (sign : L → ℕ → Bool) (same : L → L → Bool) : Meaning L → Meaning L → List ℕ → Type 0 where
  one : {full folded : Meaning L} {table : List ℕ} → Accepts sign same full folded table → Chain sign same full folded table
  more : {full middle folded : Meaning L} {table next : List ℕ} → Chain sign same full middle table → Accepts sign same middle folded next → Chain sign same full folded (chained table next)
