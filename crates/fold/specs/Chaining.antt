-- Two class tables made one. Assumes nothing.
use Rattle.std.specs.Prelude.{◌≡◌, ℕ, ◌<◌, Bool, List, length, Ok, Err, Result, ◌≢◌, slice_index}
use Rattle.map.specs.Meaning.{Meaning, Bounded, structure}
use Rattle.sharing.specs.Accepts.{class_of, Accepts}
use Rattle.sharing.specs.Chains.{chained}
use Rattle.sharing.specs.Shares.{Share}
use Rattle.fold.specs.declared.fault.ChainFault.{ChainFault}
use Rattle.fold.specs.declared.fault.ChainFault.TheVariants.{WrongLength, NoEntry}

-- each entry of the first table is below n
abbrev pub AllBelow : ℕ → List ℕ → Type 0
AllBelow n first = (i : ℕ) → i < length first → slice_index first i < n

-- what chaining answers, and what the output holds after it: a refusal writes nothing
abbrev pub Chained : List ℕ → List ℕ → List ℕ → {T : Type 0} → Result T ChainFault → List ℕ → Type 0
Chained first second before (Ok x) after = (length before ≡ length first) × AllBelow (length second) first × (after ≡ chained first second)
Chained first second before (Err WrongLength) after = (length before ≢ length first) × (after ≡ before)
Chained first second before (Err NoEntry) after = (length before ≡ length first) × (AllBelow (length second) first → ⊥) × (after ≡ before)

-- a table that was chained folds the first map onto the last, and sessions on these share
abbrev pub Joins : {L : Type 0} → (L → ℕ → Bool) → (L → L → Bool) → List ℕ → List ℕ → {T : Type 0} → Result T ChainFault → List ℕ → Type 0
Joins {L} sign same first second (Ok x) after =
    (full middle folded : Meaning L) → Bounded full → Bounded folded → Accepts sign same full middle first → Accepts sign same middle folded second →
    Accepts sign same full folded after × Share (structure sign full) (structure sign folded) (class_of after)
Joins sign same first second (Err f) after = Unit {0}
