-- Four tables: when they make a map, and which map they make. Assumes nothing.
use Rattle.std.specs.Prelude.{ℕ, ◌+◌, ◌-◌, Bool, false, cond, not, ◌&&◌, ◌||◌, List, [], ◌∷◌, length, Some, None, Option, ◌==◌, nat_le, nat_lt, slice_index}
use Rattle.std.specs.List.{between, slice_get}
use Rattle.map.specs.Meaning.{Meaning}
use Rattle.map.specs.Questions.{Question, ask, each}
use Rattle.listed.specs.declared.fault.ListedFault.{ListedFault}
use Rattle.listed.specs.declared.fault.ListedFault.TheVariants.{TooManyLooks, WrongLengths, WrongFirst, WrongTarget}

-- looks of one kind, a start byte for each, where each state's targets begin, and the targets of all states
pub record Tables (L : Type 0) : Type 0 where
  pub looks : List L
  pub starts : List ℕ
  pub firsts : List ℕ
  pub targets : List ℕ

abbrev pub tables : {L : Type 0} → List L → List ℕ → List ℕ → List ℕ → Tables L
tables ls ss fs ts = record { looks = ls; starts = ss; firsts = fs; targets = ts }

-- entry i of the firsts is as it should be, where there are so many targets: entry 0 is 0, no entry is below the one
-- before it, and the last entry is the number of targets, at most 32,768
abbrev pub right_first : List ℕ → ℕ → ℕ → Bool
right_first firsts count i =
    (not (i == 0) || slice_index firsts i == 0) &&
    ((i == 0 || nat_le (slice_index firsts (i - 1)) (slice_index firsts i)) &&
    (nat_lt (i + 1) (length firsts) || (slice_index firsts i == count && nat_le count 32768)))

-- entry k of the targets is one of n states
abbrev pub right_target : List ℕ → ℕ → ℕ → Bool
right_target targets n k = nat_lt (slice_index targets k) n

-- what is asked of four tables before they make a map
abbrev pub questions : {L : Type 0} → Tables L → List (Question ListedFault)
questions t =
    ask (nat_le (length t.looks) 4096) TooManyLooks ∷
    (ask (length t.starts == length t.looks && length t.firsts == length t.looks + 1) WrongLengths ∷
    (each (length t.firsts) (right_first t.firsts (length t.targets)) WrongFirst ∷
    (each (length t.targets) (right_target t.targets (length t.looks)) WrongTarget ∷ [])))

-- the list of s: the part of the targets from entry firsts[s] up to, not including, firsts[s + 1]
abbrev pub list_of : {L : Type 0} → Tables L → ℕ → List ℕ
list_of t s = between (slice_index t.firsts s) (slice_index t.firsts (s + 1)) t.targets

-- the map that four tables make; refused tables make the map of size 0
abbrev pub listed : {L : Type 0} → Option ListedFault → Tables L → Meaning L
listed None t = record {
  size = length t.looks;
  start = λ s. nat_lt s (length t.looks) && not (slice_index t.starts s == 0);
  look = slice_get t.looks;
  list = λ s. cond (nat_lt s (length t.looks)) (list_of t s) [];
}
listed (Some fault) t = record { size = 0; start = λ _. false; look = λ _. None; list = λ _. [] }
