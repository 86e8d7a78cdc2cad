-- The same call on two structures, with a class for each state of the first. Assumes nothing.
use Rattle.std.specs.Prelude.{◌≡◌, ℕ, ◌<◌, ◌≤◌, ◌⊎◌}
use Rattle.stl.specs.Structures.{Structure}
use Rattle.stl.specs.declared.row.Row.{Row}
use Rattle.calls.specs.declared.call.Call.{Call}
use Rattle.calls.specs.declared.call.Call.TheVariants as call

-- the same call, each state read through the fold, a missing one as a missing one
abbrev pub SameState : Structure → Structure → (ℕ → ℕ) → ℕ → ℕ → Type 0
SameState full folded class s d = ((s < full.size) × (d ≡ class s)) ⊎ ((full.size ≤ s) × (folded.size ≤ d))

pub data Alike (full folded : Structure) (class : ℕ → ℕ) : Call → Call → Type 0 where
  add : (row : Row) → Alike full folded class (call.Add row) (call.Add row)
  mark : Alike full folded class call.Mark call.Mark
  label : (s d r : ℕ) → SameState full folded class s d → Alike full folded class (call.Label s r) (call.Label d r)
  verdict : (r : ℕ) → Alike full folded class (call.Verdict r) (call.Verdict r)
  witness : (s d r : ℕ) → SameState full folded class s d → Alike full folded class (call.Witness s r) (call.Witness d r)
