-- Words set to 0, one at a time. Assumes nothing.
use Rattle.std.proofs.Common.{◌≡◌, ℕ, ◌+◌, ◌<◌, ◌≤◌, List, [], length, get_or, set, sym, ◌∙◌, subst, ⊎_elim, arith}
use Rattle.std.proofs.lemmas.List.{length-set, get_or-set_same, get_or-set_other}
use Rattle.std.proofs.lemmas.Bool.{cases_eq}
use Rattle.stl.specs.Structures.{Structure}
use Rattle.stl.specs.declared.row.Row.{Row}
use Rattle.calls.specs.Histories.{History, opened}
use Rattle.calls.specs.Opening.{Cleared}

-- a cleared sheet, and no rows, begin a history
pub begun : (k : Structure) (rows : List Row) (before sheet : List ℕ) → rows ≡ [] → 0 < k.size → k.size ≤ length before → Cleared k.size before sheet → History k (record { rows = rows; marked = 0 }) sheet []
begun k rows before sheet e some fits c = subst (λ xs. History k (record { rows = xs; marked = 0 }) sheet []) (sym e) (opened sheet some (omega (arith, c.sized)) c.here)
