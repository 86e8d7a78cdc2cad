use Rattle.std.proofs.Common.{◌≡◌, ℕ, ◌<◌, true}
use Rattle.lengths.specs.Sheets.{by_sheet}
use Rattle.session.proofs.ask.all_starts.Given as goal

abbrev pub invariant-loop-s : goal.invariant-loop-s
invariant-loop-s g l = (t : ℕ) → t < l.s → (g.M.Map.meaning l.map).start t ≡ true → by_sheet l.sheet l.r t
