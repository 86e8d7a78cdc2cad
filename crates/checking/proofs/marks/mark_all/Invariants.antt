use Rattle.std.proofs.Common.{◌≡◌, ◌-◌, length}
use Rattle.calls.specs.Histories.{Kept}
use Rattle.map.specs.Meaning.{structure}
use Rattle.session.specs.Sessions.{state}
use Rattle.checking.proofs.marks.mark_all.Given as goal

abbrev pub invariant-loop : goal.invariant-loop
invariant-loop g l = Kept (structure g.M.L.Look.sign (g.M.Map.meaning l.map)) (state l.session) l.sheet × ((state l.session).rows ≡ (state l.initial.session).rows)

abbrev pub decreases-loop : goal.decreases-loop
decreases-loop g l = length (state l.session).rows - (state l.session).marked
