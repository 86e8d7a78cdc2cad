use Rattle.map.specs.Meaning.{structure}
use Rattle.report.specs.Results.{Collected}
use Rattle.session.specs.Sessions.{state}
use Rattle.report.proofs.collect.collect.Given as goal

abbrev pub invariant-loop-r : goal.invariant-loop-r
invariant-loop-r g l = Collected (structure g.M.L.Look.sign (g.M.Map.meaning l.map)) (state l.session).rows l.sheet l.r l.finds
