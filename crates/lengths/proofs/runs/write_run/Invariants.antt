use Rattle.map.specs.Meaning.{structure}
use Rattle.lengths.proofs.Drawn.{Drawing}
use Rattle.lengths.proofs.runs.write_run.Given as goal

abbrev pub invariant-loop-i : goal.invariant-loop-i
invariant-loop-i g l = Drawing (structure g.M.L.Look.sign (g.M.Map.meaning l.map)) l.work l.s l.i l.at l.initial.run l.run
