use Rattle.std.proofs.Common.{◌-◌}
use Rattle.map.specs.Meaning.{structure}
use Rattle.lengths.specs.Sheets.{by_sheet}
use Rattle.lengths.proofs.Filling.{Running}
use Rattle.lengths.proofs.rounds.Until.lengths.Given as goal

abbrev pub invariant-loop-d : goal.invariant-loop-d
invariant-loop-d g l = Running (structure g.M.L.Look.sign (g.M.Map.meaning l.self.map.now)) (by_sheet l.self.sheet.now l.self.a) (by_sheet l.self.sheet.now l.self.b) l.d l.initial.work l.work

abbrev pub decreases-loop-d : goal.decreases-loop-d
decreases-loop-d g l = (g.M.Map.meaning l.self.map.now).size - l.d
