use Rattle.map.specs.Meaning.{structure}
use Rattle.lengths.specs.Rounds.{Begun}
use Rattle.lengths.specs.Sheets.{by_sheet}
use Rattle.lengths.proofs.rounds.Until.first_round.Given as goal

abbrev pub invariant-loop-s : goal.invariant-loop-s
invariant-loop-s g l = Begun (structure g.M.L.Look.sign (g.M.Map.meaning l.self.map.now)) (by_sheet l.self.sheet.now l.self.a) (by_sheet l.self.sheet.now l.self.b) l.s l.initial.work l.work

abbrev pub invariant-loop-s-2 : goal.invariant-loop-s-2
invariant-loop-s-2 g l = Begun (structure g.M.L.Look.sign (g.M.Map.meaning l.self.map.now)) (by_sheet l.self.sheet.now l.self.a) (by_sheet l.self.sheet.now l.self.b) l.s l.initial.work l.work
