use Rattle.map.specs.Meaning.{structure}
use Rattle.lengths.specs.Sheets.{Labelled}
use Rattle.marking.proofs.rows.write_row.Given as goal

abbrev pub invariant-loop-s : goal.invariant-loop-s
invariant-loop-s g l = Labelled (structure g.M.L.Look.sign (g.M.Map.meaning l.map)) l.initial.sheet l.r l.row l.s l.sheet
