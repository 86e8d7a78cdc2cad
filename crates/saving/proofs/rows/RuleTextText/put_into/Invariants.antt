use Rattle.std.proofs.Common.{take, Ok}
use Rattle.stl.specs.declared.row.Row.TheVariants.{True}
use Rattle.text.specs.declared.line.Line.TheVariants.{Rule}
use Rattle.writing.specs.Sinks.{Put}
use Rattle.saving.proofs.Lines.{line_at}
use Rattle.saving.proofs.Pieces.{pieces}
use Rattle.saving.proofs.rows.RuleTextText.put_into.Given as goal

abbrev pub invariant-loop-r : goal.invariant-loop-r
invariant-loop-r g l = let S = g.S.Sink in Put S.room S.puts S.keeps l.initial.sink (pieces (line_at Rule True (take l.self.0.now.len l.self.0.now.rows)) l.r) (Ok tt) l.sink
