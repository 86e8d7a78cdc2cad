use Rattle.std.proofs.Common.{take, Ok}
use Rattle.writing.specs.Sinks.{Put}
use Rattle.report.specs.Texts.{report_text}
use Rattle.report.proofs.lines.ReportText.put_into.Given as goal

abbrev pub invariant-loop-r : goal.invariant-loop-r
invariant-loop-r g l = let S = g.S.Sink in Put S.room S.puts S.keeps l.initial.sink (report_text (take l.r l.self.finds.now)) (Ok tt) l.sink
