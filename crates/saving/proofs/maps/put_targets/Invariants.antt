use Rattle.std.proofs.Common.{Ok}
use Rattle.text.specs.declared.line.Line.TheVariants.{Target}
use Rattle.writing.specs.Sinks.{Put}
use Rattle.saving.proofs.Lines.{line_at}
use Rattle.saving.proofs.Pieces.{pieces}
use Rattle.saving.proofs.maps.put_targets.Given as goal

abbrev pub invariant-loop-k : goal.invariant-loop-k
invariant-loop-k g l = let S = g.S.Sink in Put S.room S.puts S.keeps l.initial.sink (pieces (line_at Target 0 ((g.M.Map.meaning l.map).list l.s)) l.k) (Ok tt) l.sink
