use Rattle.std.proofs.Common.{ℕ, ◌^◌, ◌<◌, Ok}
use Rattle.writing.specs.Sinks.{Put}
use Rattle.saving.specs.Texts.{marks_of}
use Rattle.saving.proofs.Lines.{state_at}
use Rattle.saving.proofs.Pieces.{pieces}
use Rattle.saving.proofs.maps.put_states.Given as goal

abbrev pub invariant-loop-s : goal.invariant-loop-s
invariant-loop-s g l =
    let S = g.S.Sink in
    ((s : ℕ) → s < l.s → marks_of ((g.M.Map.meaning l.map).look s) < 2 ^ 32) ×
    Put S.room S.puts S.keeps l.initial.sink (pieces (state_at (g.M.Map.meaning l.map)) l.s) (Ok tt) l.sink
