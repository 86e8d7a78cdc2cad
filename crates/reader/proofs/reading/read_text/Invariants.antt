use Rattle.std.proofs.Common.{◌≡◌, ◌+◌, ◌-◌, length, ◌≤◌}
use Rattle.reader.specs.Readings.{takes}
use Rattle.reader.specs.Texts.{text_lines}
use Rattle.reader.proofs.reading.read_text.Given as goal

abbrev pub invariant-loop-said : goal.invariant-loop-said
invariant-loop-said g l =
    let R = g.R.Reader in
    let rest = text_lines l.said-iterator.0.now in
    record {
      can_next : (goal.iterator-loop-said g).can_next l.said-iterator;
      is_finite : (goal.iterator-loop-said g).is_finite l.said-iterator;
      fixed : R.fixed l.reader ≡ R.fixed l.initial.reader;
      goes_on : takes (R.step (R.fixed l.initial.reader)) l.line (R.held l.reader) rest ≡ takes (R.step (R.fixed l.initial.reader)) 1 (R.held l.initial.reader) (text_lines l.text);
      lines : l.line + length rest ≡ length (text_lines l.text) + 1;
      few : l.line + length rest ≤ 60001;
      can_take : R.can_take (R.held l.reader) (60001 - l.line);
      sound : R.sound (R.fixed l.initial.reader) (R.held l.initial.reader) → R.sound (R.fixed l.initial.reader) (R.held l.reader);
    }
