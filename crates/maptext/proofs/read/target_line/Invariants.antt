use Rattle.std.proofs.Common.{◌≡◌, ◌+◌, ◌≤◌, length}
use Rattle.reader.specs.Texts.{text_lines}
use Rattle.maptext.specs.MapTexts.{target_line}
use Rattle.maptext.proofs.read.target_line.Given as goal

abbrev pub invariant-loop-said : goal.invariant-loop-said
invariant-loop-said l =
    goal.iterator-loop-said.can_next l.said-iterator
    × goal.iterator-loop-said.is_finite l.said-iterator
    × (target_line l.line l.left (text_lines l.said-iterator.0.now) ≡ target_line 1 l.k (text_lines l.text))
    × (l.line + length (text_lines l.said-iterator.0.now) ≤ 60001)
