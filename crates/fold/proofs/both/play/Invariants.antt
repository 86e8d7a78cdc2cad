use Rattle.map.specs.Meaning.{structure}
use Rattle.fold.specs.Lists.{SameLent, sides, Told}
use Rattle.fold.proofs.both.play.Given as goal

abbrev pub invariant-loop-i : goal.invariant-loop-i
invariant-loop-i g l =
    Told (structure g.F.L.Look.sign (g.F.Map.meaning l.initial.full.map.now)) (structure g.F.L.Look.sign (g.G.Map.meaning l.initial.folded.map.now)) l.fold.table.now (sides l.initial.full l.initial.folded) l.calls l.initial.answers l.i l.answers (sides l.full l.folded)
    × SameLent l.initial.full l.full
    × SameLent l.initial.folded l.folded
