use Rattle.std.proofs.Common.{refl, rules, arith}
use Rattle.foldcheck.specs.declared.fault.FoldFault.TheVariants.{NoClass, OtherLook, MoveLost, MoveAdded, StartLost, StartAdded, NotAClass}
use Rattle.foldcheck.proofs.Verdicts.{Passed, passed_sized, passed, refused, accepted}
use Rattle.foldcheck.proofs.questions.Folding.ask.Goals as goal
use Rattle.foldcheck.proofs.questions.Folding.ask.Goals.{In_ok-ask_all, In_ok-ask_all-2, In_ok-ask_all-3, In_ok-ask_all-4, In_ok-ask_all-5, In_ok-ask_all-6, In_ok-ask_all-7}

-- what has a yes at each state, question by question
classed : (g : _) (c : In_ok-ask_all g) → let f = c.args.self.now in Passed g.F.L.Look.sign g.F.L.Look.same (g.F.Map.meaning f.full.now) (g.G.Map.meaning f.folded.now) f.classes.now 29
classed g c = passed _ _ _ _ _ 28 _ (passed_sized _ _ _ _ _ c.args.self.now.sized) c.in_ok-ask_all.ensures (λ s b h. search rules) (λ s h. omega arith)

alike : (g : _) (c : In_ok-ask_all-2 g) → let f = c.args.self.now in Passed g.F.L.Look.sign g.F.L.Look.same (g.F.Map.meaning f.full.now) (g.G.Map.meaning f.folded.now) f.classes.now 30
alike g c = passed _ _ _ _ _ 29 _ (classed g (goal.at.In_ok-ask_all-2 g c).In_ok-ask_all) c.in_ok-ask_all-2.ensures (λ s b h. search rules) (λ s h. omega arith)

forth : (g : _) (c : In_ok-ask_all-3 g) → let f = c.args.self.now in Passed g.F.L.Look.sign g.F.L.Look.same (g.F.Map.meaning f.full.now) (g.G.Map.meaning f.folded.now) f.classes.now 31
forth g c = passed _ _ _ _ _ 30 _ (alike g (goal.at.In_ok-ask_all-3 g c).In_ok-ask_all-2) c.in_ok-ask_all-3.ensures (λ s b h. search rules) (λ s h. omega arith)

back : (g : _) (c : In_ok-ask_all-4 g) → let f = c.args.self.now in Passed g.F.L.Look.sign g.F.L.Look.same (g.F.Map.meaning f.full.now) (g.G.Map.meaning f.folded.now) f.classes.now 32
back g c = passed _ _ _ _ _ 31 _ (forth g (goal.at.In_ok-ask_all-4 g c).In_ok-ask_all-3) c.in_ok-ask_all-4.ensures (λ s b h. search rules) (λ s h. omega arith)

starts : (g : _) (c : In_ok-ask_all-5 g) → let f = c.args.self.now in Passed g.F.L.Look.sign g.F.L.Look.same (g.F.Map.meaning f.full.now) (g.G.Map.meaning f.folded.now) f.classes.now 33
starts g c = passed _ _ _ _ _ 32 _ (back g (goal.at.In_ok-ask_all-5 g c).In_ok-ask_all-4) c.in_ok-ask_all-5.ensures (λ s b h. search rules) (λ s h. omega arith)

started : (g : _) (c : In_ok-ask_all-6 g) → let f = c.args.self.now in Passed g.F.L.Look.sign g.F.L.Look.same (g.F.Map.meaning f.full.now) (g.G.Map.meaning f.folded.now) f.classes.now 34
started g c = passed _ _ _ _ _ 33 _ (starts g (goal.at.In_ok-ask_all-6 g c).In_ok-ask_all-5) c.in_ok-ask_all-6.ensures (λ s b h. search rules) (λ s h. omega arith)

onto : (g : _) (c : In_ok-ask_all-7 g) → let f = c.args.self.now in Passed g.F.L.Look.sign g.F.L.Look.same (g.F.Map.meaning f.full.now) (g.G.Map.meaning f.folded.now) f.classes.now 35
onto g c = passed _ _ _ _ _ 34 _ (started g (goal.at.In_ok-ask_all-7 g c).In_ok-ask_all-6) c.in_ok-ask_all-7.ensures (λ s b h. search rules) (λ s h. omega arith)

pub returns-in_err-ask_all : goal.returns-in_err-ask_all
returns-in_err-ask_all g c = let e = c.in_err-ask_all.ensures in refused _ _ _ _ _ 28 (NoClass e.0) refl (search rules) (passed_sized _ _ _ _ _ c.args.self.now.sized) e.1 (λ s b h. search rules) (λ h. omega arith)

pub returns-in_err-ask_all-2 : goal.returns-in_err-ask_all-2
returns-in_err-ask_all-2 g c = let e = c.in_err-ask_all-2.ensures in refused _ _ _ _ _ 29 (OtherLook e.0) refl (search rules) (classed g (goal.at.returns-in_err-ask_all-2 g c).In_ok-ask_all) e.1 (λ s b h. search rules) (λ h. omega arith)

pub returns-in_err-ask_all-3 : goal.returns-in_err-ask_all-3
returns-in_err-ask_all-3 g c = let e = c.in_err-ask_all-3.ensures in refused _ _ _ _ _ 30 (MoveLost e.0) refl (search rules) (alike g (goal.at.returns-in_err-ask_all-3 g c).In_ok-ask_all-2) e.1 (λ s b h. search rules) (λ h. omega arith)

pub returns-in_err-ask_all-4 : goal.returns-in_err-ask_all-4
returns-in_err-ask_all-4 g c = let e = c.in_err-ask_all-4.ensures in refused _ _ _ _ _ 31 (MoveAdded e.0) refl (search rules) (forth g (goal.at.returns-in_err-ask_all-4 g c).In_ok-ask_all-3) e.1 (λ s b h. grind rules steps 10000000) (λ h. omega arith)

pub returns-in_err-ask_all-5 : goal.returns-in_err-ask_all-5
returns-in_err-ask_all-5 g c = let e = c.in_err-ask_all-5.ensures in refused _ _ _ _ _ 32 (StartLost e.0) refl (search rules) (back g (goal.at.returns-in_err-ask_all-5 g c).In_ok-ask_all-4) e.1 (λ s b h. search rules) (λ h. omega arith)

pub returns-in_err-ask_all-6 : goal.returns-in_err-ask_all-6
returns-in_err-ask_all-6 g c = let e = c.in_err-ask_all-6.ensures in refused _ _ _ _ _ 33 (StartAdded e.0) refl (search rules) (starts g (goal.at.returns-in_err-ask_all-6 g c).In_ok-ask_all-5) e.1 (λ s b h. search rules) (λ h. omega arith)

pub returns-in_err-ask_all-7 : goal.returns-in_err-ask_all-7
returns-in_err-ask_all-7 g c = let e = c.in_err-ask_all-7.ensures in refused _ _ _ _ _ 34 (NotAClass e.0) refl (search rules) (started g (goal.at.returns-in_err-ask_all-7 g c).In_ok-ask_all-6) e.1 (λ s b h. search rules) (λ h. omega arith)

pub returns : goal.returns
returns g c = accepted _ _ _ _ _ (onto g (goal.at.returns g c).In_ok-ask_all-7)
