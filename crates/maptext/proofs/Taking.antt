-- One line of a map text taken, and what stays true. Assumes nothing.
use Rattle.std.proofs.Common.{◌≡◌, ℕ, ◌+◌, ◌≤◌, true, leb, length, is_some, refl, arith}
use Rattle.std.proofs.lemmas.List.{length-set}
use Rattle.std.proofs.lemmas.Bool.{and_parts, ltb-true, leb-true}
use Rattle.reader.specs.Places.{stands}
use Rattle.reader.specs.declared.place.Place.{Place}
use Rattle.reader.specs.declared.place.Place.TheVariants.{BeforeMap, AfterMap, InStates, InRules}
use Rattle.text.specs.declared.line.Line.{Line}
use Rattle.text.specs.declared.line.Line.TheVariants.{Map, State, Target, Rule}
use Rattle.maptext.specs.MapTexts.{has_map, Within}
use Rattle.maptext.specs.Steps.{Reading, space, does}

-- an S line stands only after an M line
after_map : (p : Place) (look start : ℕ) → is_some (stands p (State look start)) ≡ true → has_map p ≡ true
after_map BeforeMap look start e = e
after_map AfterMap look start e = refl
after_map InStates look start e = refl
after_map InRules look start e = refl

-- a line that is taken leaves room for what the M line said
pub within_does : (x : Reading) (line : Line) → is_some (stands x.at.place line) ≡ true → space x line ≡ true → Within x → Within (does x line)
within_does x (Map n) p s w =
    let a = and_parts (leb n (length x.held.looks)) _ s in
    let b = and_parts (leb n (length x.held.starts)) _ a.1 in
    record { looks = λ _. leb-true _ _ a.0; starts = λ _. leb-true _ _ b.0; firsts = λ _. ltb-true _ _ b.1; targets = w.targets }
within_does x (State look start) p s w =
    let h = after_map x.at.place look start p in
    record {
      looks = λ _. simp length-set (w.looks h);
      starts = λ _. simp length-set (w.starts h);
      firsts = λ _. simp length-set (w.firsts h);
      targets = w.targets;
    }
within_does x (Target target) p s w =
    record { looks = w.looks; starts = w.starts; firsts = w.firsts; targets = simp length-set (omega (arith, ltb-true _ _ s)) }
within_does x (Rule row) p s w = w

-- it counts for at most one
pub counts_one : (x : Reading) (line : Line) → (does x line).at.states + (does x line).at.moves ≤ x.at.states + x.at.moves + 1
counts_one x (Map n) = omega arith
counts_one x (State look start) = omega arith
counts_one x (Target target) = omega arith
counts_one x (Rule row) = omega arith
