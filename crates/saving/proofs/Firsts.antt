-- The firsts that a map text writes are right, so two faults of its map are left. Assumes nothing.
use Rattle.std.proofs.Common.{◌≡◌, ℕ, ◌+◌, ◌-◌, ◌<◌, ◌≤◌, Bool, true, false, cond, ◌&&◌, eqb, leb, ◌⊎◌, List, [], ◌∷◌, length, get_or, set, is_some, Some, None, Ok, Err, Option, Result, sym, refl, ap, ◌∙◌, subst, inl, inr, ⊎_elim, arith}
use Rattle.std.proofs.lemmas.List.{length-set, length-take, get_or-set_same, get_or-take}
use Rattle.std.proofs.lemmas.Bool.{and_parts, and_from, cond-true, cond-false, eq-eqb, eqb-true, cases_lt, cases_Bool}
use Rattle.listed.specs.Tables.{Tables, right_first, right_target, questions}
use Rattle.listed.specs.declared.fault.ListedFault.{ListedFault}
use Rattle.listed.specs.declared.fault.ListedFault.TheVariants.{TooManyLooks, WrongLengths, WrongFirst, WrongTarget}
use Rattle.look.specs.declared.switch.SwitchLook.{SwitchLook}
use Rattle.map.proofs.Count.{none_no}
use Rattle.map.specs.Counts.{or_else, lowest_no}
use Rattle.map.specs.Questions.{refuse_at, first_no}
use Rattle.maptext.specs.MapTexts.{MapRead, has_map, complete, closed, part, size_of, fault_line, judged, made_of, ended, all_taken}
use Rattle.maptext.specs.Steps.{Reading, begun, does, space, line_questions, unless, step}
use Rattle.reader.proofs.Endings.{text_laws}
use Rattle.reader.proofs.Takings.{by_lines, too_long}
use Rattle.reader.specs.Places.{stands}
use Rattle.reader.specs.Readings.{Outcome, goes_on, takes, at_line}
use Rattle.reader.specs.Texts.{text_lines}
use Rattle.reader.specs.declared.fault.TextFault.{TextFault}
use Rattle.reader.specs.declared.fault.Trouble.{Trouble}
use Rattle.reader.specs.declared.fault.Trouble.TheVariants.{TooLong, Line as InLine, OutOfPlace, NoSpace, Incomplete, Map as NoMap}
use Rattle.text.specs.declared.line.Line.{Line}
use Rattle.text.specs.declared.line.LineFault.{LineFault}
use Rattle.saving.specs.MapFaults.{TwoMapFaults}
use Rattle.saving.proofs.MapBack.{text_long}
use Rattle.saving.proofs.Right.{right_from}
use Rattle.saving.proofs.Rising.{rises_more, Half, half_lines, fine_lines, half_begun}
use Rattle.saving.proofs.Taken.{all_done, takes_fine}

-- a line is never at fault for the map
module _ (at : ℕ) (fault : ListedFault) where
  other : (n : ℕ) (w : Trouble) → at_line n w ≡ at_line at (NoMap fault) → w ≡ NoMap fault
  other n w e = ap (λ (t : TextFault). t.what) e

  not_incomplete : {X : Type 0} (n : ℕ) → ◌≡◌ {A = Result X TextFault} (Err (at_line n Incomplete)) (Err (at_line at (NoMap fault))) → ⊥
  not_incomplete n e = let q : at_line n Incomplete ≡ at_line at (NoMap fault) = cc in let r = other n Incomplete q in grind arith

  not_too_long : {X : Type 0} (n : ℕ) → ◌≡◌ {A = Result X TextFault} (Err (at_line n TooLong)) (Err (at_line at (NoMap fault))) → ⊥
  not_too_long n e = let q : at_line n TooLong ≡ at_line at (NoMap fault) = cc in let r = other n TooLong q in grind arith

  not_by_line : (b c : Bool) → or_else (cond b None (Some OutOfPlace)) (or_else (cond c None (Some NoSpace)) None) ≡ Some (NoMap fault) → ⊥
  not_by_line true true e = grind arith
  not_by_line true false e = grind arith
  not_by_line false c e = grind arith

  not_by_lines : (n : ℕ) (x : Reading) (ls : List (Result Line LineFault)) → (takes step n x ls).fault ≡ Some (at_line at (NoMap fault)) → ⊥
  not_by_lines n x [] e = grind arith
  not_by_lines n x (Err f ∷ ls) e = let q : at_line n (InLine f) ≡ at_line at (NoMap fault) = cc in let r = other n (InLine f) q in grind arith
  not_by_lines n x (Ok line ∷ ls) e = by (not_by_lines (n + 1) (does x line) ls) (first_no (line_questions x line)) refl e
    where
      by : ((takes step (n + 1) (does x line) ls).fault ≡ Some (at_line at (NoMap fault)) → ⊥) → (o : Option Trouble) → first_no (line_questions x line) ≡ o → (goes_on n (unless o (does x line) x) o (λ y. takes step (n + 1) y ls)).fault ≡ Some (at_line at (NoMap fault)) → ⊥
      by more None q f = more f
      by more (Some trouble) q f =
          let same : at_line n trouble ≡ at_line at (NoMap fault) = cc in
          not_by_line (is_some (stands x.at.place line)) (space x line) (q ∙ ap Some (other n trouble same))

  -- where the lengths and the firsts are right, one of two faults is left
  abbrev OneOfTwo : Type 0
  OneOfTwo = (fault ≡ TooManyLooks) ⊎ ((k : ℕ) × (fault ≡ WrongTarget k))

  by_target : (o : Option ℕ) → or_else (refuse_at WrongTarget o) None ≡ Some fault → OneOfTwo
  by_target None e = grind arith
  by_target (Some k) e = inr (k, cc)

  by_question : (a b : Bool) (first target : Option ℕ) → b ≡ true → first ≡ None →
      or_else (cond a None (Some TooManyLooks)) (or_else (cond b None (Some WrongLengths)) (or_else (refuse_at WrongFirst first) (or_else (refuse_at WrongTarget target) None))) ≡ Some fault → OneOfTwo
  by_question false b first target long right e = inl (cc)
  by_question true true None target long right e = by_target target e
  by_question true true (Some i) target long right e = grind arith
  by_question true false first target long right e = grind arith

  two_left : (u : Tables SwitchLook) → (eqb (length u.starts) (length u.looks) && eqb (length u.firsts) (length u.looks + 1)) ≡ true →
      ((i : ℕ) → i < length u.firsts → right_first u.firsts (length u.targets) i ≡ true) → first_no (questions u) ≡ Some fault → OneOfTwo
  two_left u long right e =
      by_question (leb (length u.looks) 4096) _ _ (lowest_no (right_target u.targets (length u.looks)) (length u.targets)) long (none_no (right_first u.firsts (length u.targets)) (length u.firsts) right) e

  -- what was judged
  by_judged : (ls : List (Result Line LineFault)) (x : Reading) (o : Option ListedFault) → (judged ls x o).answer ≡ Err (at_line at (NoMap fault)) → o ≡ Some fault
  by_judged ls x None e = grind arith
  by_judged ls x (Some f) e =
      let q : at_line (fault_line ls f) (NoMap f) ≡ at_line at (NoMap fault) = cc in
      let r = other (fault_line ls f) (NoMap f) q in
      cc

-- what a complete text wrote
module _ (x : Reading) (h : Half x) (done : complete x.at ≡ true) (few : x.at.moves ≤ 32768) where
  abbrev wrote : Tables SwitchLook
  wrote = part (size_of x.at) (closed x)

  all_states : x.at.states ≡ x.at.size
  all_states = eqb-true _ _ (and_parts (has_map x.at.place) _ done).1

  placed : has_map x.at.place ≡ true
  placed = (and_parts (has_map x.at.place) _ done).0

  room : x.at.states < length x.held.firsts
  room = omega (arith, h.within.firsts placed, all_states)

  looks_long : length wrote.looks ≡ x.at.states
  looks_long = omega (arith, length-take x.at.states x.held.looks, h.within.looks placed, all_states)

  starts_long : length wrote.starts ≡ x.at.states
  starts_long = omega (arith, length-take x.at.states x.held.starts, h.within.starts placed, all_states)

  firsts_long : length wrote.firsts ≡ x.at.states + 1
  firsts_long = omega (arith, length-take (x.at.states + 1) (set x.held.firsts x.at.states x.at.moves), length-set x.held.firsts x.at.states x.at.moves, room)

  targets_long : length wrote.targets ≡ x.at.moves
  targets_long = omega (arith, length-take x.at.moves x.held.targets, h.within.targets)

  lengths_right : (eqb (length wrote.starts) (length wrote.looks) && eqb (length wrote.firsts) (length wrote.looks + 1)) ≡ true
  lengths_right = and_from _ _ (eq-eqb _ _ (starts_long ∙ sym looks_long)) (eq-eqb _ _ (firsts_long ∙ ap (λ n. n + 1) (sym looks_long)))

  firsts_right : (i : ℕ) → i < length wrote.firsts → right_first wrote.firsts (length wrote.targets) i ≡ true
  firsts_right i l =
      let long = firsts_long in
      let count = targets_long in
      let all = set x.held.firsts x.at.states x.at.moves in
      let r = rises_more x.held.firsts x.at.states x.at.moves room h.early h.rises in
      let here = get_or-take (x.at.states + 1) all i 0 (omega arith) in
      right_from wrote.firsts (length wrote.targets) i (record {
        begins = λ e. here ∙ ap (λ k. get_or all k 0) e ∙ r.begins (omega arith);
        climbs = λ z.
            let q : i - 1 + 1 ≡ i = omega arith in
            omega (arith, get_or-take (x.at.states + 1) all (i - 1) 0 (omega arith), r.climbs (i - 1) (omega arith), ap (λ k. get_or all k 0) q);
        ends = λ z. let e : i ≡ x.at.states = omega arith in here ∙ ap (λ k. get_or all k 0) e ∙ get_or-set_same x.held.firsts x.at.states x.at.moves 0 room ∙ sym count;
        few = λ z. omega arith;
      })

-- a text that is not too long, by how its lines ended
module _ (text : List ℕ) (t : Tables SwitchLook) (at : ℕ) (fault : ListedFault) (short : length text ≤ 60000) where
  by_whole : (all_taken text t).fault ≡ None → complete (all_taken text t).left.at ≡ true → first_no (questions (part (size_of (all_taken text t).left.at) (closed (all_taken text t).left))) ≡ Some fault → OneOfTwo at fault
  by_whole none done e =
      let read = by_lines step (begun t) text short in
      let f = fine_lines 1 (begun t) (text_lines text) (sym (ap (λ (o : Outcome Reading). o.fault) read) ∙ none) in
      let x = (all_taken text t).left in
      let is : x ≡ all_done (begun t) f.0 = ap (λ (o : Outcome Reading). o.left) read ∙ ap (λ ls. (takes step 1 (begun t) ls).left) f.1 ∙ ap (λ (o : Outcome Reading). o.left) (takes_fine 1 (begun t) f.0 f.2) in
      let half = half_lines (begun t) f.0 f.2 (half_begun t) in
      let h = subst Half (sym is) half.0 in
      let small : x.at.moves ≤ length f.0 = subst (λ (y : Reading). y.at.moves ≤ length f.0) (sym is) (omega (arith, half.1)) in
      let few : x.at.moves ≤ 32768 = omega (arith, text_long f.0, ap length (text_laws.one_text text f.0 f.1)) in
      two_left at fault (part (size_of x.at) (closed x)) (lengths_right x h done few) (firsts_right x h done few) e

  by_end : (o : Option TextFault) → (all_taken text t).fault ≡ o → (ended (text_lines text) (all_taken text t).left o).answer ≡ Err (at_line at (NoMap fault)) → OneOfTwo at fault
  by_end (Some f) q e =
      let same : f ≡ at_line at (NoMap fault) = cc in
      absurd (not_by_lines at fault 1 (begun t) (text_lines text) (sym (ap (λ (o : Outcome Reading). o.fault) (by_lines step (begun t) text short)) ∙ q ∙ ap Some same))
  by_end None q e =
      let x = (all_taken text t).left in
      ⊎_elim
      (λ b. by_whole q b (by_judged at fault (text_lines text) x _ (sym (ap (λ (r : MapRead). r.answer) (cond-true (complete x.at) (made_of (text_lines text) x) _ b)) ∙ e)))
      (λ b. absurd (not_incomplete at fault _ (sym (ap (λ (r : MapRead). r.answer) (cond-false (complete x.at) (made_of (text_lines text) x) _ b)) ∙ e)))
      (cases_Bool (complete x.at))

-- the law
pub two_map_faults : TwoMapFaults
two_map_faults text t at fault e = ⊎_elim
    (λ l. absurd (not_too_long at fault 0 (sym (ap (λ (o : Outcome Reading). (ended (text_lines text) o.left o.fault).answer) (too_long step (begun t) text l)) ∙ e)))
    (λ l. by_end text t at fault l (all_taken text t).fault refl e)
    (cases_lt 60000 (length text))
