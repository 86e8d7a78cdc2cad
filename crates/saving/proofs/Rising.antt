-- The firsts that the lines of a map text write, as far as they were taken. Assumes nothing.
use Rattle.std.proofs.Common.{◌≡◌, ℕ, ◌+◌, ◌<◌, ◌≤◌, true, ltb, List, [], ◌∷◌, map, length, get_or, set, is_some, Some, None, Ok, Err, Option, Result, sym, refl, ap, ◌∙◌, subst, ⊎_elim, arith}
use Rattle.std.proofs.lemmas.List.{get_or-set_same, get_or-set_other}
use Rattle.std.proofs.lemmas.Bool.{and_parts, ltb-true, cases_eq}
use Rattle.listed.specs.Tables.{Tables}
use Rattle.look.specs.declared.switch.SwitchLook.{SwitchLook}
use Rattle.map.proofs.Asked.{answered}
use Rattle.map.specs.Questions.{first_no}
use Rattle.maptext.proofs.Taking.{within_does, counts_one}
use Rattle.maptext.specs.MapTexts.{Within}
use Rattle.maptext.specs.Steps.{Reading, begun, does, space, line_questions, unless, step}
use Rattle.reader.specs.Places.{stands}
use Rattle.reader.specs.Readings.{goes_on, takes}
use Rattle.reader.specs.declared.fault.Trouble.{Trouble}
use Rattle.reader.specs.declared.place.Place.{Place}
use Rattle.reader.specs.declared.place.Place.TheVariants.{BeforeMap, AfterMap, InStates, InRules}
use Rattle.text.specs.declared.line.Line.{Line}
use Rattle.text.specs.declared.line.Line.TheVariants.{Map, State, Target, Rule}
use Rattle.text.specs.declared.line.LineFault.{LineFault}
use Rattle.saving.proofs.Taken.{all_done, Fine}

-- the first n firsts begin at 0, never fall, and are at most `moves`
pub record Rises (firsts : List ℕ) (n moves : ℕ) : Type 0 where
  pub begins : 0 < n → get_or firsts 0 0 ≡ 0
  pub climbs : (i : ℕ) → i + 1 < n → get_or firsts i 0 ≤ get_or firsts (i + 1) 0
  pub below : (i : ℕ) → i < n → get_or firsts i 0 ≤ moves

-- one first more
pub rises_more : (firsts : List ℕ) (n moves : ℕ) → n < length firsts → (n ≡ 0 → moves ≡ 0) → Rises firsts n moves → Rises (set firsts n moves) (n + 1) moves
rises_more firsts n moves l early r =
    let here = get_or-set_same firsts n moves 0 l in
    record {
      begins = λ h. ⊎_elim
          (λ e. subst (λ i. get_or (set firsts n moves) i 0 ≡ 0) e (here ∙ early e))
          (λ ne. get_or-set_other firsts n 0 moves 0 (λ e. ne (sym e)) ∙ r.begins (omega arith))
          (cases_eq n 0);
      climbs = λ i h.
          let was = get_or-set_other firsts n i moves 0 (λ e. omega arith) in
          ⊎_elim
          (λ e. omega (arith, ap (λ k. get_or (set firsts n moves) k 0) e, r.below i (omega arith)))
          (λ ne. omega (arith, get_or-set_other firsts n (i + 1) moves 0 ne, r.climbs i (omega arith)))
          (cases_eq (i + 1) n);
      below = λ i h. ⊎_elim
          (λ e. omega (arith, ap (λ k. get_or (set firsts n moves) k 0) e))
          (λ ne. omega (arith, get_or-set_other firsts n i moves 0 ne, r.below i (omega arith)))
          (cases_eq i n);
    }

-- a text half read
pub record Half (x : Reading) : Type 0 where
  -- a T line stands only after an S line
  pub inside : x.at.place ≡ InStates → 0 < x.at.states
  pub early : x.at.states ≡ 0 → x.at.moves ≡ 0
  pub rises : Rises x.held.firsts x.at.states x.at.moves
  pub within : Within x

target_inside : (p : Place) (t : ℕ) → is_some (stands p (Target t)) ≡ true → p ≡ InStates
target_inside BeforeMap t e = grind arith
target_inside AfterMap t e = grind arith
target_inside InStates t e = refl
target_inside InRules t e = grind arith

half_does : (x : Reading) (line : Line) → is_some (stands x.at.place line) ≡ true → space x line ≡ true → Within (does x line) → Half x → Half (does x line)
half_does x (Map n) p s w h = record { inside = λ e. grind arith; early = h.early; rises = h.rises; within = w }
half_does x (State look start) p s w h =
    let a = and_parts (ltb x.at.states (length x.held.looks)) _ s in
    let b = and_parts (ltb x.at.states (length x.held.starts)) _ a.1 in
    record { inside = λ e. omega arith; early = λ e. absurd (omega arith); rises = rises_more x.held.firsts x.at.states x.at.moves (ltb-true _ _ b.1) h.early h.rises; within = w }
half_does x (Target t) p s w h =
    let some = h.inside (target_inside x.at.place t p) in
    record {
      inside = h.inside;
      early = λ e. absurd (omega arith);
      rises = record { begins = h.rises.begins; climbs = h.rises.climbs; below = λ i l. omega (arith, h.rises.below i l) };
      within = w;
    }
half_does x (Rule row) p s w h = h

module _ (x : Reading) (line : Line) (fine : first_no (line_questions x line) ≡ None) where
  half_line : Half x → Half (does x line)
  half_line h =
      let all = answered (line_questions x line) fine in
      half_does x line all.0 all.1.0 (within_does x line all.0 all.1.0 h.within) h

  one_line : (does x line).at.states + (does x line).at.moves ≤ x.at.states + x.at.moves + 1
  one_line = counts_one x line

pub half_lines : (x : Reading) (lines : List Line) → Fine x lines → Half x → Half (all_done x lines) × ((all_done x lines).at.states + (all_done x lines).at.moves ≤ x.at.states + x.at.moves + length lines)
half_lines x [] f h = (h, omega arith)
half_lines x (line ∷ lines) f h =
    let more = half_lines (does x line) lines f.1 (half_line x line f.0 h) in
    (more.0, omega (arith, more.1, one_line x line f.0))

-- lines of which none was at fault
pub fine_lines : (n : ℕ) (x : Reading) (ls : List (Result Line LineFault)) → (takes step n x ls).fault ≡ None → (lines : List Line) × (ls ≡ map Ok lines) × Fine x lines
fine_lines n x [] e = ([], refl, tt)
fine_lines n x (Err fault ∷ ls) e = grind arith
fine_lines n x (Ok line ∷ ls) e = by (fine_lines (n + 1) (does x line) ls) (first_no (line_questions x line)) refl e
  where
    by : ((takes step (n + 1) (does x line) ls).fault ≡ None → (lines : List Line) × (ls ≡ map Ok lines) × Fine (does x line) lines) → (o : Option Trouble) → first_no (line_questions x line) ≡ o → (goes_on n (unless o (does x line) x) o (λ y. takes step (n + 1) y ls)).fault ≡ None → (lines : List Line) × (Ok line ∷ ls ≡ map Ok lines) × Fine x lines
    by more None q f = let w = more f in (line ∷ w.0, ap (λ rs. Ok line ∷ rs) w.1, (q, w.2))
    by more (Some trouble) q f = grind arith

-- before any line
pub half_begun : (t : Tables SwitchLook) → Half (begun t)
half_begun t = record {
  inside = λ e. grind arith;
  early = λ e. refl;
  rises = record { begins = λ l. absurd (omega arith); climbs = λ i l. absurd (omega arith); below = λ i l. absurd (omega arith) };
  within = record {
    looks = λ e. grind arith;
    starts = λ e. grind arith;
    firsts = λ e. grind arith;
    targets = omega arith;
  };
}
