-- The text of a map reads back as that map. Assumes nothing.
use Rattle.std.proofs.Common.{◌≡◌, ℕ, zero, suc, ◌+◌, ◌*◌, ◌^◌, ◌<◌, ◌≤◌, Bool, true, false, List, [], ◌∷◌, ◌++◌, map, length, None, Ok, Option, sym, refl, ap, ◌∙◌, subst, ⊎_elim, arith}
use Rattle.std.proofs.ByRecursion.{All-from_get_or}
use Rattle.std.proofs.lemmas.List.{length-append, length-map}
use Rattle.std.proofs.lemmas.Bool.{and_from, lt-ltb, le-leb, eq-eqb}
use Rattle.std.specs.List.{AllByRecursion}
use Rattle.listed.specs.Tables.{Tables, questions, listed}
use Rattle.listed.specs.declared.fault.ListedFault.{ListedFault}
use Rattle.look.specs.declared.switch.SwitchLook.{SwitchLook}
use Rattle.map.proofs.Asked.{passes}
use Rattle.map.specs.Meaning.{Meaning, Bounded}
use Rattle.map.specs.Questions.{first_no}
use Rattle.maptext.proofs.Whole.{whole}
use Rattle.maptext.specs.MapTexts.{MapRead, has_map, complete, closed, part, size_of, judged, made_of, all_taken, map_read}
use Rattle.maptext.specs.Steps.{Reading, begun, does, line_questions, step}
use Rattle.reader.proofs.Endings.{text_laws}
use Rattle.reader.proofs.Takings.{by_lines}
use Rattle.reader.specs.Readings.{takes}
use Rattle.reader.specs.Texts.{text_lines, written_text, AllFit}
use Rattle.text.specs.Written.{written_line}
use Rattle.text.specs.declared.line.Line.{Line}
use Rattle.text.specs.declared.line.Line.TheVariants.{Map, State, Target, Rule}
use Rattle.saving.specs.ReadBack.{SameMap, moves_below, map_size, LooksFit, Room, ReadAs, MapReadsBack}
use Rattle.saving.specs.Texts.{start_of, lines_of, first_states, map_lines, map_text}
use Rattle.saving.proofs.Held.{tables_of, Wrote, wrote_states, size_is, part_is}
use Rattle.saving.proofs.Same.{not_refused, same}
use Rattle.saving.proofs.Taken.{all_done, takes_fine}

-- each line and its byte 10 are two bytes at least
line_long : (line : Line) → 1 ≤ length (written_line line)
line_long (Map size) = omega arith
line_long (State look start) = omega arith
line_long (Target target) = omega arith
line_long (Rule row) = omega arith

pub text_long : (lines : List Line) → 2 * length lines ≤ length (written_text lines)
text_long [] = omega arith
text_long (line ∷ lines) = omega (arith, length-append (written_line line) (10 ∷ written_text lines), line_long line, text_long lines)

-- a start byte is 0 or 1
start_fits : (b : Bool) → start_of b < 2
start_fits true = omega arith
start_fits false = omega arith

fit_append : (lines more : List Line) → AllFit lines → AllFit more → AllFit (lines ++ more)
fit_append [] more h k = k
fit_append (line ∷ lines) more h k = (h.0, fit_append lines more h.1 k)

fit_targets : (ts : List ℕ) → AllByRecursion (λ t. t < 2 ^ 32) ts → AllFit (map Target ts)
fit_targets [] h = tt
fit_targets (t ∷ ts) h = (h.0, fit_targets ts h.1)

module _ (m : Meaning SwitchLook) where
  how_many : (n : ℕ) → length (first_states m n) ≡ n + moves_below m n
  how_many zero = refl
  how_many (suc n) = omega (arith, length-append (first_states m n) (lines_of m n), length-map (m.list n) Target, how_many n)

  module _ (b : Bounded m) (looks : LooksFit m) where
    fit_states : (n : ℕ) → n ≤ m.size → AllFit (first_states m n)
    fit_states zero h = tt
    fit_states (suc n) h = fit_append (first_states m n) (lines_of m n) (fit_states n (omega arith))
        ((looks n (omega arith), start_fits (m.start n)), fit_targets (m.list n) (All-from_get_or (λ t. t < 2 ^ 32) (m.list n) 0 (λ i l. omega (arith, b.targets_fit n i l, b.size_fits))))

    fit_lines : AllFit (map_lines m)
    fit_lines = (omega (arith, b.size_fits), fit_states m.size (omega arith))

  module _ (t : Tables SwitchLook) (room : Room m t) where
    -- after the M line
    abbrev sized : Reading
    sized = does (begun t) (Map m.size)

    none_yet : Wrote m 0 [] sized
    none_yet = record { size = refl; states = refl; moves = refl; looks = refl; starts = refl; firsts = refl; targets = refl; room = room }

    map_fine : first_no (line_questions (begun t) (Map m.size)) ≡ None
    map_fine = passes (line_questions (begun t) (Map m.size)) (refl, (and_from _ _ (le-leb _ _ room.looks) (and_from _ _ (le-leb _ _ room.starts) (lt-ltb _ _ room.firsts)), tt))

-- what reading answers, where the map is made
judged_as : (m : Meaning SwitchLook) (read : MapRead) (x : Reading) → read ≡ record { answer = Ok (size_of x.at); held = closed x } → size_of x.at ≡ map_size m → part (size_of x.at) (closed x) ≡ tables_of m → first_no (questions (tables_of m)) ≡ None → SameMap m (listed None (tables_of m)) → ReadAs m read
judged_as m read x e size held fine is =
    let there : part (map_size m) read.held ≡ tables_of m = cc in
    let none : first_no (questions (part (map_size m) read.held)) ≡ None = ap (λ (t : Tables SwitchLook). first_no (questions t)) there ∙ fine in
    record {
      answer = cc;
      made = none;
      same = subst (λ (o : Option ListedFault). SameMap m (listed o (part (map_size m) read.held))) (sym none) (subst (λ (t : Tables SwitchLook). SameMap m (listed None t)) (sym there) is);
    }

-- the law
pub map_reads_back : (m : Meaning SwitchLook) → Bounded m → MapReadsBack m
map_reads_back m b t room looks short =
    let states = wrote_states m m.size (sized m t room) refl (omega arith) (none_yet m t room) in
    let x = all_done (begun t) (map_lines m) in
    let w = states.2 in
    let lines = text_laws.reads_back (map_lines m) (fit_lines m b looks) in
    let all : all_taken (map_text m) t ≡ record { left = x; fault = None } = by_lines step (begun t) (map_text m) short ∙ ap (λ ls. takes step 1 (begun t) ls) lines ∙ takes_fine 1 (begun t) (map_lines m) (map_fine m t room, states.0) in
    let placed : has_map x.at.place ≡ true = ⊎_elim (λ e. ap has_map e) (λ e. ap has_map e) states.1 in
    let done : complete x.at ≡ true = and_from (has_map x.at.place) _ placed (eq-eqb x.at.states x.at.size (w.states ∙ sym w.size)) in
    let few : moves_below m m.size ≤ 32768 = omega (arith, text_long (map_lines m), how_many m m.size) in
    let part_held = part_is m x w in
    let fine = not_refused m b few in
    let made : made_of (text_lines (map_text m)) x ≡ record { answer = Ok (size_of x.at); held = closed x } = ap (λ (o : Option ListedFault). judged (text_lines (map_text m)) x o) (ap (λ (u : Tables SwitchLook). first_no (questions u)) part_held ∙ fine) in
    judged_as m (map_read (map_text m) t) x (whole (map_text m) t x all done ∙ made) (size_is m x w) part_held fine (same m b)
