-- Lines of a map text of which none is turned down. Assumes nothing.
use Rattle.std.proofs.Common.{◌≡◌, ℕ, ◌+◌, List, [], ◌∷◌, ◌++◌, map, None, Ok, refl, ap, ◌∙◌}
use Rattle.map.specs.Questions.{first_no}
use Rattle.maptext.specs.Steps.{Reading, does, line_questions, unless, step}
use Rattle.reader.specs.Readings.{goes_on, takes}
use Rattle.text.specs.declared.line.Line.{Line}

-- what the lines do, one after the other
abbrev pub all_done : Reading → List Line → Reading
all_done x [] = x
all_done x (line ∷ lines) = all_done (does x line) lines

-- no line is turned down
abbrev pub Fine : Reading → List Line → Type 0
Fine x [] = Unit {0}
Fine x (line ∷ lines) = (first_no (line_questions x line) ≡ None) × Fine (does x line) lines

pub takes_fine : (n : ℕ) (x : Reading) (lines : List Line) → Fine x lines → takes step n x (map Ok lines) ≡ record { left = all_done x lines; fault = None }
takes_fine n x [] h = refl
takes_fine n x (line ∷ lines) h =
    ap (λ o. goes_on n (unless o (does x line) x) o (λ y. takes step (n + 1) y (map Ok lines))) h.0
    ∙ takes_fine (n + 1) (does x line) lines h.1

pub fine_append : (x : Reading) (lines more : List Line) → Fine x lines → Fine (all_done x lines) more → Fine x (lines ++ more)
fine_append x [] more h k = k
fine_append x (line ∷ lines) more h k = (h.0, fine_append (does x line) lines more h.1 k)

pub done_append : (x : Reading) (lines more : List Line) → all_done x (lines ++ more) ≡ all_done (all_done x lines) more
done_append x [] more = refl
done_append x (line ∷ lines) more = done_append (does x line) lines more
