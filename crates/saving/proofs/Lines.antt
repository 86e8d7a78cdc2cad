-- Lines as pieces of a text. Assumes nothing.
use Rattle.std.proofs.Common.{◌≡◌, ℕ, zero, suc, ◌<◌, ◌≤◌, List, [], ◌∷◌, ◌++◌, map, length, get_or, take, sym, refl, ap, ◌∙◌, subst, arith, take-suc}
use Rattle.std.proofs.lemmas.List.{append_assoc, map-append, take_all}
use Rattle.look.specs.declared.switch.SwitchLook.{SwitchLook}
use Rattle.map.specs.Meaning.{Meaning}
use Rattle.reader.specs.Texts.{written_text}
use Rattle.text.specs.Written.{written_line}
use Rattle.text.specs.declared.line.Line.{Line}
use Rattle.saving.specs.Texts.{ended, lines_of, first_states}
use Rattle.saving.proofs.Pieces.{pieces}

text_append : (xs ys : List Line) → written_text (xs ++ ys) ≡ written_text xs ++ written_text ys
text_append [] ys = refl
text_append (x ∷ xs) ys = ap (λ t. written_line x ++ (10 ∷ t)) (text_append xs ys) ∙ sym (append_assoc (written_line x) (10 ∷ written_text xs) (written_text ys))

-- a line in front
pub text_more : (x : Line) (xs : List Line) → ended x ++ written_text xs ≡ written_text (x ∷ xs)
text_more x xs = append_assoc (written_line x) (10 ∷ []) (written_text xs)

-- the line at each place of a list
abbrev pub line_at : {X : Type 0} → (X → Line) → X → List X → ℕ → List ℕ
line_at f d xs k = ended (f (get_or xs k d))

-- the lines of the states
abbrev pub state_at : Meaning SwitchLook → ℕ → List ℕ
state_at m s = written_text (lines_of m s)

some_lines : {X : Type 0} (f : X → Line) (d : X) (xs : List X) (k : ℕ) → k ≤ length xs → pieces (line_at f d xs) k ≡ written_text (map f (take k xs))
some_lines f d xs zero h = refl
some_lines f d xs (suc k) h =
    ap (λ t. t ++ line_at f d xs k) (some_lines f d xs k (omega arith))
    ∙ sym (text_append (map f (take k xs)) (f (get_or xs k d) ∷ []))
    ∙ ap written_text (sym (map-append f (take k xs) (get_or xs k d ∷ [])))
    ∙ ap (λ l. written_text (map f l)) (sym (take-suc xs k d (omega arith)))

pub all_lines : {X : Type 0} (f : X → Line) (d : X) (xs : List X) → pieces (line_at f d xs) (length xs) ≡ written_text (map f xs)
all_lines f d xs = some_lines f d xs (length xs) (omega arith) ∙ ap (λ l. written_text (map f l)) (take_all (length xs) xs (omega arith))

pub all_states : (m : Meaning SwitchLook) (n : ℕ) → pieces (state_at m) n ≡ written_text (first_states m n)
all_states m zero = refl
all_states m (suc n) = ap (λ t. t ++ state_at m n) (all_states m n) ∙ sym (text_append (first_states m n) (lines_of m n))
