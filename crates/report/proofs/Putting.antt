-- The lines of a report, put one after the other. Assumes nothing.
use Rattle.std.proofs.Common.{◌≡◌, ℕ, ◌+◌, ◌<◌, List, [], ◌∷◌, ◌++◌, length, get_or, take, drop, sym, ap, ◌∙◌, arith}
use Rattle.std.proofs.lemmas.List.{append_assoc, append-nil, length-take-le, take_more, drop_more, take-append-drop}
use Rattle.text.specs.Numbers.{written}
use Rattle.report.specs.Results.{nothing}
use Rattle.report.specs.Texts.{word, found_line, report_from, report_text}
use Rattle.report.specs.declared.found.Found.{Found}

-- what follows the verdict of a line, and what follows its row
abbrev pub after_word : Found → List ℕ
after_word found = written found.reach ++ (10 ∷ [])

abbrev pub after_row : Found → List ℕ
after_row found = (9 ∷ (word found.yes ++ (9 ∷ []))) ++ after_word found

-- a line, part by part
pub line_parts : (r : ℕ) (found : Found) → (86 ∷ (9 ∷ [])) ++ (written r ++ after_row found) ≡ found_line r found
line_parts r found = simp (append_assoc, append-nil)

-- the lines of two lists
from_append : (r : ℕ) (xs ys : List Found) → report_from r (xs ++ ys) ≡ report_from r xs ++ report_from (r + length xs) ys
from_append r [] ys = ap (λ n. report_from n ys) (let e : r ≡ r + 0 = omega arith in e)
from_append r (x ∷ xs) ys =
    let e : (r + 1) + length xs ≡ r + length (x ∷ xs) = omega arith in
    ap (λ t. found_line r x ++ t) (from_append (r + 1) xs ys ∙ ap (λ n. report_from (r + 1) xs ++ report_from n ys) e)
    ∙ sym (append_assoc (found_line r x) (report_from (r + 1) xs) (report_from (r + length (x ∷ xs)) ys))

module _ (finds : List Found) (r : ℕ) (h : r < length finds) where
  front : (rest : List Found) → report_text (take r finds) ++ report_from r rest ≡ report_text (take r finds ++ rest)
  front rest =
      let e : 0 + length (take r finds) ≡ r = omega (arith, length-take-le r finds (omega arith)) in
      ap (λ n. report_text (take r finds) ++ report_from n rest) (sym e) ∙ sym (from_append 0 (take r finds) rest)

  -- one line more
  pub text_more : report_text (take r finds) ++ found_line r (get_or finds r nothing) ≡ report_text (take (r + 1) finds)
  text_more =
      ap (λ t. report_text (take r finds) ++ t) (sym (append-nil (found_line r (get_or finds r nothing))))
      ∙ front (get_or finds r nothing ∷ [])
      ∙ ap report_text (sym (take_more finds r nothing h))

  -- the lines so far, the next one, and those after it
  pub text_rest : report_text (take r finds) ++ (found_line r (get_or finds r nothing) ++ report_from (r + 1) (drop (r + 1) finds)) ≡ report_text finds
  text_rest =
      ap (λ xs. report_text (take r finds) ++ report_from r xs) (sym (drop_more finds r nothing h))
      ∙ front (drop r finds)
      ∙ ap report_text (take-append-drop r finds)
