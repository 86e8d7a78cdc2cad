-- The text of rows reads back as those rows. Assumes nothing.
use Rattle.std.proofs.Common.{◌≡◌, ℕ, ◌+◌, ◌*◌, ◌^◌, ◌<◌, ◌≤◌, true, eqb, leb, List, [], ◌∷◌, ◌++◌, map, length, None, Ok, codes, sym, ap, ◌∙◌, subst, arith}
use Rattle.std.proofs.lemmas.Int.Digits.{length-digits_of-le}
use Rattle.std.proofs.lemmas.List.{append_assoc, append-nil, length-append, length-map, length_push}
use Rattle.std.proofs.lemmas.Bool.{and_parts, cond_both, cond-true, lt-ltb, le-leb}
use Rattle.std.specs.Int.Digits.{digits_of}
use Rattle.std.specs.List.{AllByRecursion}
use Rattle.calls.specs.Answers.{State, questions}
use Rattle.calls.specs.Opening.{fresh}
use Rattle.calls.specs.declared.call.Call.TheVariants as call
use Rattle.map.proofs.Asked.{passes}
use Rattle.reader.proofs.Endings.{text_laws}
use Rattle.reader.specs.Readings.{Taken, goes_on, takes}
use Rattle.reader.specs.Texts.{AllFit}
use Rattle.ruletext.specs.RuleTexts.{sheet_of, row_added, rule_step}
use Rattle.stl.specs.Rows.{named, ordered}
use Rattle.stl.specs.Structures.{Structure}
use Rattle.stl.specs.declared.row.Row.{Row}
use Rattle.stl.specs.declared.row.Row.TheVariants.{True, Sign, Not, Or, Next, Until}
use Rattle.text.specs.Numbers.{digit_bytes, written}
use Rattle.text.specs.Written.{tabbed, written_line, RowFits}
use Rattle.text.specs.declared.line.Line.TheVariants.{Rule}
use Rattle.saving.specs.ReadBack.{RulesReadBack}
use Rattle.saving.specs.Texts.{rule_text}

fit_rows : (rows : List Row) → AllByRecursion RowFits rows → AllFit (map Rule rows)
fit_rows [] h = tt
fit_rows (row ∷ rows) h = (h.0, fit_rows rows h.1)

-- a row in a text is 32 bytes at most

number_short : (n : ℕ) → n < 2 ^ 32 → length (written n) ≤ 10
number_short n h = cond_both (eqb n 0) (48 ∷ []) (digit_bytes n) (λ bs. length bs ≤ 10) (λ e. omega arith)
    (λ e. omega (arith, length-map (digits_of 10 n) (λ d. d + 48), length-digits_of-le 10 10 n (omega arith) (omega arith)))

one_short : (word : List ℕ) (n : ℕ) → length word ≤ 5 → n < 2 ^ 32 → length (codes "R" ++ tabbed (word ∷ (written n ∷ []))) ≤ 31
one_short word n h l = omega (arith, length-append word (tabbed (written n ∷ [])), length-append (written n) [], number_short n l)

two_short : (word : List ℕ) (a b : ℕ) → length word ≤ 5 → a < 2 ^ 32 → b < 2 ^ 32 → length (codes "R" ++ tabbed (word ∷ (written a ∷ (written b ∷ [])))) ≤ 31
two_short word a b h l k =
    omega (arith, length-append word (tabbed (written a ∷ (written b ∷ []))), length-append (written a) (tabbed (written b ∷ [])), length-append (written b) [], number_short a l, number_short b k)

row_short : (row : Row) → RowFits row → length (written_line (Rule row)) ≤ 31
row_short True h = omega arith
row_short (Sign k) h = one_short (codes "sign") k (omega arith) (omega arith)
row_short (Not a) h = one_short (codes "not") a (omega arith) h
row_short (Or a b) h = two_short (codes "or") a b (omega arith) h.0 h.1
row_short (Next a) h = one_short (codes "next") a (omega arith) h
row_short (Until a b) h = two_short (codes "until") a b (omega arith) h.0 h.1

text_short : (rows : List Row) → AllByRecursion RowFits rows → length (rule_text rows) ≤ 32 * length rows
text_short [] h = omega arith
text_short (row ∷ rows) h = omega (arith, length-append (written_line (Rule row)) (10 ∷ rule_text rows), row_short row h.0, text_short rows h.1)

-- a session with these rows, none marked
abbrev with_rows : List Row → State
with_rows rows = record { rows = rows; marked = 0 }

module _ (k : Structure) (words : ℕ) (wide : k.size ≤ words) where
  one_taken : (rows : List Row) (row : Row) → length rows < 64 → named row (length rows) ≡ true → rule_step k words (with_rows rows) (Rule row) ≡ record { left = with_rows (rows ++ (row ∷ [])); trouble = None }
  one_taken rows row few earlier =
      ap (row_added (with_rows rows) row) (passes (questions k (with_rows rows) (sheet_of words) (call.Add row)) (le-leb _ _ wide, (lt-ltb _ _ few, (earlier, tt))))

  all_taken : (n : ℕ) (rows more : List Row) → length rows + length more ≤ 64 → ordered (length rows) more ≡ true →
      takes (rule_step k words) n (with_rows rows) (map Ok (map Rule more)) ≡ record { left = with_rows (rows ++ more); fault = None }
  all_taken n rows [] few earlier = ap (λ rs. record { left = with_rows rs; fault = None }) (sym (append-nil rows))
  all_taken n rows (row ∷ more) few earlier =
      let p = and_parts (named row (length rows)) _ earlier in
      let next = subst (λ i. ordered i more ≡ true) (sym (length_push rows row)) p.1 in
      ap (λ (t : Taken State). goes_on n t.left t.trouble (λ y. takes (rule_step k words) (n + 1) y (map Ok (map Rule more)))) (one_taken rows row (omega arith) p.0)
      ∙ all_taken (n + 1) (rows ++ (row ∷ [])) more (omega (arith, length_push rows row)) next
      ∙ ap (λ rs. record { left = with_rows rs; fault = None }) (append_assoc rows (row ∷ []) more)

-- the law
pub rules_read_back : (rows : List Row) → length rows ≤ 64 → ordered 0 rows ≡ true → RulesReadBack rows
rules_read_back rows few earlier k words wide fit =
    cond-true (leb (length (rule_text rows)) 60000) _ _ (le-leb _ _ (omega (arith, text_short rows fit)))
    ∙ ap (λ ls. takes (rule_step k words) 1 fresh ls) (text_laws.reads_back (map Rule rows) (fit_rows rows fit))
    ∙ all_taken k words wide 1 [] rows (omega arith) earlier
