-- How long a report is. Assumes nothing.
use Rattle.std.proofs.Common.{ℕ, suc, ◌+◌, ◌*◌, ◌^◌, ◌<◌, ◌≤◌, Bool, true, false, eqb, List, [], ◌∷◌, length, get_or, ap, ⊎_elim, arith}
use Rattle.std.proofs.lemmas.Int.Digits.{length-digits_of-le}
use Rattle.std.proofs.lemmas.List.{length-append, length-map}
use Rattle.std.proofs.lemmas.Bool.{cond-true, cond-false, cases_Bool, cases_lt}
use Rattle.std.specs.Int.Digits.{digits_of}
use Rattle.calls.specs.Answers.{State}
use Rattle.lengths.specs.Sheets.{by_sheet}
use Rattle.stl.specs.Rows.{row_at, Reach}
use Rattle.stl.specs.Structures.{Structure}
use Rattle.stl.specs.declared.row.Row.{Row}
use Rattle.stl.specs.declared.row.Row.TheVariants.{True, Sign, Not, Or, Next, Until}
use Rattle.text.specs.Numbers.{written, digit_bytes}
use Rattle.report.specs.Results.{nothing, Finds}
use Rattle.report.specs.Texts.{word, found_line, report_from, report_text}
use Rattle.report.specs.declared.found.Found.{Found}

-- a numeral of at most d digits
pub written_short : (d n : ℕ) → 1 ≤ d → n < 10 ^ d → length (written n) ≤ d
written_short d n one h = ⊎_elim
    (λ t. omega (arith, ap length (cond-true (eqb n 0) (48 ∷ []) (digit_bytes n) t)))
    (λ f. omega (arith, ap length (cond-false (eqb n 0) (48 ∷ []) (digit_bytes n) f), length-digits_of-le 10 d n (omega arith) h, length-map (digits_of 10 n) (λ d. d + 48)))
    (cases_Bool (eqb n 0))

word_short : (b : Bool) → length (word b) ≤ 3
word_short true = omega arith
word_short false = omega arith

-- a line of at most 14 bytes
line_short : (r : ℕ) (found : Found) → r < 100 → found.reach < 4096 → length (found_line r found) ≤ 14
line_short r found h l = simp length-append (omega (arith, written_short 2 r (omega arith) (omega arith), word_short found.yes, written_short 4 found.reach (omega arith) (omega arith)))

-- at most 14 bytes for each row
lines_short : (r : ℕ) (finds : List Found) → r + length finds ≤ 100 → ((q : ℕ) → q < length finds → (get_or finds q nothing).reach < 4096) → length (report_from r finds) ≤ 14 * length finds
lines_short r [] h l = omega arith
lines_short r (found ∷ finds) h l =
    let first = line_short r found (omega arith) (l 0 (omega arith)) in
    let more = lines_short (r + 1) finds (omega arith) (λ q m. l (suc q) (omega arith)) in
    omega (arith, length-append (found_line r found) (report_from (r + 1) finds))

-- with at most 64 rows, and every reach below 4,096, the text has at most 1,024 bytes
pub report_short : (finds : List Found) → length finds ≤ 64 → ((r : ℕ) → r < length finds → (get_or finds r nothing).reach < 4096) → length (report_text finds) ≤ 1024
report_short finds few small = omega (arith, lines_short 0 finds (omega arith) small)

-- a reach is below 4,096 on a map of any size, with no states too
reach_small : (k : Structure) (V : ℕ → ℕ → Type 0) (row : Row) (n : ℕ) → k.size ≤ 4096 → (0 < k.size → n < k.size) → Reach k V row n → n < 4096
reach_small k V True n fits below p = omega arith
reach_small k V (Sign m) n fits below p = omega arith
reach_small k V (Not a) n fits below p = omega arith
reach_small k V (Or a b) n fits below p = omega arith
reach_small k V (Next a) n fits below p = omega arith
reach_small k V (Until a b) n fits below p = ⊎_elim (λ h. omega (arith, (p.met h).1, below (omega (arith, (p.met h).1)))) (λ h. omega arith) (cases_lt 0 n)

-- so the report of a session has at most 1,024 bytes
pub finds_short : (k : Structure) (st : State) (sheet : List ℕ) (finds : List Found) → k.size ≤ 4096 → st.marked ≤ 64 → Finds k st sheet finds → length (report_text finds) ≤ 1024
finds_short k st sheet finds fits few p =
    report_short finds (omega (arith, p.each)) (λ r h. let x = p.right r (omega (arith, p.each)) in reach_small k (by_sheet sheet) (row_at st.rows r) _ fits x.below x.reach)
