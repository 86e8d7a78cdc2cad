-- Lines as they are written, and read back. Assumes nothing.
use Rattle.std.proofs.Common.{◌≡◌, ℕ, ◌+◌, ◌^◌, ◌<◌, Bool, true, cond, ◌&&◌, eqb, leb, List, [], ◌∷◌, ◌++◌, Some, None, Ok, Err, codes, Option, Result, sym, refl, ap, ◌∙◌, subst, ⊎_elim, arith}
use Rattle.std.proofs.lemmas.Slice.Eq.{bytes_eq-Decides}
use Rattle.std.proofs.lemmas.List.{append-nil}
use Rattle.std.proofs.lemmas.Bool.{cond-true, cond-false, ne_eqb, eqb-true, leb-true, le-leb, and_parts, and_from, not_from_false, cases_Bool}
use Rattle.std.specs.Option.{ok_or}
use Rattle.std.specs.Str.{bytes_eq}
use Rattle.stl.specs.declared.row.Row.{Row}
use Rattle.stl.specs.declared.row.Row.TheVariants.{True, Sign, Not, Or, Next, Until}
use Rattle.text.proofs.Numerals.{number_laws, written_digits, digit_low}
use Rattle.text.proofs.Parting.{parts_after, parts_first, only_part, more_parts, splits, lacking, lacks_append}
use Rattle.text.specs.Lines.{fields, then_make, both, number_in, one_number, two_numbers, kind_of, no_number, row_of, row_in, map_line, state_line, target_line, rule_line, by_letter, line_of}
use Rattle.text.specs.Numbers.{digit, all_digits, number_below, written}
use Rattle.text.specs.Split.{before, after, onto_first, lacks}
use Rattle.text.specs.Written.{tabbed, row_fields, written_line, RowFits, LineFits, LineLaws}
use Rattle.text.specs.declared.kind.Kind.{Kind}
use Rattle.text.specs.declared.kind.Kind.TheVariants as kind
use Rattle.text.specs.declared.line.Line.{Line}
use Rattle.text.specs.declared.line.Line.TheVariants.{Map, State, Target, Rule}
use Rattle.text.specs.declared.line.LineFault.{LineFault}
use Rattle.text.specs.declared.line.LineFault.TheVariants.{NotOfAForm, BadNumber}

-- bytes from 48 on: digits and letters, and neither byte 9 nor byte 10

abbrev high : List ℕ → Bool
high [] = true
high (b ∷ bs) = leb 48 b && high bs

abbrev AllHigh : List (List ℕ) → Type 0
AllHigh [] = Unit {0}
AllHigh (f ∷ fs) = (high f ≡ true) × AllHigh fs

high_lacks : (at : ℕ) → at < 48 → (bs : List ℕ) → high bs ≡ true → lacks at bs ≡ true
high_lacks at l [] h = refl
high_lacks at l (b ∷ bs) h =
    let p = and_parts (leb 48 b) (high bs) h in
    let low = leb-true 48 b p.0 in
    and_from _ _ (not_from_false _ (ne_eqb b at (λ e. omega arith))) (high_lacks at l bs p.1)

digits_high : (bs : List ℕ) → all_digits bs ≡ true → high bs ≡ true
digits_high [] d = refl
digits_high (b ∷ bs) d = let p = and_parts (digit b) (all_digits bs) d in and_from _ _ (le-leb 48 b (digit_low b p.0)) (digits_high bs p.1)

written_high : (n : ℕ) → high (written n) ≡ true
written_high n = digits_high (written n) (written_digits n)

row_high : (row : Row) → AllHigh (row_fields row)
row_high True = (refl, tt)
row_high (Sign k) = (refl, (written_high k, tt))
row_high (Not a) = (refl, (written_high a, tt))
row_high (Or a b) = (refl, (written_high a, (written_high b, tt)))
row_high (Next a) = (refl, (written_high a, tt))
row_high (Until a b) = (refl, (written_high a, (written_high b, tt)))

-- fields that are written, and split again

fields_tabbed : (f : List ℕ) (fs : List (List ℕ)) → high f ≡ true → AllHigh fs → fields (f ++ tabbed fs) ≡ f ∷ fs
fields_tabbed f [] h hs =
    let l = lacking 9 f (high_lacks 9 (omega arith) f h) in
    ap fields (append-nil f) ∙ only_part 9 f l.1 ∙ ap (λ g. g ∷ []) l.0
fields_tabbed f (g ∷ gs) h all =
    let bs : List ℕ = f ++ tabbed (g ∷ gs) in
    let s = splits 9 f (g ++ tabbed gs) (high_lacks 9 (omega arith) f h) in
    more_parts 9 bs (g ++ tabbed gs) s.1 ∙ ap (λ a. a ∷ fields (g ++ tabbed gs)) s.0 ∙ ap (λ hs. f ∷ hs) (fields_tabbed g gs all.0 all.1)

tabbed_fields : (bs : List ℕ) → tabbed (fields bs) ≡ 9 ∷ bs
tabbed_fields [] = refl
tabbed_fields (b ∷ bs) = ⊎_elim
    (λ t. ap tabbed (cond-true (eqb b 9) ([] ∷ fields bs) (onto_first b (fields bs)) t) ∙ ap (λ xs. 9 ∷ xs) (tabbed_fields bs ∙ ap (λ x. x ∷ bs) (sym (eqb-true b 9 t))))
    (λ f.
    let e = parts_first 9 bs in
    let back : 9 ∷ (before 9 bs ++ tabbed (parts_after 9 (after 9 bs))) ≡ 9 ∷ bs = sym (ap tabbed e) ∙ tabbed_fields bs in
    let same : before 9 bs ++ tabbed (parts_after 9 (after 9 bs)) ≡ bs = cc in
    ap tabbed (cond-false (eqb b 9) ([] ∷ fields bs) (onto_first b (fields bs)) f) ∙ ap (λ fs. tabbed (onto_first b fs)) e ∙ ap (λ xs. 9 ∷ (b ∷ xs)) same)
    (cases_Bool (eqb b 9))

tabbed_lacks : (fs : List (List ℕ)) → AllHigh fs → lacks 10 (tabbed fs) ≡ true
tabbed_lacks [] h = refl
tabbed_lacks (f ∷ fs) h = lacks_append 10 f (tabbed fs) (high_lacks 10 (omega arith) f h.0) (tabbed_lacks fs h.1)

no_end : (line : Line) → lacks 10 (written_line line) ≡ true
no_end (Map size) = tabbed_lacks (written size ∷ []) (written_high size, tt)
no_end (State look start) = tabbed_lacks (written look ∷ (written start ∷ [])) (written_high look, (written_high start, tt))
no_end (Target target) = tabbed_lacks (written target ∷ []) (written_high target, tt)
no_end (Rule row) = tabbed_lacks (row_fields row) (row_high row)

-- what is written reads back

number_written : (place bound n : ℕ) → n < bound → number_in place bound (written n) ≡ Ok n
number_written place bound n h = ap (λ o. ok_or o (BadNumber place)) (number_laws.reads_back bound n h)

two_written : (place bound next a b : ℕ) → a < bound → b < next → two_numbers place bound next (written a ∷ (written b ∷ [])) ≡ Ok (a, b)
two_written place bound next a b h k =
    ap (λ r. both r (number_in (place + 1) next (written b))) (number_written place bound a h) ∙ ap (λ r. both (Ok a) r) (number_written (place + 1) next b k)

row_written : (row : Row) → RowFits row → row_in (row_fields row) ≡ Ok row
row_written True h = refl
row_written (Sign k) h = ap (then_make Sign) (number_written 3 (2 ^ 16) k h)
row_written (Not a) h = ap (then_make Not) (number_written 3 (2 ^ 32) a h)
row_written (Or a b) h = ap (then_make (λ p. Or p.0 p.1)) (two_written 3 (2 ^ 32) (2 ^ 32) a b h.0 h.1)
row_written (Next a) h = ap (then_make Next) (number_written 3 (2 ^ 32) a h)
row_written (Until a b) h = ap (then_make (λ p. Until p.0 p.1)) (two_written 3 (2 ^ 32) (2 ^ 32) a b h.0 h.1)

fields_row : (row : Row) → rule_line (row_fields row) ≡ line_of (written_line (Rule row))
fields_row True = refl
fields_row (Sign k) = sym (ap rule_line (fields_tabbed (codes "sign") (written k ∷ []) refl (written_high k, tt)))
fields_row (Not a) = sym (ap rule_line (fields_tabbed (codes "not") (written a ∷ []) refl (written_high a, tt)))
fields_row (Or a b) = sym (ap rule_line (fields_tabbed (codes "or") (written a ∷ (written b ∷ [])) refl (written_high a, (written_high b, tt))))
fields_row (Next a) = sym (ap rule_line (fields_tabbed (codes "next") (written a ∷ []) refl (written_high a, tt)))
fields_row (Until a b) = sym (ap rule_line (fields_tabbed (codes "until") (written a ∷ (written b ∷ [])) refl (written_high a, (written_high b, tt))))

reads_back : (line : Line) → LineFits line → line_of (written_line line) ≡ Ok line
reads_back (Map size) h = ap map_line (fields_tabbed (written size) [] (written_high size) tt) ∙ ap (then_make Map) (number_written 2 (2 ^ 32) size h)
reads_back (State look start) h =
    ap state_line (fields_tabbed (written look) (written start ∷ []) (written_high look) (written_high start, tt)) ∙ ap (then_make (λ p. State p.0 p.1)) (two_written 2 (2 ^ 32) 2 look start h.0 h.1)
reads_back (Target target) h = ap target_line (fields_tabbed (written target) [] (written_high target) tt) ∙ ap (then_make Target) (number_written 2 (2 ^ 32) target h)
reads_back (Rule row) h = sym (fields_row row) ∙ ap (then_make Rule) (row_written row h)

-- what reads as a line is that line as it is written

some_back : (o : Option ℕ) (fault : LineFault) (n : ℕ) → ok_or o fault ≡ Ok n → o ≡ Some n
some_back None fault n e = grind arith
some_back (Some m) fault n e = let q : m ≡ n = cc in ap Some q

number_back : (place bound : ℕ) (field : List ℕ) (n : ℕ) → number_in place bound field ≡ Ok n → (field ≡ written n) × (n < bound)
number_back place bound field n e =
    let s = some_back (number_below bound field) (BadNumber place) n e in
    (number_laws.one_numeral bound field n s, number_laws.in_bound bound field n s)

one_back : (place bound : ℕ) (fs : List (List ℕ)) (n : ℕ) → one_number place bound fs ≡ Ok n → (fs ≡ written n ∷ []) × (n < bound)
one_back place bound [] n e = grind arith
one_back place bound (a ∷ []) n e = let p = number_back place bound a n e in (ap (λ f. f ∷ []) p.0, p.1)
one_back place bound (a ∷ (b ∷ more)) n e = grind arith

both_back : {X Y : Type 0} (r : Result X LineFault) (s : Result Y LineFault) (p : X × Y) → both r s ≡ Ok p → (r ≡ Ok p.0) × (s ≡ Ok p.1)
both_back (Err f) s p e = grind arith
both_back (Ok x) (Err f) p e = grind arith
both_back (Ok x) (Ok y) p e = let q : (x, y) ≡ p = cc in (ap (λ t. Ok t.0) q, ap (λ t. Ok t.1) q)

two_back : (place bound next : ℕ) (fs : List (List ℕ)) (p : ℕ × ℕ) → two_numbers place bound next fs ≡ Ok p → (fs ≡ written p.0 ∷ (written p.1 ∷ [])) × ((p.0 < bound) × (p.1 < next))
two_back place bound next [] p e = grind arith
two_back place bound next (a ∷ []) p e = grind arith
two_back place bound next (a ∷ (b ∷ [])) p e =
    let q = both_back (number_in place bound a) (number_in (place + 1) next b) p e in
    let x = number_back place bound a p.0 q.0 in
    let y = number_back (place + 1) next b p.1 q.1 in
    (ap (λ f. f ∷ (b ∷ [])) x.0 ∙ ap (λ f. written p.0 ∷ (f ∷ [])) y.0, (x.1, y.1))
two_back place bound next (a ∷ (b ∷ (c ∷ more))) p e = grind arith

make_back : {X Y : Type 0} (make : X → Y) (r : Result X LineFault) (y : Y) → then_make make r ≡ Ok y → (x : X) × (r ≡ Ok x) × (make x ≡ y)
make_back make (Ok x) y e = let q : make x ≡ y = cc in (x, refl, q)
make_back make (Err f) y e = grind arith

-- the word of a kind
abbrev kind_word : Kind → List ℕ
kind_word kind.True = codes "true"
kind_word kind.Sign = codes "sign"
kind_word kind.Not = codes "not"
kind_word kind.Or = codes "or"
kind_word kind.Next = codes "next"
kind_word kind.Until = codes "until"

word_step : (word : List ℕ) (x : Kind) (rest : Option Kind) → ((k : Kind) → rest ≡ Some k → word ≡ kind_word k) → (k : Kind) → cond (bytes_eq word (kind_word x)) (Some x) rest ≡ Some k → word ≡ kind_word k
word_step word x rest more k e = ⊎_elim
    (λ t. let q : x ≡ k = cc (cond-true (bytes_eq word (kind_word x)) (Some x) rest t) in (bytes_eq-Decides word (kind_word x)).0 t ∙ ap kind_word q)
    (λ f. more k (sym (cond-false (bytes_eq word (kind_word x)) (Some x) rest f) ∙ e))
    (cases_Bool (bytes_eq word (kind_word x)))

kind_back : (word : List ℕ) (k : Kind) → kind_of word ≡ Some k → word ≡ kind_word k
kind_back word = word_step word kind.True _ (word_step word kind.Sign _ (word_step word kind.Not _ (word_step word kind.Or _ (word_step word kind.Next _ (word_step word kind.Until None (λ k e. grind arith))))))

-- a row that was read from the operands of a kind
abbrev Read : Kind → List (List ℕ) → Row → Type 0
Read k operands row = (kind_word k ∷ operands ≡ row_fields row) × RowFits row

bare_back : (operands : List (List ℕ)) (row : Row) → no_number operands ≡ Ok row → Read kind.True operands row
bare_back [] row e = let q : True ≡ row = cc in subst (λ r. Read kind.True [] r) q (refl, tt)
bare_back (a ∷ more) row e = grind arith

operands_back : (k : Kind) (operands : List (List ℕ)) (row : Row) → row_of (Some k) operands ≡ Ok row → Read k operands row
operands_back kind.True operands row e = bare_back operands row e
operands_back kind.Sign operands row e =
    let m = make_back Sign (one_number 3 (2 ^ 16) operands) row e in
    let p = one_back 3 (2 ^ 16) operands m.0 m.1 in
    subst (λ r. Read kind.Sign operands r) m.2 (ap (λ fs. codes "sign" ∷ fs) p.0, p.1)
operands_back kind.Not operands row e =
    let m = make_back Not (one_number 3 (2 ^ 32) operands) row e in
    let p = one_back 3 (2 ^ 32) operands m.0 m.1 in
    subst (λ r. Read kind.Not operands r) m.2 (ap (λ fs. codes "not" ∷ fs) p.0, p.1)
operands_back kind.Or operands row e =
    let m = make_back (λ p. Or p.0 p.1) (two_numbers 3 (2 ^ 32) (2 ^ 32) operands) row e in
    let p = two_back 3 (2 ^ 32) (2 ^ 32) operands m.0 m.1 in
    subst (λ r. Read kind.Or operands r) m.2 (ap (λ fs. codes "or" ∷ fs) p.0, p.1)
operands_back kind.Next operands row e =
    let m = make_back Next (one_number 3 (2 ^ 32) operands) row e in
    let p = one_back 3 (2 ^ 32) operands m.0 m.1 in
    subst (λ r. Read kind.Next operands r) m.2 (ap (λ fs. codes "next" ∷ fs) p.0, p.1)
operands_back kind.Until operands row e =
    let m = make_back (λ p. Until p.0 p.1) (two_numbers 3 (2 ^ 32) (2 ^ 32) operands) row e in
    let p = two_back 3 (2 ^ 32) (2 ^ 32) operands m.0 m.1 in
    subst (λ r. Read kind.Until operands r) m.2 (ap (λ fs. codes "until" ∷ fs) p.0, p.1)

by_kind_back : (o : Option Kind) (word : List ℕ) (operands : List (List ℕ)) (row : Row) → kind_of word ≡ o → row_of o operands ≡ Ok row → (word ∷ operands ≡ row_fields row) × RowFits row
by_kind_back None word operands row w e = grind arith
by_kind_back (Some k) word operands row w e = let p = operands_back k operands row e in (ap (λ f. f ∷ operands) (kind_back word k w) ∙ p.0, p.1)

row_back : (fs : List (List ℕ)) (row : Row) → row_in fs ≡ Ok row → (fs ≡ row_fields row) × RowFits row
row_back [] row e = grind arith
row_back (word ∷ operands) row e = by_kind_back (kind_of word) word operands row refl e

-- a line that was read from its letter and the fields after it
abbrev Said : ℕ → List (List ℕ) → Line → Type 0
Said letter fs line = (letter ∷ tabbed fs ≡ written_line line) × LineFits line

map_back : (fs : List (List ℕ)) (line : Line) → map_line fs ≡ Ok line → Said 77 fs line
map_back fs line e =
    let m = make_back Map (one_number 2 (2 ^ 32) fs) line e in
    let p = one_back 2 (2 ^ 32) fs m.0 m.1 in
    subst (λ l. Said 77 fs l) m.2 (ap (λ gs. 77 ∷ tabbed gs) p.0, p.1)

state_back : (fs : List (List ℕ)) (line : Line) → state_line fs ≡ Ok line → Said 83 fs line
state_back fs line e =
    let m = make_back (λ p. State p.0 p.1) (two_numbers 2 (2 ^ 32) 2 fs) line e in
    let p = two_back 2 (2 ^ 32) 2 fs m.0 m.1 in
    subst (λ l. Said 83 fs l) m.2 (ap (λ gs. 83 ∷ tabbed gs) p.0, p.1)

target_back : (fs : List (List ℕ)) (line : Line) → target_line fs ≡ Ok line → Said 84 fs line
target_back fs line e =
    let m = make_back Target (one_number 2 (2 ^ 32) fs) line e in
    let p = one_back 2 (2 ^ 32) fs m.0 m.1 in
    subst (λ l. Said 84 fs l) m.2 (ap (λ gs. 84 ∷ tabbed gs) p.0, p.1)

rule_back : (fs : List (List ℕ)) (line : Line) → rule_line fs ≡ Ok line → Said 82 fs line
rule_back fs line e =
    let m = make_back Rule (row_in fs) line e in
    let p = row_back fs m.0 m.1 in
    subst (λ l. Said 82 fs l) m.2 (ap (λ gs. 82 ∷ tabbed gs) p.0, p.1)

letter_step : (a letter : ℕ) (fs : List (List ℕ)) (line : Line) (read rest : Result Line LineFault) → (read ≡ Ok line → Said letter fs line) → (rest ≡ Ok line → Said a fs line) → cond (eqb a letter) read rest ≡ Ok line → Said a fs line
letter_step a letter fs line read rest here more e = ⊎_elim
    (λ t. subst (λ b. Said b fs line) (sym (eqb-true a letter t)) (here (sym (cond-true (eqb a letter) read rest t) ∙ e)))
    (λ f. more (sym (cond-false (eqb a letter) read rest f) ∙ e))
    (cases_Bool (eqb a letter))

letter_back : (a : ℕ) (fs : List (List ℕ)) (line : Line) → by_letter a fs ≡ Ok line → Said a fs line
letter_back a fs line =
    letter_step a 77 fs line (map_line fs) _ (map_back fs line)
    (letter_step a 83 fs line (state_line fs) _ (state_back fs line)
    (letter_step a 84 fs line (target_line fs) _ (target_back fs line)
    (letter_step a 82 fs line (rule_line fs) (Err NotOfAForm) (rule_back fs line) (λ e. grind arith))))

line_back : (bytes : List ℕ) (line : Line) → line_of bytes ≡ Ok line → (bytes ≡ written_line line) × LineFits line
line_back [] line e = grind arith
line_back (a ∷ []) line e = grind arith
line_back (a ∷ (b ∷ rest)) line e = ⊎_elim
    (λ t.
    let p = letter_back a (fields rest) line (sym (cond-true (eqb b 9) (by_letter a (fields rest)) (Err NotOfAForm) t) ∙ e) in
    (ap (λ x. a ∷ (x ∷ rest)) (eqb-true b 9 t) ∙ ap (λ xs. a ∷ xs) (sym (tabbed_fields rest)) ∙ p.0, p.1))
    (λ f. let g = cond-false (eqb b 9) (by_letter a (fields rest)) (Err NotOfAForm) f in grind arith)
    (cases_Bool (eqb b 9))

pub line_laws : LineLaws
line_laws = record {
  reads_back = reads_back;
  one_text = λ bytes line e. (line_back bytes line e).0;
  in_bounds = λ bytes line e. (line_back bytes line e).1;
  no_end = no_end;
}
