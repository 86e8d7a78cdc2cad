-- The lines of a text, one at a time. Assumes nothing.
use Rattle.std.proofs.Common.{◌≡◌, ℕ, zero, suc, ◌+◌, ◌<◌, ◌≤◌, List, [], ◌∷◌, ◌++◌, map, length, Some, None, Ok, Err, Option, sym, refl, ap, ◌∙◌, arith}
use Rattle.std.proofs.lemmas.List.{length-append}
use Rattle.std.specs.Option.{option_map}
use Rattle.text.proofs.Parting.{parts_first, more_parts, split_laws}
use Rattle.text.proofs.Writing.{line_laws}
use Rattle.text.specs.Lines.{line_of}
use Rattle.text.specs.Split.{before, after, first_line}
use Rattle.text.specs.Written.{written_line}
use Rattle.text.specs.declared.line.Line.{Line}
use Rattle.text.specs.declared.line.LineFault.TheVariants.{NotOfAForm}
use Rattle.reader.specs.Texts.{unended, lines_in, text_lines, NextLine, written_text, AllFit, TextLaws}

-- a line that byte 10 ends is the first line of its text
pub line_first : (text rest : List ℕ) → after 10 text ≡ Some rest → text_lines text ≡ line_of (before 10 text) ∷ text_lines rest
line_first text rest e =
    ap lines_in (more_parts 10 text rest e)
    ∙ ap (λ ps. lines_in (before 10 text ∷ ps)) (parts_first 10 rest)
    ∙ ap (λ ps. line_of (before 10 text) ∷ lines_in ps) (sym (parts_first 10 rest))

-- the bytes after it are fewer
pub rest_fewer : (text rest : List ℕ) → after 10 text ≡ Some rest → length rest < length text
rest_fewer text rest e = omega (arith, ap length (split_laws.joins 10 text rest e), length-append (before 10 text) (10 ∷ rest))

pub last_lines : (text : List ℕ) → after 10 text ≡ None → text_lines text ≡ unended text
last_lines text e = ap lines_in (split_laws.one_part 10 text e)

-- a first line that was split off
pub split_off : (text line rest : List ℕ) → ◌≡◌ {A = Option (List ℕ × List ℕ)} (Some (line, rest)) (first_line text) → NextLine text (Some (line_of line, rest))
split_off text line rest e = by (after 10 text) refl e
  where
    by : (o : Option (List ℕ)) → after 10 text ≡ o → ◌≡◌ {A = Option (List ℕ × List ℕ)} (Some (line, rest)) (option_map (λ r. (before 10 text, r)) o) → NextLine text (Some (line_of line, rest))
    by None a f = grind arith
    by (Some r) a f =
        let pair : ◌≡◌ {A = List ℕ × List ℕ} (line, rest) (before 10 text, r) = cc in
        let l : line ≡ before 10 text = ap (λ x. x.0) pair in
        let q : rest ≡ r = ap (λ x. x.1) pair in
        let b : after 10 text ≡ Some rest = cc in
        (line_first text rest b ∙ ap (λ x. line_of x ∷ text_lines rest) (sym l), rest_fewer text rest b)

-- no line is ended by byte 10
pub none_ended : (text : List ℕ) → None ≡ first_line text → text_lines text ≡ unended text
none_ended text e = by (after 10 text) refl e
  where
    by : (o : Option (List ℕ)) → after 10 text ≡ o → ◌≡◌ {A = Option (List ℕ × List ℕ)} None (option_map (λ r. (before 10 text, r)) o) → text_lines text ≡ unended text
    by None a f = last_lines text a
    by (Some r) a f = grind arith

pub ended_some : (text : List ℕ) → (length text ≡ 0 → ⊥) → unended text ≡ Err NotOfAForm ∷ []
ended_some [] ne = absurd (ne refl)
ended_some (b ∷ bs) ne = refl

-- a text has no more lines than bytes; n bounds its length
few_lines : (n : ℕ) (text : List ℕ) → length text < n → length (text_lines text) ≤ length text
few_lines zero text l = grind arith
few_lines (suc n) text l = by (λ rest fewer. few_lines n rest (omega arith)) (after 10 text) refl
  where
    few_unended : (bs : List ℕ) → length (unended bs) ≤ length bs
    few_unended [] = omega arith
    few_unended (b ∷ bs) = omega arith

    by : ((rest : List ℕ) → length rest < length text → length (text_lines rest) ≤ length rest) → (o : Option (List ℕ)) → after 10 text ≡ o → length (text_lines text) ≤ length text
    by again None a = omega (arith, ap length (last_lines text a), few_unended text)
    by again (Some rest) a = omega (arith, ap length (line_first text rest a), rest_fewer text rest a, again rest (rest_fewer text rest a))

pub lines_few : (text : List ℕ) → length (text_lines text) ≤ length text
lines_few text = few_lines (length text + 1) text (omega arith)

-- a text with a written line in front
line_more : (line : Line) (rest : List ℕ) → text_lines (written_line line ++ (10 ∷ rest)) ≡ line_of (written_line line) ∷ text_lines rest
line_more line rest =
    let s = split_laws.splits 10 (written_line line) rest (line_laws.no_end line) in
    line_first (written_line line ++ (10 ∷ rest)) rest s.1 ∙ ap (λ x. line_of x ∷ text_lines rest) s.0

reads_back : (lines : List Line) → AllFit lines → text_lines (written_text lines) ≡ map Ok lines
reads_back [] h = refl
reads_back (line ∷ lines) h =
    line_more line (written_text lines)
    ∙ ap (λ l. l ∷ text_lines (written_text lines)) (line_laws.reads_back line h.0)
    ∙ ap (λ ls. Ok line ∷ ls) (reads_back lines h.1)

no_lines : (bs : List ℕ) (lines : List Line) → unended bs ≡ map Ok lines → bs ≡ written_text lines
no_lines [] [] e = refl
no_lines [] (x ∷ xs) e = grind arith
no_lines (b ∷ bs) [] e = grind arith
no_lines (b ∷ bs) (x ∷ xs) e = grind arith

more_lines : (text rest : List ℕ) → after 10 text ≡ Some rest → ((lines : List Line) → text_lines rest ≡ map Ok lines → rest ≡ written_text lines) →
    (lines : List Line) → line_of (before 10 text) ∷ text_lines rest ≡ map Ok lines → text ≡ written_text lines
more_lines text rest a back [] e = grind arith
more_lines text rest a back (x ∷ xs) e =
    let head : line_of (before 10 text) ≡ Ok x = cc in
    let tail : text_lines rest ≡ map Ok xs = cc in
    sym (split_laws.joins 10 text rest a)
    ∙ ap (λ bs. bs ++ (10 ∷ rest)) (line_laws.one_text (before 10 text) x head)
    ∙ ap (λ bs. written_line x ++ (10 ∷ bs)) (back xs tail)

-- a text whose lines are well formed is what is written of them; n bounds its length
back : (n : ℕ) (text : List ℕ) → length text < n → (lines : List Line) → text_lines text ≡ map Ok lines → text ≡ written_text lines
back zero text l lines e = absurd (omega arith)
back (suc n) text l lines e = by (λ rest fewer. back n rest (omega arith)) (after 10 text) refl
  where
    by : ((rest : List ℕ) → length rest < length text → (ls : List Line) → text_lines rest ≡ map Ok ls → rest ≡ written_text ls) → (o : Option (List ℕ)) → after 10 text ≡ o → text ≡ written_text lines
    by again None a = no_lines text lines (sym (last_lines text a) ∙ e)
    by again (Some rest) a = more_lines text rest a (again rest (rest_fewer text rest a)) lines (sym (line_first text rest a) ∙ e)

pub text_laws : TextLaws
text_laws = record { reads_back = reads_back; one_text = λ text lines e. back (length text + 1) text (omega arith) lines e }
