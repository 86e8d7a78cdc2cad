-- A text as a list of lines. Assumes nothing.
use Rattle.std.specs.Prelude.{◌≡◌, ℕ, ◌<◌, List, [], ◌∷◌, ◌++◌, map, length, Some, None, Ok, Err, Option, Result}
use Rattle.text.specs.Lines.{line_of}
use Rattle.text.specs.Split.{parts}
use Rattle.text.specs.Written.{written_line, LineFits}
use Rattle.text.specs.declared.line.Line.{Line}
use Rattle.text.specs.declared.line.LineFault.{LineFault}
use Rattle.text.specs.declared.line.LineFault.TheVariants.{NotOfAForm}

-- bytes that no byte 10 ends: none, or a line of no form
abbrev pub unended : List ℕ → List (Result Line LineFault)
unended [] = []
unended (b ∷ bs) = Err NotOfAForm ∷ []

-- the lines of a text, by the parts between its bytes 10: each part but the last is a line
abbrev pub lines_in : List (List ℕ) → List (Result Line LineFault)
lines_in [] = []
lines_in (end ∷ []) = unended end
lines_in (line ∷ (next ∷ more)) = line_of line ∷ lines_in (next ∷ more)

-- what each line of a text says, or what is wrong with it
abbrev pub text_lines : List ℕ → List (Result Line LineFault)
text_lines text = lines_in (parts 10 text)

-- the first line of a text and the bytes after it, which are fewer; or none, at the end of the text
abbrev pub NextLine : List ℕ → Option (Result Line LineFault × List ℕ) → Type 0
NextLine text None = text_lines text ≡ []
NextLine text (Some next) = (text_lines text ≡ next.0 ∷ text_lines next.1) × (length next.1 < length text)

-- lines written out: each with byte 10 after it
abbrev pub written_text : List Line → List ℕ
written_text [] = []
written_text (line ∷ lines) = written_line line ++ (10 ∷ written_text lines)

-- each number of each line is below its bound
abbrev pub AllFit : List Line → Type 0
AllFit [] = Unit {0}
AllFit (line ∷ lines) = LineFits line × AllFit lines

-- lines and their texts are one to one
pub record TextLaws : Type 0 where
  -- lines that are written out are the lines of the text
  pub reads_back : (lines : List Line) → AllFit lines → text_lines (written_text lines) ≡ map Ok lines
  -- a text whose lines are all well formed is those lines, written out
  pub one_text : (text : List ℕ) (lines : List Line) → text_lines text ≡ map Ok lines → text ≡ written_text lines
