-- Lines as they are written, and that each has one text. Assumes nothing.
use Rattle.std.specs.Prelude.{◌≡◌, ℕ, ◌^◌, ◌<◌, true, List, [], ◌∷◌, ◌++◌, Ok, codes}
use Rattle.stl.specs.declared.row.Row.{Row}
use Rattle.stl.specs.declared.row.Row.TheVariants.{True, Sign, Not, Or, Next, Until}
use Rattle.text.specs.Lines.{line_of}
use Rattle.text.specs.Numbers.{written}
use Rattle.text.specs.Split.{lacks}
use Rattle.text.specs.declared.line.Line.{Line}
use Rattle.text.specs.declared.line.Line.TheVariants.{Map, State, Target, Rule}

-- fields, with byte 9 in front of each
abbrev pub tabbed : List (List ℕ) → List ℕ
tabbed [] = []
tabbed (field ∷ fields) = 9 ∷ (field ++ tabbed fields)

-- the fields of a row: the word of its kind, and its operands
abbrev pub row_fields : Row → List (List ℕ)
row_fields True = codes "true" ∷ []
row_fields (Sign k) = codes "sign" ∷ (written k ∷ [])
row_fields (Not a) = codes "not" ∷ (written a ∷ [])
row_fields (Or a b) = codes "or" ∷ (written a ∷ (written b ∷ []))
row_fields (Next a) = codes "next" ∷ (written a ∷ [])
row_fields (Until a b) = codes "until" ∷ (written a ∷ (written b ∷ []))

-- the bytes of a line: its letter and its fields
abbrev pub written_line : Line → List ℕ
written_line (Map size) = codes "M" ++ tabbed (written size ∷ [])
written_line (State look start) = codes "S" ++ tabbed (written look ∷ (written start ∷ []))
written_line (Target target) = codes "T" ++ tabbed (written target ∷ [])
written_line (Rule row) = codes "R" ++ tabbed (row_fields row)

-- each number of a row is below its bound
abbrev pub RowFits : Row → Type 0
RowFits True = Unit {0}
RowFits (Sign k) = k < 2 ^ 16
RowFits (Not a) = a < 2 ^ 32
RowFits (Or a b) = (a < 2 ^ 32) × (b < 2 ^ 32)
RowFits (Next a) = a < 2 ^ 32
RowFits (Until a b) = (a < 2 ^ 32) × (b < 2 ^ 32)

-- each number of a line is below its bound
abbrev pub LineFits : Line → Type 0
LineFits (Map size) = size < 2 ^ 32
LineFits (State look start) = (look < 2 ^ 32) × (start < 2)
LineFits (Target target) = target < 2 ^ 32
LineFits (Rule row) = RowFits row

-- lines and their texts are one to one
pub record LineLaws : Type 0 where
  -- a written line reads back as that line
  pub reads_back : (line : Line) → LineFits line → line_of (written_line line) ≡ Ok line
  -- bytes that read as a line are the line as it is written
  pub one_text : (bytes : List ℕ) (line : Line) → line_of bytes ≡ Ok line → bytes ≡ written_line line
  -- a line that is read keeps to its bounds
  pub in_bounds : (bytes : List ℕ) (line : Line) → line_of bytes ≡ Ok line → LineFits line
  -- a written line has no byte 10, so it is one line of a text
  pub no_end : (line : Line) → lacks 10 (written_line line) ≡ true
