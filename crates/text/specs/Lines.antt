-- Lines: their form, then their numbers from the left. Assumes nothing.
use Rattle.std.specs.Prelude.{ℕ, ◌+◌, ◌^◌, cond, List, [], ◌∷◌, Some, None, Ok, Err, codes, Option, Result, ◌==◌}
use Rattle.std.specs.Option.{ok_or}
use Rattle.std.specs.Str.{bytes_eq}
use Rattle.stl.specs.declared.row.Row.{Row}
use Rattle.stl.specs.declared.row.Row.TheVariants.{True, Sign, Not, Or, Next, Until}
use Rattle.text.specs.Numbers.{number_below}
use Rattle.text.specs.Split.{parts}
use Rattle.text.specs.declared.kind.Kind.{Kind}
use Rattle.text.specs.declared.kind.Kind.TheVariants as kind
use Rattle.text.specs.declared.line.Line.{Line}
use Rattle.text.specs.declared.line.Line.TheVariants.{Map, State, Target, Rule}
use Rattle.text.specs.declared.line.LineFault.{LineFault}
use Rattle.text.specs.declared.line.LineFault.TheVariants.{NotOfAForm, BadNumber}

-- the fields: the parts between the bytes 9
abbrev pub fields : List ℕ → List (List ℕ)
fields bytes = parts 9 bytes

-- what is made of a value that was read
abbrev pub then_make : {X Y : Type 0} → (X → Y) → Result X LineFault → Result Y LineFault
then_make make (Ok x) = Ok (make x)
then_make make (Err fault) = Err fault

-- two values, or the first fault
abbrev pub both : {X Y : Type 0} → Result X LineFault → Result Y LineFault → Result (X × Y) LineFault
both (Err fault) second = Err fault
both (Ok x) (Err fault) = Err fault
both (Ok x) (Ok y) = Ok (x, y)

-- the number below the bound in this field, which has this place in its line
abbrev pub number_in : ℕ → ℕ → List ℕ → Result ℕ LineFault
number_in place bound field = ok_or (number_below bound field) (BadNumber place)

-- the fields hold one number; the first of them has this place in the line
abbrev pub one_number : ℕ → ℕ → List (List ℕ) → Result ℕ LineFault
one_number place bound [] = Err NotOfAForm
one_number place bound (a ∷ []) = number_in place bound a
one_number place bound (a ∷ (b ∷ more)) = Err NotOfAForm

-- the fields hold two numbers, each below its bound
abbrev pub two_numbers : ℕ → ℕ → ℕ → List (List ℕ) → Result (ℕ × ℕ) LineFault
two_numbers place bound next [] = Err NotOfAForm
two_numbers place bound next (a ∷ []) = Err NotOfAForm
two_numbers place bound next (a ∷ (b ∷ [])) = both (number_in place bound a) (number_in (place + 1) next b)
two_numbers place bound next (a ∷ (b ∷ (c ∷ more))) = Err NotOfAForm

-- the kind of row that a word names
abbrev pub kind_of : List ℕ → Option Kind
kind_of word =
    cond (bytes_eq word (codes "true")) (Some kind.True)
    (cond (bytes_eq word (codes "sign")) (Some kind.Sign)
    (cond (bytes_eq word (codes "not")) (Some kind.Not)
    (cond (bytes_eq word (codes "or")) (Some kind.Or)
    (cond (bytes_eq word (codes "next")) (Some kind.Next)
    (cond (bytes_eq word (codes "until")) (Some kind.Until) None)))))

-- the row that holds everywhere has no operand
abbrev pub no_number : List (List ℕ) → Result Row LineFault
no_number [] = Ok True
no_number (a ∷ more) = Err NotOfAForm

-- the row of a kind, and its operands, the first of which is field 3
abbrev pub row_of : Option Kind → List (List ℕ) → Result Row LineFault
row_of None operands = Err NotOfAForm
row_of (Some kind.True) operands = no_number operands
row_of (Some kind.Sign) operands = then_make Sign (one_number 3 (2 ^ 16) operands)
row_of (Some kind.Not) operands = then_make Not (one_number 3 (2 ^ 32) operands)
row_of (Some kind.Or) operands = then_make (λ p. Or p.0 p.1) (two_numbers 3 (2 ^ 32) (2 ^ 32) operands)
row_of (Some kind.Next) operands = then_make Next (one_number 3 (2 ^ 32) operands)
row_of (Some kind.Until) operands = then_make (λ p. Until p.0 p.1) (two_numbers 3 (2 ^ 32) (2 ^ 32) operands)

-- the row that fields are: the word of a kind, and its operands
abbrev pub row_in : List (List ℕ) → Result Row LineFault
row_in [] = Err NotOfAForm
row_in (word ∷ operands) = row_of (kind_of word) operands

-- `M`: the size of the map
abbrev pub map_line : List (List ℕ) → Result Line LineFault
map_line rest = then_make Map (one_number 2 (2 ^ 32) rest)

-- `S`: the look of a state, and whether it is a start
abbrev pub state_line : List (List ℕ) → Result Line LineFault
state_line rest = then_make (λ p. State p.0 p.1) (two_numbers 2 (2 ^ 32) 2 rest)

-- `T`: a target
abbrev pub target_line : List (List ℕ) → Result Line LineFault
target_line rest = then_make Target (one_number 2 (2 ^ 32) rest)

-- `R`: a row of a rule list
abbrev pub rule_line : List (List ℕ) → Result Line LineFault
rule_line rest = then_make Rule (row_in rest)

-- what the letter says of the fields after it
abbrev pub by_letter : ℕ → List (List ℕ) → Result Line LineFault
by_letter letter rest =
    cond (letter == 77) (map_line rest)
    (cond (letter == 83) (state_line rest)
    (cond (letter == 84) (target_line rest)
    (cond (letter == 82) (rule_line rest) (Err NotOfAForm))))

-- the line that these bytes are: a letter, byte 9, and the fields after it
abbrev pub line_of : List ℕ → Result Line LineFault
line_of [] = Err NotOfAForm
line_of (letter ∷ []) = Err NotOfAForm
line_of (letter ∷ (tab ∷ rest)) = cond (tab == 9) (by_letter letter (fields rest)) (Err NotOfAForm)
