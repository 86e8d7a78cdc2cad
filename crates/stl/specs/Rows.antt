-- Rows: which rows one names, and when it is satisfied, given what those say. Assumes nothing.
-- A valuation V : ℕ → ℕ → Type 0 says of row r at state s whether it holds: by the logic, or by a label sheet.
use Rattle.std.specs.Prelude.{◌≡◌, ℕ, ◌+◌, Bool, true, false, ◌&&◌, ◌⊎◌, List, [], ◌∷◌, nat_lt, slice_index_or}
use Rattle.stl.specs.Formulas.{top, Holds, formulas}
use Rattle.stl.specs.Structures.{Structure, Move}
use Rattle.stl.specs.Until.{Greatest}
use Rattle.stl.specs.Until.{Until as Reaching}
use Rattle.stl.specs.declared.row.Row.{Row}
use Rattle.stl.specs.declared.row.Row.TheVariants.{True, Sign, Not, Or, Next, Until}

-- each row that it names is below n
abbrev pub named : Row → ℕ → Bool
named True n = true
named (Sign k) n = true
named (Not a) n = nat_lt a n
named (Or a b) n = nat_lt a n && nat_lt b n
named (Next a) n = nat_lt a n
named (Until a b) n = nat_lt a n && nat_lt b n

-- each row names only earlier ones; the first is row i
abbrev pub ordered : ℕ → List Row → Bool
ordered i [] = true
ordered i (row ∷ rows) = named row i && ordered (i + 1) rows

-- row r of a list
abbrev pub row_at : List Row → ℕ → Row
row_at rows r = slice_index_or rows r True

abbrev pub is_until : Row → Bool
is_until True = false
is_until (Sign k) = false
is_until (Not a) = false
is_until (Or a b) = false
is_until (Next a) = false
is_until (Until a b) = true

-- P of the operands where the row is an until, else Q
abbrev pub ForUntil : Row → (ℕ → ℕ → Type 0) → Type 0 → Type 0
ForUntil True P Q = Q
ForUntil (Sign k) P Q = Q
ForUntil (Not a) P Q = Q
ForUntil (Or a b) P Q = Q
ForUntil (Next a) P Q = Q
ForUntil (Until a b) P Q = P a b

-- the row is satisfied at s, where the rows that it names hold as V says
abbrev pub Satisfied : Structure → (ℕ → ℕ → Type 0) → Row → ℕ → Type 0
Satisfied k V True s = Unit {0}
Satisfied k V (Sign n) s = k.on s n ≡ true
Satisfied k V (Not a) s = V a s → ⊥
Satisfied k V (Or a b) s = V a s ⊎ V b s
Satisfied k V (Next a) s = (t : ℕ) × Move k s t × V a t
Satisfied k V (Until a b) s = Reaching k (V a) (V b) s

-- the reach of the row: of an until the greatest of its shortest lengths, else 0
abbrev pub Reach : Structure → (ℕ → ℕ → Type 0) → Row → ℕ → Type 0
Reach k V row n = ForUntil row (λ a b. Greatest k (V a) (V b) n) (n ≡ 0)

-- the valuation of the logic: row r holds at s where s satisfies its formula
abbrev pub by_logic : Structure → List Row → ℕ → ℕ → Type 0
by_logic k rows r s = Holds k (slice_index_or (formulas rows) r top) s
