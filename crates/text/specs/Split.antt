-- Bytes parted by a byte: before it, after it, and all the parts. Assumes nothing.
use Rattle.std.specs.Prelude.{◌≡◌, ℕ, Bool, true, cond, not, ◌&&◌, List, [], ◌∷◌, ◌++◌, Some, None, Option, ◌==◌}
use Rattle.std.specs.Option.{option_map}

-- the bytes before the first byte `at`, or all where there is none
abbrev pub before : ℕ → List ℕ → List ℕ
before at [] = []
before at (b ∷ bs) = cond (b == at) [] (b ∷ before at bs)

-- the bytes after the first byte `at`, where there is one
abbrev pub after : ℕ → List ℕ → Option (List ℕ)
after at [] = None
after at (b ∷ bs) = cond (b == at) (Some bs) (after at bs)

-- a byte put in front of the first part
abbrev pub onto_first : ℕ → List (List ℕ) → List (List ℕ)
onto_first b [] = (b ∷ []) ∷ []
onto_first b (part ∷ parts) = (b ∷ part) ∷ parts

-- the parts between the bytes `at`: one more than there are such bytes
abbrev pub parts : ℕ → List ℕ → List (List ℕ)
parts at [] = [] ∷ []
parts at (b ∷ bs) = cond (b == at) ([] ∷ parts at bs) (onto_first b (parts at bs))

-- the first line of a text, without its byte 10, and the bytes after it
abbrev pub first_line : List ℕ → Option (List ℕ × List ℕ)
first_line text = option_map (λ rest. (before 10 text, rest)) (after 10 text)

-- no byte is `at`
abbrev pub lacks : ℕ → List ℕ → Bool
lacks at [] = true
lacks at (b ∷ bs) = not (b == at) && lacks at bs

-- what lies before and after the first byte `at`, and between such bytes
pub record SplitLaws : Type 0 where
  -- nothing before it is such a byte
  pub none_before : (at : ℕ) (bs : List ℕ) → lacks at (before at bs) ≡ true
  -- without such a byte, all bytes lie before
  pub whole : (at : ℕ) (bs : List ℕ) → after at bs ≡ None → before at bs ≡ bs
  -- with one, the two sides and it are all the bytes
  pub joins : (at : ℕ) (bs rest : List ℕ) → after at bs ≡ Some rest → before at bs ++ (at ∷ rest) ≡ bs
  -- bytes put together so are split there again
  pub splits : (at : ℕ) (front rest : List ℕ) → lacks at front ≡ true → (before at (front ++ (at ∷ rest)) ≡ front) × (after at (front ++ (at ∷ rest)) ≡ Some rest)
  -- without such a byte there is one part
  pub one_part : (at : ℕ) (bs : List ℕ) → after at bs ≡ None → parts at bs ≡ bs ∷ []
  -- with one, the first part lies before it, and the others are the parts of the rest
  pub more_parts : (at : ℕ) (bs rest : List ℕ) → after at bs ≡ Some rest → parts at bs ≡ before at bs ∷ parts at rest
