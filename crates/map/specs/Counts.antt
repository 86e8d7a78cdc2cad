-- The lowest no and the greatest value over the first numbers. Assumes nothing.
use Rattle.std.specs.Prelude.{◌≡◌, ℕ, zero, suc, ◌<◌, ◌≤◌, max, Bool, true, false, cond, length, Some, None, Option}
use Rattle.map.specs.Meaning.{Meaning}

-- the first, else the second
abbrev pub or_else : {X : Type 0} → Option X → Option X → Option X
or_else None next = next
or_else (Some x) next = Some x

-- the lowest number below n at which the answer is no
abbrev pub lowest_no : (ℕ → Bool) → ℕ → Option ℕ
lowest_no f zero = None
lowest_no f (suc n) = or_else (lowest_no f n) (cond (f n) None (Some n))

-- the greatest of the values at the numbers below n, 0 where there is none
abbrev pub greatest : (ℕ → ℕ) → ℕ → ℕ
greatest f zero = 0
greatest f (suc n) = max (greatest f n) (f n)

-- the length of the longest list of a map, 0 for a map of size 0
abbrev pub longest : {L : Type 0} → Meaning L → ℕ
longest m = greatest (λ s. length (m.list s)) m.size

-- what the two say: each is what its name says, and nothing else is
pub record CountLaws : Type 0 where
  -- no lowest no exactly when each answer is yes
  pub all_yes : (f : ℕ → Bool) (n : ℕ) → lowest_no f n ≡ None → (i : ℕ) → i < n → f i ≡ true
  pub none_no : (f : ℕ → Bool) (n : ℕ) → ((i : ℕ) → i < n → f i ≡ true) → lowest_no f n ≡ None
  -- i is the lowest no exactly when it is a no below n and each lower one is a yes
  pub is_no : (f : ℕ → Bool) (n i : ℕ) → lowest_no f n ≡ Some i → (i < n) × (f i ≡ false) × ((j : ℕ) → j < i → f j ≡ true)
  pub no_is : (f : ℕ → Bool) (n i : ℕ) → i < n → f i ≡ false → ((j : ℕ) → j < i → f j ≡ true) → lowest_no f n ≡ Some i
  -- the greatest value is at least each, and is one of them unless it is 0
  pub above : (f : ℕ → ℕ) (n i : ℕ) → i < n → f i ≤ greatest f n
  pub met : (f : ℕ → ℕ) (n : ℕ) → 0 < greatest f n → (i : ℕ) × (i < n) × (f i ≡ greatest f n)
