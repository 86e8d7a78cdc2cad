-- Questions, asked from the top: the first no decides. Assumes nothing.
use Rattle.std.specs.Prelude.{ℕ, Bool, cond, List, [], ◌∷◌, Some, None, Option}
use Rattle.map.specs.Counts.{lowest_no, or_else}

-- a question, and the refusal where its answer is no; F is the kind of refusal
pub data Question (F : Type 0) : Type 0 where
  -- asked once
  ask : Bool → F → Question F
  -- asked of each number below n; the lowest no is carried by the refusal
  each : (n : ℕ) → (ℕ → Bool) → (ℕ → F) → Question F

-- the refusal that carries a number, where there is one
abbrev pub refuse_at : {F : Type 0} → (ℕ → F) → Option ℕ → Option F
refuse_at fault None = None
refuse_at fault (Some i) = Some (fault i)

-- the refusal of one question
abbrev pub refused_by : {F : Type 0} → Question F → Option F
refused_by (ask answer fault) = cond answer None (Some fault)
refused_by (each n answer fault) = refuse_at fault (lowest_no answer n)

-- the refusal of the first question whose answer is no
abbrev pub first_no : {F : Type 0} → List (Question F) → Option F
first_no [] = None
first_no (q ∷ more) = or_else (refused_by q) (first_no more)

-- what a refusal tells: its number, and the place at fault or the length that it carries, if it carries one
pub record Refusal : Type 0 where
  pub number : ℕ
  pub carried : Option ℕ
