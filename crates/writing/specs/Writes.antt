-- A buffer that is written from a place on. Assumes nothing.
use Rattle.std.specs.Borrow.{GName}
use Rattle.std.specs.Prelude.{◌≡◌, ℕ, ◌+◌, ◌-◌, ◌≤◌, List, ◌++◌, length, take, drop}

-- which buffer it is, what it holds, and where the next byte goes
pub record Seen : Type 0 where
  pub name : GName
  pub bytes : List ℕ
  pub at : ℕ

abbrev pub room_in : Seen → ℕ
room_in b = length b.bytes - b.at

-- a text was written at the place: it stands there, and the rest is as it was
pub record WritesOn (b : Seen) (text : List ℕ) (c : Seen) : Type 0 where
  pub same : c.name ≡ b.name
  pub at : c.at ≡ b.at + length text
  pub fits : c.at ≤ length b.bytes
  pub sized : length c.bytes ≡ length b.bytes
  pub front : take c.at c.bytes ≡ take b.at b.bytes ++ text
  pub rest : drop c.at c.bytes ≡ drop c.at b.bytes

-- what lies before the place stays
pub record KeepsFront (b c : Seen) : Type 0 where
  pub same : c.name ≡ b.name
  pub at : b.at ≤ c.at
  pub sized : length c.bytes ≡ length b.bytes
  pub front : take b.at c.bytes ≡ take b.at b.bytes
