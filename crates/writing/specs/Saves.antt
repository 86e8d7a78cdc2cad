-- A text saved at the front of a buffer, and one put at a place of it. Assumes nothing.
use Rattle.std.specs.Prelude.{◌≡◌, ℕ, ◌+◌, cond, List, ◌++◌, length, take, drop, Ok, Err, Result, nat_le}
use Rattle.writing.specs.declared.fault.SaveFault.{SaveFault}
use Rattle.writing.specs.declared.fault.SaveFault.TheVariants.{NoRoom}

-- a text saved into a buffer: its length, and the text in front of what was there; or no room, and nothing written
pub record Saved (text before after : List ℕ) (r : Result ℕ SaveFault) : Type 0 where
  pub answer : r ≡ cond (nat_le (length text) (length before)) (Ok (length text)) (Err NoRoom)
  pub bytes : after ≡ cond (nat_le (length text) (length before)) (text ++ drop (length text) before) before

-- a text put at a place of a buffer: the place after it, and the text over what was there; or no room, and nothing written
pub record PutAt (before : List ℕ) (at : ℕ) (text after : List ℕ) (r : Result ℕ SaveFault) : Type 0 where
  pub answer : r ≡ cond (nat_le (at + length text) (length before)) (Ok (at + length text)) (Err NoRoom)
  pub bytes : after ≡ cond (nat_le (at + length text) (length before)) (take at before ++ (text ++ drop (at + length text) before)) before
