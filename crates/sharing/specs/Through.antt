-- States and calls, read through a class table. Assumes nothing.
use Rattle.std.specs.Prelude.{ℕ, cond, List, length, nat_lt}
use Rattle.calls.specs.declared.call.Call.{Call}
use Rattle.calls.specs.declared.call.Call.TheVariants.{Add, Mark, Label, Verdict, Witness}
use Rattle.sharing.specs.Accepts.{class_of}

-- the class of s; for a state that the table does not have, a number that no map has
abbrev pub read : List ℕ → ℕ → ℕ
read table s = cond (nat_lt s (length table)) (class_of table s) 4294967295

-- the call as it goes to the folded session
abbrev pub asked_through : List ℕ → Call → Call
asked_through table (Add row) = Add row
asked_through table Mark = Mark
asked_through table (Label s r) = Label (read table s) r
asked_through table (Verdict r) = Verdict r
asked_through table (Witness s r) = Witness (read table s) r
