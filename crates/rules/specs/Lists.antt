-- A row added to a rule list. Assumes nothing.
use Rattle.std.specs.Prelude.{ℕ, List, [], ◌∷◌, ◌++◌, Some, None, Ok, Err, Option, Result, nat_lt}
use Rattle.map.specs.Questions.{Question, ask}
use Rattle.stl.specs.Rows.{named}
use Rattle.stl.specs.declared.row.Row.{Row}
use Rattle.rules.specs.declared.fault.RuleFault.{RuleFault}
use Rattle.rules.specs.declared.fault.RuleFault.TheVariants.{TooManyRows, NamesLaterRow}

-- what is asked of a row that is to be row n
abbrev pub questions : ℕ → Row → List (Question RuleFault)
questions n row = ask (nat_lt n 64) TooManyRows ∷ (ask (named row n) NamesLaterRow ∷ [])

-- the number of the new row, or the refusal
abbrev pub answer : ℕ → Option RuleFault → Result ℕ RuleFault
answer n None = Ok n
answer n (Some fault) = Err fault

-- the rows after it: one more, or as they were
abbrev pub added : List Row → Row → Option RuleFault → List Row
added rows row None = rows ++ (row ∷ [])
added rows row (Some fault) = rows
