-- Lines taken one after another. Assumes nothing.
use Rattle.std.specs.Prelude.{ℕ, ◌+◌, cond, List, [], ◌∷◌, length, Some, None, Ok, Err, Option, Result, nat_le}
use Rattle.text.specs.declared.line.Line.{Line}
use Rattle.text.specs.declared.line.LineFault.{LineFault}
use Rattle.reader.specs.declared.fault.TextFault.{TextFault}
use Rattle.reader.specs.declared.fault.Trouble.{Trouble}
use Rattle.reader.specs.Texts.{text_lines}
use Rattle.reader.specs.declared.fault.Trouble.TheVariants.{TooLong, Line as InLine}

-- the trouble at a line
abbrev pub at_line : ℕ → Trouble → TextFault
at_line n trouble = record { what = trouble; line = n }

-- what there is after some lines, and the fault that ended them, if one did; X is what a line acts on
pub record Outcome (X : Type 0) : Type 0 where
  pub left : X
  pub fault : Option TextFault

-- what a line gives: what there is after it, and why it was turned down, if it was
pub record Taken (X : Type 0) : Type 0 where
  pub left : X
  pub trouble : Option Trouble

module _ {X : Type 0} where
  -- a line that was turned down ends the reading; else it goes on
  abbrev pub goes_on : ℕ → X → Option Trouble → (X → Outcome X) → Outcome X
  goes_on n x (Some trouble) next = record { left = x; fault = Some (at_line n trouble) }
  goes_on n x None next = next x

  -- the lines from line n on, each taken by `step`: the first that is not well formed or is turned down ends it
  abbrev pub takes : (X → Line → Taken X) → ℕ → X → List (Result Line LineFault) → Outcome X
  takes step n x [] = record { left = x; fault = None }
  takes step n x (Err fault ∷ more) = record { left = x; fault = Some (at_line n (InLine fault)) }
  takes step n x (Ok line ∷ more) = goes_on n (step x line).left (step x line).trouble (λ y. takes step (n + 1) y more)

  -- a line taken, by what its taker answers and what there is after it
  abbrev pub taken : Result (Unit {0}) Trouble → X → Taken X
  taken (Ok x) after = record { left = after; trouble = None }
  taken (Err trouble) after = record { left = after; trouble = Some trouble }

  -- a line that is well formed is taken by `step`; another one does nothing
  abbrev pub taken_by : (X → Line → Taken X) → X → Result Line LineFault → Taken X
  taken_by step x (Err fault) = record { left = x; trouble = Some (InLine fault) }
  taken_by step x (Ok line) = step x line

  -- a text read: its lines taken from the first on, where it has no more than 60,000 bytes
  abbrev pub text_read : (X → Line → Taken X) → X → List ℕ → Outcome X
  text_read step x text = cond (nat_le (length text) 60000)
      (takes step 1 x (text_lines text))
      (record { left = x; fault = Some (at_line 0 TooLong) })

-- what reading answers: this number, or the fault
abbrev pub answer : ℕ → Option TextFault → Result ℕ TextFault
answer n None = Ok n
answer n (Some fault) = Err fault
