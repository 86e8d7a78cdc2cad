-- The line of a fault, and what was written or is to be. Assumes nothing.
use Rattle.std.specs.Prelude.{◌≡◌, ℕ, List, Ok, Err, Result}
use Rattle.checking.specs.Outputs.{fault_line, Wrote}
use Rattle.checking.specs.declared.fault.FaultLine.{FaultLine}

-- the bytes of the line
abbrev pub line_of : FaultLine → List ℕ
line_of f = fault_line f.text f.number f.line f.field

-- bytes that are right by P were written, or are the line of a fault, and nothing was written
abbrev pub Told : (List ℕ → Type 0) → List ℕ → List ℕ → Result ℕ FaultLine → Type 0
Told P before after (Ok n) = Wrote P before after n
Told P before after (Err line) = P (line_of line) × (after ≡ before)
