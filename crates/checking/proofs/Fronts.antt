-- A text at the front of a buffer. Assumes nothing.
use Rattle.std.proofs.Common.{ℕ, ◌^◌, ◌<◌, ◌≤◌, length, arith}
use Rattle.std.proofs.lemmas.List.{length-append}
use Rattle.report.proofs.Lengths.{written_short}
use Rattle.checking.specs.Outputs.{fault_line}

-- the line of a fault is short
pub fault_short : (text number line field : ℕ) → number < 2 ^ 32 → line < 2 ^ 32 → field < 2 ^ 32 → length (fault_line text number line field) ≤ 1024
fault_short text number line field a b c =
    simp length-append (omega (arith, written_short 10 number (omega arith) (omega arith), written_short 10 line (omega arith) (omega arith), written_short 10 field (omega arith) (omega arith)))
