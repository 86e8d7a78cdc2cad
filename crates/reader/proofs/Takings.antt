-- Lines taken one after another, one step. Assumes nothing.
use Rattle.std.proofs.Common.{◌≡◌, ℕ, ◌<◌, ◌≤◌, leb, length, Some, List}
use Rattle.std.proofs.lemmas.Bool.{cond-true, cond-false, le-leb, lt-leb}
use Rattle.text.specs.declared.line.Line.{Line}
use Rattle.reader.specs.Readings.{Taken, takes, at_line, text_read}
use Rattle.reader.specs.Texts.{text_lines}
use Rattle.reader.specs.declared.fault.Trouble.TheVariants.{TooLong}

module _ {X : Type 0} (step : X → Line → Taken X) (x : X) (text : List ℕ) where
  -- a text that is not too long, by its lines
  pub by_lines : length text ≤ 60000 → text_read step x text ≡ takes step 1 x (text_lines text)
  by_lines h = cond-true (leb (length text) 60000) _ _ (le-leb _ _ h)

  -- one that is
  pub too_long : 60000 < length text → text_read step x text ≡ record { left = x; fault = Some (at_line 0 TooLong) }
  too_long h = cond-false (leb (length text) 60000) _ _ (lt-leb _ _ h)
