-- The text of a report: a line for each result, ended by byte 10. Assumes nothing.
use Rattle.std.specs.Prelude.{ℕ, ◌+◌, Bool, true, false, List, [], ◌∷◌, ◌++◌, codes}
use Rattle.text.specs.Numbers.{written}
use Rattle.text.specs.Written.{tabbed}
use Rattle.report.specs.declared.found.Found.{Found}

-- the word of a verdict
abbrev pub word : Bool → List ℕ
word true = codes "yes"
word false = codes "no"

-- the line of row r: its letter, the row, the verdict and the reach, parted by byte 9
abbrev pub found_line : ℕ → Found → List ℕ
found_line r found = codes "V" ++ (tabbed (written r ∷ (word found.yes ∷ (written found.reach ∷ []))) ++ (10 ∷ []))

-- the lines of results, the first of which is that of row r
abbrev pub report_from : ℕ → List Found → List ℕ
report_from r [] = []
report_from r (found ∷ finds) = found_line r found ++ report_from (r + 1) finds

-- the report of the results of rows 0, 1, 2, ..
abbrev pub report_text : List Found → List ℕ
report_text finds = report_from 0 finds
