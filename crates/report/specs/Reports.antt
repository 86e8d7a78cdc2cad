-- What a report answers, and leaves in the buffer that is lent to it. Assumes nothing.
use Rattle.std.specs.Prelude.{◌≡◌, ℕ, ◌≤◌, cond, List, [], ◌∷◌, ◌++◌, length, drop, Some, None, Ok, Err, Option, Result, ◌≢◌, nat_le}
use Rattle.calls.specs.Answers.{State}
use Rattle.map.specs.Questions.{Question, ask, first_no}
use Rattle.stl.specs.Structures.{Structure}
use Rattle.report.specs.Results.{Finds}
use Rattle.report.specs.Texts.{report_text}
use Rattle.report.specs.declared.fault.ReportFault.{ReportFault}
use Rattle.report.specs.declared.fault.ReportFault.TheVariants.{ShortSheet, NoRoom}
use Rattle.report.specs.declared.found.Found.{Found}

-- the length of the text, and the text in front of what was there; or no room for the whole of it, and nothing written
pub record Reported (text before after : List ℕ) (x : Result ℕ ReportFault) : Type 0 where
  pub answer : x ≡ cond (nat_le (length text) (length before)) (Ok (length text)) (Err NoRoom)
  pub bytes : after ≡ cond (nat_le (length text) (length before)) (text ++ drop (length text) before) before

-- the text of the results of the marked rows is reported
pub record Given (k : Structure) (st : State) (sheet before after : List ℕ) (x : Result ℕ ReportFault) : Type 0 where
  pub finds : List Found
  pub right : Finds k st sheet finds
  pub reported : Reported (report_text finds) before after x

-- what is asked before rows are looked at
abbrev pub questions : Structure → ℕ → List (Question ReportFault)
questions k words = ask (nat_le k.size words) ShortSheet ∷ []

-- the report, or the refusal, which writes nothing
abbrev pub Decided : Structure → State → List ℕ → List ℕ → List ℕ → Result ℕ ReportFault → Option ReportFault → Type 0
Decided k st sheet before after x None = Given k st sheet before after x
Decided k st sheet before after x (Some fault) = (x ≡ Err fault) × (after ≡ before)

-- what a report answers, and what the buffer holds after it
abbrev pub Reports : Structure → State → List ℕ → List ℕ → List ℕ → Result ℕ ReportFault → Type 0
Reports k st sheet before after x = Decided k st sheet before after x (first_no (questions k (length sheet)))

-- a buffer of 1,024 bytes has room for every report
abbrev pub Fits : List ℕ → Result ℕ ReportFault → Type 0
Fits before x = 1024 ≤ length before → x ≢ Err NoRoom
