-- What a rule text means: which rows it adds to a session, and the fault that ends it. Assumes nothing.
use Rattle.std.specs.Prelude.{ℕ, cond, List, [], ◌∷◌, ◌++◌, is_some, Some, None, Ok, Err, Option, Result}
use Rattle.calls.specs.Answers.{State, Lent, questions}
use Rattle.calls.specs.Histories.{Kept}
use Rattle.calls.specs.declared.call.Call.TheVariants as call
use Rattle.calls.specs.declared.fault.SessionFault.{SessionFault}
use Rattle.map.specs.Questions.{first_no}
use Rattle.reader.specs.Places.{stands}
use Rattle.reader.specs.Readings.{Outcome, Taken, text_read}
use Rattle.reader.specs.declared.fault.TextFault.{TextFault}
use Rattle.reader.specs.declared.fault.Trouble.TheVariants.{OutOfPlace, Session}
use Rattle.reader.specs.declared.place.Place.TheVariants.{InRules}
use Rattle.stl.specs.Structures.{Structure}
use Rattle.stl.specs.declared.row.Row.{Row}
use Rattle.text.specs.declared.line.Line.{Line}
use Rattle.text.specs.declared.line.Line.TheVariants.{Map, State as StateLine, Target, Rule}

-- a call that is lent a sheet of so many words, and no other table
abbrev pub sheet_of : ℕ → Lent
sheet_of words = record { sheet = words; work = 0; run = 0 }

-- a row that the session took, or why it did not
abbrev pub row_added : State → Row → Option SessionFault → Taken State
row_added st row None = record { left = record { rows = st.rows ++ (row ∷ []); marked = st.marked }; trouble = None }
row_added st row (Some fault) = record { left = st; trouble = Some (Session fault) }

-- what a line does that may stand in a rule text: it adds its row to the session, which is lent a sheet of so many words
abbrev pub adds : Structure → ℕ → State → Line → Taken State
adds k words st (Rule row) = row_added st row (first_no (questions k st (sheet_of words) (call.Add row)))
adds k words st (Map size) = record { left = st; trouble = None }
adds k words st (StateLine look start) = record { left = st; trouble = None }
adds k words st (Target target) = record { left = st; trouble = None }

-- one line taken: a rule text holds R lines alone
abbrev pub rule_step : Structure → ℕ → State → Line → Taken State
rule_step k words st line = cond (is_some (stands InRules line)) (adds k words st line) (record { left = st; trouble = Some OutOfPlace })

-- what reading answers: nothing more, or the fault
abbrev pub rule_answer : Option TextFault → Result (Unit {0}) TextFault
rule_answer None = Ok tt
rule_answer (Some fault) = Err fault

-- what a rule text means to a session that keeps st: what the session keeps after it, and the first fault
abbrev pub rule_read : Structure → ℕ → State → List ℕ → Outcome State
rule_read k words st text = text_read (rule_step k words) st text

-- a session whose labels are the logic's before is such a session after
abbrev pub Keeps : Structure → List ℕ → State → State → Type 0
Keeps k sheet st after = Kept k st sheet → Kept k after sheet
