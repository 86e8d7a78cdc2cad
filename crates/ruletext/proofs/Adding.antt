-- A row that a session was asked to add. Assumes nothing.
use Rattle.std.proofs.Common.{◌≡◌, ℕ, List, [], ◌∷◌, ◌++◌, length, Some, None, Ok, Err, Option, Result, refl, ap, ap₂, arith}
use Rattle.calls.specs.Answers.{State, Lent, questions, Grants, Decided}
use Rattle.calls.specs.Effects.{Tables, alone, Gives}
use Rattle.calls.specs.declared.call.Answer.{Answer}
use Rattle.calls.specs.declared.call.Answer.TheVariants as answer
use Rattle.calls.specs.declared.call.Call.TheVariants as call
use Rattle.calls.specs.declared.fault.SessionFault.{SessionFault}
use Rattle.lengths.specs.Sheets.{by_sheet}
use Rattle.map.specs.Questions.{first_no}
use Rattle.reader.specs.Readings.{Taken}
use Rattle.reader.specs.declared.fault.Trouble.TheVariants.{Session}
use Rattle.session.specs.Sessions.{answered}
use Rattle.stl.specs.Structures.{Structure}
use Rattle.stl.specs.declared.row.Row.{Row}
use Rattle.ruletext.specs.RuleTexts.{sheet_of, row_added}

-- the line taken, by what the session answered
abbrev told : Result ℕ SessionFault → State → Taken State
told (Ok n) after = record { left = after; trouble = None }
told (Err fault) after = record { left = after; trouble = Some (Session fault) }

module _ (k : Structure) (V : ℕ → ℕ → Type 0) (st : State) (l : Lent) (row : Row) where
  granted_add : {a : Answer} {after : State} → Grants k V st l (call.Add row) a after → (a ≡ answer.Added (length st.rows)) × (after ≡ record { rows = st.rows ++ (row ∷ []); marked = st.marked })
  granted_add (Grants.added row') = (refl, refl)

  by_answer : (o : Option SessionFault) (r : Result ℕ SessionFault) (after : State) → Decided k V st l (call.Add row) (answered answer.Added r) after o → told r after ≡ row_added st row o
  by_answer None (Ok n) after d = ap (told (Ok n)) (granted_add d).1
  by_answer None (Err f) after d = let e = (granted_add d).0 in grind arith
  by_answer (Some f) (Ok n) after d = let e = d.0 in grind arith
  by_answer (Some f) (Err g) after d = let e = d.0 in let q : g ≡ f = cc in ap₂ (λ s h. told (Err h) s) d.1 q

-- what the session answered is what the line does
pub added_by : {k : Structure} {st after : State} {row : Row} {u : Tables} (sheet : List ℕ) (r : Result ℕ SessionFault) → Gives k st (alone sheet) (call.Add row) (answered answer.Added r) after u →
    told r after ≡ row_added st row (first_no (questions k st (sheet_of (length sheet)) (call.Add row)))
added_by {k} {st} {after} {row} sheet r given = by_answer k (by_sheet sheet) st (sheet_of (length sheet)) row (first_no (questions k st (sheet_of (length sheet)) (call.Add row))) r after given.answers
