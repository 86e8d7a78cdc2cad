-- A session and its calls, as the promises of calls speak of them. Assumes nothing.
use Rattle.std.specs.Prelude.{ℕ, ◌<◌, List, take, Ok, Err, Result}
use Rattle.calls.specs.Answers.{State}
use Rattle.calls.specs.declared.call.Answer.{Answer}
use Rattle.calls.specs.declared.call.Answer.TheVariants as answer
use Rattle.calls.specs.declared.fault.SessionFault.{SessionFault}
use Rattle.rules.specs.declared.list.RuleList.{RuleList}
use Rattle.stl.specs.declared.row.Row.{Row}
use Rattle.session.specs.declared.held.Session.{Session}
use Rattle.session.specs.declared.rows.Marked.{Marked}

-- the rows of a rule list
abbrev pub rows_of : RuleList → List Row
rows_of rules = take rules.len rules.rows

-- what the session keeps
abbrev pub state : Session → State
state x = record { rows = rows_of x.rules; marked = x.marked }

-- a session that was opened, by what it keeps
abbrev pub kept : Result Session SessionFault → Result State SessionFault
kept (Ok x) = Ok (state x)
kept (Err f) = Err f

-- the answer to a call, where `f` makes it of what is granted
abbrev pub answered : {T : Type 0} → (T → Answer) → Result T SessionFault → Answer
answered f (Ok x) = f x
answered f (Err e) = answer.Refused e

abbrev pub marking : Marked → Answer
marking m = answer.Marked m.row m.reach

-- a reach is below the number of states
abbrev pub ReachBelow : ℕ → Result Marked SessionFault → Type 0
ReachBelow n (Ok m) = 0 < n → m.reach < n
ReachBelow n (Err e) = Unit {0}
