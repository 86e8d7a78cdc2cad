-- A call that asks for no witness has the same answer whatever work table and run table it is lent. Assumes nothing.
use Rattle.std.proofs.Common.{◌≡◌, ℕ, Some, None, Option, sym, refl, subst}
use Rattle.calls.proofs.Given.{NoRun}
use Rattle.calls.specs.Answers.{State, Lent, questions, Grants, added, marked, label, verdict, witness, Decided, Answers}
use Rattle.calls.specs.declared.call.Answer.{Answer}
use Rattle.calls.specs.declared.call.Call.{Call}
use Rattle.calls.specs.declared.call.Call.TheVariants as call
use Rattle.calls.specs.declared.fault.SessionFault.{SessionFault}
use Rattle.map.specs.Questions.{first_no}
use Rattle.stl.specs.Structures.{Structure}

-- what is lent, but for the work table and the run table
abbrev pub idle : Lent → Lent
idle l = record { sheet = l.sheet; work = 0; run = 0 }

module _ (k : Structure) (V : ℕ → ℕ → Type 0) (st : State) (l m : Lent) where
  granted_idle : {c : Call} {a : Answer} {after : State} → NoRun c → Grants k V st l c a after → Grants k V st m c a after
  granted_idle h (added row) = added row
  granted_idle h (marked n r) = marked n r
  granted_idle h (label s r b e) = label s r b e
  granted_idle h (verdict r b e) = verdict r b e
  granted_idle h (witness s r a w) = absurd h

  decided_idle : (c : Call) (a : Answer) (after : State) (o : Option SessionFault) → NoRun c → Decided k V st l c a after o → Decided k V st m c a after o
  decided_idle c a after None h d = granted_idle h d
  decided_idle c a after (Some f) h d = d

module _ (k : Structure) (V : ℕ → ℕ → Type 0) (st : State) (l : Lent) where
  asked_idle : (c : Call) → NoRun c → first_no (questions k st l c) ≡ first_no (questions k st (idle l) c)
  asked_idle (call.Add row) h = refl
  asked_idle call.Mark h = refl
  asked_idle (call.Label s r) h = refl
  asked_idle (call.Verdict r) h = refl
  asked_idle (call.Witness s r) h = absurd h

  pub to_idle : (c : Call) (a : Answer) (after : State) → NoRun c → Answers k V st l c a after → Answers k V st (idle l) c a after
  to_idle c a after h w = subst (Decided k V st (idle l) c a after) (asked_idle c h) (decided_idle k V st l (idle l) c a after (first_no (questions k st l c)) h w)

  pub from_idle : (c : Call) (a : Answer) (after : State) → NoRun c → Answers k V st (idle l) c a after → Answers k V st l c a after
  from_idle c a after h w = subst (Decided k V st l c a after) (sym (asked_idle c h)) (decided_idle k V st (idle l) l c a after (first_no (questions k st (idle l) c)) h w)
