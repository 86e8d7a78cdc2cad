-- What a session says of a marked row. Assumes nothing.
use Rattle.std.specs.Prelude.{◌↔◌}
use Rattle.std.proofs.Common.{◌≡◌, ℕ, ◌<◌, ◌≤◌, Bool, true, List, length, Ok, Result, subst}
use Rattle.std.proofs.lemmas.Bool.{lt-ltb, le-leb}
use Rattle.calls.specs.Answers.{State, questions, Grants, verdict, Decided}
use Rattle.calls.specs.Effects.{alone, lent, Gives}
use Rattle.calls.specs.declared.call.Answer.{Answer}
use Rattle.calls.specs.declared.call.Answer.TheVariants as answer
use Rattle.calls.specs.declared.call.Call.TheVariants as call
use Rattle.calls.specs.declared.fault.SessionFault.{SessionFault}
use Rattle.lengths.specs.Sheets.{by_sheet}
use Rattle.map.proofs.Asked.{passes}
use Rattle.session.specs.Reaches.{reach_questions, ReachGiven, ReachDecided, ReachAnswers}
use Rattle.session.specs.Sessions.{answered}
use Rattle.stl.specs.Rows.{row_at, Reach}
use Rattle.stl.specs.Structures.{Structure}
use Rattle.report.specs.Results.{Right}

module _ (k : Structure) (st : State) (sheet : List ℕ) (r : ℕ) (h : k.size ≤ length sheet) (i : r < st.marked) where
  -- every start has the label of row r
  abbrev Everywhere : Type 0
  Everywhere = (s : ℕ) → k.start s ≡ true → by_sheet sheet r s

  -- what a granted answer says
  abbrev Says : Answer → Type 0
  Says (answer.Added n) = ⊥
  Says (answer.Marked n m) = ⊥
  Says (answer.Label b) = ⊥
  Says (answer.Verdict b) = (b ≡ true) ↔ Everywhere
  Says (answer.Witness n) = ⊥
  Says (answer.Refused f) = ⊥

  says : {a : Answer} {after : State} → Grants k (by_sheet sheet) st (lent (alone sheet)) (call.Verdict r) a after → Says a
  says (verdict q b e) = e

  -- it is granted
  pub judged : (x : Result Bool SessionFault) {after : State} → Gives k st (alone sheet) (call.Verdict r) (answered answer.Verdict x) after (alone sheet) → Says (answered answer.Verdict x)
  judged x {after = after} g = says (subst (Decided k (by_sheet sheet) st (lent (alone sheet)) (call.Verdict r) (answered answer.Verdict x) after) (passes (questions k st (lent (alone sheet)) (call.Verdict r)) (le-leb _ _ h, (lt-ltb _ _ i, tt))) g.answers)

  -- both answers are those of row r
  pub found : (b : Bool) (n : ℕ) {after : State} → Gives k st (alone sheet) (call.Verdict r) (answer.Verdict b) after (alone sheet) → ReachAnswers k st sheet r (Ok n) → Right k st.rows sheet r (record { yes = b; reach = n })
  found b n g e =
      let x : ReachGiven k st sheet r (Ok n) = subst (ReachDecided k st sheet r (Ok n)) (passes (reach_questions k st (length sheet) r) (le-leb _ _ h, (lt-ltb _ _ i, tt))) e in
      let given = x.given in
      let same : x.reach ≡ n = cc in
      record {
        verdict = judged (Ok b) g;
        reach = subst (Reach k (by_sheet sheet) (row_at st.rows r)) same x.right;
        below = subst (λ m. 0 < k.size → m < k.size) same x.below;
      }

  -- the same of calls that were not refused
  pub found_in : {x : Result Bool SessionFault} {y : Result ℕ SessionFault} {after : State} (b : Bool) (n : ℕ) → x ≡ Ok b → y ≡ Ok n →
      Gives k st (alone sheet) (call.Verdict r) (answered answer.Verdict x) after (alone sheet) → ReachAnswers k st sheet r y → Right k st.rows sheet r (record { yes = b; reach = n })
  found_in {after = after} b n p q g e =
      found b n (subst (λ z. Gives k st (alone sheet) (call.Verdict r) (answered answer.Verdict z) after (alone sheet)) p g) (subst (ReachAnswers k st sheet r) q e)
