-- What a call gives once its questions are answered, one lemma for each answer. Assumes nothing.
use Rattle.std.specs.Prelude.{◌↔◌}
use Rattle.std.proofs.Common.{◌≡◌, ℕ, ◌+◌, ◌<◌, ◌≤◌, Bool, true, false, ltb, leb, List, [], ◌∷◌, ◌++◌, length, Some, None, Option, sym, refl, ap, subst, arith}
use Rattle.std.proofs.lemmas.Bool.{lt-ltb, le-ltb, le-leb, lt-leb}
use Rattle.lengths.specs.Sheets.{by_sheet, Labelled}
use Rattle.map.proofs.Asked.{passes, stops}
use Rattle.map.specs.Questions.{ask, first_no}
use Rattle.stl.specs.Rows.{named, is_until, row_at, ForUntil, Reach}
use Rattle.stl.specs.Structures.{Structure}
use Rattle.stl.specs.declared.row.Row.{Row}
use Rattle.stl.specs.declared.row.Row.TheVariants.{Until}
use Rattle.calls.specs.Answers.{State, Lent, questions, Found, Grants, added, marked, label, verdict, witness, Decided}
use Rattle.calls.specs.Effects.{Tables, tables, alone, lent, Sought, Writes, Leaves, Gives}
use Rattle.calls.specs.declared.call.Answer.{Answer}
use Rattle.calls.specs.declared.call.Answer.TheVariants as answer
use Rattle.calls.specs.declared.call.Call.{Call}
use Rattle.calls.specs.declared.call.Call.TheVariants as call
use Rattle.calls.specs.declared.fault.SessionFault.{SessionFault}
use Rattle.calls.specs.declared.fault.SessionFault.TheVariants.{ShortSheet, NothingToMark, NoSuchState, NotMarked, NotUntil, ShortWork}

module _ {k : Structure} {st : State} {t : Tables} where
  pub granted : {c : Call} {a : Answer} {after : State} {u : Tables} → first_no (questions k st (lent t) c) ≡ None → Grants k (by_sheet t.sheet) st (lent t) c a after → Writes k st t c a u → Gives k st t c a after u
  granted {c = c} {a = a} {after = after} {u = u} e g w = record {
    answers = subst (Decided k (by_sheet t.sheet) st (lent t) c a after) (sym e) g;
    leaves = subst (Leaves k st t c a u) (sym e) w;
  }

  pub refused : {c : Call} {f : SessionFault} → first_no (questions k st (lent t) c) ≡ Some f → Gives k st t c (answer.Refused f) st t
  refused {c = c} {f = f} e = record {
    answers = subst (Decided k (by_sheet t.sheet) st (lent t) c (answer.Refused f) st) (sym e) (refl, refl);
    leaves = subst (Leaves k st t c (answer.Refused f) t) (sym e) refl;
  }

  pub add_given : {row : Row} {n : ℕ} {rows : List Row} → k.size ≤ length t.sheet → length st.rows ≡ n → n < 64 → named row n ≡ true → st.rows ++ (row ∷ []) ≡ rows → Gives k st t (call.Add row) (answer.Added n) (record { rows = rows; marked = st.marked }) t
  add_given {row = row} {rows = rows} h e i j q =
      subst (λ m. Gives k st t (call.Add row) (answer.Added m) (record { rows = rows; marked = st.marked }) t) e
      (subst (λ x. Gives k st t (call.Add row) (answer.Added (length st.rows)) (record { rows = x; marked = st.marked }) t) q
      (granted
      (passes (questions k st (lent t) (call.Add row)) (le-leb _ _ h, (lt-ltb (length st.rows) 64 (omega arith), (subst (λ m. named row m ≡ true) (sym e) j, tt))))
      (added row) refl))

  pub label_given : {s r : ℕ} {b : Bool} → k.size ≤ length t.sheet → s < k.size → r < st.marked → (b ≡ true) ↔ by_sheet t.sheet r s → Gives k st t (call.Label s r) (answer.Label b) st t
  label_given {s = s} {r = r} {b = b} h i j e =
      granted
      (passes (questions k st (lent t) (call.Label s r)) (le-leb _ _ h, (lt-ltb _ _ i, (lt-ltb _ _ j, tt))))
      (label s r b e) refl

  pub verdict_given : {r : ℕ} {b : Bool} → k.size ≤ length t.sheet → r < st.marked → (b ≡ true) ↔ ((s : ℕ) → k.start s ≡ true → by_sheet t.sheet r s) → Gives k st t (call.Verdict r) (answer.Verdict b) st t
  verdict_given {r = r} {b = b} h j e =
      granted
      (passes (questions k st (lent t) (call.Verdict r)) (le-leb _ _ h, (lt-ltb _ _ j, tt)))
      (verdict r b e) refl

  pub mark_given : {row : Row} {n : ℕ} {sheet : List ℕ} → k.size ≤ length t.sheet → st.marked < length st.rows → row_at st.rows st.marked ≡ row → Labelled k t.sheet st.marked row k.size sheet → Reach k (by_sheet t.sheet) row n → Gives k st t call.Mark (answer.Marked st.marked n) (record { rows = st.rows; marked = st.marked + 1 }) (record { sheet = sheet; work = t.work; run = t.run })
  mark_given {n = n} {sheet = sheet} h i e p q =
      granted
      (passes (questions k st (lent t) call.Mark) (le-leb _ _ h, (lt-ltb _ _ i, tt)))
      (marked n (subst (λ x. Reach k (by_sheet t.sheet) x n) (sym e) q))
      (subst (λ x. Labelled k t.sheet st.marked x k.size sheet) (sym e) p, refl, refl)

  module _ {s r : ℕ} (h : k.size ≤ length t.sheet) (i : s < k.size) (j : r < st.marked) where
    pub witness_not_until : is_until (row_at st.rows r) ≡ false → Gives k st t (call.Witness s r) (answer.Refused NotUntil) st t
    witness_not_until e =
        refused (stops (ask (leb k.size (length t.sheet)) ShortSheet ∷ (ask (ltb s k.size) NoSuchState ∷ (ask (ltb r st.marked) NotMarked ∷ []))) (is_until (row_at st.rows r)) NotUntil (ask (leb k.size (length t.work)) ShortWork ∷ [])
        (le-leb _ _ h, (lt-ltb _ _ i, (lt-ltb _ _ j, tt))) e)

    module _ {a b : ℕ} (e : row_at st.rows r ≡ Until a b) where
      pub witness_short_work : length t.work < k.size → Gives k st t (call.Witness s r) (answer.Refused ShortWork) st t
      witness_short_work l =
          refused (stops (ask (leb k.size (length t.sheet)) ShortSheet ∷ (ask (ltb s k.size) NoSuchState ∷ (ask (ltb r st.marked) NotMarked ∷ (ask (is_until (row_at st.rows r)) NotUntil ∷ [])))) (leb k.size (length t.work)) ShortWork []
          (le-leb _ _ h, (lt-ltb _ _ i, (lt-ltb _ _ j, (ap is_until e, tt)))) (lt-leb _ _ l))

      pub witness_given : k.size ≤ length t.work → {x : Answer} {u : Tables} → Found k (by_sheet t.sheet a) (by_sheet t.sheet b) s (length t.run) x → Sought k (by_sheet t.sheet a) (by_sheet t.sheet b) s t u x → Gives k st t (call.Witness s r) x st u
      witness_given l {x = x} {u = u} f w =
          granted
          (passes (questions k st (lent t) (call.Witness s r)) (le-leb _ _ h, (lt-ltb _ _ i, (lt-ltb _ _ j, (ap is_until e, (le-leb _ _ l, tt))))))
          (witness s r x (subst (λ row. ForUntil row (λ p q. Found k (by_sheet t.sheet p) (by_sheet t.sheet q) s (length t.run) x) ⊥) (sym e) f))
          (subst (λ row. ForUntil row (λ p q. Sought k (by_sheet t.sheet p) (by_sheet t.sheet q) s t u x) ⊥) (sym e) w)

-- every call but a witness
abbrev pub NoRun : Call → Type 0
NoRun (call.Add row) = Unit {0}
NoRun call.Mark = Unit {0}
NoRun (call.Label s r) = Unit {0}
NoRun (call.Verdict r) = Unit {0}
NoRun (call.Witness s r) = ⊥

-- is granted the same whatever else is lent
granted_beside : {k : Structure} {V : ℕ → ℕ → Type 0} {st : State} {l m : Lent} {c : Call} {a : Answer} {after : State} → NoRun c → Grants k V st l c a after → Grants k V st m c a after
granted_beside h (added row) = added row
granted_beside h (marked n r) = marked n r
granted_beside h (label s r b e) = label s r b e
granted_beside h (verdict r b e) = verdict r b e
granted_beside h (witness s r a w) = absurd h

-- a call that is lent its sheet alone gives the same beside a work table and a run table, and leaves them as they were
module _ (k : Structure) (st : State) (sheet sheets work run : List ℕ) where
  same_tables : alone sheets ≡ alone sheet → tables sheets work run ≡ tables sheet work run
  same_tables e = ap (λ t. tables t.sheet work run) e

  asked_beside : (c : Call) → NoRun c → first_no (questions k st (lent (tables sheet work run)) c) ≡ first_no (questions k st (lent (alone sheet)) c)
  asked_beside (call.Add row) h = refl
  asked_beside call.Mark h = refl
  asked_beside (call.Label s r) h = refl
  asked_beside (call.Verdict r) h = refl
  asked_beside (call.Witness s r) h = absurd h

  writes_beside : (c : Call) (a : Answer) → NoRun c → Writes k st (alone sheet) c a (alone sheets) → Writes k st (tables sheet work run) c a (tables sheets work run)
  writes_beside (call.Add row) a h w = same_tables w
  writes_beside call.Mark a h w = (w.0, refl, refl)
  writes_beside (call.Label s r) a h w = same_tables w
  writes_beside (call.Verdict r) a h w = same_tables w
  writes_beside (call.Witness s r) a h w = absurd h

  decided_beside : (c : Call) (a : Answer) (after : State) (o : Option SessionFault) → NoRun c → Decided k (by_sheet sheet) st (lent (alone sheet)) c a after o → Decided k (by_sheet sheet) st (lent (tables sheet work run)) c a after o
  decided_beside c a after None h d = granted_beside h d
  decided_beside c a after (Some f) h d = d

  left_beside : (c : Call) (a : Answer) (o : Option SessionFault) → NoRun c → Leaves k st (alone sheet) c a (alone sheets) o → Leaves k st (tables sheet work run) c a (tables sheets work run) o
  left_beside c a None h l = writes_beside c a h l
  left_beside c a (Some f) h l = same_tables l

  pub beside : (c : Call) (a : Answer) (after : State) → NoRun c → Gives k st (alone sheet) c a after (alone sheets) → Gives k st (tables sheet work run) c a after (tables sheets work run)
  beside c a after h g =
      let same = sym (asked_beside c h) in
      record {
        answers = subst (Decided k (by_sheet sheet) st (lent (tables sheet work run)) c a after) same (decided_beside c a after (first_no (questions k st (lent (alone sheet)) c)) h g.answers);
        leaves = subst (Leaves k st (tables sheet work run) c a (tables sheets work run)) same (left_beside c a (first_no (questions k st (lent (alone sheet)) c)) h g.leaves);
      }

-- the same call under another name
pub asked_as : {k : Structure} {st after : State} {t u : Tables} {c d : Call} {a : Answer} → d ≡ c → Gives k st t c a after u → Gives k st t d a after u
asked_as {k} {st} {after} {t} {u} {c} {d} {a} e g = subst (λ x. Gives k st t x a after u) (sym e) g

-- and the same answer
pub told_as : {k : Structure} {st after : State} {t u : Tables} {c : Call} {a : Answer} (b : Answer) → a ≡ b → Gives k st t c b after u → Gives k st t c a after u
told_as {k} {st} {after} {t} {u} {c} b e g = subst (λ x. Gives k st t c x after u) (sym e) g
