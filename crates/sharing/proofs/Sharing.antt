-- Two sessions across a fold answer alike, and each state has its class's labels. Assumes nothing.
use Rattle.std.specs.Prelude.{◌↔◌}
use Rattle.std.proofs.Common.{◌≡◌, ℕ, ◌+◌, ◌<◌, ◌≤◌, true, ◌⊎◌, List, ◌∷◌, map, length, get_or, take, sym, refl, ap, ◌∙◌, subst, subst₂, inl, inr, arith}
use Rattle.std.proofs.lemmas.Bool.{cases_lt}
use Rattle.calls.proofs.Carried.{then, answers_forth}
use Rattle.calls.proofs.Given.{NoRun}
use Rattle.calls.proofs.OneMap.{all_right}
use Rattle.calls.proofs.Questions.{for_operands, sought}
use Rattle.calls.proofs.Unique.{bool_same, decided_unique}
use Rattle.calls.specs.Alike.{Alike}
use Rattle.calls.specs.Answers.{State, Lent, questions, LogicAnswers}
use Rattle.calls.specs.Effects.{Tables, lent}
use Rattle.calls.specs.Histories.{Moment, History, opened, called, short, Kept, Right}
use Rattle.calls.specs.declared.call.Answer.{Answer}
use Rattle.calls.specs.declared.call.Call.{Call}
use Rattle.lengths.specs.Sheets.{label_of}
use Rattle.look.proofs.Bits.{same_word}
use Rattle.map.specs.Questions.{first_no}
use Rattle.stl.proofs.FoldLengths.{shortest_through}
use Rattle.stl.proofs.Folds.{both}
use Rattle.stl.specs.Folds.{Folds}
use Rattle.stl.specs.Formulas.{top, formulas}
use Rattle.stl.specs.Rows.{named, row_at, by_logic}
use Rattle.stl.specs.Structures.{Structure, WellFormed}
use Rattle.stl.specs.Until.{Shortest}
use Rattle.sharing.proofs.Idle.{idle, to_idle, from_idle}
use Rattle.sharing.specs.Claims.{FoldsShare}
use Rattle.sharing.specs.Pairs.{ForWitness, SameRoom, SameCall, Pairwise}
use Rattle.sharing.specs.Shares.{Through, Agree, Share}

module _ (full folded : Structure) (class : ℕ → ℕ) (well : WellFormed full) (welled : WellFormed folded) (fold : Folds full folded class) where
  -- both have a state, or neither has
  peopled : (0 < full.size) ↔ (0 < folded.size)
  peopled = ((λ h. omega (arith, fold.within 0 h)), (λ h. omega (arith, (fold.onto 0 h).1)))

  -- what a row says by the logic, across the fold
  logic_across : (st : State) (r s : ℕ) → s < full.size → by_logic full st.rows r s ↔ by_logic folded st.rows r (class s)
  logic_across st r s h = both full folded class well fold (get_or (formulas st.rows) r top) s h

  module _ (st : State) (counted : st.marked ≤ length st.rows) (earlier : (r : ℕ) → r < length st.rows → named (row_at st.rows r) r ≡ true) where
    -- the logic's answer goes across, where the tables have the same room
    across : (l p : Lent) (c d : Call) (a : Answer) (after : State) → Alike full folded class c d → (full.size ≤ l.sheet) ↔ (folded.size ≤ p.sheet) → (full.size ≤ l.work) ↔ (folded.size ≤ p.work) → l.run ≡ p.run →
        LogicAnswers full st l c a after → LogicAnswers folded st p d a after
    across l p c d a after e sheets works runs w =
        answers_forth full folded class well welled fold (by_logic full st.rows) (by_logic folded st.rows) st counted earlier (λ r h s i. logic_across st r s i)
        l p (λ n h. ((λ i. omega arith), (λ i. omega arith))) a after e sheets works w

    -- and whatever room they have, where no witness is asked for
    across_idle : (l p : Lent) (c d : Call) (a : Answer) (after : State) → NoRun c → NoRun d → Alike full folded class c d → (full.size ≤ l.sheet) ↔ (folded.size ≤ p.sheet) →
        LogicAnswers full st l c a after → LogicAnswers folded st p d a after
    across_idle l p c d a after h i e sheets w =
        from_idle folded (by_logic folded st.rows) st p d a after i
        (across (idle l) (idle p) c d a after e sheets ((λ z. no_more peopled.1 z), (λ z. no_more peopled.0 z)) refl (to_idle full (by_logic full st.rows) st l c a after h w))
      where
        no_more : {m n : ℕ} → (0 < m → 0 < n) → n ≤ 0 → m ≤ 0
        no_more {m} {n} f z = go (cases_lt 0 m)
          where
            go : (0 < m) ⊎ (m ≤ 0) → m ≤ 0
            go (inl h) = absurd (omega (arith, f h))
            go (inr h) = h

    -- at any call
    carried : (t u : Tables) (c d : Call) (a : Answer) (after : State) → Alike full folded class c d → (full.size ≤ length t.sheet) ↔ (folded.size ≤ length u.sheet) → ForWitness c (SameRoom full folded t u) →
        LogicAnswers full st (lent t) c a after → LogicAnswers folded st (lent u) d a after
    carried t u c d a after (Alike.add row) sheets room w = across_idle (lent t) (lent u) c d a after tt tt (Alike.add row) sheets w
    carried t u c d a after Alike.mark sheets room w = across_idle (lent t) (lent u) c d a after tt tt Alike.mark sheets w
    carried t u c d a after (Alike.label x y r e) sheets room w = across_idle (lent t) (lent u) c d a after tt tt (Alike.label x y r e) sheets w
    carried t u c d a after (Alike.verdict r) sheets room w = across_idle (lent t) (lent u) c d a after tt tt (Alike.verdict r) sheets w
    carried t u c d a after (Alike.witness x y r e) sheets room w = across (lent t) (lent u) c d a after (Alike.witness x y r e) sheets room.works room.runs w

  module _ (m n : Moment) (before : m.before ≡ n.before) (pair : SameCall full folded class m n)
      (counted : m.before.marked ≤ length m.before.rows) (earlier : (r : ℕ) → r < length m.before.rows → named (row_at m.before.rows r) r ≡ true)
      (one : Right full m) (two : Right folded n) where
    -- the answer carried across is the only one
    same_answer : (m.said ≡ n.said) × (m.after ≡ n.after)
    same_answer =
        let st = m.before in
        let p = lent n.given in
        let over : LogicAnswers folded st p n.asked m.said m.after = carried st counted earlier m.given n.given m.asked n.asked m.said m.after pair.asked pair.sheets pair.room one.logic in
        let own : LogicAnswers folded st p n.asked n.said n.after = subst (λ x. LogicAnswers folded x p n.asked n.said n.after) (sym before) two.logic in
        decided_unique folded (by_logic folded st.rows) st p n.asked m.said n.said m.after n.after (first_no (questions folded st p n.asked)) over own

    -- a run shown on the full structure, read through the fold
    read_through : Through folded class m
    read_through s r q e f =
        let st = m.before in
        let asked = sought full st (lent m.given) (by_logic full st.rows) s r q m.after (subst₂ (λ c a. LogicAnswers full st (lent m.given) c a m.after) e f one.logic) in
        for_operands (row_at st.rows r) r
        (λ x y. (rest : List ℕ) × (take (q + 1) m.left.run ≡ s ∷ rest) × Shortest full (by_logic full st.rows x) (by_logic full st.rows y) s rest)
        (λ x y. (rest : List ℕ) × (map class (take (q + 1) m.left.run) ≡ class s ∷ rest) × Shortest folded (by_logic folded st.rows x) (by_logic folded st.rows y) (class s) rest)
        ⊥ (earlier r (omega arith))
        (λ x y i j w. (
          map class w.0,
          ap (map class) w.1,
          shortest_through full folded class well fold (by_logic full st.rows x) (by_logic full st.rows y) (by_logic folded st.rows x) (by_logic folded st.rows y)
              (logic_across st x) (logic_across st y) s w.0 asked.0 w.2,
        ))
        (one.run s r q e f)

    agreed : Agree full folded class m n
    agreed = record { said = same_answer.0; on_full = one; on_folded = two; through = read_through }

  -- one more call of each, where the sessions kept the same before it
  onward : {st su : State} {sheet : List ℕ} {ms : List Moment} {Past : Type 0} → History full st sheet ms → (m n : Moment) → m.before ≡ st → n.before ≡ su → Right full m → Right folded n →
      SameCall full folded class m n → (st ≡ su) × Past → (m.after ≡ n.after) × (Agree full folded class m n × Past)
  onward {sheet = sheet} h m n e f one two pair so =
      let kept = subst (λ x. Kept full x sheet) (sym e) (all_right full well h).1 in
      let before = e ∙ so.0 ∙ sym f in
      ((same_answer m n before pair kept.counted kept.earlier one two).1, (agreed m n before pair kept.counted kept.earlier one two, so.1))

  -- two histories go on alike
  together : {st su : State} {sheet other : List ℕ} {ms ns : List Moment} → History full st sheet ms → History folded su other ns → Pairwise (SameCall full folded class) ms ns → (st ≡ su) × Pairwise (Agree full folded class) ms ns
  together (opened a b c d) (opened w x y z) p = (refl, tt)
  together (opened a b c d) (called k n u v w) p = absurd p
  together (opened a b c d) (short k n u v w) p = absurd p
  together (called h m e f g) (opened w x y z) p = absurd p
  together (short h m e f g) (opened w x y z) p = absurd p
  together (called h m e f g) (called k n u v w) p = onward h m n e u (all_right full well (called h m e f g)).0.0 (all_right folded welled (called k n u v w)).0.0 p.0 (together h k p.1)
  together (called h m e f g) (short k n u v w) p = onward h m n e u (all_right full well (called h m e f g)).0.0 (all_right folded welled (short k n u v w)).0.0 p.0 (together h k p.1)
  together (short h m e f g) (called k n u v w) p = onward h m n e u (all_right full well (short h m e f g)).0.0 (all_right folded welled (called k n u v w)).0.0 p.0 (together h k p.1)
  together (short h m e f g) (short k n u v w) p = onward h m n e u (all_right full well (short h m e f g)).0.0 (all_right folded welled (short k n u v w)).0.0 p.0 (together h k p.1)

  -- the words of a state and of its class have the same bits
  same_labels : {st su : State} {sheet other : List ℕ} → Kept full st sheet → Kept folded su other → st ≡ su → (s : ℕ) → s < full.size → get_or sheet s 0 ≡ get_or other (class s) 0
  same_labels {st} {su} {sheet} {other} one two e s h = same_word (get_or sheet s 0) (get_or other (class s) 0) (λ r. go r (cases_lt r st.marked))
    where
      there : class s < folded.size
      there = fold.within s h

      again : Kept folded st other
      again = subst (λ x. Kept folded x other) (sym e) two

      go : (r : ℕ) → (r < st.marked) ⊎ (st.marked ≤ r) → label_of sheet r s ≡ label_of other r (class s)
      go r (inl i) =
          let on = then (one.faithful r s i h) (logic_across st r s h) in
          let off = again.faithful r (class s) i there in
          bool_same (label_of sheet r s) (label_of other r (class s)) ((λ x. off.1 (on.0 x)), (λ x. on.1 (off.0 x)))
      go r (inr i) = one.blank r s i h ∙ sym (again.blank r (class s) i there)

  pub share : Share full folded class
  share = record {
    opens = peopled;
    sessions = λ st su sheet other ms ns p.
        let so = together p.on_full p.on_folded p.alike in
        record { kept = so.0; calls = so.1; labels = same_labels (all_right full well p.on_full).1 (all_right folded welled p.on_folded).1 so.0 };
  }

pub folds_share : FoldsShare
folds_share full folded class well welled fold = share full folded class well welled fold
