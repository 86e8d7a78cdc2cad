-- Calls on two sessions side by side keep them so. Assumes nothing.
use Rattle.std.proofs.Common.{◌≡◌, ℕ, ◌<◌, ◌≤◌, Bool, true, ltb, ◌⊎◌, List, [], ◌∷◌, ◌++◌, length, sym, refl, ap, ◌∙◌, subst, ap₂, inl, inr, arith}
use Rattle.std.proofs.lemmas.List.{map_push}
use Rattle.std.proofs.lemmas.Bool.{cases_lt, lt-ltb, cond-true, le-ltb, cond-false}
use Rattle.std.specs.List.{AllByRecursion}
use Rattle.calls.proofs.OneMap.{all_right}
use Rattle.calls.specs.Alike.{SameState, Alike}
use Rattle.calls.specs.Answers.{Lent}
use Rattle.calls.specs.Claims.{moment}
use Rattle.calls.specs.Effects.{Tables, lent}
use Rattle.calls.specs.Histories.{Moment, Gave, called}
use Rattle.calls.specs.declared.call.Answer.{Answer}
use Rattle.calls.specs.declared.call.Call.{Call}
use Rattle.calls.specs.declared.call.Call.TheVariants as call
use Rattle.map.proofs.Moves.{well_formed}
use Rattle.map.specs.Meaning.{Meaning, Bounded, structure}
use Rattle.stl.specs.Structures.{Structure}
use Rattle.sharing.proofs.Chains.{folds_stand}
use Rattle.sharing.specs.Accepts.{class_of, Accepts}
use Rattle.sharing.specs.Called.{AfterBoth}
use Rattle.sharing.specs.Pairs.{ForWitness, SameRoom, SideBySide}
use Rattle.sharing.specs.Played.{Sides, Played, Since, AfterAll}
use Rattle.sharing.specs.Through.{read, asked_through}

-- the tables are as long as they were
played_lengths : {full folded : Structure} {table : List ℕ} {begin end : Sides} {calls : List Call} {answers others : List Answer} → Played full folded table begin calls answers others end →
    (lent end.tables_full ≡ lent begin.tables_full) × (lent end.tables_folded ≡ lent begin.tables_folded)
played_lengths Played.none = (refl, refl)
played_lengths (Played.more p c a b end g e h f) = let so = played_lengths p in (e ∙ so.0, f ∙ so.1)

-- what a witness needs of the tables is about their lengths
same_room : (full folded : Structure) (t u v w : Tables) → lent v ≡ lent t → lent w ≡ lent u → (c : Call) → ForWitness c (SameRoom full folded t u) → ForWitness c (SameRoom full folded v w)
same_room full folded t u v w e f (call.Add row) r = tt
same_room full folded t u v w e f call.Mark r = tt
same_room full folded t u v w e f (call.Label s q) r = tt
same_room full folded t u v w e f (call.Verdict q) r = tt
same_room full folded t u v w e f (call.Witness s q) r =
    let works = λ (l : Lent). l.work in
    record {
      runs = ap (λ l. l.run) e ∙ r.runs ∙ sym (ap (λ l. l.run) f);
      works = (
        (λ h. subst (λ n. folded.size ≤ n) (sym (ap works f)) (r.works.0 (subst (λ n. full.size ≤ n) (ap works e) h))),
        (λ h. subst (λ n. full.size ≤ n) (sym (ap works e)) (r.works.1 (subst (λ n. folded.size ≤ n) (ap works f) h))),
      );
    }

-- the last of a list
all_but_last : {X : Type 0} (P : X → Type 0) (xs : List X) (x : X) → AllByRecursion P (xs ++ (x ∷ [])) → AllByRecursion P xs × P x
all_but_last P [] x h = (tt, h.0)
all_but_last P (y ∷ xs) x h = let so = all_but_last P xs x h.1 in ((h.0, so.0), so.1)

module _ {L : Type 0} (sign : L → ℕ → Bool) (same : L → L → Bool) (agree : (a b : L) → same a b ≡ true → (k : ℕ) → sign a k ≡ sign b k)
    (full folded : Meaning L) (table : List ℕ) (fits : Bounded full) (fitted : Bounded folded) where
  module _ (accepts : Accepts sign same full folded table) where
    -- a state goes as its class, a missing one as a missing one
    state_like : (s : ℕ) → SameState (structure sign full) (structure sign folded) (class_of table) s (read table s)
    state_like s = go (cases_lt s full.size)
      where
        go : (s < full.size) ⊎ (full.size ≤ s) → SameState (structure sign full) (structure sign folded) (class_of table) s (read table s)
        go (inl h) = inl (h, cond-true (ltb s (length table)) (class_of table s) 4294967295 (lt-ltb s (length table) (omega (arith, accepts.sized))))
        go (inr h) =
            let e : read table s ≡ 4294967295 = cond-false (ltb s (length table)) (class_of table s) 4294967295 (le-ltb s (length table) (omega (arith, accepts.sized))) in
            inr (h, omega (arith, e, fitted.size_fits))

    call_like : (c : Call) → Alike (structure sign full) (structure sign folded) (class_of table) c (asked_through table c)
    call_like (call.Add row) = Alike.add row
    call_like call.Mark = Alike.mark
    call_like (call.Label s r) = Alike.label s (read table s) r (state_like s)
    call_like (call.Verdict r) = Alike.verdict r
    call_like (call.Witness s r) = Alike.witness s (read table s) r (state_like s)

  -- one call
  pub after_both : (m n : Moment) → n.asked ≡ asked_through table m.asked → Gave (structure sign full) m → Gave (structure sign folded) n → AfterBoth sign same full folded table m n
  after_both m n e g h accepts ms ns p room =
      let k = structure sign full in
      let d = structure sign folded in
      let kept = (all_right k (well_formed sign full fits) p.on_full).1 in
      let other = (all_right d (well_formed sign folded fitted) p.on_folded).1 in
      let pair : SideBySide k d (class_of table) m.after n.after m.left.sheet n.left.sheet (m ∷ ms) (n ∷ ns) = record {
        on_full = called p.on_full m refl refl g;
        on_folded = called p.on_folded n refl refl h;
        alike = (
          record {
            asked = subst (Alike k d (class_of table) m.asked) (sym e) (call_like accepts m.asked);
            sheets = ((λ x. other.fits), (λ x. kept.fits));
            room = room;
          },
          p.alike,
        );
      } in
      record { pair = pair; shared = (folds_stand sign same agree full folded table fits fitted accepts).1.sessions _ _ _ _ _ _ pair }

  -- a list of calls
  pub after_all : {begin end : Sides} {calls : List Call} {answers others : List Answer} → Played (structure sign full) (structure sign folded) table begin calls answers others end → AfterAll sign same full folded table begin calls answers others end
  after_all Played.none accepts ms ns p rooms = record {
    said = refl;
    later = ms;
    other = ns;
    since_full = Since.none;
    since_folded = Since.none;
    pair = p;
    shared = (folds_stand sign same agree full folded table fits fitted accepts).1.sessions _ _ _ _ _ _ p;
  }
  after_all {begin} (Played.more {calls = calls} {others = others} {now = now} played c a b end g e h f) accepts ms ns p rooms =
      let room = all_but_last (λ x. ForWitness x (SameRoom (structure sign full) (structure sign folded) begin.tables_full begin.tables_folded)) calls c rooms in
      let so = after_all played accepts ms ns p room.0 in
      let m = moment now.on_full now.tables_full c a end.on_full end.tables_full in
      let n = moment now.on_folded now.tables_folded (asked_through table c) b end.on_folded end.tables_folded in
      let long = played_lengths played in
      let next = after_both m n refl g h accepts so.later so.other so.pair (same_room _ _ _ _ _ _ long.0 long.1 c room.1) in
      record {
        said = ap₂ (λ xs x. xs ++ (x ∷ [])) so.said next.shared.calls.0.said;
        later = m ∷ so.later;
        other = n ∷ so.other;
        since_full = Since.more so.since_full m;
        since_folded = subst (λ xs. Since ns xs (others ++ (b ∷ [])) (n ∷ so.other)) (sym (map_push (asked_through table) calls c)) (Since.more so.since_folded n);
        pair = next.pair;
        shared = next.shared;
      }
