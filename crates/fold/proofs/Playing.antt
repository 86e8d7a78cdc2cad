-- Calls made on both sessions, one at a time. Assumes nothing.
use Rattle.std.proofs.Common.{◌≡◌, ℕ, ◌+◌, ◌<◌, ◌≤◌, List, [], ◌∷◌, ◌++◌, map, length, get_or, take, drop, set, sym, refl, ap, ◌∙◌, subst, arith}
use Rattle.std.proofs.lemmas.List.{take_more, take_more_set, take_all, drop-drop, drop-set-lt, map_push}
use Rattle.calls.specs.Effects.{lent, Gives}
use Rattle.calls.specs.declared.call.Answer.{Answer}
use Rattle.calls.specs.declared.call.Call.{Call}
use Rattle.sharing.specs.Played.{Sides, Played}
use Rattle.sharing.specs.Through.{asked_through}
use Rattle.stl.specs.Structures.{Structure}
use Rattle.fold.specs.Lists.{SameLent, full_said, folded_said, Told}
use Rattle.fold.specs.declared.both.Pair.{Pair}
use Rattle.fold.specs.declared.both.Side.{Side}

-- a side is lent the same from step to step
pub lent_still : {M : Type 0} {x y z : Side M} → SameLent x y → SameLent y z → SameLent x z
lent_still a b = record {
  map = b.map ∙ a.map;
  session = b.session ∙ a.session;
  sheet = b.sheet ∙ a.sheet;
  work = b.work ∙ a.work;
  run = b.run ∙ a.run;
  lengths = b.lengths ∙ a.lengths;
}

-- one pair more
said_more : (f : Pair → Answer) (pairs : List Pair) (n : ℕ) (p : Pair) → n < length pairs → map f (take (n + 1) (set pairs n p)) ≡ map f (take n pairs) ++ (f p ∷ [])
said_more f pairs n p h = ap (map f) (take_more_set pairs n p h) ∙ map_push f (take n pairs) p

module _ {full folded : Structure} {table : List ℕ} {begin : Sides} {calls : List Call} {before : List Pair} where
  pub told_none : Told full folded table begin calls before 0 before begin
  told_none = record { played = Played.none; past = refl }

  pub told_more : {n : ℕ} {after : List Pair} {now end : Sides} (d : Call) {p : Pair} → Told full folded table begin calls before n after now → n < length calls → n < length after →
      Gives full now.on_full now.tables_full (get_or calls n d) p.full end.on_full end.tables_full → lent end.tables_full ≡ lent now.tables_full →
      Gives folded now.on_folded now.tables_folded (asked_through table (get_or calls n d)) p.folded end.on_folded end.tables_folded → lent end.tables_folded ≡ lent now.tables_folded →
      Told full folded table begin calls before (n + 1) (set after n p) end
  told_more {n} {after} {now} {end} d {p} so h i g e k f = record {
    played =
        subst (λ cs. Played full folded table begin cs (full_said (n + 1) (set after n p)) (folded_said (n + 1) (set after n p)) end) (sym (take_more calls n d h))
        (subst (λ xs. Played full folded table begin (take n calls ++ (get_or calls n d ∷ [])) xs (folded_said (n + 1) (set after n p)) end) (sym (said_more (λ q. q.full) after n p i))
        (subst (λ xs. Played full folded table begin (take n calls ++ (get_or calls n d ∷ [])) (full_said n after ++ (p.full ∷ [])) xs end) (sym (said_more (λ q. q.folded) after n p i))
        (Played.more so.played (get_or calls n d) p.full p.folded end g e k f)));
    past = drop-set-lt (n + 1) after n p (omega arith) ∙ sym (drop-drop 1 n after) ∙ ap (drop 1) so.past ∙ drop-drop 1 n before;
  }

  -- all of them
  pub played_all : {n : ℕ} {after : List Pair} {end : Sides} → length calls ≤ n → Told full folded table begin calls before n after end → Played full folded table begin calls (full_said n after) (folded_said n after) end
  played_all {n} {after} {end} h so = subst (λ cs. Played full folded table begin cs (full_said n after) (folded_said n after) end) (take_all n calls h) so.played
