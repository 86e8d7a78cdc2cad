-- A run read off a table of shortest lengths. Assumes nothing.
use Rattle.std.proofs.Common.{◌≡◌, ℕ, ◌+◌, ◌<◌, List, [], ◌∷◌, ◌++◌, length, get_or, drop, set, sym, refl, ap, ◌∙◌, subst, inl, inr, arith}
use Rattle.std.proofs.lemmas.List.{append_assoc, append-nil, length_push, set_at, drop_more, drop-set-lt}
use Rattle.stl.specs.Structures.{Structure, Move, WellFormed}
use Rattle.stl.specs.Until.{Shortest, Length}
use Rattle.stl.proofs.Shortest.{move_first, rest_shortest, one_length, least_length, in_A}
use Rattle.lengths.specs.Rounds.{StepsTo, Descends, Falls, Drawn}
use Rattle.lengths.specs.Tables.{Measured, Written}
use Rattle.lengths.proofs.Entries.{entry_length}

-- the way so far: i moves down the table, from s to `at`
pub record Drawing (k : Structure) (work : List ℕ) (s i at : ℕ) (before run : List ℕ) : Type 0 where
  pub way : List ℕ
  pub long : length way ≡ i
  pub holds : run ≡ (s ∷ way) ++ drop (i + 1) before
  pub state : at < k.size
  pub here : get_or work at 0 + i ≡ get_or work s 0
  pub onward : (rest : List ℕ) → Descends k work at rest → Descends k work s (way ++ rest)

module _ {k : Structure} {work : List ℕ} {s : ℕ} where
  -- s alone
  pub drawing_none : (run : List ℕ) → s < k.size → 0 < length run → Drawing k work s 0 s (set run 0 s) (set run 0 s)
  drawing_none (x ∷ run) h l = record { way = []; long = refl; holds = refl; state = h; here = omega arith; onward = λ rest d. d }
  drawing_none [] h l = absurd (omega arith)

  -- one move more
  pub drawing_more : WellFormed k → {i at t : ℕ} {before run : List ℕ} → Drawing k work s i at before run → i + 1 < length before → Move k at t → get_or work at 0 ≡ get_or work t 0 + 1 → Drawing k work s (i + 1) t before (set run (i + 1) t)
  drawing_more formed {i = i} {at = at} {t = t} {before = before} p l m e =
      let way = p.way in
      let split = p.holds ∙ ap (λ x. (s ∷ way) ++ x) (drop_more before (i + 1) 0 l) in
      record {
        way = way ++ (t ∷ []);
        long = length_push way t ∙ ap (λ n. n + 1) p.long;
        holds = ap (λ x. set x (i + 1) t) split ∙ set_at (s ∷ way) (get_or before (i + 1) 0) (drop (i + 1 + 1) before) t (i + 1) (omega (arith, p.long)) ∙ sym (append_assoc (s ∷ way) (t ∷ []) (drop (i + 1 + 1) before));
        state = formed.targets at t p.state m;
        here = omega (arith, p.here);
        onward = λ rest d. subst (Descends k work s) (sym (append_assoc way (t ∷ []) rest)) (p.onward (t ∷ rest) (m, e, d));
      }

  -- all moves are there
  pub drawing_all : {i at : ℕ} {before run : List ℕ} → Drawing k work s i at (set before 0 s) run → i ≡ get_or work s 0 → Drawn k work s before run
  drawing_all {i = i} {before = before} p e = record {
    rest = p.way;
    long = p.long ∙ e;
    down = subst (Descends k work s) (append-nil p.way) (p.onward [] (omega (arith, p.here)));
    holds = p.holds ∙ ap (λ x. (s ∷ p.way) ++ x) (drop-set-lt (i + 1) before 0 s (omega arith)) ∙ ap (λ n. (s ∷ p.way) ++ drop (n + 1) before) e;
  }

module _ {k : Structure} {A B : ℕ → Type 0} (formed : WellFormed k) (work : List ℕ) (all : (s : ℕ) → s < k.size → Measured k A B s (get_or work s 0)) where
  -- a shortest length is the entry
  is_entry : (s n w : ℕ) → Length k A B s n → Measured k A B s w → w ≡ n
  is_entry s n w l (inl x) = absurd (x.1 l.0 l.1.reaches)
  is_entry s n w l (inr x) = one_length k A B s w n x l

  -- the first move of a shortest run leads one down
  down_one : (s m : ℕ) → s < k.size → (rest : List ℕ) → Shortest k A B s rest → length rest ≡ m + 1 → StepsTo k work m s
  down_one s m h [] p e = absurd (omega arith)
  down_one s m h (t ∷ rest) p e =
      let step = p.reaches.run.0 in
      let e' : length rest ≡ m = omega arith in
      (t, step, is_entry t m _ (rest, rest_shortest k A B s t rest p, e') (all t (formed.targets s t h step)))

  -- a filled table falls
  pub table_falls : Falls k work
  table_falls s m h l e = let x = entry_length (subst (Measured k A B s) e (all s h)) (λ q. omega arith) in down_one s m h x.0 x.1 x.2

  -- a run down the table is as long as its first entry says
  down_long : (s : ℕ) (rest : List ℕ) → Descends k work s rest → length rest ≡ get_or work s 0
  down_long s [] d = sym d
  down_long s (t ∷ rest) d = omega (arith, d.1, down_long t rest d.2)

  -- a run of no moves
  ended : (s : ℕ) (rest : List ℕ) → Shortest k A B s rest → length rest ≡ 0 → Shortest k A B s []
  ended s [] p e = p
  ended s (t ∷ rest) p e = absurd (omega arith)

  -- a run down the table is a shortest one
  down_shortest : (s : ℕ) (rest : List ℕ) → s < k.size → get_or work s 0 < 4294967295 → Descends k work s rest → Shortest k A B s rest
  down_shortest s [] h l d = let x = subst (Length k A B s) d (entry_length (all s h) (λ q. omega arith)) in ended s x.0 x.1 x.2
  down_shortest s (t ∷ rest) h l d =
      let later = down_shortest t rest (formed.targets s t h d.0) (omega (arith, d.1)) d.2 in
      let here = entry_length (all s h) (λ q. omega arith) in
      record {
        reaches = move_first k A B s t rest (inl (in_A k A B s _ here (omega (arith, d.1)))) d.0 later.reaches;
        least = λ o r. omega (arith, least_length k A B s _ o here r, d.1, down_long t rest d.2);
      }

  -- so what is drawn from a filled table is a shortest run
  pub drawn_written : {s : ℕ} {before after : List ℕ} → s < k.size → get_or work s 0 < 4294967295 → Drawn k work s before after → Written k A B s before after (get_or work s 0)
  drawn_written {s = s} h l p = record {
    rest = p.rest;
    shortest = down_shortest s p.rest h l p.down;
    long = p.long;
    holds = p.holds;
  }
