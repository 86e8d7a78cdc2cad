-- A text put piece by piece. Assumes nothing.
use Rattle.std.proofs.Common.{◌≡◌, ℕ, zero, suc, ◌+◌, ◌<◌, ◌≤◌, List, [], ◌++◌, IsErr, Ok, Err, Result, sym, ap, ◌∙◌, ⊎_elim, add-one, arith}
use Rattle.std.proofs.lemmas.List.{append_assoc, append-nil}
use Rattle.std.proofs.lemmas.Bool.{cases_eq}
use Rattle.writing.specs.Sinks.{Put, SinkLaws}
use Rattle.writing.specs.declared.fault.SaveFault.{SaveFault}
use Rattle.writing.proofs.Joins.{put_same, put_then, put_stop}

-- the pieces below n, one after the other
abbrev pub pieces : (ℕ → List ℕ) → ℕ → List ℕ
pieces f zero = []
pieces f (suc n) = pieces f n ++ f n

one_more : (f : ℕ → List ℕ) (k : ℕ) → pieces f (k + 1) ≡ pieces f k ++ f k
one_more f k = ap (pieces f) (add-one k)

-- some of the pieces are a front of all
front_of : (f : ℕ → List ℕ) (k n : ℕ) → k ≤ n → (u : List ℕ) × (pieces f n ≡ pieces f k ++ u)
front_of f k zero h = let e : k ≡ 0 = omega arith in ([], ap (pieces f) (sym e) ∙ sym (append-nil (pieces f k)))
front_of f k (suc n) h = ⊎_elim
    (λ e. ([], ap (pieces f) (sym e) ∙ sym (append-nil (pieces f k))))
    (λ ne. let w = front_of f k n (omega arith) in (w.0 ++ f n, ap (λ t. t ++ f n) w.1 ∙ append_assoc (pieces f k) w.0 (f n)))
    (cases_eq k (suc n))

module _ {S : Type 0} {room : S → ℕ} {puts : S → List ℕ → S → Type 0} {keeps : S → S → Type 0} (l : SinkLaws room puts keeps) (f : ℕ → List ℕ) (k : ℕ) where
  -- a piece without room, so all n have none
  pub put_short : {s t u : S} {x : SaveFault} {r : Result (Unit {0}) SaveFault} (n : ℕ) → k < n → Put room puts keeps s (pieces f k) (Ok tt) t → Put room puts keeps t (f k) (Err x) u → IsErr r → Put room puts keeps s (pieces f n) r u
  put_short n h p q e =
      let w = front_of f (k + 1) n (omega arith) in
      let whole : pieces f n ≡ (pieces f k ++ f k) ++ w.0 = w.1 ∙ ap (λ t. t ++ w.0) (one_more f k) in
      put_same (sym whole) (put_stop l w.0 (put_then l p q) e)
