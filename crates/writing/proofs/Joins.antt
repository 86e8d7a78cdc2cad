-- Texts put one after the other. Assumes nothing.
use Rattle.std.proofs.Common.{◌≡◌, ℕ, ◌+◌, ◌<◌, List, [], ◌++◌, length, IsErr, Ok, Err, Result, subst, arith}
use Rattle.std.proofs.lemmas.List.{length-append}
use Rattle.writing.specs.Sinks.{Put, SinkLaws}
use Rattle.writing.specs.declared.fault.SaveFault.{SaveFault}

module _ {S : Type 0} {room : S → ℕ} {puts : S → List ℕ → S → Type 0} {keeps : S → S → Type 0} where
  -- the same text under another name
  pub put_same : {s t : S} {x y : List ℕ} {r : Result (Unit {0}) SaveFault} → x ≡ y → Put room puts keeps s x r t → Put room puts keeps s y r t
  put_same {s = s} {t = t} {r = r} e p = subst (λ z. Put room puts keeps s z r t) e p

  module _ (l : SinkLaws room puts keeps) where
    -- a text and then another, where the first was put
    pub put_then : {s t u : S} {x y : List ℕ} {r : Result (Unit {0}) SaveFault} → Put room puts keeps s x (Ok tt) t → Put room puts keeps t y r u → Put room puts keeps s (x ++ y) r u
    put_then {s = s} {t = t} {u = u} {x = x} {y = y} {r = Ok z} p q = record { put = l.joins s t u x y p.put q.put; full = tt; kept = l.on s t u p.kept q.kept }
    put_then {s = s} {t = t} {u = u} {x = x} {y = y} {r = Err f} p q = record { put = tt; full = omega (arith, q.full, l.left s t x p.put, length-append x y); kept = l.on s t u p.kept q.kept }

    -- no room for the first, so none for both
    pub put_stop : {s t : S} {x : List ℕ} {f : SaveFault} {r : Result (Unit {0}) SaveFault} (y : List ℕ) → Put room puts keeps s x (Err f) t → IsErr r → Put room puts keeps s (x ++ y) r t
    put_stop {s = s} {t = t} {x = x} {f = f} {r = Ok z} y p e = grind arith
    put_stop {s = s} {t = t} {x = x} {f = f} {r = Err g} y p e = record { put = tt; full = omega (arith, p.full, length-append x y); kept = p.kept }
