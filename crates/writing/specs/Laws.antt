-- Counting and writing keep the laws of sinks. Assumes nothing.
use Rattle.std.proofs.Common.{◌≡◌, ℕ, ◌+◌, ◌-◌, ◌≤◌, List, [], ◌++◌, length, take, drop, sym, refl, ap, ◌∙◌, arith}
use Rattle.std.proofs.lemmas.List.{append_assoc, append-nil, length-append, take-take, drop-drop}
use Rattle.std.specs.Prelude.{⊤}
use Rattle.writing.specs.Sinks.{SinkLaws}
use Rattle.writing.specs.Writes.{Seen, room_in, WritesOn, KeepsFront}

-- a sink of which the bytes that are left are seen
pub counting_laws : {S : Type 0} (see : S → ℕ) → SinkLaws see (λ s text t. see t + length text ≡ see s) (λ s t. ⊤)
counting_laws see = record {
  left = λ s t text p. p;
  joins = λ s t u text more p q. omega (arith, length-append text more);
  nothing = λ s. omega arith;
  same = λ s. tt;
  on = λ s t u p q. tt;
}

joined : (s t u : Seen) (text more : List ℕ) → WritesOn s text t → WritesOn t more u → WritesOn s (text ++ more) u
joined s t u text more p q = record {
  same = q.same ∙ p.same;
  at = omega (arith, p.at, q.at, length-append text more);
  fits = omega (arith, q.fits, p.sized);
  sized = q.sized ∙ p.sized;
  front = q.front ∙ ap (λ x. x ++ more) p.front ∙ append_assoc (take s.at s.bytes) text more;
  rest = q.rest ∙ ap (λ n. drop n t.bytes) q.at ∙ sym (drop-drop (length more) t.at t.bytes) ∙ ap (drop (length more)) p.rest ∙ drop-drop (length more) t.at s.bytes ∙ ap (λ n. drop n s.bytes) (sym q.at);
}

-- a sink of which a buffer is seen, and a place within it
pub writing_laws : {S : Type 0} (see : S → Seen) → ((s : S) → (see s).at ≤ length (see s).bytes) →
    SinkLaws (λ s. room_in (see s)) (λ s text t. WritesOn (see s) text (see t)) (λ s t. KeepsFront (see s) (see t))
writing_laws see within = record {
  left = λ s t text p. omega (arith, p.at, p.fits, p.sized);
  joins = λ s t u text more p q. joined (see s) (see t) (see u) text more p q;
  nothing = λ s. record { same = refl; at = omega arith; fits = within s; sized = refl; front = sym (append-nil (take (see s).at (see s).bytes)); rest = refl };
  same = λ s. record { same = refl; at = omega arith; sized = refl; front = refl };
  on = λ s t u p q. record {
    same = q.same ∙ p.same;
    at = omega (arith, p.at, q.at);
    sized = q.sized ∙ p.sized;
    front = sym (take-take (see s).at (see t).at (see u).bytes p.at) ∙ ap (take (see s).at) q.front ∙ take-take (see s).at (see t).at (see t).bytes p.at ∙ p.front;
  };
}
