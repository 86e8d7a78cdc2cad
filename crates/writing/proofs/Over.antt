-- Bytes written over a part of a buffer. Assumes nothing.
use Rattle.std.proofs.Common.{◌≡◌, ℕ, ◌+◌, ◌≤◌, List, ◌++◌, length, take, drop, sym, refl, ap, ◌∙◌, arith}
use borrow.Rule.Slice.PartMut.{put_mid}
use Rattle.std.specs.Borrow.{GName}
use Rattle.std.proofs.lemmas.List.{append_assoc, length-append, length-drop, length-take-le, take_at, drop_at, drop-drop}
use Rattle.writing.specs.Writes.{Seen, WritesOn, KeepsFront}

module _ (name : GName) (b t ys : List ℕ) (at k : ℕ) (fits : at + length t ≤ length b) (p : k ≡ length t) (q : ys ≡ t) where
  over : put_mid at k b ys ≡ take at b ++ (t ++ drop (at + length t) b)
  over = ap (λ n. put_mid at n b ys) p ∙ ap (λ u. put_mid at (length t) b u) q ∙ ap (λ u. take at b ++ (t ++ u)) (drop-drop (length t) at b)

  joined : put_mid at k b ys ≡ (take at b ++ t) ++ drop (at + length t) b
  joined = over ∙ sym (append_assoc (take at b) t (drop (at + length t) b))

  long : length (take at b ++ t) ≡ at + length t
  long = omega (arith, length-append (take at b) t, length-take-le at b (omega arith))

  sized : length (put_mid at k b ys) ≡ length b
  sized = ap length over ∙ simp (length-append, length-drop) (omega (arith, length-take-le at b (omega arith)))

  pub written_over : WritesOn (record { name = name; bytes = b; at = at }) t (record { name = name; bytes = put_mid at k b ys; at = at + length t })
  written_over = record {
    same = refl;
    at = refl;
    fits = fits;
    sized = sized;
    front = ap (take (at + length t)) joined ∙ take_at (take at b ++ t) (drop (at + length t) b) (at + length t) long;
    rest = ap (drop (at + length t)) joined ∙ drop_at (take at b ++ t) (drop (at + length t) b) (at + length t) long;
  }

  pub kept_before : KeepsFront (record { name = name; bytes = b; at = at }) (record { name = name; bytes = put_mid at k b ys; at = at + length t })
  kept_before = record {
    same = refl;
    at = omega arith;
    sized = sized;
    front = ap (take at) over ∙ take_at (take at b) (t ++ drop (at + length t) b) at (length-take-le at b (omega arith));
  }
