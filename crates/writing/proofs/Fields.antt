-- Fields put one after the other. Assumes nothing.
use Rattle.std.proofs.Common.{◌≡◌, ℕ, ◌+◌, ◌<◌, ◌≤◌, List, ◌∷◌, ◌++◌, map, length, get_or, drop, sym, ap, ◌∙◌}
use Rattle.std.proofs.lemmas.List.{append_assoc, at_drop_more, at_drop_all}
use Rattle.text.specs.Numbers.{written}
use Rattle.text.specs.Written.{tabbed}

-- the fields from number i on, and an end
abbrev pub fields_from : List ℕ → List ℕ → ℕ → List ℕ
fields_from end ns i = tabbed (map written (drop i ns)) ++ end

pub one_field : (end ns : List ℕ) (i : ℕ) → i < length ns → (9 ∷ written (get_or ns i 0)) ++ fields_from end ns (i + 1) ≡ fields_from end ns i
one_field end ns i h = ap (λ t. 9 ∷ t) (sym (append_assoc (written (get_or ns i 0)) (tabbed (map written (drop (i + 1) ns))) end)) ∙ sym (at_drop_more (λ l. tabbed (map written l) ++ end) ns i 0 h)

pub no_field : (end ns : List ℕ) (i : ℕ) → length ns ≤ i → end ≡ fields_from end ns i
no_field end ns i h = sym (at_drop_all (λ l. tabbed (map written l) ++ end) ns i h)
