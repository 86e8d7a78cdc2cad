-- A first that is as it should be passes its question. Assumes nothing.
use Rattle.std.proofs.Common.{◌≡◌, ℕ, ◌+◌, ◌-◌, true, not, ◌&&◌, ◌||◌, eqb, ltb, leb, List, length, get_or, ⊎_elim, arith}
use Rattle.std.proofs.lemmas.Bool.{and_from, or_left, or_right, not_from_false, lt-ltb, le-leb, eq-eqb, ne_eqb, cases_lt, cases_eq}
use Rattle.listed.specs.Sound.{RightFirst}
use Rattle.listed.specs.Tables.{right_first}

pub right_from : (firsts : List ℕ) (count i : ℕ) → RightFirst firsts count i → right_first firsts count i ≡ true
right_from firsts count i r =
    let begins : (not (eqb i 0) || eqb (get_or firsts i 0) 0) ≡ true = ⊎_elim
    (λ e. or_right (not (eqb i 0)) _ (eq-eqb (get_or firsts i 0) 0 (r.begins e)))
    (λ ne. or_left (not (eqb i 0)) _ (not_from_false (eqb i 0) (ne_eqb i 0 ne)))
    (cases_eq i 0) in
    let climbs : (eqb i 0 || leb (get_or firsts (i - 1) 0) (get_or firsts i 0)) ≡ true = ⊎_elim
    (λ l. or_right (eqb i 0) _ (le-leb (get_or firsts (i - 1) 0) (get_or firsts i 0) (r.climbs l)))
    (λ l. or_left (eqb i 0) _ (eq-eqb i 0 (omega arith)))
    (cases_lt 0 i) in
    let ends : (ltb (i + 1) (length firsts) || (eqb (get_or firsts i 0) count && leb count 32768)) ≡ true = ⊎_elim
    (λ l. or_left (ltb (i + 1) (length firsts)) _ (lt-ltb (i + 1) (length firsts) l))
    (λ l. or_right (ltb (i + 1) (length firsts)) _ (and_from _ _ (eq-eqb (get_or firsts i 0) count (r.ends l)) (le-leb count 32768 (r.few l))))
    (cases_lt (i + 1) (length firsts)) in
    and_from _ _ begins (and_from _ _ climbs ends)
