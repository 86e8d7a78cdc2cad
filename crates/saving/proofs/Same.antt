-- The tables of a map make that map. Assumes nothing.
use Rattle.std.proofs.Common.{◌≡◌, ℕ, zero, suc, ◌+◌, ◌-◌, ◌<◌, ◌≤◌, Bool, true, false, not, ◌&&◌, eqb, ltb, List, [], ◌++◌, length, get_or, take, is_some, Some, None, Option, sym, refl, ap, ◌∙◌, ⊎_elim, add-one, arith}
use Rattle.std.proofs.lemmas.List.FromFn.{length-map-range_with_len, get_or-map-range_with_len}
use Rattle.std.proofs.ByRecursion.{All-get_or, All-from_get_or, All-append}
use Rattle.std.proofs.lemmas.List.{append_assoc, append-nil, take_at, drop_at, nil_from_length}
use Rattle.std.proofs.lemmas.Option.{slice_get-get_or, slice_get_past}
use Rattle.std.proofs.lemmas.Bool.{and_from, and_left, cond-true, cond-false, lt-ltb, le-ltb, le-leb, eq-eqb, cases_lt, cases_eq, cases_Bool}
use Rattle.std.specs.List.{between, AllByRecursion}
use Rattle.listed.specs.Tables.{right_first, questions, list_of, listed}
use Rattle.look.specs.declared.switch.SwitchLook.{SwitchLook}
use Rattle.map.proofs.Asked.{passes}
use Rattle.map.specs.Meaning.{Meaning, Bounded}
use Rattle.map.specs.Questions.{first_no}
use Rattle.saving.specs.ReadBack.{SameMap, moves_below}
use Rattle.saving.specs.Texts.{marks_of, start_of}
use Rattle.saving.proofs.Held.{look_at, start_at, targets_below, tables_of, length_targets, moves_climb}
use Rattle.saving.proofs.Right.{right_from}

-- a look that is there is its word
look_back : (o : Option SwitchLook) → is_some o ≡ true → Some (record { marks = marks_of o }) ≡ o
look_back None e = let z : ◌≡◌ {A = Bool} true false = cc in absurd (let q : ◌≡◌ {A = ℕ} 0 1 = cc in omega arith)
look_back (Some look) e = refl

no_look : (o : Option SwitchLook) → is_some o ≡ false → o ≡ None
no_look None e = refl
no_look (Some look) e = absurd (let q : ◌≡◌ {A = ℕ} 0 1 = cc in omega arith)

start_back : (b : Bool) → b ≡ not (eqb (start_of b) 0)
start_back true = refl
start_back false = refl

-- the part of an append between its other two
middle : (xs ys zs : List ℕ) (i j : ℕ) → length xs ≡ i → j ≡ i + length ys → between i j ((xs ++ ys) ++ zs) ≡ ys
middle xs ys zs i j e f =
    ap (λ us. between i j us) (append_assoc xs ys zs)
    ∙ ap (λ us. take (j - i) us) (drop_at xs (ys ++ zs) i e)
    ∙ take_at ys zs (j - i) (omega arith)

module _ (m : Meaning SwitchLook) where
  -- the targets of the first states are a front of those of all
  front : (s n : ℕ) → s ≤ n → (us : List ℕ) × (targets_below m n ≡ targets_below m s ++ us)
  front s zero h = let e : s ≡ 0 = omega arith in ([], ap (targets_below m) (sym e) ∙ sym (append-nil (targets_below m s)))
  front s (suc n) h = ⊎_elim
      (λ e. ([], ap (targets_below m) (sym e) ∙ sym (append-nil (targets_below m s))))
      (λ ne. let w = front s n (omega arith) in (w.0 ++ m.list n, ap (λ us. us ++ m.list n) w.1 ∙ append_assoc (targets_below m s) w.0 (m.list n)))
      (cases_eq s (suc n))

  module _ (b : Bounded m) where
    targets_fit : (n : ℕ) → AllByRecursion (λ t. t < m.size) (targets_below m n)
    targets_fit zero = tt
    targets_fit (suc n) = All-append (λ t. t < m.size) (targets_below m n) (m.list n) (targets_fit n) (All-from_get_or (λ t. t < m.size) (m.list n) 0 (b.targets_fit n))

    first_is : (s : ℕ) → s ≤ m.size → get_or (tables_of m).firsts s 0 ≡ moves_below m s
    first_is s h = get_or-map-range_with_len (moves_below m) 0 (m.size + 1) s s 0 (omega arith) (omega arith)

    -- each first is right
    first_right : moves_below m m.size ≤ 32768 → (i : ℕ) → i < length (tables_of m).firsts → right_first (tables_of m).firsts (length (tables_of m).targets) i ≡ true
    first_right few i h =
        let long = length-map-range_with_len (moves_below m) 0 (m.size + 1) in
        let here = first_is i (omega arith) in
        let all = length_targets m m.size in
        right_from (tables_of m).firsts (length (tables_of m).targets) i (record {
          begins = λ e. here ∙ ap (moves_below m) e;
          climbs = λ l. omega (arith, first_is (i - 1) (omega arith), moves_climb m (i - 1) i (omega arith));
          ends = λ l. let e : i ≡ m.size = omega arith in here ∙ ap (moves_below m) e ∙ sym all;
          few = λ l. omega arith;
        })

    -- nothing is refused
    pub not_refused : moves_below m m.size ≤ 32768 → first_no (questions (tables_of m)) ≡ None
    not_refused few =
        let looks = length-map-range_with_len (look_at m) 0 m.size in
        let starts = length-map-range_with_len (start_at m) 0 m.size in
        let firsts = length-map-range_with_len (moves_below m) 0 (m.size + 1) in
        passes (questions (tables_of m)) (
          le-leb (length (tables_of m).looks) 4096 (omega (arith, b.size_fits)),
          (
            and_from _ _ (eq-eqb (length (tables_of m).starts) (length (tables_of m).looks) (omega arith)) (eq-eqb (length (tables_of m).firsts) (length (tables_of m).looks + 1) (omega arith)),
            (
              first_right few,
              (
                λ k h. lt-ltb (get_or (tables_of m).targets k 0) (length (tables_of m).looks) (omega (arith, All-get_or (λ t. t < m.size) (targets_below m m.size) k 0 h (targets_fit m.size))),
                tt,
              ),
            ),
          ),
        )

    -- the list of a state that is there
    list_is : (s : ℕ) → s < m.size → list_of (tables_of m) s ≡ m.list s
    list_is s h =
        let w = front (suc s) m.size h in
        let one = ap (moves_below m) (add-one s) in
        ap (λ us. between (get_or (tables_of m).firsts s 0) (get_or (tables_of m).firsts (s + 1) 0) us) w.1
        ∙ middle (targets_below m s) (m.list s) w.0 _ _ (length_targets m s ∙ sym (first_is s (omega arith))) (omega (arith, first_is s (omega arith), first_is (s + 1) (omega arith)))

    no_start : (s : ℕ) → m.size ≤ s → m.start s ≡ false
    no_start s h = ⊎_elim (λ t. absurd (omega (arith, b.starts_fit s t))) (λ f. f) (cases_Bool (m.start s))

    pub same : SameMap m (listed None (tables_of m))
    same =
        let long = length-map-range_with_len (look_at m) 0 m.size in
        record {
          size = sym long;
          start = λ s. ⊎_elim
              (λ l. start_back (m.start s)
              ∙ ap (λ k. not (eqb k 0)) (sym (get_or-map-range_with_len (start_at m) 0 m.size s s 0 l (omega arith)))
              ∙ ap (λ t. t && not (eqb (get_or (tables_of m).starts s 0) 0)) (sym (lt-ltb s (length (tables_of m).looks) (omega arith))))
              (λ l. no_start s l ∙ sym (and_left (ltb s (length (tables_of m).looks)) _ (le-ltb _ _ (omega arith))))
              (cases_lt s m.size);
          look = λ s. ⊎_elim
              (λ l. sym (slice_get-get_or (tables_of m).looks s (look_at m s) (omega arith) ∙ ap Some (get_or-map-range_with_len (look_at m) 0 m.size s s (look_at m s) l (omega arith)) ∙ look_back (m.look s) (b.shown s ∙ lt-ltb _ _ l)))
              (λ l. no_look (m.look s) (b.shown s ∙ le-ltb _ _ l) ∙ sym (slice_get_past (tables_of m).looks s (omega arith)))
              (cases_lt s m.size);
          list = λ s. ⊎_elim
              (λ l. sym (cond-true (ltb s (length (tables_of m).looks)) (list_of (tables_of m) s) [] (lt-ltb _ _ (omega arith)) ∙ list_is s l))
              (λ l. nil_from_length (m.list s) (b.no_list s l) ∙ sym (cond-false (ltb s (length (tables_of m).looks)) (list_of (tables_of m) s) [] (le-ltb _ _ (omega arith))))
              (cases_lt s m.size);
        }
