-- The map of a panel and commands keeps to the bounds of all maps. This stands beside the definitions since each
-- switch map carries it. Assumes nothing.
use Rattle.std.specs.Prelude.{◌≡◌, ℕ, ◌^◌, ◌<◌, ◌≤◌, Bool, true, false, cond, ◌&&◌, List, [], ◌∷◌, map, length, is_some, Some, None, filter, Option, nat_lt, slice_index, refl}
use Rattle.std.proofs.Common.{⊎_elim, sym, ap, subst, arith, pow_mono}
use Rattle.std.proofs.ByRecursion.{All-get_or}
use Rattle.std.proofs.lemmas.List.{length-map}
use Rattle.std.proofs.lemmas.List.Sums.{length-filter, count_by-le-length}
use Rattle.std.proofs.lemmas.Bool.{and_parts, and_left, or_from, cond-true, cond-false, lt-ltb, le-ltb, ltb-true, cases_lt}
use Rattle.std.specs.List.{AllByRecursion}
use Rattle.map.specs.Meaning.{Bounded}
use Rattle.switches.specs.Commands.{is_open, target_of, targets_of}
use Rattle.switches.specs.Masks.{within, all_off}
use Rattle.look.proofs.Bits.{none_high}
use Rattle.switches.specs.Sets.{set_below}
use Rattle.switches.specs.Switched.{right_command, right_commands, right_panel, right_masks, look_of, switched}
use Rattle.switches.specs.declared.command.Command.{Command}
use Rattle.switches.specs.declared.fault.SwitchFault.{SwitchFault}
use Rattle.switches.specs.declared.panel.Panel.{Panel}

-- a right command turns no switch that is not there
target_below : (n : ℕ) (c : Command) (s : ℕ) → right_command n c ≡ true → s < 2 ^ n → target_of c s < 2 ^ n
target_below n c s e h =
    let masks = (and_parts _ (all_off c.turn_on c.turn_off) e).0 in
    let turns = (and_parts _ (within n c.turn_on && within n c.turn_off) masks).1 in
    let on : c.turn_on < 2 ^ n = ltb-true _ _ (and_parts _ (within n c.turn_off) turns).0 in
    set_below _ 32 n (λ j l _. or_from _ _ (and_left _ _ (none_high n s j h l)) (none_high n c.turn_on j on l))

targets_below : (n : ℕ) (commands : List Command) (s : ℕ) → right_commands n commands ≡ true → s < 2 ^ n → AllByRecursion (λ t. t < 2 ^ n) (targets_of commands s)
targets_below n [] s e h = tt
targets_below n (c ∷ more) s e h =
    let p = and_parts (right_command n c) (right_commands n more) e in
    one_more (is_open c s) (filter (λ x. is_open x s) more) (targets_below n more s p.1 h) (target_below n c s p.0 h)
  where
    one_more : (b : Bool) (rest : List Command) → AllByRecursion (λ t. t < 2 ^ n) (map (λ x. target_of x s) rest) → target_of c s < 2 ^ n → AllByRecursion (λ t. t < 2 ^ n) (map (λ x. target_of x s) (cond b (c ∷ rest) rest))
    one_more true rest below here = (here, below)
    one_more false rest below here = below

-- there are no more targets than commands
pub targets_few : (commands : List Command) (s : ℕ) → length (targets_of commands s) ≤ length commands
targets_few commands s =
    omega (arith, length-map (filter (λ c. is_open c s) commands) (λ c. target_of c s), length-filter (λ c. is_open c s) commands, count_by-le-length (λ c. is_open c s) commands)

some_if : {X : Type 0} (b : Bool) (x : X) → is_some (cond b (Some x) None) ≡ b
some_if true x = refl
some_if false x = refl

-- what holds of the list of each state and of the empty list holds of every list
by_list : (P : List ℕ → Type 0) (s n : ℕ) (list : List ℕ) → (s < n → P list) → P [] → P (cond (nat_lt s n) list [])
by_list P s n list there empty =
    ⊎_elim
    (λ l. subst P (sym (cond-true (nat_lt s n) list [] (lt-ltb _ _ l))) (there l))
    (λ l. subst P (sym (cond-false (nat_lt s n) list [] (le-ltb _ _ l))) empty)
    (cases_lt s n)

pub bounded : (fault : Option SwitchFault) (p : Panel) (commands : List Command) → p.bits ≤ 12 → length commands ≤ 32 → right_masks p commands ≡ true → Bounded (switched fault p commands)
bounded None p commands sized few masked =
    let n = 2 ^ p.bits in
    let rights = (and_parts (right_panel p) (right_commands p.bits commands) masked).1 in
    record {
      size_fits = pow_mono {i = p.bits} {j = 12} sized;
      list_fits = λ s. by_list (λ xs. length xs ≤ 32768) s n (targets_of commands s) (λ _. omega (arith, targets_few commands s)) (omega arith);
      targets_fit = λ s i. by_list (λ xs. i < length xs → slice_index xs i < n) s n (targets_of commands s) (λ l h. All-get_or (λ t. t < n) (targets_of commands s) i 0 h (targets_below p.bits commands s rights l)) (λ h. absurd (omega arith));
      starts_fit = λ s h. ltb-true _ _ (and_parts (nat_lt s n) _ h).0;
      shown = λ s. some_if (nat_lt s n) (look_of p s);
      no_list = λ s h. ap length (cond-false (nat_lt s n) (targets_of commands s) [] (le-ltb _ _ h));
    }
bounded (Some fault) p commands sized few masked = record {
  size_fits = omega arith;
  list_fits = λ s. omega arith;
  targets_fit = λ s i h. absurd (omega arith);
  starts_fit = λ s h. let z : ◌≡◌ {A = ℕ} 0 1 = cc in absurd (omega arith);
  shown = λ s. sym (le-ltb s 0 (omega arith));
  no_list = λ s h. refl;
}
