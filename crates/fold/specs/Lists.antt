-- Calls on both sessions, and where their answers stand. Assumes nothing.
use Rattle.std.specs.Prelude.{◌≡◌, ℕ, ◌<◌, ◌≤◌, List, map, length, take, drop, Ok, Err, Result}
use Rattle.calls.specs.Answers.{State}
use Rattle.calls.specs.Effects.{Tables, tables, lent}
use Rattle.calls.specs.declared.call.Answer.{Answer}
use Rattle.calls.specs.declared.call.Call.{Call}
use Rattle.session.specs.Sessions.{state}
use Rattle.sharing.specs.Played.{Sides, Played}
use Rattle.stl.specs.Structures.{Structure}
use Rattle.fold.specs.declared.both.Pair.{Pair}
use Rattle.fold.specs.declared.both.Side.{Side}

-- what the session of a side keeps
abbrev pub kept_by : {M : Type 0} → Side M → State
kept_by x = state x.session.now

-- the tables that are lent to a side
abbrev pub lent_to : {M : Type 0} → Side M → Tables
lent_to x = tables x.sheet.now x.work.now x.run.now

-- a side is lent what it was lent: the same map, the same session and the same tables, whatever stands in them
pub record SameLent {M : Type 0} (x y : Side M) : Type 0 where
  pub map : y.map.now ≡ x.map.now
  pub session : y.session.ghost_name ≡ x.session.ghost_name
  pub sheet : y.sheet.ghost_name ≡ x.sheet.ghost_name
  pub work : y.work.ghost_name ≡ x.work.ghost_name
  pub run : y.run.ghost_name ≡ x.run.ghost_name
  pub lengths : lent (lent_to y) ≡ lent (lent_to x)

-- two sessions and their tables
abbrev pub sides : {F G : Type 0} → Side F → Side G → Sides
sides x y = record { on_full = kept_by x; on_folded = kept_by y; tables_full = lent_to x; tables_folded = lent_to y }

-- the answers of the full session in the first n pairs
abbrev pub full_said : ℕ → List Pair → List Answer
full_said n pairs = map (λ p. p.full) (take n pairs)

-- and those of the folded session
abbrev pub folded_said : ℕ → List Pair → List Answer
folded_said n pairs = map (λ p. p.folded) (take n pairs)

-- the first pairs hold the answers to the first n calls; the other pairs are as they were
pub record Told (full folded : Structure) (table : List ℕ) (begin : Sides) (calls : List Call) (before : List Pair) (n : ℕ) (after : List Pair) (end : Sides) : Type 0 where
  pub played : Played full folded table begin (take n calls) (full_said n after) (folded_said n after) end
  pub past : drop n after ≡ drop n before

-- all calls are made, or none is where there is no room for the answers
abbrev pub ToldAll : Structure → Structure → List ℕ → Sides → List Call → List Pair → {T E : Type 0} → Result T E → List Pair → Sides → Type 0
ToldAll full folded table begin calls before (Ok x) after end = (length calls ≤ length before) × Told full folded table begin calls before (length calls) after end
ToldAll full folded table begin calls before (Err e) after end = (length before < length calls) × (after ≡ before) × (end ≡ begin)
