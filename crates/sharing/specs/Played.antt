-- A list of calls, made on two sessions side by side. Assumes nothing.
use Rattle.std.specs.Prelude.{◌≡◌, ℕ, Bool, List, [], ◌∷◌, ◌++◌, map}
use Rattle.std.specs.List.{AllByRecursion}
use Rattle.calls.specs.Answers.{State}
use Rattle.calls.specs.Effects.{Tables, lent, Gives}
use Rattle.calls.specs.Histories.{Moment}
use Rattle.calls.specs.declared.call.Answer.{Answer}
use Rattle.calls.specs.declared.call.Call.{Call}
use Rattle.map.specs.Meaning.{Meaning, structure}
use Rattle.stl.specs.Structures.{Structure}
use Rattle.sharing.specs.Accepts.{class_of, Accepts}
use Rattle.sharing.specs.Pairs.{ForWitness, SameRoom, SideBySide}
use Rattle.sharing.specs.Shares.{Shared}
use Rattle.sharing.specs.Through.{asked_through}

-- two sessions and the tables lent to them
pub record Sides : Type 0 where
  pub on_full : State
  pub on_folded : State
  pub tables_full : Tables
  pub tables_folded : Tables

-- each call in turn on both, each on the outcome of those before, the tables as long as they were: the answers of the full session
-- and of the folded one
pub data Played (full folded : Structure) (table : List ℕ) (begin : Sides) : List Call → List Answer → List Answer → Sides → Type 0 where
  none : Played full folded table begin [] [] [] begin
  more : {calls : List Call} {answers others : List Answer} {now : Sides} → Played full folded table begin calls answers others now →
      (c : Call) (a b : Answer) (end : Sides) →
      Gives full now.on_full now.tables_full c a end.on_full end.tables_full → lent end.tables_full ≡ lent now.tables_full →
      Gives folded now.on_folded now.tables_folded (asked_through table c) b end.on_folded end.tables_folded → lent end.tables_folded ≡ lent now.tables_folded →
      Played full folded table begin (calls ++ (c ∷ [])) (answers ++ (a ∷ [])) (others ++ (b ∷ [])) end

-- the calls of a session are those of its past and then these, with these answers
pub data Since (past : List Moment) : List Call → List Answer → List Moment → Type 0 where
  none : Since past [] [] past
  more : {calls : List Call} {answers : List Answer} {ms : List Moment} → Since past calls answers ms → (m : Moment) → Since past (calls ++ (m.asked ∷ [])) (answers ++ (m.said ∷ [])) (m ∷ ms)

-- two sessions, side by side after the calls too, gave the same answers, and share
pub record PlayedBoth (full folded : Structure) (table : List ℕ) (ms ns : List Moment) (calls : List Call) (answers others : List Answer) (end : Sides) : Type 0 where
  pub said : answers ≡ others
  pub later : List Moment
  pub other : List Moment
  pub since_full : Since ms calls answers later
  pub since_folded : Since ns (map (asked_through table) calls) others other
  pub pair : SideBySide full folded (class_of table) end.on_full end.on_folded end.tables_full.sheet end.tables_folded.sheet later other
  pub shared : Shared full folded (class_of table) end.on_full end.on_folded end.tables_full.sheet end.tables_folded.sheet later other

-- so it is across an accepted fold, whatever was asked before, where each witness is lent the same room
abbrev pub AfterAll : {L : Type 0} → (L → ℕ → Bool) → (L → L → Bool) → Meaning L → Meaning L → List ℕ → Sides → List Call → List Answer → List Answer → Sides → Type 0
AfterAll sign same full folded table begin calls answers others end =
    Accepts sign same full folded table →
    (ms ns : List Moment) → SideBySide (structure sign full) (structure sign folded) (class_of table) begin.on_full begin.on_folded begin.tables_full.sheet begin.tables_folded.sheet ms ns →
    AllByRecursion (λ c. ForWitness c (SameRoom (structure sign full) (structure sign folded) begin.tables_full begin.tables_folded)) calls →
    PlayedBoth (structure sign full) (structure sign folded) table ms ns calls answers others end
