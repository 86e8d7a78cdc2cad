-- What is found of an offered fold: each question is asked of all states before the next, and the first no decides. Assumes nothing.
use Rattle.std.specs.Prelude.{◌≡◌, ℕ, ◌<◌, Bool, ◌⊎◌, List, length, Some, None, Option, ◌↔◌}
use Rattle.std.specs.Option.{unwrap_or}
use Rattle.map.specs.Meaning.{Meaning}
use Rattle.sharing.specs.Accepts.{HasClass, LooksAlike, MovesForth, MovesBack, StartsForth, StartsBack, IsClass, Accepts}
use Rattle.foldcheck.specs.Faults.{refusal}
use Rattle.foldcheck.specs.declared.fault.FoldFault.{FoldFault}
use Rattle.foldcheck.specs.declared.fault.FoldFault.TheVariants.{WrongLength, NoClass, OtherLook, MoveLost, MoveAdded, StartLost, StartAdded, NotAClass}

-- the order of the questions: by number, and each from state 0 on; a refusal that carries no state counts as at 0
abbrev pub Before : FoldFault → FoldFault → Type 0
Before f g = ((refusal f).number < (refusal g).number) ⊎ (((refusal f).number ≡ (refusal g).number) × (unwrap_or (refusal f).carried 0 < unwrap_or (refusal g).carried 0))

module _ {L : Type 0} (sign : L → ℕ → Bool) (same : L → L → Bool) (full folded : Meaning L) (table : List ℕ) where
  -- the question to which the fault is the no has a yes, at the state that the fault carries
  abbrev pub Yes : FoldFault → Type 0
  Yes WrongLength = length table ≡ full.size
  Yes (NoClass s) = HasClass sign same full folded table s
  Yes (OtherLook s) = LooksAlike sign same full folded table s
  Yes (MoveLost s) = MovesForth sign same full folded table s
  Yes (MoveAdded s) = MovesBack sign same full folded table s
  Yes (StartLost s) = StartsForth sign same full folded table s
  Yes (StartAdded d) = StartsBack sign same full folded table d
  Yes (NotAClass d) = IsClass sign same full folded table d

  -- that question is asked at that state: five are asked of the full states, two of the folded ones
  abbrev pub Asked : FoldFault → Type 0
  Asked WrongLength = Unit {0}
  Asked (NoClass s) = s < full.size
  Asked (OtherLook s) = s < full.size
  Asked (MoveLost s) = s < full.size
  Asked (MoveAdded s) = s < full.size
  Asked (StartLost s) = s < full.size
  Asked (StartAdded d) = d < folded.size
  Asked (NotAClass d) = d < folded.size

  -- the fault is a no, and what was asked before it has a yes
  pub record FirstNo (f : FoldFault) : Type 0 where
    pub asked : Asked f
    pub no : Yes f → ⊥
    pub before : (g : FoldFault) → Asked g → Before g f → Yes g

  -- accepted, or refused with a fault
  abbrev pub Judges : Option FoldFault → Type 0
  Judges None = Accepts sign same full folded table
  Judges (Some f) = FirstNo f

-- the check accepts exactly when all has a yes, and refuses with a fault exactly when that is the first no
abbrev pub Decided : {L : Type 0} → (L → ℕ → Bool) → (L → L → Bool) → Meaning L → Meaning L → List ℕ → Option FoldFault → Type 0
Decided sign same full folded table o = (v : Option FoldFault) → Judges sign same full folded table v ↔ (v ≡ o)
