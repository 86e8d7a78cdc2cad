-- What the tables have at a state that is there. Assumes nothing.
use Rattle.std.proofs.Common.{◌≡◌, ℕ, ◌+◌, ◌<◌, ◌≤◌, true, ltb, length, get_or, Some, None, Option, sym, refl, arith}
use Rattle.std.proofs.lemmas.Bool.{ltb-true}
use Rattle.map.specs.Questions.{first_no}
use Rattle.listed.specs.Sound.{Sound, sound, climb, within}
use Rattle.listed.specs.Tables.{Tables, questions, listed}
use Rattle.listed.specs.declared.fault.ListedFault.{ListedFault}

pub record There {L : Type 0} (fault : Option ListedFault) (t : Tables L) (s : ℕ) : Type 0 where
  pub made : fault ≡ None
  pub state : s < length t.looks
  pub sound_is : Sound t
  pub climbs : get_or t.firsts s 0 ≤ get_or t.firsts (s + 1) 0
  pub ends : get_or t.firsts (s + 1) 0 ≤ length t.targets

pub there : {L : Type 0} (fault : Option ListedFault) (t : Tables L) (s : ℕ) → fault ≡ first_no (questions t) → ltb s (listed fault t).size ≡ true → There fault t s
there None t s e h =
    let l = ltb-true _ _ h in
    let p = sound (sym e) in
    record { made = refl; state = l; sound_is = p; climbs = climb p s l; ends = within p (s + 1) (omega arith) }
there (Some f) t s e h = let l = ltb-true _ _ h in absurd (omega arith)
