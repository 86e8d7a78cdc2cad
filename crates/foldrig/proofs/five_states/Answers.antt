-- Each fact is worked out by the definitions.
use Rattle.std.proofs.Common.{refl}
use Rattle.foldrig.proofs.Classes.{accepted, move_added, start_lost}
use Rattle.foldrig.proofs.five_states.Goals as goal

pub returns : goal.returns
returns c = record {
  looks = refl;
  starts = refl;
  firsts = refl;
  targets = refl;
  made = refl;
  classes = refl;
  accepted = accepted;
  fewer_made = refl;
  move_added = move_added;
  more_made = refl;
  start_lost = start_lost;
}
