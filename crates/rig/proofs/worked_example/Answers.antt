-- Each fact is worked out by the definitions.
use Rattle.std.proofs.Common.{refl}
use Rattle.switches.specs.Masks.{every, set_of}
use Rattle.rig.proofs.FourStates.{labelled, from_0, from_3}
use Rattle.rig.proofs.worked_example.Goals as goal

pub returns : goal.returns
unfolding every set_of
returns c = record {
  marks = refl;
  made = refl;
  starts = refl;
  moves = refl;
  rows = refl;
  words = refl;
  labels = labelled;
  run_from_0 = from_0;
  run_from_3 = from_3;
  levels = refl;
  same_step = refl;
  next_step = refl;
  switches_made = refl;
  switches_size = refl;
  switches_move = refl;
}
