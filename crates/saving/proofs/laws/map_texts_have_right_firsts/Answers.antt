use Rattle.saving.proofs.Firsts.{two_map_faults}
use Rattle.saving.proofs.laws.map_texts_have_right_firsts.Goals as goal

pub returns : goal.returns
returns c = two_map_faults
