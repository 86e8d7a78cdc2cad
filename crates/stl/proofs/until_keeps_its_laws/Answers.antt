use Rattle.stl.proofs.Until.{until_laws}
use Rattle.stl.proofs.until_keeps_its_laws.Goals as goal

pub returns : goal.returns
returns c = until_laws
