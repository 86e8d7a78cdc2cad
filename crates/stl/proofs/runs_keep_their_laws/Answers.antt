use Rattle.stl.proofs.Runs.{run_laws}
use Rattle.stl.proofs.runs_keep_their_laws.Goals as goal

pub returns : goal.returns
returns c = run_laws
