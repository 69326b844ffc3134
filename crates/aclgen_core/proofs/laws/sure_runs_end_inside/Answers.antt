use Rattle.aclgen_core.proofs.SureLaws.{never-outside}
use Rattle.aclgen_core.proofs.laws.sure_runs_end_inside.Goals as goal

pub returns : goal.returns
returns c = never-outside
