use Rattle.acl_text.proofs.Runs.{longest-is}
use Rattle.acl_text.proofs.laws.longest_runs_are_found.Goals as goal

pub returns : goal.returns
returns c = longest-is
