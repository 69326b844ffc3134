use Rattle.acl_job.proofs.OneAnswer.{one-job}
use Rattle.acl_job.proofs.laws.jobs_are_one.Goals as goal

pub returns : goal.returns
returns c = one-job
