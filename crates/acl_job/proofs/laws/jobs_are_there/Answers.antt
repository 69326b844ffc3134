use Rattle.acl_job.proofs.OneAnswer.{some-job}
use Rattle.acl_job.proofs.laws.jobs_are_there.Goals as goal

pub returns : goal.returns
returns c = some-job
