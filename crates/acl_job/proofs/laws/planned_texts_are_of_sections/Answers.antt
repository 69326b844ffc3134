use Rattle.acl_job.proofs.PlannedTextsLaws.{planned-texts}
use Rattle.acl_job.proofs.laws.planned_texts_are_of_sections.Goals as goal

pub returns : goal.returns
returns c = planned-texts
