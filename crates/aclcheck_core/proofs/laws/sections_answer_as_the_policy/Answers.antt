use Rattle.aclcheck_core.proofs.WrittenSections.{sections-answer}
use Rattle.aclcheck_core.proofs.laws.sections_answer_as_the_policy.Goals as goal

pub returns : goal.returns
returns c = sections-answer
