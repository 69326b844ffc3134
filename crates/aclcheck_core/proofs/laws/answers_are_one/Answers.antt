use Rattle.aclcheck_core.proofs.OneAnswers.{one-policy, one-section}
use Rattle.aclcheck_core.proofs.laws.answers_are_one.Goals as goal

pub returns-clause-policies : goal.returns-clause-policies
returns-clause-policies c = one-policy

pub returns-clause-sections : goal.returns-clause-sections
returns-clause-sections c = one-section c.a_text_has_one_document.ensures
