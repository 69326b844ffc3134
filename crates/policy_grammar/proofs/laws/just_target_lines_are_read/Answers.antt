use Rattle.policy_grammar.proofs.ReadingLaws.{just_lines_read}
use Rattle.policy_grammar.proofs.laws.just_target_lines_are_read.Goals as goal

pub returns : goal.returns
returns c = just_lines_read
