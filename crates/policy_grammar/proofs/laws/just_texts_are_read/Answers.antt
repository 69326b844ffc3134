use Rattle.policy_grammar.proofs.ReadingLaws.{just_texts_read, just_texts_read_of_words}
use Rattle.policy_grammar.proofs.laws.just_texts_are_read.Goals as goal

pub returns-clause-lines : goal.returns-clause-lines
returns-clause-lines c = just_texts_read

pub returns-clause-words : goal.returns-clause-words
returns-clause-words c = just_texts_read_of_words
