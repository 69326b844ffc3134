use Rattle.ipt_lang.specs.Texts.{reset_words}
use Rattle.ipt_lang.proofs.rule_words.ResetWordsWords.put_spaced.Goals as goal

pub returns-then-self : goal.returns-then-self
unfolding reset_words
returns-then-self g c = rw c.if-self.true c.put_words.ensures
