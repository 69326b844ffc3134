use Rattle.nft_lang.specs.Texts.{state_words}
use Rattle.nft_lang.proofs.rule_words.StateWordsWords.put_spaced.Goals as goal

pub returns-then-self : goal.returns-then-self
unfolding state_words
returns-then-self g c = rw c.if-self.true c.put.ensures
