use Rattle.ipt_lang.specs.Texts.{flags_words}
use Rattle.ipt_lang.proofs.rule_words.FlagsWordsWords.put_spaced.Goals as goal

pub returns-in-Some : goal.returns-in-Some
unfolding flags_words
returns-in-Some g c = rw (c.in-Some.is, ← c.mask_word.ensures, ← c.set_word.ensures) c.put_spaced.ensures
