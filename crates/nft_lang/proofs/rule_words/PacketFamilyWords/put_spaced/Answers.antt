use Rattle.nft_lang.specs.Texts.{family_words}
use Rattle.nft_lang.proofs.rule_words.PacketFamilyWords.put_spaced.Goals as goal

pub returns-in-V4 : goal.returns-in-V4
unfolding family_words
returns-in-V4 g c = rw (c.in-Mixed.is, c.in-V4.is) c.put.ensures

pub returns-in-V6 : goal.returns-in-V6
unfolding family_words
returns-in-V6 g c = rw (c.in-Mixed.is, c.in-V6.is) c.put-in-V6.ensures
