use Rattle.acl_words.proofs.WordTextLaws.{lines_are}
use Rattle.acl_words.proofs.word_texts.WordText.text.Goals as goal

pub returns : goal.returns
returns c = rw (c.as_slice.ensures.value, ← c.self.view_is)
    (lines_are _ c.self.inside.places c.self.inside.text.items c.self.invariant)
