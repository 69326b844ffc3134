use Rattle.std.proofs.Math.ListN.{replicate}
use Rattle.acl_words.proofs.WordTextLaws.{lines_are}
use Rattle.acl_words.proofs.line_words.LineWords.text.Goals as goal

pub returns : goal.returns
returns g c = rw (c.as_slice.ensures.text, ← c.self.view_is)
    (lines_are _ (replicate c.self.inside.count c.self.inside.place) c.self.inside.text c.self.invariant.1)
