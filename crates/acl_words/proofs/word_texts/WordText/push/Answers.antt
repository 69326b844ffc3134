use Rattle.acl_words.proofs.WordTextLaws.{words_with}
use Rattle.acl_words.proofs.word_texts.WordText.push.Goals as goal

pub invariant_of-self : goal.invariant_of-self
invariant_of-self c = (words_with _ (record { place = c.args.place; text = c.args.text.now })
    c.self.inside.places c.push_word.new.places c.self.inside.text.items c.push_word.new.all.items
    c.self.invariant c.requires c.in-Ok.ensures.places c.in-Ok.ensures.text).1

pub returns-in-Ok-clause-ok : goal.returns-in-Ok-clause-ok
returns-in-Ok-clause-ok c = rw (← c.self.view_is) (words_with _ (record { place = c.args.place; text = c.args.text.now })
    c.self.inside.places c.push_word.new.places c.self.inside.text.items c.push_word.new.all.items
    c.self.invariant c.requires c.in-Ok.ensures.places c.in-Ok.ensures.text).0
