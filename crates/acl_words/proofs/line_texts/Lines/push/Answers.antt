use Rattle.acl_words.specs.Stretches.{places_of}
use Rattle.acl_words.proofs.LineLaws.{lines_with}
use Rattle.acl_words.proofs.line_texts.Lines.push.Goals as goal

pub invariant_of-self : goal.invariant_of-self
invariant_of-self c = (lines_with _ (record { place = c.args.place; text = c.args.text.now })
    (places_of c.self.inside.stretches.items) (places_of c.push_line.new.stretches.items)
    c.self.inside.text.items c.push_line.new.all.items c.self.invariant c.requires
    c.in-Ok.ensures.places c.in-Ok.ensures.text).1

pub returns-in-Ok-clause-ok : goal.returns-in-Ok-clause-ok
returns-in-Ok-clause-ok c = rw (← c.self.view_is) (lines_with _ (record { place = c.args.place; text = c.args.text.now })
    (places_of c.self.inside.stretches.items) (places_of c.push_line.new.stretches.items)
    c.self.inside.text.items c.push_line.new.all.items c.self.invariant c.requires
    c.in-Ok.ensures.places c.in-Ok.ensures.text).0
