use Rattle.acl_words.specs.Stretches.{places_of}
use Rattle.acl_words.proofs.LineLaws.{lines_with_file}
use Rattle.acl_words.proofs.line_texts.Lines.push_file.Goals as goal

pub invariant_of-self : goal.invariant_of-self
invariant_of-self c = (lines_with_file _ c.args.file c.args.bytes.now
    (places_of c.self.inside.stretches.items) (places_of c.push_file.new.stretches.items)
    c.self.inside.text.items c.push_file.new.all.items c.self.invariant
    c.in-Ok.ensures.places c.in-Ok.ensures.text).1

pub returns-in-Ok-clause-ok : goal.returns-in-Ok-clause-ok
returns-in-Ok-clause-ok c = rw (← c.self.view_is) (lines_with_file _ c.args.file c.args.bytes.now
    (places_of c.self.inside.stretches.items) (places_of c.push_file.new.stretches.items)
    c.self.inside.text.items c.push_file.new.all.items c.self.invariant
    c.in-Ok.ensures.places c.in-Ok.ensures.text).0
