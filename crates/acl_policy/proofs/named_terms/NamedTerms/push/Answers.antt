use Rattle.std.proofs.Common.{ap, sym, ◌∙◌}
use Rattle.acl_text.specs.NameSlots.{has_slot}
use Rattle.acl_words.specs.declared.word_lists.Word.{Word}
use Rattle.acl_policy.proofs.NameSlotLaws.{one_more_seen}
use Rattle.acl_policy.proofs.named_terms.NamedTerms.push.Goals as goal

pub invariant_of-self : goal.invariant_of-self
invariant_of-self c =
    let t = c.self.inside in
    let slots = c.add.new.self in
    one_more_seen t.seen slots t.terms c.push.new.self c.args.term c.push.result c.push.ensures.ok c.push.ensures.err
    (ap (λ (w : Word). has_slot slots w.text) (sym c.name.ensures) ∙ ap (has_slot slots) (sym c.as_slice.ensures) ∙ c.add.ensures.own)
    c.add.ensures.others c.self.invariant
