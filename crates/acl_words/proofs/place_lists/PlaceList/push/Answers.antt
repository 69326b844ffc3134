use Rattle.acl_words.proofs.StepLaws.{stepped_with}
use Rattle.acl_words.proofs.place_lists.PlaceList.push.Goals as goal

pub invariant_of-self : goal.invariant_of-self
invariant_of-self c = (stepped_with c.self.inside.start c.self.inside.last c.args.place c.self.inside.own.items
    c.push_step.new.own.items c.self.inside.steps.items c.push_step.new.steps.items c.step_to-step.result
    c.self.invariant c.step_to-step.ensures c.in-Ok.ensures.own c.in-Ok.ensures.steps).0

pub returns-in-Ok-clause-ok : goal.returns-in-Ok-clause-ok
returns-in-Ok-clause-ok c = rw (← c.self.view_is) (stepped_with c.self.inside.start c.self.inside.last c.args.place
    c.self.inside.own.items c.push_step.new.own.items c.self.inside.steps.items c.push_step.new.steps.items
    c.step_to-step.result c.self.invariant c.step_to-step.ensures c.in-Ok.ensures.own c.in-Ok.ensures.steps).1
