use Rattle.std.proofs.Common.{rules, sym, ◌∙◌}
use Rattle.acl_platform.proofs.NameSlotLaws.{none_found, one_more_judged, one_more_seen}
use Rattle.acl_platform.proofs.limits.first_limit.Goals as goal

pub loop-place-preserved : goal.loop-place-preserved
loop-place-preserved g c =
    let l = c.loop-place in
    let none = none_found c.rule_limit-limit.result (sym c.is_some.ensures ∙ c.if-is_some.false) in (
      sym (one_more_judged g.L.RuleLimits.limit c.args.rules.now l.place c.index-rules-place.result (search rules) (search rules) (sym c.rule_limit-limit.ensures ∙ none)) ∙ l.invariant.0,
      one_more_seen l.names c.add.new.self c.args.rules.now l.place c.index-rules-place.result (search rules) (search rules) (search rules) c.add.ensures.others l.invariant.1,
    )
