use Rattle.std.proofs.Common.{[], ◌∷◌, ◌++◌, refl, sym, subst, ◌∙◌}
use Rattle.ipt_lang.specs.Documents.{IsRule}
use Rattle.ipt_lang.specs.ScanSteps.{TakesItem}
use Rattle.ipt_lang.specs.Texts.{rule_rows}
use Rattle.ipt_lang.specs.Walks.{rules_walk}
use Rattle.ipt_lang.proofs.FirstRowLaws.{one_more, row_shorter}
use Rattle.ipt_lang.proofs.ScanWalkLaws.{go_on_left, rules_on}
use Rattle.ipt_lang.proofs.chain_scans.take_rules.Goals as goal

pub loop-taken-init : goal.loop-taken-init
unfolding rules_walk
loop-taken-init c = ([], (tt, refl), sym (go_on_left c.args.so_far))

pub loop-taken-smaller : goal.loop-taken-smaller
unfolding rule_rows
loop-taken-smaller c =
    let chain = c.args.chain.now in
    let here = subst (TakesItem (IsRule chain.family) (rule_rows chain.hook chain.family chain.name.now) (λ r. r) c.loop-taken.rest.now) c.in-Some.is c.in_ok-taken.ensures in
    row_shorter _ [] c.loop-taken.rest.now c.in-Some.taken.rest.now here.1

pub loop-taken-preserved : goal.loop-taken-preserved
loop-taken-preserved c =
    let chain = c.args.chain.now in
    let rows = rule_rows chain.hook chain.family chain.name.now in
    let here = subst (TakesItem (IsRule chain.family) rows (λ r. r) c.loop-taken.rest.now) c.in-Some.is c.in_ok-taken.ensures in
    let so_far = c.loop-taken.invariant in
    let rule = c.in-Some.taken.item in (
      so_far.0 ++ rule ∷ [],
      one_more (IsRule chain.family) rows _ so_far.0 rule c.loop-taken.rest.now c.in-Some.taken.rest.now so_far.1 here.0 here.1,
      c.one_rule_more-outcome.ensures
          ∙ rules_on chain.family so_far.0 rule c.args.packet.now so_far.1.0 c.args.so_far c.loop-taken.outcome so_far.2,
    )
