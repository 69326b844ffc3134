use Rattle.std.proofs.Common.{ap}
use Rattle.acl_platform.specs.Choices.{number_choices, pairs}
use Rattle.gen_iptables.proofs.rule_rows.backs_of.Goals as goal

pub returns : goal.returns
returns c =
    let r = c.args.rule.now in
    ap (λ flags. pairs (number_choices r.itypes) (pairs (number_choices r.icodes) flags)) c.flag_choices.ensures
