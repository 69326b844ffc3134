use Rattle.std.proofs.Common.{◌*◌, length, min, ap, ◌∙◌}
use Rattle.acl_text.specs.Output.{COUNT_END}
use Rattle.gen_iptables.specs.Groups.{group_choices}
use Rattle.gen_iptables.specs.Sections.{Back, backs, Front, fronts}
use Rattle.gen_iptables.proofs.EntryCounts.{product}
use Rattle.gen_iptables.proofs.counts.combination_count.Goals as goal

pub returns : goal.returns
returns c =
    let r = c.args.rule.now in
    let back = length (backs r) in
    let into = length (group_choices r.dports) in
    let from = length (group_choices r.sports) in
    let last = c.count-behind_ports.ensures ∙ ap (λ l. min (length {A = Back} l) COUNT_END) c.backs_of.ensures in
    let first = c.count.ensures ∙ ap (λ l. min (length {A = Front} l) COUNT_END) c.fronts_of.ensures in
    let sources = product into back c.count_groups.ensures last c.saturating_mul-behind_sources.ensures in
    let behind = product from (into * back) c.count_groups-2.ensures sources c.saturating_mul-behind_front.ensures in
    product (length (fronts r)) (from * (into * back)) first behind c.saturating_mul.ensures
