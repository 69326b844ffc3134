-- The rules of a chain that differ in protocol and addresses alone.
use Rattle.std.proofs.Common.{◌≡◌, false, cond, List, [], ◌∷◌, flat_map, map, append-nil, ap, sym, ◌∙◌}
use Rattle.std.proofs.lemmas.List.Folds.{flat_map-map}
use Rattle.acl_packet.specs.declared.addresses.Family.{Family}
use Rattle.acl_packet.specs.declared.filtering.Hook.{Hook}
use Rattle.acl_rows.specs.Rows.{Row}
use Rattle.acl_rows.proofs.ListLaws.{flat_twice}
use Rattle.acl_platform.specs.declared.rules.Rule.{Rule}
use Rattle.acl_platform.specs.Choices.{pairs}
use Rattle.acl_platform.proofs.PairLaws.{pairs-one}
use Rattle.ipt_lang.specs.declared.documents.Act.{Act}
use Rattle.ipt_lang.specs.declared.documents.Act.TheVariants.{Decide, Log}
use Rattle.ipt_lang.specs.Texts.{rule_rows}
use Rattle.gen_iptables.specs.declared.rule_rows.Tail.{Tail}
use Rattle.gen_iptables.specs.ChainRowSteps.{combination_rows}
use Rattle.gen_iptables.specs.Sections.{acts_of, chain_rule, chain_rules, ChainParts, combinations, Front, fronts, rules_for}
use Rattle.gen_iptables.specs.TailSteps.{IsOnlyTail, Parts, tail_of, tailed_rule}
use Rattle.gen_iptables.proofs.Rows.{flat-same}

-- a combination that is not logged has one rule
one-act : (r : Rule) → r.log ≡ false → acts_of r ≡ Decide r.verdict ∷ []
one-act r e = ap (λ log. cond log (Log ∷ Decide r.verdict ∷ []) (Decide r.verdict ∷ [])) e

one-rule : (hook : Hook) (family : Family) (r : Rule) (c : ChainParts) → r.log ≡ false
    → rule_rows hook family r.name (chain_rule r c (Decide r.verdict)) ≡ combination_rows hook family r c
one-rule hook family r c e =
    sym (append-nil (rule_rows hook family r.name (chain_rule r c (Decide r.verdict))))
    ∙ ap (λ (acts : List Act). flat_map (rule_rows hook family r.name) (map (chain_rule r c) acts)) (sym (one-act r e))

pub tailed-rules : (hook : Hook) (family : Family) (r : Rule) (t : Tail) → IsOnlyTail t r
    → flat_map (λ (front : Front). rule_rows hook family r.name (tailed_rule r t front)) (fronts r)
    ≡ flat_map (rule_rows hook family r.name) (chain_rules r)
tailed-rules hook family r t only =
    let rows : ChainParts → List Row = combination_rows hook family r in
    let parts : Front → ChainParts = λ front. (front, tail_of t) in
    flat-same (λ (front : Front). rule_rows hook family r.name (tailed_rule r t front)) (λ front. rows (parts front))
    (λ front. one-rule hook family r (parts front) only.no_log) (fronts r)
    ∙ sym (flat_map-map rows parts (fronts r))
    ∙ ap (λ all. flat_map rows all) (sym (pairs-one (fronts r) (tail_of t)))
    ∙ ap (λ (tails : List Parts). flat_map rows (pairs (fronts r) tails)) (sym only.alone)
    ∙ flat_twice (rule_rows hook family r.name) (rules_for r) (combinations r)
