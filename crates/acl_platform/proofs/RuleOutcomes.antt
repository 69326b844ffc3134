-- The outcome of rules, from one rule on.
use Rattle.std.proofs.Common.{◌≡◌, ℕ, ◌+◌, ◌<◌, ◌≤◌, true, false, cond, List, length, drop, get_or, ap, sym, ◌∙◌}
use Rattle.std.proofs.lemmas.List.{drop_all, drop_more}
use Rattle.acl_packet.specs.declared.packets.Packet.{Packet}
use Rattle.acl_packet.specs.Outcomes.{unlogged}
use Rattle.acl_target.specs.declared.targets.Ending.{Ending}
use Rattle.acl_target.specs.FilterEndings.{ending_outcome, ending_verdict}
use Rattle.acl_platform.specs.declared.rules.Rule.{Rule}
use Rattle.acl_platform.specs.Rules.{decided_by, rule_holds, rules_outcome}

one-rule : (ending : Ending) (rules : List Rule) (i : ℕ) (r : Rule) (p : Packet) → i < length rules → r ≡ get_or rules i r
    → rules_outcome ending (drop i rules) p ≡ cond (rule_holds r p) (decided_by r) (rules_outcome ending (drop (i + 1) rules) p)
unfolding rules_outcome
one-rule ending rules i r p h is =
    let rest = rules_outcome ending (drop (i + 1) rules) p in
    ap (λ rs. rules_outcome ending rs p) (drop_more rules i r h) ∙ ap (λ x. cond (rule_holds x p) (decided_by x) rest) (sym is)

-- the rule holds the packet, and decides
pub deciding-rule : (ending : Ending) (rules : List Rule) (i : ℕ) (r : Rule) (p : Packet) → i < length rules → r ≡ get_or rules i r
    → rule_holds r p ≡ true → decided_by r ≡ rules_outcome ending (drop i rules) p
deciding-rule ending rules i r p h is holds =
    let rest = rules_outcome ending (drop (i + 1) rules) p in
    sym (one-rule ending rules i r p h is ∙ ap (λ b. cond b (decided_by r) rest) holds)

-- the rule does not, and those behind it decide
pub passing-rule : (ending : Ending) (rules : List Rule) (i : ℕ) (r : Rule) (p : Packet) → i < length rules → r ≡ get_or rules i r
    → rule_holds r p ≡ false → rules_outcome ending (drop (i + 1) rules) p ≡ rules_outcome ending (drop i rules) p
passing-rule ending rules i r p h is holds =
    let rest = rules_outcome ending (drop (i + 1) rules) p in
    sym (one-rule ending rules i r p h is ∙ ap (λ b. cond b (decided_by r) rest) holds)

pub no-rule : (ending : Ending) (rules : List Rule) (i : ℕ) (p : Packet) → length rules ≤ i
    → unlogged (ending_verdict ending p) ≡ rules_outcome ending (drop i rules) p
unfolding rules_outcome ending_outcome
no-rule ending rules i p h = ap (λ rs. rules_outcome ending rs p) (sym (drop_all i rules h))
