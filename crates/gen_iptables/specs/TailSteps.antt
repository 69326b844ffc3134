-- The rules of a chain that differ in protocol and addresses alone, and what stands behind these in all of them.
use Rattle.std.specs.Prelude.{◌≡◌, ℕ, false, List, [], ◌∷◌, map}
use Rattle.acl_packet.specs.declared.addresses.Family.{Family}
use Rattle.acl_packet.specs.declared.addresses.Prefix.{Prefix}
use Rattle.acl_sets.specs.declared.sets.Range.{Range}
use Rattle.acl_platform.specs.declared.rules.Rule.{Rule}
use Rattle.acl_platform.specs.Choices.{pairs}
use Rattle.ipt_lang.specs.declared.documents.Act.TheVariants.{Decide}
use Rattle.ipt_lang.specs.declared.documents.Rule.{Rule as ChainRule}
use Rattle.ipt_lang.specs.RuleLines.{rule_back}
use Rattle.ipt_lang.specs.Texts.{ports_words, range_word}
use Rattle.gen_iptables.specs.declared.rule_rows.Tail.{Tail}
use Rattle.gen_iptables.specs.Groups.{group_choices}
use Rattle.gen_iptables.specs.Sections.{address_of, asks_state, Back, backs, chain_rule, ends_of, Front}

abbrev pub Parts : Type 0
Parts = List Range × (List Range × Back)

abbrev pub tails_of : Rule → List Parts
tails_of r = pairs (group_choices r.sports) (pairs (group_choices r.dports) (backs r))

abbrev pub tail_of : Tail → Parts
tail_of t = (t.sports.now, (t.dports.now, t.back))

-- No combination of the rule has another tail, and none is logged.
pub record IsOnlyTail (t : Tail) (r : Rule) : Type 0 where
  pub alone : tails_of r ≡ tail_of t ∷ []
  pub no_log : r.log ≡ false

abbrev pub tailed_rule : Rule → Tail → Front → ChainRule
tailed_rule r t front = chain_rule r (front, tail_of t) (Decide r.verdict)

abbrev pub port_words : List Range → List (List ℕ)
port_words ranges = map range_word (map ends_of ranges)

-- What the line of such a rule ends with.
abbrev pub tailed_back : Family → Rule → Tail → Prefix → List ℕ
tailed_back family r t dst =
    rule_back family (address_of dst) (ports_words (port_words t.sports.now) (port_words t.dports.now))
    t.back.0 t.back.1.0 t.back.1.1 (asks_state r.test) (Decide r.verdict)
