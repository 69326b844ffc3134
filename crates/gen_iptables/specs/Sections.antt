-- The section of a document of iptables rules that a filter becomes, and how many entries it has.
-- The form of a section is aclgen's own; what its lines mean is said by the language.
use Rattle.std.specs.Prelude.{ℕ, ◌+◌, Bool, true, false, ◌==◌, if◌then◌else◌, List, [], ◌∷◌, length, map, flat_map, sum_by, Option, None, Some}
use Rattle.acl_packet.specs.declared.addresses.Prefix.{Prefix}
use Rattle.acl_sets.specs.declared.sets.Range.{Range}
use Rattle.acl_target.specs.declared.targets.Ending.{Ending}
use Rattle.acl_target.specs.declared.targets.Ending.TheVariants as endings
use Rattle.acl_platform.specs.declared.filters.Filter.{Filter}
use Rattle.acl_platform.specs.declared.rules.Rule.{Rule}
use Rattle.acl_platform.specs.declared.rules.Test.{Test}
use Rattle.acl_platform.specs.declared.rules.Test.TheVariants.{Plain, AckOrRst, SynNotAck, Rst, State}
use Rattle.acl_platform.specs.Choices.{number_choices, pairs}
use Rattle.acl_packet.specs.Addresses.{first_family}
use Rattle.acl_platform.specs.Remarks.{remarks}
use Rattle.ipt_lang.specs.declared.documents.Section.{Section}
use Rattle.ipt_lang.specs.declared.documents.Chain.{Chain}
use Rattle.ipt_lang.specs.declared.documents.Rule.{Rule as ChainRule}
use Rattle.ipt_lang.specs.declared.documents.Act.{Act}
use Rattle.ipt_lang.specs.declared.documents.Act.TheVariants.{Log, Decide}
use Rattle.ipt_lang.specs.declared.documents.Flags.{Flags}
use Rattle.ipt_lang.specs.declared.documents.Flags.TheVariants as flags
use Rattle.gen_iptables.specs.Groups.{group_choices}

-- ---- the combinations of a rule

-- A rule of a chain asks for one thing about flags, so that ACK or RST takes two of them.
abbrev pub flag_choices : Test → List (Option Flags)
flag_choices Plain = None ∷ []
flag_choices AckOrRst = Some flags.Ack ∷ Some flags.Rst ∷ []
flag_choices SynNotAck = Some flags.SynNotAck ∷ []
flag_choices Rst = Some flags.Rst ∷ []
flag_choices State = None ∷ []

abbrev pub asks_state : Test → Bool
asks_state State = true
asks_state test = false

-- What stands before the ports, which are protocol, source and destination, and what stands behind,
-- type, code and flags.
abbrev pub Front : Type 0
Front = Option ℕ × (Prefix × Prefix)

abbrev pub Back : Type 0
Back = Option ℕ × (Option ℕ × Option Flags)

-- A choice of each part, with a group of source ports and one of destination ports.
abbrev pub ChainParts : Type 0
ChainParts = Front × (List Range × (List Range × Back))

abbrev pub fronts : Rule → List Front
fronts r = pairs (number_choices r.protos) (pairs r.src r.dst)

abbrev pub backs : Rule → List Back
backs r =
    pairs (number_choices r.itypes) (pairs (number_choices r.icodes) (flag_choices r.test))

-- The protocol is outermost.
abbrev pub combinations : Rule → List ChainParts
combinations r = pairs (fronts r)
    (pairs (group_choices r.sports) (pairs (group_choices r.dports) (backs r)))

-- ---- the rules of a chain

-- A prefix of length 0 is all addresses, and is not written.
abbrev pub address_of : Prefix → Option Prefix
address_of p = if p.len == 0 then None else Some p

abbrev pub ends_of : Range → ℕ × ℕ
ends_of r = (r.low, r.high)

abbrev pub chain_rule : Rule → ChainParts → Act → ChainRule
chain_rule r c act = record {
  proto = c.0.0;
  src = address_of c.0.1.0;
  dst = address_of c.0.1.1;
  sports = map ends_of c.1.0;
  dports = map ends_of c.1.1.0;
  itype = c.1.1.1.0;
  icode = c.1.1.1.1.0;
  flags = c.1.1.1.1.1;
  state = asks_state r.test;
  act = act;
}

-- What is logged is logged first, by a rule with the same conditions.
abbrev pub acts_of : Rule → List Act
acts_of r = if r.log then Log ∷ Decide r.verdict ∷ [] else Decide r.verdict ∷ []

abbrev pub rules_for : Rule → ChainParts → List ChainRule
rules_for r c = map (chain_rule r c) (acts_of r)

abbrev pub chain_rules : Rule → List ChainRule
chain_rules r = flat_map (rules_for r) (combinations r)

-- ---- the section

-- A rule is one chain.
abbrev pub chain_of : Rule → Chain
chain_of r = record { remarks = remarks r; name = r.name; rules = chain_rules r }

-- The policy of the hook is the filter's ending; one that leaves packets to others says none.
abbrev pub policy_of : Ending → Option Bool
policy_of endings.Accept = Some true
policy_of endings.Deny = Some false
policy_of endings.Left = None
policy_of endings.Neighbours = None

-- A filter for iptables has one family.
abbrev pub section_of : Filter → Section
section_of f = record {
  hook = f.hook;
  family = first_family f.families;
  accept = policy_of f.ending;
  chains = map chain_of f.rules;
}

-- An entry is a rule of a chain, or the jump to a chain.
abbrev pub chain_size : Chain → ℕ
chain_size c = length c.rules + 1

abbrev pub entry_count : Filter → ℕ
entry_count f = sum_by chain_size (section_of f).chains
