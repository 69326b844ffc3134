-- The section of a document of nftables rules that a filter becomes, and how many entries it has. The
-- form of a section is aclgen's own; what its lines mean is said by the language.
use Rattle.std.specs.Prelude.{ℕ, ◌+◌, Bool, true, false, if◌then◌else◌, List, [], ◌++◌, length, map, flat_map, sum_by, Option, None, Some}
use Rattle.acl_target.specs.declared.targets.Ending.{Ending}
use Rattle.acl_target.specs.declared.targets.Ending.TheVariants.{Accept}
use Rattle.acl_platform.specs.declared.filters.Filter.{Filter}
use Rattle.acl_platform.specs.declared.rules.Rule.{Rule}
use Rattle.acl_platform.specs.declared.rules.Test.{Test}
use Rattle.acl_platform.specs.declared.rules.Test.TheVariants.{Plain, AckOrRst, SynNotAck, Rst, State}
use Rattle.acl_platform.specs.Choices.{number_choices}
use Rattle.acl_platform.specs.Elements.{address_elements, number_elements, port_elements}
use Rattle.acl_platform.specs.Remarks.{remarks}
use Rattle.nft_lang.specs.declared.documents.Section.{Section}
use Rattle.nft_lang.specs.declared.documents.Item.{Item}
use Rattle.nft_lang.specs.declared.documents.Item.TheVariants.{Remark, Rule as ARule}
use Rattle.nft_lang.specs.declared.documents.Rule.{Rule as ChainRule}
use Rattle.nft_lang.specs.declared.documents.Flags.{Flags}
use Rattle.nft_lang.specs.declared.documents.Flags.TheVariants as flags

-- nftables follows connections, so that no rule for it asks for ACK or RST.
abbrev pub flags_of : Test → Option Flags
flags_of Plain = None
flags_of AckOrRst = None
flags_of SynNotAck = Some flags.SynNotAck
flags_of Rst = Some flags.Rst
flags_of State = None

abbrev pub asks_state : Test → Bool
asks_state State = true
asks_state test = false

-- A rule for one of its protocols, or for all of them, with its whole sets. A set that is all is no
-- condition: it has no elements, and is not written.
abbrev pub chain_rule : Rule → Option ℕ → ChainRule
chain_rule r proto = record {
  family = r.family;
  proto = proto;
  src = address_elements r.src;
  dst = address_elements r.dst;
  sports = port_elements r.sports;
  dports = port_elements r.dports;
  itypes = number_elements r.itypes;
  icodes = number_elements r.icodes;
  flags = flags_of r.test;
  state = asks_state r.test;
  log = r.log;
  verdict = r.verdict;
}

-- A rule is its remarks, unless the target asks for none, and behind them a rule of the chain for
-- each protocol.
abbrev pub remarks_in : Bool → Rule → List (List ℕ)
remarks_in verbose r = if verbose then remarks r else []

abbrev pub rule_items : Bool → Rule → List Item
rule_items verbose r = map (λ text. Remark text) (remarks_in verbose r)
    ++ map (λ proto. ARule (chain_rule r proto)) (number_choices r.protos)

-- The policy of the chain is the filter's ending.
abbrev pub accepts : Ending → Bool
accepts Accept = true
accepts ending = false

abbrev pub section_of : Filter → Section
section_of f = record {
  hook = f.hook;
  families = f.families;
  number = f.number;
  priority = f.priority;
  accept = accepts f.ending;
  items = flat_map (rule_items f.verbose) f.rules;
}

-- A rule of a chain counts with the elements of its sets. A remark does not count.
abbrev pub rule_size : ChainRule → ℕ
rule_size r = 1 + (length r.src + length r.dst + (length r.sports + length r.dports)
    + (length r.itypes + length r.icodes))

abbrev pub item_size : Item → ℕ
item_size (Remark text) = 0
item_size (ARule r) = rule_size r

abbrev pub entry_count : Filter → ℕ
entry_count f = sum_by item_size (section_of f).items
