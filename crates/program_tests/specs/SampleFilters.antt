-- The filter of the tests.
use Rattle.std.specs.Prelude.{ℕ, pos, true, List, []}
use Rattle.acl_packet.specs.declared.addresses.Families.TheVariants.{Inet}
use Rattle.acl_packet.specs.declared.filtering.Hook.TheVariants.{Input}
use Rattle.acl_target.specs.declared.targets.Ending.TheVariants.{Neighbours}
use Rattle.acl_target.specs.declared.targets.Kind.TheVariants.{Cisco}
use Rattle.acl_platform.specs.declared.filters.Filter.{Filter}

-- The list of Cisco of this name that denies each packet of IPv4.
abbrev pub list_without_rules : List ℕ → Filter
list_without_rules name = record {
  place = record { file = 1; line = 1 };
  kind = Cisco;
  name = name;
  families = Inet;
  hook = Input;
  ending = Neighbours;
  priority = pos 0;
  verbose = true;
  number = 1;
  rules = [];
}
