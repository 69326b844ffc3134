-- The filters of the tests.
use Rattle.std.specs.Prelude.{ℕ, ℤ, Bool, List}
use Rattle.acl_packet.specs.declared.addresses.Families.{Families}
use Rattle.acl_packet.specs.declared.filtering.Hook.{Hook}
use Rattle.acl_target.specs.declared.targets.Ending.{Ending}
use Rattle.acl_target.specs.declared.targets.Kind.{Kind}
use Rattle.acl_platform.specs.declared.filters.Filter.{Filter}
use Rattle.acl_platform.specs.declared.rules.Rule.{Rule}

abbrev pub filter_with : Kind → List ℕ → Families → Hook → Ending → ℤ → Bool → ℕ → List Rule → Filter
filter_with kind name families hook ending priority verbose number rules = record {
  place = record { file = 1; line = 1 };
  kind = kind;
  name = name;
  families = families;
  hook = hook;
  ending = ending;
  priority = priority;
  verbose = verbose;
  number = number;
  rules = rules;
}
