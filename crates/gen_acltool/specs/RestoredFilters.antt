-- Which filters are written for iptables-restore: those for iptables that say what becomes of a packet
-- which no rule decides, since the line that declares a built-in chain has a policy
-- (iptables-restore(8)).
use Rattle.std.specs.Prelude.{Bool, true, false, not, ◌&&◌}
use Rattle.acl_target.specs.declared.targets.Ending.{Ending}
use Rattle.acl_target.specs.declared.targets.Ending.TheVariants as endings
use Rattle.acl_platform.specs.declared.filters.Filter.{Filter}
use Rattle.gen_iptables.specs.Limits.{is_for_iptables}

abbrev pub leaves_packets : Ending → Bool
leaves_packets endings.Left = true
leaves_packets _ = false

abbrev pub is_for_speedway : Filter → Bool
is_for_speedway f = is_for_iptables f && not (leaves_packets f.ending)
