-- How many entries a rule gives.
use Rattle.std.specs.Prelude.{ℕ, ◌+◌, ◌*◌, Bool, if◌then◌else◌, length}
use Rattle.acl_platform.specs.declared.rules.Rule.{Rule}
use Rattle.gen_iptables.specs.Groups.{group_choices}
use Rattle.gen_iptables.specs.Sections.{backs, fronts}

-- A logged combination has two rules.
abbrev pub act_count : Bool → ℕ
act_count log = if log then 2 else 1

abbrev pub combination_count : Rule → ℕ
combination_count r = length (fronts r)
    * (length (group_choices r.sports) * (length (group_choices r.dports) * length (backs r)))

abbrev pub rule_count : Rule → ℕ
rule_count r = combination_count r * act_count r.log + 1
