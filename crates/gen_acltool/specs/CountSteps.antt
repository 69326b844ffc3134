-- How many entries a rule gives.
use Rattle.std.specs.Prelude.{ℕ, length}
use Rattle.acl_platform.specs.declared.rules.Rule.{Rule}

abbrev pub rule_count : Rule → ℕ
rule_count r = length r.src
