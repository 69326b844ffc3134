-- How many entries a rule gives.
use Rattle.std.specs.Prelude.{ℕ, ◌*◌, length, None}
use Rattle.acl_platform.specs.declared.rules.Rule.{Rule}
use Rattle.acl_platform.specs.Choices.{number_choices}
use Rattle.gen_nftables.specs.Sections.{chain_rule, rule_size}

-- A rule of the chain is as great for each protocol.
abbrev pub rule_count : Rule → ℕ
rule_count r = length (number_choices r.protos) * rule_size (chain_rule r None)
