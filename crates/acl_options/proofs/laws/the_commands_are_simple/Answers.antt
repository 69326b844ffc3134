use Rattle.acl_options.proofs.CommandLineLaws.{dead_free, free, policy_free, speedway_free, standard_free, text_free}
use Rattle.acl_options.proofs.laws.the_commands_are_simple.Goals as goal

pub returns : goal.returns
returns c = record { aclgen = free; speedway = speedway_free; dead = dead_free; standard = standard_free; policy = policy_free; text = text_free }
