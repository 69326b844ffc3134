use Rattle.std.proofs.Common.{ap, ◌∙◌}
use Rattle.acl_host.specs.NamedDays.{day_named}
use Rattle.acl_options.proofs.inputs.day_named.Goals as goal

pub returns : goal.returns
returns c = c.read_day.ensures.named ∙ ap day_named c.as_bytes.ensures.value
