use Rattle.std.proofs.Common.{◌∙◌}
use Rattle.junos_lang.proofs.ValidityLaws.{filters_apart}
use Rattle.junos_lang.proofs.validity.have_distinct_filters.Goals as goal

pub returns : goal.returns
returns c = c.are_distinct.ensures.exact ∙ filters_apart c.in_ok-filters_of.field-0.items c.args.sections.now c.in_ok-filters_of.ensures
