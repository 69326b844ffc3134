use Rattle.std.proofs.Common.{◌≡◌, map, take}
use Rattle.junos_lang.specs.Documents.{name_of}
use Rattle.junos_lang.specs.ValiditySteps.{filter_name}
use Rattle.junos_lang.proofs.validity.filters_of.Given as goal

abbrev pub invariant-loop-section : goal.invariant-loop-section
invariant-loop-section l = map filter_name l.filters.items ≡ map name_of (take l.section-index l.sections)
