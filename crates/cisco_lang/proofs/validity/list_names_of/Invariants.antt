use Rattle.std.proofs.Common.{◌≡◌, flat_map, take}
use Rattle.acl_text.specs.Cuts.{views}
use Rattle.cisco_lang.specs.Documents.{list_names}
use Rattle.cisco_lang.proofs.validity.list_names_of.Given as goal

abbrev pub invariant-loop-section : goal.invariant-loop-section
invariant-loop-section l = views l.names.items ≡ flat_map list_names (take l.section-index l.sections)
