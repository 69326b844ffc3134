use Rattle.std.proofs.Common.{◌↔◌, drop}
use Rattle.std.specs.List.{AllByRecursion}
use Rattle.acl_rows.proofs.languages.are_valid.Given as goal

abbrev pub invariant-loop-section : goal.invariant-loop-section
invariant-loop-section g l =
    AllByRecursion g.L.Language.is_section (drop l.section-index l.sections) ↔ AllByRecursion g.L.Language.is_section l.sections
