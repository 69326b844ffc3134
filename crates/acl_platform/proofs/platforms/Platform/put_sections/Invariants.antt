use Rattle.std.proofs.Common.{flat_map, map, take}
use Rattle.acl_text.specs.Puts.{Puts}
use Rattle.acl_text.proofs.Putting.{done}
use Rattle.acl_rows.specs.Rows.{text_of_rows}
use Rattle.acl_platform.proofs.platforms.Platform.put_sections.Given as goal

-- the sections of the filters so far were put
abbrev pub invariant-loop-filter : goal.invariant-loop-filter
invariant-loop-filter g l =
    Puts g.O.Out l.initial.out l.out
    (text_of_rows (flat_map g.Self.Language.Language.rows (map (g.Self.Platform.section l.self) (take l.filter-index l.filters)))) done
