use Rattle.std.proofs.Common.{◌≡◌, flat_map, map, take}
use Rattle.acl_packet.specs.declared.addresses.Family.TheVariants.{V4, V6}
use Rattle.acl_text.specs.Puts.{Puts}
use Rattle.acl_text.proofs.Putting.{done}
use Rattle.acl_rows.specs.Rows.{text_of_rows}
use Rattle.acl_platform.proofs.section_forms.put_in_turn.Given as goal

-- the sections of the filters so far were put
abbrev pub invariant-loop-filter : goal.invariant-loop-filter
invariant-loop-filter g l =
    let form = g.F.SectionForm in
    Puts g.O.Out l.initial.out l.out
    (text_of_rows (flat_map g.F.Language.Language.rows (map form.section (take l.filter-index l.filters)))) done
    × ((form.family_of l.texts.v4.form ≡ V4) × (form.family_of l.texts.v6.form ≡ V6))
