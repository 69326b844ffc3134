-- A section's first line.
use Rattle.std.proofs.Common.{◌∷◌, append-nil, ap, ◌∙◌}
use Rattle.acl_packet.specs.Addresses.{first_family}
use Rattle.acl_rows.specs.Rows.{text_of_rows}
use Rattle.ipt_lang.specs.Texts.{target_row}
use Rattle.ipr_lang.specs.Texts.{head_rows, section_rows}
use Rattle.gen_iptables.specs.Sections.{section_of}
use Rattle.gen_iptables.proofs.NameLaws.{first-of}
use Rattle.gen_acltool.specs.FirstLines.{FirstLine, section_body}

pub first_line : FirstLine
unfolding section_rows head_rows
first_line f stateful kind h =
    let rows = section_body (section_of f) in
    ap text_of_rows (append-nil (target_row f.hook (first_family f.families) ∷ rows)) ∙ first-of f stateful kind h rows
