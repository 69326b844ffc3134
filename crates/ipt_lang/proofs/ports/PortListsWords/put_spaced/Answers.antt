use Rattle.std.proofs.Common.{ap, sym, ◌∙◌}
use Rattle.acl_text.proofs.Putting.{puts-nothing}
use Rattle.acl_rows.specs.Rows.{spaced}
use Rattle.acl_rows.proofs.PutLaws.{retold}
use Rattle.ipt_lang.proofs.PortWords.{no_ports}
use Rattle.ipt_lang.proofs.ports.PortListsWords.put_spaced.Goals as goal

pub returns-then-is_empty-2 : goal.returns-then-is_empty-2
returns-then-is_empty-2 g c =
    let l = c.args.self.now in
    let none = no_ports (g.F.WordForm.item_text l.form) l.sports.now l.dports.now (sym c.is_empty.ensures ∙ c.if-is_empty.true)
    (sym c.is_empty-then-is_empty.ensures ∙ c.if-is_empty-2.true) in
    retold (ap spaced none) (puts-nothing c.args.out.now g.met.O.Out.rest_same c.requires)
