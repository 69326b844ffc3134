use Rattle.std.proofs.Common.{◌++◌, ap, ◌∙◌}
use Rattle.acl_text.proofs.Putting.{goes_on}
use Rattle.acl_rows.specs.LineHalfSteps.{text_of}
use Rattle.acl_rows.proofs.PutLaws.{retold}
use Rattle.acl_rows.proofs.line_halves.put_halves.Goals as goal

pub returns : goal.returns
returns g c =
    let whole = ap (λ t. t ++ c.as_slice-2.result.now) c.as_slice.ensures ∙ ap (λ t. text_of c.args.front.now ++ t) c.as_slice-2.ensures in
    retold whole (goes_on g.met.O.Out.rest_goes_on c.in_ok-put.ensures c.put-2.ensures)
