use Rattle.std.proofs.Common.{ℕ, List, ap, ◌∙◌}
use Rattle.std.specs.List.{list_all}
use Rattle.acl_naming.specs.LineSteps.{is_plain}
use Rattle.acl_naming.proofs.LineLaws.{plain_line, split_whole}
use Rattle.acl_naming.proofs.line_parts.plain_line.Goals as goal

pub returns : goal.returns
returns c =
    let bytes = c.args.bytes.now in
    let line = c.split_at.result.0.now in
    let tail = c.split_at.result.1.now in
    plain_line bytes line tail c.in_ok-rest.rest.now
    (split_whole bytes line tail c.plain_front.result c.split_at.ensures.front c.split_at.ensures.back)
    c.in_ok-rest.ensures
    (ap (λ (t : List ℕ). list_all is_plain t) c.split_at.ensures.front ∙ c.plain_front.ensures.plain)
