use Rattle.std.proofs.Common.{ℕ, List, refl, ap, ◌∙◌}
use Rattle.std.specs.List.{list_all}
use Rattle.acl_text.specs.Cursors.{is_white}
use Rattle.acl_naming.proofs.LineLaws.{prefix_line, split_whole}
use Rattle.acl_naming.proofs.line_parts.prefix_line.Goals as goal

pub returns : goal.returns
returns c =
    let bytes = c.args.bytes.now in
    let front = c.split_at.result.0.now in
    let text = c.split_at.result.1.now in
    let word = c.split_at-2.result.0 in
    let behind = c.split_at-2.result.1.now in
    let blank = c.split_at-3.result.0.now in
    let tail = c.split_at-3.result.1.now in
    prefix_line bytes front text word c.in_ok-prefix.behind.now behind blank tail c.in_ok-rest.rest.now _ c.in_ok-prefix.prefix _
    (split_whole bytes front text c.white_front.result c.split_at.ensures.front c.split_at.ensures.back)
    c.in_ok-prefix.ensures
    c.split_at-2.ensures.front
    c.split_at-2.ensures.back
    (split_whole behind blank tail c.white_front-2.result c.split_at-3.ensures.front c.split_at-3.ensures.back)
    c.in_ok-rest.ensures
    (ap (λ (t : List ℕ). list_all is_white t) c.split_at.ensures.front ∙ c.white_front.ensures.white)
    (ap (λ (t : List ℕ). list_all is_white t) c.split_at-3.ensures.front ∙ c.white_front-2.ensures.white)
    refl refl
