use Rattle.std.proofs.Common.{◌+◌, ap, sym, ◌∙◌}
use Rattle.acl_text.specs.Cursors.{Remaining}
use Rattle.acl_text.proofs.CursorLaws.{lines_step}
use Rattle.acl_text.proofs.cursors.Cursor.line.Goals as goal

pub returns : goal.returns
returns c = (
  sym (ap (λ (r : Remaining). r.lines) c.self.view_is) ∙ lines_step c.self.inside.rest.now c.in_ok-line.line.now c.in_ok-line.rest.now (sym (c.in_ok-line.ensures.exact)),
  ap (λ (r : Remaining). r.line + 1) c.self.view_is,
  ap (λ (r : Remaining). r.file) c.self.view_is,
)
