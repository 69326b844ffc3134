use Rattle.std.proofs.Common.{[], sym, ◌∙◌, append-nil}
use Rattle.std.proofs.lemmas.Bool.{false≢true}
use Rattle.acl_rows.specs.Rows.{text_of_rows}
use Rattle.acl_rows.proofs.comparing.is_text_of.Goals as goal

pub returns-in-None : goal.returns-in-None
returns-in-None g c =
    let text = text_of_rows (g.R.Rows.rows c.args.rows.now) in (
      λ h. absurd (false≢true h),
      λ e. absurd (c.in-None.ensures.none [] (e ∙ sym (append-nil text))),
    )
