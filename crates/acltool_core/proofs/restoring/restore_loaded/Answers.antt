use Rattle.std.proofs.Common.{ap, sym, subst, ◌∙◌}
use Rattle.acltool_core.specs.RestoringSteps.{AreRestorable, text_if}
use Rattle.acltool_core.proofs.RestoredLaws.{made, restorable}
use Rattle.acltool_core.proofs.restoring.restore_loaded.Goals as goal

pub text_of-requires : goal.text_of-requires
text_of-requires c =
    subst AreRestorable (sym c.as_slice.ensures)
    (restorable c.args.family c.args.today c.args.loaded.now c.in-Ok.filters c.requires.fits c.requires.terms c.in-Ok.ensures)

pub returns-in_ok-text_of-in-Ok : goal.returns-in_ok-text_of-in-Ok
returns-in_ok-text_of-in-Ok c =
    made c.args.family c.args.today c.args.loaded.now c.in-Ok.filters c.in_ok-text_of-in-Ok.field-0 c.requires.fits c.requires.terms c.in-Ok.ensures
    (c.in_ok-text_of-in-Ok.ensures ∙ ap text_if c.as_slice.ensures)
