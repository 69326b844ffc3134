use Rattle.std.proofs.Common.{ap, sym, subst, ◌∙◌}
use Rattle.acltool_core.specs.ListingSteps.{AreListable, text_if}
use Rattle.acltool_core.proofs.ListedLaws.{listable, made}
use Rattle.acltool_core.proofs.listing.list_loaded.Goals as goal

pub text_of-requires : goal.text_of-requires
text_of-requires c =
    subst (AreListable c.args.first) (sym c.as_slice.ensures)
    (listable c.args.first c.args.today c.args.loaded.now c.in-Ok.filters c.requires.first c.requires.fits
    c.requires.terms c.in-Ok.ensures)

pub returns-in_ok-text_of-in-Ok : goal.returns-in_ok-text_of-in-Ok
returns-in_ok-text_of-in-Ok c =
    made c.args.first c.args.today c.args.loaded.now c.in-Ok.filters c.in_ok-text_of-in-Ok.field-0
    c.requires.terms c.in-Ok.ensures
    (listable c.args.first c.args.today c.args.loaded.now c.in-Ok.filters c.requires.first c.requires.fits
    c.requires.terms c.in-Ok.ensures)
    (c.in_ok-text_of-in-Ok.ensures ∙ ap (text_if c.args.first) c.as_slice.ensures)
