use Rattle.std.proofs.Common.{ℕ, ◌*◌, ◌<◌, sym, ◌∙◌, subst}
use Rattle.acl_sets.specs.Ranges.{Numbers}
use Rattle.acl_shade.specs.Sifting.{AreMarked, RowHas}
use Rattle.acl_shade.specs.Marking.{KeepsBeside}
use Rattle.acl_shade.proofs.SiftLaws.{keeps-more, marked-more}
use Rattle.acl_shade.proofs.sifting.sift.Goals as goal

pub loop-place-preserved : goal.loop-place-preserved
loop-place-preserved c =
    let a = c.args in
    let before = c.loop-place.invariant in
    let t = c.index-terms-place.result in
    let place : ℕ = c.loop-place.place in
    let points = c.loop-place.marks.points.items in
    let rows = c.loop-place.marks.rows.items in
    let passed = c.pass.ensures in
    let width = passed.more.width ∙ before.width in
    record {
      are = passed.more.are;
      width = width;
      marked = marked-more a.width a.part a.terms.now place t c.loop-place-test.true c.index-terms-place.is _ _ passed.more
          width before.marked
          (subst (λ (s : Numbers). AreMarked c.pass.new.self.width c.pass.new.self.points.items c.pass.new.self.rows.items place s)
          c.part_of.ensures passed.marks);
      size = passed.beside.size ∙ before.size;
      keeps = keeps-more a.width a.part a.terms.now place t c.loop-place-test.true c.index-terms-place.is points rows _ _ _
          c.requires.fits before.marked
          (subst (λ w. KeepsBeside place w c.loop-place.left c.pass.new.left) before.width passed.beside)
          (λ e small marked has.
          subst (λ w. RowHas w c.pass.new.left place e) before.width
          (passed.keeps e (subst (λ w. e < 64 * w) (sym before.width) small)
          (λ asked. subst (λ w. AreMarked w points rows e c.part_of.result.now) (sym before.width)
          (subst (λ (s : Numbers). AreMarked a.width points rows e s) (sym c.part_of.ensures)
          (marked (sym c.is_asked.ensures ∙ asked))))
          (subst (λ w. RowHas w c.loop-place.left place e) (sym before.width) has)))
          before.keeps;
    }
