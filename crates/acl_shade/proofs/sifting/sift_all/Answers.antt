use Rattle.std.proofs.Common.{◌∙◌}
use Rattle.acl_shade.proofs.SiftLaws.{keeps-shading}
use Rattle.acl_shade.proofs.sifting.sift_all.Goals as goal

pub loop-part-preserved : goal.loop-part-preserved
loop-part-preserved c = record {
  size = c.sift.ensures.size ∙ c.loop-part.invariant.size;
  keeps = λ leaves. keeps-shading c.args.width _ c.args.terms.now _ _ c.in_ok-sift.ensures.keeps
      (c.loop-part.invariant.keeps leaves);
}
