-- The earlier terms that shade one are left.
use Rattle.std.proofs.Common.{◌≡◌, length}
use Rattle.acl_shade.specs.Sifting.{KeepsShading}
use Rattle.acl_shade.proofs.sifting.sift_all.Given as goal

abbrev pub invariant-loop-part : goal.invariant-loop-part
invariant-loop-part l = record {
  size : length l.left ≡ length l.fn.left;
  keeps : KeepsShading l.width l.terms l.fn.left l.left;
}
