use Rattle.std.proofs.Common.{ℕ, leb, cond, refl}
use Rattle.std.proofs.lemmas.Simd.{length-chunk, splat_is_map, zip2_of_maps, zip2_splat}
use lib.Lanes.{chunk}
use Rattle.acl_words.specs.ReadingSteps.{is_inner}
use Rattle.acl_words.proofs.LaneLaws.{lanes_pass}
use Rattle.acl_words.proofs.inner_runs.inner_run.Goals as goal

pub returns : goal.returns
returns c =
    let text = c.args.text.now in
    let v = chunk 0 16 text in
    let long = length-chunk 0 16 text c.requires in
    let outside = zip2_of_maps (λ (a b : ℕ). cond (leb a b) 255 0) _ _ v (splat_is_map v 16 87 long) (zip2_splat {Y = ℕ} _ v 16 36 long) in
    lanes_pass is_inner text _ _ c.requires c.type_inv.text c.first_set.ensures _
    (zip2_of_maps _ _ _ v outside (zip2_splat {Y = ℕ} _ v 16 58 long)) refl
