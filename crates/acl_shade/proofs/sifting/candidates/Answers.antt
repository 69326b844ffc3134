use Rattle.std.proofs.Common.{rules, get_or, ◌++◌, List, ℕ, length, take, drop, ap, sym, ◌∙◌, subst, arith}
use Rattle.std.proofs.lemmas.List.{get_or-replicate}
use Rattle.std.proofs.Math.Seq.{take-append_seam}
use Rattle.acl_shade.specs.Sifting.{LeavesShading}
use Rattle.acl_shade.proofs.SiftLaws.{all-left}
use Rattle.acl_shade.proofs.sifting.candidates.Goals as goal

pub returns-clause-shading : goal.returns-clause-shading
returns-clause-shading c =
    let Left : List ℕ → Type 0 = LeavesShading c.args.width c.args.terms.now in
    let new = c.sift_all.new.left in
    let rest = drop (length new) c.in_ok-left.left.items in
    let size = c.in_ok-sift_all.ensures.size ∙ c.deref_mut.ensures.len in
    subst Left (sym (ap (λ n. take n (new ++ rest)) (sym size) ∙ take-append_seam new rest))
    (c.in_ok-sift_all.ensures.keeps (subst Left (sym c.deref_mut.ensures.value)
    (all-left c.args.width c.args.terms.now c.in_ok-left.left.items c.requires.fits
    (search rules)
    (λ k small. let is = c.in_ok-left.ensures.items_if_clones_equal (λ y e. e) in
    ap (λ xs. get_or xs k 0) is ∙ get_or-replicate c.in-Some.words k 18446744073709551615 0
    (omega (arith, small, c.in_ok-left.ensures.len))))))
