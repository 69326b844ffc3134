use Rattle.std.proofs.Common.{◌≡◌, get_or, inl, inr, ap, sym, ◌∙◌, arith}
use Rattle.std.proofs.lemmas.Bool.{both_ways, cases_lt}
use Rattle.std.proofs.lemmas.List.{get_or_default}
use Rattle.acl_sets.specs.Ranges.{Numbers}
use Rattle.acl_terms.specs.declared.terms.Term.{Term}
use Rattle.acl_shade.specs.Sifting.{part_of}
use Rattle.acl_shade.specs.Sizes.{sum_of}
use Rattle.acl_shade.proofs.sizes.Growing.is_new.Goals as goal
use Rattle.acl_shade.proofs.sizes.Growing.is_new.Goals.{else-index-sum-via-then-index-sum+else-is_same, else-index-sum-via-else-index-sum}

pub returns-then-sum-self : goal.returns-then-sum-self
returns-then-sum-self c = λ done i d from before same.
    let grown = c.requires.grown in
    let held = grown.sums i 0 d before in
    let sums = c.requires.sum ∙ ap sum_of same in
    let no-greater = grown.above i 0 from before in
    omega (arith, held, sums, no-greater, c.if-sum-self.true)

pub loop-at-preserved : goal.loop-at-preserved
loop-at-preserved c = λ i d from before same. elim (cases_lt i c.loop-at.at) [
  | inl past ↦ c.loop-at.invariant i d from past same
  | inr behind ↦
      let a = c.args in
      let terms = a.terms.now in
      let at = c.loop-at.at in
      let here : i ≡ at = omega (arith, before, behind) in
      let there = ap (λ n. get_or terms n d) here in
      let fits = c.requires.fits in
      let small = c.loop-at-test.true in
      elim c.else-index-sum.branch [
        | else-index-sum-via-then-index-sum+else-is_same w ↦
            let t = w.index-terms-at.result in
            let is : get_or terms i d ≡ t =
            there ∙ get_or_default terms at d t (omega (arith, fits, small, c.len.ensures)) ∙ sym w.index-terms-at.is in
            both_ways w.is_same.result w.if-is_same.false
            (w.is_same.ensures.1 (ap (λ (s : Numbers). s.ranges) c.part_of-set.ensures ∙ same
            ∙ ap (λ (u : Term). (part_of a.part u).ranges) is
            ∙ sym (ap (λ (s : Numbers). s.ranges) w.part_of.ensures)))
        | else-index-sum-via-else-index-sum w ↦
            w.if-index-sum.false (c.index.ensures ∙ c.requires.grown.sums at c.index.result.now d (omega (arith, small, c.len.ensures))
            ∙ ap (λ (u : Term). sum_of (part_of a.part u).ranges) (sym there) ∙ sym (ap sum_of same) ∙ sym c.requires.sum)
      ]
]
