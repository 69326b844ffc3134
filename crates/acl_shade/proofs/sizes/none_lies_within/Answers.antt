use Rattle.std.proofs.Common.{◌≡◌, ◌+◌, true, [], ◌∷◌, length, ap, sym, ◌∙◌, refl, subst}
use Rattle.std.proofs.lemmas.List.{length-append}
use Rattle.acl_sets.specs.Ranges.{Numbers}
use Rattle.acl_shade.specs.Sifting.{is_asked, part_of}
use Rattle.acl_shade.specs.Sizes.{IsMeasure, NoneHolds, size_of}
use Rattle.acl_shade.proofs.SizeLaws.{grown-more, held-by-none, none-shades-more}
use Rattle.acl_shade.proofs.sizes.none_lies_within.Goals as goal

pub loop-term-preserved : goal.loop-term-preserved
loop-term-preserved c =
    let a = c.args in
    let before = c.loop-term.invariant in
    let place = c.loop-term.term-index in
    let t = c.term-item.result in
    let growing = c.goes_on.new.self in
    let own : IsMeasure c.in-Some.measure (part_of a.part t) =
    subst (λ (s : Numbers). IsMeasure c.in-Some.measure s) c.part_of.ensures c.in-Some.ensures in
    let asked : is_asked a.part t ≡ true = sym c.is_asked.ensures ∙ c.if-not-is_asked.false in
    let count : length growing.sums.items ≡ place = ap (λ v. length v.items) c.goes_on.ensures.sums ∙ before.count in
    let size : growing.size ≡ size_of (part_of a.part t).ranges = c.goes_on.ensures.size c.if-not-goes_on.false ∙ own.0 in
    let grown = c.goes_on.ensures.grown a.part a.terms.now before.grown in
    record {
      count = ap length c.in_ok-add.ensures.sums ∙ length-append growing.sums.items (c.in-Some.measure.sum ∷ [])
          ∙ ap (λ n. n + 1) count;
      grown = grown-more a.part a.terms.now place t c.loop-term-test.true c.term-item.is growing _ c.in-Some.measure.sum
          c.in_ok-add.ensures.sums c.in_ok-add.ensures.size c.in_ok-add.ensures.from c.in_ok-add.ensures.most count own.1 size grown;
      none = none-shades-more a.part a.terms.now place t c.loop-term-test.true c.term-item.is asked
          (subst (λ n. NoneHolds a.part (part_of a.part t) n a.terms.now) count
          (held-by-none a.part a.terms.now growing t grown size (c.is_new.ensures c.if-not-is_new.false)))
          before.none;
    }
