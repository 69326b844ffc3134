use Rattle.std.proofs.Common.{List, Bor, [], get_or, map, arith, ap, sym, ◌≡◌, ◌∙◌}
use Rattle.std.proofs.lemmas.List.{get_or-map, length-map}
use Rattle.acl_sets.specs.declared.sets.Range.{Range}
use Rattle.acl_sets.specs.Ranges.{Numbers, holds}
use Rattle.acl_dead.specs.RowSteps.{PutsAlong}
use Rattle.acl_dead.proofs.RowFacts.{all_rows, lengths_all, row_more}
use Rattle.acl_dead.proofs.rows.make_rows.Goals as goal

pub loop-place-preserved : goal.loop-place-preserved
loop-place-preserved c =
    let sides = c.args.sides.now in
    let place = c.loop-place.place in
    let side = c.index-sides-place.result in
    let xs = c.args.values.now in
    let puts : PutsAlong (λ x. holds side.now.ranges x) place xs c.loop-place.out.items c.put_side.new.rows.items = c.put_side.ensures in
    let at : side.now.ranges ≡ get_or (map (λ (s : Bor Numbers). s.now.ranges) sides) place [] =
    ap (λ (s : Bor Numbers). s.now.ranges) c.index-sides-place.is
    ∙ sym (get_or-map (λ (s : Bor Numbers). s.now.ranges) sides place side [] c.loop-place-test.true) in
    record {
      count = puts.count ∙ c.loop-place.invariant.count;
      lengths = λ i lt. puts.lengths i ∙ c.loop-place.invariant.lengths i lt;
      places = λ i b lt.
          row_more (λ q. holds (get_or (map (λ (s : Bor Numbers). s.now.ranges) sides) q []) (get_or xs i 0)) (holds side.now.ranges (get_or xs i 0))
          b place _ _ (ap (λ (rs : List Range). holds rs (get_or xs i 0)) at) (puts.exact i b lt) (c.loop-place.invariant.places i b lt);
    }

pub returns-clause-lengths : goal.returns-clause-lengths
returns-clause-lengths c =
    lengths_all _ c.loop-place.out.items (λ i lt. c.loop-place.invariant.lengths i (omega (arith, lt, c.loop-place.invariant.count)))

pub returns-clause-exact : goal.returns-clause-exact
returns-clause-exact c = λ i b lt.
    c.loop-place.invariant.places i b lt
    ∙ all_rows (map (λ (s : Bor Numbers). s.now.ranges) c.args.sides.now) (get_or c.args.values.now i 0) b c.loop-place.place
    (omega (arith, c.loop-place-test.false, length-map c.args.sides.now (λ (s : Bor Numbers). s.now.ranges)))
