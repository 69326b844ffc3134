use Rattle.std.proofs.Common.{◌-◌, ◌++◌, map, take, drop, length, ap, ◌∙◌, arith}
use Rattle.std.proofs.lemmas.List.{map-append}
use Rattle.acl_sets.specs.SweepSteps.{ending_below, passed}
use Rattle.acl_sets.proofs.CutRuns.{cut_ended, cut_rest, cut_round, cuts, left_normal, rest_normal}
use Rattle.acl_sets.proofs.SpanLists.{first_span, no_span}
use Rattle.acl_sets.proofs.sweeps.cut.Goals as goal

pub returns-in_default-left : goal.returns-in_default-left
returns-in_default-left g c = λ top most n m.
    let f = g.T.Span.range in
    let held = c.loop-rest.invariant in
    let left = held.left top n in
    let out = map f c.loop-rest.out.items in
    cut_ended out (map f c.push_ending_below.new.out.items) (map f c.loop-rest.left.now) (map f c.in_ok-left.left.now)
    (map f c.loop-rest.rest.now) (cuts (map f c.args.ranges.now) (map f c.args.others.now)) (f c.other-item.result) _ top most left
    (held.rest most m) (first_span f c.loop-rest.rest.now c.other-item.result (omega (arith, c.in-len1-up.len_at_least)) c.other-item.is)
    (no_span f c.in_ok-left.left.now (omega (arith, c.in_default-left.len_below)))
    (c.in_ok-left.ensures.put top left ∙ ap (λ z. out ++ ending_below z (map f c.loop-rest.left.now)) c.low.ensures)
    (c.in_ok-left.ensures.rest top left ∙ ap (λ z. passed z (map f c.loop-rest.left.now)) c.low.ensures) (held.put top most n m)

pub loop-rest-preserved : goal.loop-rest-preserved
loop-rest-preserved g c =
    let f = g.T.Span.range in
    let held = c.loop-rest.invariant in
    let out = map f c.loop-rest.out.items in
    let ps = c.in_ok-left.left.now in
    let behind = map f (take (length ps - 1) (drop 1 ps)) in
    let first = first_span f ps c.range-item.result (omega (arith, c.in-len1-up-left.len_at_least)) c.range-item.is in record {
      put = λ top most n m.
          let left = held.left top n in
          cut_round out (map f c.push_ending_below.new.out.items) (map f c.push_cut_along.new.out.items) (map f c.loop-rest.left.now) (map f ps)
          (map f c.loop-rest.rest.now) behind (map f c.in_ok-rest.rest.now) (cuts (map f c.args.ranges.now) (map f c.args.others.now))
          (f c.range-item.result) (f c.other-item.result) _ top most left (held.rest most m)
          (first_span f c.loop-rest.rest.now c.other-item.result (omega (arith, c.in-len1-up.len_at_least)) c.other-item.is) first
          (c.in_ok-left.ensures.put top left ∙ ap (λ z. out ++ ending_below z (map f c.loop-rest.left.now)) c.low.ensures)
          (c.in_ok-left.ensures.rest top left ∙ ap (λ z. passed z (map f c.loop-rest.left.now)) c.low.ensures)
          c.in_ok-rest.ensures.cut c.in_ok-rest.ensures.rest (held.put top most n m);
      left = λ top n.
          let left = held.left top n in
          left_normal top _ (map f c.loop-rest.left.now) (map f ps) behind (f c.range-item.result) left (c.in_ok-left.ensures.rest top left) first;
      rest = λ most m. rest_normal most _ (map f c.loop-rest.rest.now) (map f c.in_ok-rest.rest.now) (held.rest most m) c.in_ok-rest.ensures.rest;
    }

pub returns : goal.returns
returns g c = λ top most n m.
    let f = g.T.Span.range in
    cut_rest (map f c.loop-rest.out.items) _ (map f c.loop-rest.left.now) (map f c.loop-rest.rest.now)
    (cuts (map f c.args.ranges.now) (map f c.args.others.now)) (no_span f c.loop-rest.rest.now (omega (arith, c.in_default.len_below)))
    (ap (map f) c.in_ok-extend_from_slice.ensures.items ∙ map-append f c.loop-rest.out.items c.loop-rest.left.now)
    (c.loop-rest.invariant.put top most n m)
