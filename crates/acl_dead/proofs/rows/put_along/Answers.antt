use Rattle.std.proofs.Common.{◌≡◌, ◌||◌, ◌&&◌, ℕ, Bool, eqb, nat_lt, [], get_or, arith, ap, sym, ◌∙◌}
use Rattle.std.proofs.Math.Bool.{or_assoc}
use Rattle.std.proofs.lemmas.Bool.{lt-ltb}
use Rattle.acl_sets.specs.SweepSteps.{passed, begins_by}
use Rattle.acl_dead.specs.PlaceSteps.{has}
use Rattle.acl_dead.proofs.RowFacts.{test_more}
use Rattle.acl_dead.proofs.SweepFacts.{sweep_more}
use Rattle.acl_dead.proofs.rows.put_along.Goals as goal

pub put_at-requires-clause-room : goal.put_at-requires-clause-room
put_at-requires-clause-room c =
    omega (arith, c.requires.room c.loop-i.i c.loop-i-test.true, c.loop-i.invariant.lengths c.loop-i.i)

pub loop-i-preserved : goal.loop-i-preserved
loop-i-preserved c =
    let i = c.loop-i.i in
    let xs = c.args.values.now in
    let rs = c.args.ranges in
    let place = c.args.place in
    let old = c.args.rows.now.items in
    let x = get_or xs i 0 in
    let rest = c.passed-rest.ensures in
    let yes : c.begins_by.result ≡ begins_by x (passed x rs) =
    c.begins_by.ensures ∙ ap (λ q. begins_by x q) (rest ∙ c.loop-i.invariant.passed_by i (omega arith) c.loop-i-test.true) in
    record {
      count = c.put_at.ensures.count ∙ c.loop-i.invariant.count;
      lengths = λ k. c.put_at.ensures.lengths k ∙ c.loop-i.invariant.lengths k;
      places = λ k b lt.
          let test : ℕ → Bool = λ j. eqb b place && begins_by (get_or xs j 0) (passed (get_or xs j 0) rs) in
          c.put_at.ensures.exact k b
          ∙ ap (λ t. (eqb k i && (eqb b place && c.begins_by.result)) || t) (c.loop-i.invariant.places k b lt)
          ∙ sym (or_assoc (eqb k i && (eqb b place && c.begins_by.result)) (nat_lt k i && test k) (has (get_or old k []) b))
          ∙ ap (λ t. t || has (get_or old k []) b)
          (test_more test (eqb b place && c.begins_by.result) k i (ap (λ t. eqb b place && t) yes));
      passed_by = λ k le lt. ap (λ q. passed (get_or xs k 0) q) rest
          ∙ sweep_more rs c.loop-i.rest xs i c.requires.rising c.loop-i-test.true c.loop-i.invariant.passed_by k le lt;
    }

pub returns : goal.returns
returns c =
    let xs = c.args.values.now in
    let rs = c.args.ranges in
    record {
      count = c.loop-i.invariant.count;
      lengths = c.loop-i.invariant.lengths;
      exact = λ k b lt. c.loop-i.invariant.places k b lt
          ∙ ap (λ t. (t && (eqb b c.args.place && begins_by (get_or xs k 0) (passed (get_or xs k 0) rs))) || has (get_or c.args.rows.now.items k []) b)
          (lt-ltb k c.loop-i.i (omega (arith, lt, c.loop-i-test.false)));
    }
