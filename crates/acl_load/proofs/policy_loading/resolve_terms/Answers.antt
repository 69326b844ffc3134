use Rattle.std.proofs.Common.{◌<◌, length, arith}
use Rattle.acl_terms.specs.Resolved.{IsResolved}
use Rattle.acl_terms.specs.Slips.{slip_of}
use Rattle.acl_load.proofs.LoadedLaws.{slip-more, zip-more}
use Rattle.acl_load.proofs.policy_loading.resolve_terms.Goals as goal

pub loop-raw-preserved : goal.loop-raw-preserved
loop-raw-preserved c =
    let definitions = c.loop-raw.known in
    let raws = c.args.raws.now in
    let i = c.loop-raw.raw-index in
    let raw = c.raw-item.result in
    let within : i < length raws = omega arith in
    let had = c.loop-raw.invariant in
    rw (c.in_ok-term.ensures.same) (record {
      slip = slip-more (slip_of definitions) raws i raw raw within c.raw-item.is c.in_ok-term.ensures.slip had.slip;
      terms = zip-more (IsResolved definitions) raws i raw raw c.loop-raw.terms c.push.new.self c.in_ok-term.term
          within c.raw-item.is c.in_ok-push.ensures.ok
          c.in_ok-term.ensures.resolved had.terms;
      same = had.same;
    })
