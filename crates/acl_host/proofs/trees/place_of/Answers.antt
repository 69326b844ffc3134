use Rattle.std.proofs.Common.{sym, ◌∙◌}
use Rattle.std.specs.String.{string_bytes}
use Rattle.acl_host.proofs.ByteOrder.{place-found, place-later}
use Rattle.acl_host.proofs.trees.place_of.Goals as goal

pub returns-then-comes_first-clause-place : goal.returns-then-comes_first-clause-place
returns-then-comes_first-clause-place c =
    let first = rw c.as_bytes.ensures.value at (sym c.comes_first.ensures
    ∙ c.if-comes_first.true) in
    place-found string_bytes c.args.name.now c.args.names.now c.loop-i.i c.index-names-i.result
    c.loop-i-test.true c.index-names-i.is first c.loop-i.invariant

pub loop-i-preserved : goal.loop-i-preserved
loop-i-preserved c =
    let later = rw c.as_bytes.ensures.value at (sym c.comes_first.ensures
    ∙ c.if-comes_first.false) in
    place-later string_bytes c.args.name.now c.args.names.now c.loop-i.i c.index-names-i.result
    c.loop-i-test.true c.index-names-i.is later c.loop-i.invariant
