use Rattle.std.proofs.Common.{ap, ◌∙◌, arith}
use Rattle.acl_text.specs.AddressTexts.{block_of}
use Rattle.acl_text.proofs.PrefixFronts.{block_front, host_front}
use Rattle.acl_text.proofs.prefix_fronts.prefix_behind.Goals as goal

pub returns-in_default : goal.returns-in_default
returns-in_default c = λ text front.
    host_front c.args.family text c.args.rest.now c.args.address c.quick_block.result front
    (c.quick_block.ensures ∙ ap (λ k. block_of c.args.family c.args.address k) c.width.ensures)

pub returns : goal.returns
returns c = λ text front.
    block_front c.args.family text c.args.rest.now c.in-Some.behind.now c.in_ok-len.rest.now c.args.address c.in_ok-len.len c.quick_block-2.result front
    c.in-Some.ensures c.in_ok-len.ensures (omega (arith, c.if-len-from.false, c.from.ensures, c.width-2.ensures)) c.quick_block-2.ensures
