use Rattle.std.proofs.Common.{◌-◌, ◌+◌, arith}
use Rattle.nft_lang.specs.ScanSteps.{part_at}
use Rattle.nft_lang.proofs.HeadLaws.{part_step}
use Rattle.nft_lang.proofs.scanning.part_at.Goals as goal

pub loop-before-preserved : goal.loop-before-preserved
loop-before-preserved c =
    let i = c.loop-before._before in
    part_step c.args.byte (c.args.place - i) (c.args.place - (i + 1)) c.loop-before.rest.now c.behind_byte-rest.result.now
    (part_at c.args.byte c.args.place c.args.text.now) c.behind_byte-rest.ensures (omega (arith, c.loop-before-test.true)) c.loop-before.invariant
