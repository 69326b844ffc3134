use Rattle.std.proofs.Common.{length}
use Rattle.nft_lang.specs.ScanSteps.{ItemsTaken}
use Rattle.nft_lang.proofs.scanning.take_items.Given as goal

abbrev pub invariant-loop-item : goal.invariant-loop-item
invariant-loop-item l = ItemsTaken l.families l.packet l.text l.rest l.decided

abbrev pub decreases-loop-item : goal.decreases-loop-item
decreases-loop-item l = length l.rest
