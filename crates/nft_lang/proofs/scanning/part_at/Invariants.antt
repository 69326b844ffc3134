use Rattle.std.proofs.Common.{◌≡◌, ◌-◌}
use Rattle.nft_lang.specs.ScanSteps.{part_at}
use Rattle.nft_lang.proofs.scanning.part_at.Given as goal

abbrev pub invariant-loop-before : goal.invariant-loop-before
invariant-loop-before l = part_at l.byte (l.place - l._before) l.rest ≡ part_at l.byte l.place l.text
