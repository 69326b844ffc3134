use Rattle.std.proofs.Common.{◌≡◌, drop}
use Rattle.std_lang.specs.Walks.{first_holding}
use Rattle.std_lang.proofs.walking.first_holding.Given as goal

abbrev pub invariant-loop-item : goal.invariant-loop-item
invariant-loop-item l = first_holding (drop l.item-index l.items) l.packet ≡ first_holding l.items l.packet
