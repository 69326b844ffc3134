use Rattle.std.proofs.Common.{List, length}
use Rattle.cisco_lang.specs.declared.documents.Item.{Item}
use Rattle.cisco_lang.specs.ScanSteps.{ItemsSoFar}
use Rattle.cisco_lang.proofs.scanning.take_items.Given as goal

abbrev pub invariant-loop-item : goal.invariant-loop-item
invariant-loop-item l = (items : List Item) × ItemsSoFar l.family l.packet l.fn.text l.rest l.walked items

abbrev pub decreases-loop-item : goal.decreases-loop-item
decreases-loop-item l = length l.rest
