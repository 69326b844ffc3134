use Rattle.std.proofs.Common.{◌≡◌, drop}
use Rattle.cisco_lang.specs.Walks.{items_of}
use Rattle.cisco_lang.proofs.walking.items_of.Given as goal

abbrev pub invariant-loop-list : goal.invariant-loop-list
invariant-loop-list l = items_of l.family (drop l.list-index l.lists) ≡ items_of l.family l.lists
