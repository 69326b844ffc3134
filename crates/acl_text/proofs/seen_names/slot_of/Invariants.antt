use Rattle.std.proofs.Common.{◌≡◌, ◌<◌, drop}
use Rattle.acl_text.specs.NameSlots.{slot, slot_from}
use Rattle.acl_text.proofs.seen_names.slot_of.Given as goal

abbrev pub invariant-loop-byte : goal.invariant-loop-byte
invariant-loop-byte l = (slot_from l.slot (drop l.byte-index l.name) ≡ slot l.name) × (l.slot < 16384)
