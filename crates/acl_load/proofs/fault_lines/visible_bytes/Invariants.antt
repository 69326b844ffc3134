use Rattle.std.proofs.Common.{◌≡◌, length, map, take}
use Rattle.acl_load.specs.FaultLines.{visible}
use Rattle.acl_load.proofs.fault_lines.visible_bytes.Given as goal

abbrev pub invariant-loop-i : goal.invariant-loop-i
invariant-loop-i l = record {
  shown : take l.i l.shown ≡ map visible (take l.i l.bytes);
  room : length l.shown ≡ 64;
}
