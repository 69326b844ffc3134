use Rattle.std.proofs.Common.{◌≡◌, ◌+◌, drop}
use Rattle.std.specs.List.{prefix_len}
use Rattle.acl_text.specs.Cursors.{is_white}
use Rattle.acl_text.proofs.words.white_front.Given as goal

abbrev pub invariant-loop-i : goal.invariant-loop-i
invariant-loop-i l = l.i + prefix_len is_white (drop l.i l.bytes) ≡ prefix_len is_white l.bytes
