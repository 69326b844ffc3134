use Rattle.std.proofs.Common.{◌≡◌, true, take}
use Rattle.std.specs.List.{list_all}
use Rattle.acl_text.specs.Cursors.{is_white}
use Rattle.acl_naming.proofs.byte_runs.white_front.Given as goal

abbrev pub invariant-loop-i : goal.invariant-loop-i
invariant-loop-i l = list_all is_white (take l.i l.text) ≡ true
