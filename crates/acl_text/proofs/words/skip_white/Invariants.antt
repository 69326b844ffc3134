use Rattle.std.proofs.Common.{◌≡◌, drop}
use Rattle.acl_text.specs.Cursors.{without_white}
use Rattle.acl_text.proofs.words.skip_white.Given as goal

abbrev pub invariant-loop-i : goal.invariant-loop-i
invariant-loop-i l = without_white (drop l.i l.text) ≡ without_white l.text
