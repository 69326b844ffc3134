use Rattle.std.proofs.Common.{◌≡◌, ◌++◌, false, drop}
use Rattle.acl_text.specs.NoteSteps.{has_begun, text_left}
use Rattle.acl_text.proofs.notes.safe_front.Given as goal

abbrev pub invariant-loop-byte : goal.invariant-loop-byte
invariant-loop-byte l =
    l.text.items ++ text_left l.owed (has_begun l.text.items) (drop l.byte-index l.comments)
    ≡ text_left false false l.comments
