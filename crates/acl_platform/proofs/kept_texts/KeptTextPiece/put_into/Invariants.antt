use Rattle.std.proofs.Common.{◌≡◌, ℕ, List, ◌++◌}
use Rattle.acl_text.specs.Puts.{Puts}
use Rattle.acl_text.proofs.Putting.{done}
use Rattle.acl_platform.proofs.kept_texts.KeptTextPiece.put_into.Given as goal

-- what was put and what is left are the text
abbrev pub invariant-loop-length : goal.invariant-loop-length
invariant-loop-length g l =
    (front : List ℕ) × ((front ++ l.rest ≡ l.self.bytes.items) × Puts g.O.Out l.initial.out l.out front done)
