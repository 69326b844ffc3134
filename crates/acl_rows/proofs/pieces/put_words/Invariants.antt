use Rattle.std.proofs.Common.{take}
use Rattle.acl_text.specs.Cuts.{views}
use Rattle.acl_text.specs.Puts.{Puts}
use Rattle.acl_text.proofs.Putting.{done}
use Rattle.acl_rows.specs.Rows.{spaced}
use Rattle.acl_rows.proofs.pieces.put_words.Given as goal

abbrev pub invariant-loop-word : goal.invariant-loop-word
invariant-loop-word g l =
    Puts g.O.Out l.initial.out l.out (spaced (views (take l.word-index l.words))) done
