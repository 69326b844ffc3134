use Rattle.std.proofs.Common.{◌++◌, ◌∙◌, suc, take, drop, ap, sym, arith}
use Rattle.std.proofs.Math.Seq.{drop-cons}
use Rattle.acl_text.specs.NoteSteps.{has_begun, text_left}
use Rattle.acl_text.proofs.NoteLaws.{at_end, enough}
use Rattle.acl_text.proofs.notes.safe_front.Goals as goal

pub returns-then-len-ge-LONGEST : goal.returns-then-len-ge-LONGEST
returns-then-len-ge-LONGEST c =
    let all = c.args.comments.now in
    let had = c.loop-byte.text.items in
    let owed = c.loop-byte.owed in
    let now = c.push_byte.new.text.items in
    let rest = drop (suc c.loop-byte.byte-index) all in
    enough 80 all now (text_left c.in_ok-owed.owed (has_begun now) rest) (omega (arith, c.len.ensures))
    (c.in_ok-owed.ensures rest
    ∙ ap (λ t. had ++ text_left owed (has_begun had) t) (sym (drop-cons all c.loop-byte.byte-index 0 c.loop-byte-test.true))
    ∙ c.loop-byte.invariant)

pub returns : goal.returns
returns c =
    let had = c.loop-byte.text.items in
    ap (take 80) (at_end c.args.comments.now had c.loop-byte.byte-index c.loop-byte.owed (has_begun had)
    c.loop-byte-test.false c.loop-byte.invariant)
