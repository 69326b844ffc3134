use Rattle.std.proofs.Common.{◌≡◌, ◌<◌, ◌≤◌, true, get_or, refl, sym, ◌∙◌, arith}
use Rattle.std.proofs.lemmas.List.{length-take}
use Rattle.acl_text.specs.Cursors.{is_white}
use Rattle.acl_naming.specs.Fronts.{shown}
use Rattle.acl_naming.proofs.LineLaws.{word_first}
use Rattle.acl_naming.proofs.fronts.Front.word_end.Goals as goal
use Rattle.acl_naming.proofs.fronts.Front.word_end.Goals.{then-end-self-2, else-end-self-2}

pub returns-then-is_white : goal.returns-then-is_white
returns-then-is_white c =
    let text = c.args.self.text.now in
    let size = c.args.self.size in
    let end = c.ink_run-end.result in
    let some : 0 < end = omega (arith, c.if-end-eq0.false) in
    let within : end ≤ size = omega (arith, c.if-end-self.false) in
    let white : end < size → is_white (get_or text end 0) ≡ true = λ l. elim c.if-end-self-2.branch [
      | then-end-self-2 w ↦ absurd (omega (arith, l, w.if-end-self-2.true))
      | else-end-self-2 w ↦ sym w.is_white.ensures ∙ sym w.value-is ∙ c.if-is_white.true
    ] in (
      some,
      omega (arith, within, length-take size text, c.args.self.within),
      word_first text (shown c.args.self) size end c.args.self.within refl some within c.ink_run-end.ensures.1 white,
    )
