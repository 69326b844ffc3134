use Rattle.std.proofs.Common.{◌≡◌, ◌<◌, true, false, take, get_or, length, ap, sym, ◌∙◌, arith}
use Rattle.std.proofs.lemmas.List.{take_more}
use Rattle.acl_text.specs.Cursors.{is_white}
use Rattle.acl_naming.specs.NamingFiles.{without_end}
use Rattle.acl_naming.proofs.ReadLaws.{end_white, end_black}
use Rattle.acl_naming.proofs.line_parts.without_end.Goals as goal
use Rattle.acl_naming.proofs.line_parts.without_end.Goals.{then-not-is_white, else-not-is_white}

pub loop-i-preserved : goal.loop-i-preserved
loop-i-preserved c =
    let text = c.args.text.now in
    let i = c.loop-i.i in
    let h : i < length text = omega arith in
    let one = take_more text i 0 h in
    elim c.if-not-is_white.branch [
      | then-not-is_white w ↦
          let black : is_white (get_or text i 0) ≡ false = sym c.is_white.ensures ∙ w.if-not-is_white.true in
          record {
            within = omega (arith, w.end-is);
            goes = ap (λ n. take n text) w.end-is ∙ one ∙ sym (end_black (take i text) (get_or text i 0) black) ∙ ap without_end (sym one);
          }
      | else-not-is_white w ↦
          let white : is_white (get_or text i 0) ≡ true = sym c.is_white.ensures ∙ w.if-not-is_white.false in
          record {
            within = omega (arith, w.end-is, c.loop-i.invariant.within);
            goes = ap (λ n. take n text) w.end-is ∙ c.loop-i.invariant.goes ∙ sym (end_white (take i text) (get_or text i 0) white) ∙ ap without_end (sym one);
          }
    ]
