use Rattle.std.proofs.Common.{◌≤◌, ℕ, List, drop, length, ap, sym, ◌∙◌, arith}
use Rattle.acl_text.specs.Cursors.{words_of}
use Rattle.acl_text.proofs.CursorLaws.{words_next, words_none}
use Rattle.acl_naming.specs.Fronts.{shown}
use Rattle.acl_naming.proofs.LineLaws.{next_shown}
use Rattle.acl_naming.proofs.fronts.Front.next_word.Goals as goal

pub returns-in-Some-clause-some : goal.returns-in-Some-clause-some
returns-in-Some-clause-some c =
    let line = c.as_slice.result.now in
    let start = c.in-Some.start in
    let end = c.in-Some.end in
    let fits : 0 ≤ length line = omega arith in
    let n = words_next line 0 start end fits c.in-Some.ensures.exact in
    let rises : start ≤ end = omega (arith, n.0) in
    next_shown line (shown c.args.self) (shown c.behind.result) (shown c.behind-in-Some.result) start end c.as_slice.ensures n.2 rises
    (c.behind.ensures ∙ ap (λ (t : List ℕ). drop start t) c.until.ensures) c.behind-in-Some.ensures

pub returns-in-None-clause-none : goal.returns-in-None-clause-none
returns-in-None-clause-none c = ap words_of (sym c.as_slice.ensures) ∙ words_none c.as_slice.result.now 0 c.in-None.ensures.exact
