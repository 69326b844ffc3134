use Rattle.std.proofs.Common.{◌<◌, length, ◌∙◌, sym, arith}
use Rattle.acl_text.proofs.CursorLaws.{next_is, none_is}
use Rattle.acl_text.proofs.words.next_word.Goals as goal

pub returns-then-start-line-clause-none : goal.returns-then-start-line-clause-none
returns-then-start-line-clause-none c = none_is c.args.line.now c.args.from (sym c.white_end-start.ensures.exact ∙ c.if-start-line.true)

pub returns-clause-some : goal.returns-clause-some
returns-clause-some c =
    let l : c.white_end-start.result < length c.args.line.now = omega (arith, c.white_end-start.ensures.fits) in
    next_is c.args.line.now c.args.from c.white_end-start.result c.black_end.result c.requires
    c.white_end-start.ensures.exact c.black_end.ensures.exact l
