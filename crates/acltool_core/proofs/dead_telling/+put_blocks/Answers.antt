use Rattle.acltool_core.specs.TermAnswers.{block_questions}
use Rattle.acltool_core.proofs.TellingLaws.{blocks-from, tells-more}
use Rattle.acltool_core.proofs.dead_telling.+put_blocks.Goals as goal

pub returns-clause-tells : goal.returns-clause-tells
returns-clause-tells t c =
    let block = c.block-item.result in
    let terms = c.terms-item.result in
    let all = blocks-from c.args.blocks.now block c.in-len1-up.len_at_least c.block-item.is c.args.lists.now terms
    c.in-len1-up-lists.len_at_least c.terms-item.is in
    let first = rw (c.as_slice.ensures, c.as_slice-2.ensures) at c.in_ok-put_terms.ensures.tells in
    rw all (tells-more c.args.sources.now.labels c.args.today (block_questions (block, terms)) _ _ _ _ c.put_blocks.result first c.put_blocks.ensures.tells)
