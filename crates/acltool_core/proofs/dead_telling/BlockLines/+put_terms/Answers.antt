use Rattle.std.proofs.Common.{map}
use Rattle.acltool_core.specs.TermAnswers.{question_on}
use Rattle.acltool_core.proofs.TellingLaws.{terms-from, tells-more}
use Rattle.acltool_core.proofs.dead_telling.BlockLines.+put_terms.Goals as goal

pub returns-in_ok-put_on_targets-in-Some-clause-tells : goal.returns-in_ok-put_on_targets-in-Some-clause-tells
returns-in_ok-put_on_targets-in-Some-clause-tells t c =
    let block = c.args.self.now in
    let term = c.in-Some.term.now in
    let found = c.in-Some.ensures.lookup in
    let all = terms-from block.targets.now block.terms.now c.args.place term found.3.0 found.1 in
    rw all (tells-more block.sources.now.labels block.today (map (question_on block.terms.now c.args.place term) block.targets.now) _ _ _ _ c.put_terms.result
    c.in_ok-put_on_targets-in-Some.ensures.tells c.put_terms.ensures.tells)
