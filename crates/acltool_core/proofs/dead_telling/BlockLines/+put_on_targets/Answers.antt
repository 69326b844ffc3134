use Rattle.std.proofs.Common.{[], ◌∷◌, map, ap}
use Rattle.acltool_core.specs.TermAnswers.{question_on}
use Rattle.acltool_core.proofs.TellingLaws.{first-rest, tells-more}
use Rattle.acltool_core.proofs.dead_telling.BlockLines.+put_on_targets.Goals as goal

pub returns-in_ok-put_on_target-in-len1-up-clause-tells : goal.returns-in_ok-put_on_target-in-len1-up-clause-tells
returns-in_ok-put_on_target-in-len1-up-clause-tells t c =
    let block = c.args.self.now in
    let first = c.target-item.result in
    let question = question_on block.terms.now c.args.place c.args.term.now in
    let all = ap (map question) (first-rest c.args.targets.now first c.in-len1-up.len_at_least c.target-item.is) in
    rw all (tells-more block.sources.now.labels block.today (question first ∷ []) _ _ _ _ c.put_on_targets.result
    c.in_ok-put_on_target-in-len1-up.ensures.tells c.put_on_targets.ensures.tells)
