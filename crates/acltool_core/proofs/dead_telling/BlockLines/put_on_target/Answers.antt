use Rattle.acltool_core.specs.TermAnswers.{question_on}
use Rattle.acltool_core.proofs.TellingLaws.{tells-put}
use Rattle.acltool_core.proofs.dead_telling.BlockLines.put_on_target.Goals as goal

pub returns-clause-tells : goal.returns-clause-tells
returns-clause-tells c =
    let block = c.args.self.now in
    tells-put block.sources.now.labels block.today (question_on block.terms.now c.args.place c.args.term.now c.args.target.now) c.in_ok-decided.decided _ _
    c.put_decided_line.result c.in_ok-decided.ensures c.put_decided_line.ensures.text
