use Rattle.std.proofs.Common.{◌≡◌, ◌+◌, List, ap, sym, ◌∙◌}
use Rattle.std.proofs.lemmas.Result.{err_from_is_err_and}
use Rattle.acl_text.specs.declared.faults.Place.{Place}
use Rattle.acl_text.specs.declared.faults.Slip.{Slip}
use Rattle.acl_text.specs.Cursors.{lines_of}
use Rattle.acl_naming.specs.Definitions.{Definition}
use Rattle.acl_naming.specs.NamingFiles.{TableOrSlip, without_comment, opens, line_added, lines_added, file_added}
use Rattle.acl_text.proofs.AnswerLaws.{step_stops, stops_whole}
use Rattle.acl_text.specs.Answers.{slip_told}
use Rattle.acl_text.specs.Steps.{◌>>=◌}
use Rattle.acl_naming.proofs.naming_files.add_lines.Goals as goal

pub returns-in_err-is_open : goal.returns-in_err-is_open
unfolding file_added
returns-in_err-is_open c =
    let kind = c.args.kind in
    let file = c.args.file in
    let is_open = c.loop-line.is_open in
    let table = c.loop-line.table in
    let number = c.loop-line.number in
    let text = without_comment c.in-Some.line.now in
    let place : Place = record { file = file; line = number + 1 } in
    let rest : List Definition → TableOrSlip = λ more. lines_added kind file ((number + 1) + 1) (opens is_open text) more (lines_of c.in-Some.behind.now) in
    let whole : file_added kind file c.args.table.now c.args.bytes.now ≡ (line_added kind place is_open table text >>= rest) =
    sym c.loop-line.invariant.goes ∙ ap (lines_added kind file (number + 1) is_open table) c.in-Some.ensures.some in
    let p = err_from_is_err_and c.from_residual.result c.from_residual.ensures.1 in
    rw (p.1, p.2)
    (stops_whole slip_told c.in_err-is_open.field-0.0 (line_added kind place is_open table text)
    (file_added kind file c.args.table.now c.args.bytes.now) c.in_err-is_open.ensures.gives
    (λ (s : Slip) h. whole ∙ step_stops (line_added kind place is_open table text) rest s h))

pub returns : goal.returns
unfolding file_added
returns c =
    sym c.loop-line.invariant.goes
    ∙ ap (lines_added c.args.kind c.args.file (c.loop-line.number + 1) c.loop-line.is_open c.loop-line.table) c.in_default.ensures.none
