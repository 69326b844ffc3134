use Rattle.std.proofs.Common.{◌≡◌, ℕ, List, ap, sym, ◌∙◌}
use Rattle.std.proofs.lemmas.Result.{err_from_is_err_and}
use Rattle.acl_text.specs.declared.faults.Slip.{Slip}
use Rattle.acl_text.specs.Answers.{slip_told}
use Rattle.acl_text.specs.Cursors.{words_of}
use Rattle.acl_text.specs.Steps.{◌>>=◌}
use Rattle.acl_text.proofs.AnswerLaws.{step_stops, stops_whole}
use Rattle.acl_naming.specs.Definitions.{Definition}
use Rattle.acl_naming.specs.Fronts.{shown}
use Rattle.acl_naming.specs.NamingFiles.{TableOrSlip, item_added, items_added}
use Rattle.acl_naming.proofs.naming_files.LineReader.add_words.Goals as goal

pub returns-in_err-add_item-clause-gives : goal.returns-in_err-add_item-clause-gives
returns-in_err-add_item-clause-gives c =
    let kind = c.args.self.kind in
    let place = c.args.self.place in
    let part : TableOrSlip = item_added kind place c.loop-word.table (shown c.in-Some.word) in
    let rest : List Definition → TableOrSlip = λ more. items_added kind place more (words_of (shown c.in-Some.behind)) in
    let all : TableOrSlip = items_added kind place c.args.table.now (words_of (shown c.args.text)) in
    let whole : all ≡ (part >>= rest) =
    sym c.loop-word.invariant.goes ∙ ap (λ (words : List (List ℕ)). items_added kind place c.loop-word.table words) c.in-Some.ensures.some in
    let p = err_from_is_err_and c.from_residual.result c.from_residual.ensures.1 in
    rw (p.1, p.2)
    (stops_whole slip_told c.in_err-add_item.field-0.0 part all c.in_err-add_item.ensures.gives (λ (s : Slip) h. whole ∙ step_stops part rest s h))

pub loop-word-preserved : goal.loop-word-preserved
loop-word-preserved c =
    let kind = c.args.self.kind in
    let place = c.args.self.place in
    record {
      filled = c.in_ok-add_item.ensures.filled;
      goes = sym (ap (λ (o : TableOrSlip). o >>= λ more. items_added kind place more (words_of (shown c.in-Some.behind))) c.in_ok-add_item.ensures.gives)
          ∙ sym (ap (λ (words : List (List ℕ)). items_added kind place c.loop-word.table words) c.in-Some.ensures.some)
          ∙ c.loop-word.invariant.goes;
    }

pub returns-clause-gives : goal.returns-clause-gives
returns-clause-gives c =
    sym c.loop-word.invariant.goes
    ∙ ap (λ (words : List (List ℕ)). items_added c.args.self.kind c.args.self.place c.loop-word.table words) c.in_default.ensures.none
