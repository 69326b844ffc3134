use Rattle.std.proofs.Common.{◌∙◌, ◌++◌, ap}
use Rattle.std.specs.Prelude.{codes, decimal}
use Rattle.std.proofs.lemmas.Result.{on_ok_weaker}
use Rattle.aclgen_core.proofs.TermPieces.{term_in_pieces}
use Rattle.aclgen_core.proofs.workload_lines.push_term.Goals as goal

pub returns : goal.returns
returns c =
    let i = c.args.i in
    let first = c.in_ok-push_number.ensures in
    let second = c.in_ok-push_number-2.ensures
    ∙ ap (λ t. t ++ codes " {\n  source-address:: N" ++ decimal i) first in
    let third = c.in_ok-push_number-3.ensures
    ∙ ap (λ t. t ++ codes "\n  destination-port:: S" ++ decimal i) second in
    on_ok_weaker c.push_all.result
    (λ e. e ∙ ap (λ t. t ++ codes "\n  protocol:: tcp udp\n  action:: accept\n}\n") third
    ∙ term_in_pieces c.args.text.now i)
    c.push_all.ensures.ok
