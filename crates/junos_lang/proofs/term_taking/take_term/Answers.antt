use Rattle.std.proofs.Common.{ℕ, not, List, codes, ap, ◌∙◌}
use Rattle.acl_text.specs.Cuts.{behind}
use Rattle.junos_lang.proofs.TermTakingLaws.{none_mapped, none_taken, term_taken}
use Rattle.junos_lang.proofs.term_taking.take_term.Goals as goal

pub returns-then-is_none : goal.returns-then-is_none
returns-then-is_none c =
    let front : List ℕ = codes "            " in
    none_taken c.args.family c.args.text.now (none_mapped (λ x. x.now) c.behind.result (behind front c.args.text.now) (c.is_none.ensures ∙ ap not c.if-is_none.true) c.behind.ensures)

pub returns : goal.returns
returns c = term_taken c.args.family c.args.text.now c.in_ok-term.term c.taken_term.result c.in_ok-term.ensures c.taken_term.ensures.some c.taken_term.ensures.each
