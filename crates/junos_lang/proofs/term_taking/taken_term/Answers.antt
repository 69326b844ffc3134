use Rattle.std.proofs.Common.{refl, sym, ◌∙◌}
use Rattle.std.proofs.lemmas.Bool.{false≢true}
use Rattle.std.proofs.lemmas.List.{append_cancel_left}
use Rattle.acl_rows.specs.Rows.{text_of_rows}
use Rattle.junos_lang.specs.Texts.{term_rows}
use Rattle.junos_lang.proofs.TermTakingLaws.{name_there, term_shortens}
use Rattle.junos_lang.proofs.ValidityLaws.{term_decides}
use Rattle.junos_lang.proofs.term_taking.taken_term.Goals as goal

pub returns-then-not-is_term-clause-each : goal.returns-then-not-is_term-clause-each
returns-then-not-is_term-clause-each c = λ rest h e.
    let f = c.args.family in
    let t = c.args.term in
    absurd (false≢true (sym c.if-not-is_term.true ∙ c.is_term.ensures ∙ (term_decides f t).1 h))

pub returns-in_err-name-clause-each : goal.returns-in_err-name-clause-each
returns-in_err-name-clause-each c = λ rest h e.
    let t = c.args.term in
    let there = name_there c.args.family t rest in
    let found = c.in_err-name.ensures.each there.0 (e ∙ there.1) in
    absurd found

pub returns-clause-some : goal.returns-clause-some
returns-clause-some c =
    let f = c.args.family in
    let t = c.args.term in
    let text = c.args.text.now in
    let rest = c.in_ok-rest.rest.now in
    record {
      valid = (term_decides f t).0 (sym c.is_term.ensures ∙ c.if-not-is_term.false);
      written = c.in_ok-rest.ensures.some;
      named = c.in_ok-name.ensures.some;
      shorter = term_shortens f t text rest c.in_ok-rest.ensures.some;
    }

pub returns-clause-each : goal.returns-clause-each
returns-clause-each c = λ rest h e.
    let t = c.args.term in
    (refl, append_cancel_left (text_of_rows (term_rows c.args.family t)) c.in_ok-rest.rest.now rest (sym c.in_ok-rest.ensures.some ∙ e))
