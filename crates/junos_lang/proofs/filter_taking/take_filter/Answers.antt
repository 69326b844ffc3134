use Rattle.std.proofs.Common.{refl, sym, subst}
use Rattle.junos_lang.specs.ScanSteps.{TakesBody}
use Rattle.junos_lang.proofs.FilterTakingLaws.{filter_taken, no_body, no_head, no_terms}
use Rattle.junos_lang.proofs.filter_taking.take_filter.Goals as goal

pub returns-in_default : goal.returns-in_default
returns-in_default c = no_head c.args.text.now c.args.packet.now (sym c.in_default.ensures)

pub returns-in_default-body_behind : goal.returns-in_default-body_behind
returns-in_default-body_behind c =
    no_body c.args.text.now c.args.packet.now c.in-Some.head c.in-Some.ensures c.in_default-body_behind.ensures.none

pub returns-in_default-2 : goal.returns-in_default-2
returns-in_default-2 c =
    let h = c.in-Some.head in
    let body = c.in-Some-body_behind.body.now in
    no_terms c.args.text.now c.args.packet.now h body c.in-Some.ensures c.in-Some-body_behind.ensures.some.1
    (subst (TakesBody h.family body c.args.packet.now) c.in_default-2.is c.in_ok-terms.ensures)

pub returns : goal.returns
returns c =
    let h = c.in-Some.head in
    let body = c.in-Some-body_behind.body.now in
    let t = c.in-Some-2.terms in
    let some = c.in-Some-body_behind.ensures.some in
    filter_taken c.args.text.now c.args.packet.now h body t (record { name = h.name; outcome = c.outcome_for-outcome.result; rest = t.rest }) c.in-Some.ensures some.0 some.1
    (subst (TakesBody h.family body c.args.packet.now) c.in-Some-2.is c.in_ok-terms.ensures) refl c.outcome_for-outcome.ensures refl
