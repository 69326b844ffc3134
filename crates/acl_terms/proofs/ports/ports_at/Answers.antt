use Rattle.std.proofs.Common.{ap, Err}
use Rattle.acl_sets.specs.Ranges.{Numbers}
use Rattle.acl_terms.proofs.PortLaws.{looked-up, found, not-found, word-slip}
use Rattle.acl_terms.proofs.SlipLaws.{refused-is}
use Rattle.acl_terms.proofs.ports.ports_at.Goals as goal

pub returns-in-Ok-clause-judged : goal.returns-in-Ok-clause-judged
returns-in-Ok-clause-judged c =
    found c.args.base.now.services c.text.result.now c.args.proto c.args.word.now c.text.ensures
    (λ h. absurd (let e = c.in-Ok.ensures.unknown.1 h in cc)) c.in-Ok.ensures.reached

pub returns-in-Ok-clause-set : goal.returns-in-Ok-clause-set
returns-in-Ok-clause-set c =
    looked-up c.args.base.now.services c.text.result.now c.args.word.now.text c.args.proto c.in-Ok.set
    c.text.ensures c.in-Ok.ensures.top c.in-Ok.ensures.normal c.in-Ok.ensures.exact

pub returns-in-Err-NoPort-clause-judged : goal.returns-in-Err-NoPort-clause-judged
returns-in-Err-NoPort-clause-judged c =
    let is = c.in-Err-NoPort.field-0-is in
    refused-is Numbers c.refusal_at-in-Err-NoPort.result (word-slip c.args.word.now) _ c.refusal_at-in-Err-NoPort.ensures
    (not-found c.args.base.now.services c.text.result.now c.args.proto c.args.word.now c.text.ensures
    (λ h. absurd (let e = c.in-Err-NoPort.ensures.unknown.1 h in cc))
    (c.in-Err-NoPort.ensures.no_port (ap Err is)))
