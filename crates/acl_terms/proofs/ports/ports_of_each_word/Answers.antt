use Rattle.std.proofs.Common.{◌≡◌, ◌∷◌, ap, sym, ◌∙◌}
use Rattle.acl_text.specs.Refusals.{first_in}
use Rattle.acl_naming.specs.Ports.{top_port}
use Rattle.acl_naming.specs.Reach.{ReachesPort}
use Rattle.acl_terms.specs.Matching.{AnyOf, NamesPort}
use Rattle.acl_terms.specs.Slips.{service_slip}
use Rattle.acl_terms.proofs.DistinctLaws.{asks-service, begun-names, given, new-first, new-some, next-names, slip-next}
use Rattle.acl_terms.proofs.SetLaws.{more-some}
use Rattle.acl_terms.proofs.ports.ports_of_each_word.Goals as goal

pub loop-left-init : goal.loop-left-init
loop-left-init c =
    let services = c.args.base.now.services in
    let protos = c.args.protos.now in
    let words = c.args.words.now in
    record {
      set = begun-names (λ x text. AnyOf (λ q. ReachesPort services text q x) protos) words c.new-left.result top_port
          c.empty-out.result c.new-left.ensures c.empty-out.ensures.top c.empty-out.ensures.normal
          c.empty-out.ensures.exact;
      judged = ap (first_in (service_slip services protos)) c.new-left.ensures
          ∙ new-first (service_slip services protos) (asks-service services protos) words;
      some = λ some none. absurd (new-some words some (sym c.new-left.ensures ∙ none));
    }

pub loop-left-preserved : goal.loop-left-preserved
loop-left-preserved c =
    let base = c.args.base.now in
    let protos = c.args.protos.now in
    let words = c.args.words.now in
    let next : c.loop-left.left ≡ c.in-Some.word ∷ c.next.new.self =
    given (λ w. c.loop-left.left ≡ w ∷ c.next.new.self) c.in_ok-word.field-0 c.in-Some.word c.in-Some.is c.in_ok-word.ensures.some in
    let had = c.loop-left.invariant in
    let union = c.in_ok-out.ensures in
    record {
      set = next-names (NamesPort base protos) (λ x. AnyOf (NamesPort base protos x) words) _ _ _ top_port
          c.loop-left.out c.in_ok-more.more c.in_ok-out.out next had.set
          c.in_ok-more.ensures.set union.top union.normal union.exact;
      judged = slip-next (service_slip base.services protos) _ _ _ (first_in (service_slip base.services protos) words)
          next c.in_ok-more.ensures.judged had.judged;
      some = λ _ _. more-some top_port c.loop-left.out c.in_ok-more.more c.in_ok-out.out
          c.in_ok-more.ensures.set.normal c.in_ok-more.ensures.some union.exact;
    }
