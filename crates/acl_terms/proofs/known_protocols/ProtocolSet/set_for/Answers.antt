use Rattle.std.proofs.Common.{◌≡◌, ℕ, List, ap, rules, subst, ◌∙◌}
use Rattle.acl_sets.specs.Ranges.{Numbers, holds}
use Rattle.acl_terms.specs.Matching.{AnyOf}
use Rattle.acl_terms.specs.Sets.{IsSetOf}
use Rattle.acl_terms.proofs.NumberLaws.{kept-set}
use Rattle.acl_terms.proofs.known_protocols.ProtocolSet.set_for.Goals as goal

pub returns : goal.returns
returns c =
    let known = c.args.self.now in
    let set = c.in_ok-share.field-0 in
    let shared = c.in_ok-share.ensures in
    let same : known.numbers.items ≡ c.args.numbers.now = search rules in
    subst (λ (ns : List ℕ). IsSetOf (λ x. AnyOf (λ n. n ≡ x) ns) 255 set) same
    (kept-set known.numbers.items set (ap (λ (s : Numbers). s.top) shared.same ∙ known.top) shared.normal
    (λ x le. ap (λ (s : Numbers). holds s.ranges x) shared.same ∙ known.exact x le))
