-- The combinations of a rule that have one tail.
use Rattle.std.proofs.Common.{◌≡◌, List, [], ◌∷◌, map, ap, ◌∙◌}
use Rattle.acl_packet.specs.declared.addresses.Prefix.{Prefix}
use Rattle.acl_platform.specs.declared.rules.Rule.{Rule}
use Rattle.acl_platform.specs.Choices.{number_choices, pairs}
use Rattle.acl_platform.specs.ChoiceSteps.{Tail, tails_of, with_tail}
use Rattle.acl_platform.specs.Combinations.{parts_of}
use Rattle.acl_platform.proofs.PairLaws.{pairs-map, pairs-one}

pub parts_with_tail : (r : Rule) (tail : Tail) → tails_of r ≡ tail ∷ []
    → parts_of r ≡ map (with_tail tail) (pairs (number_choices r.protos) (pairs r.src r.dst))
parts_with_tail r tail alone =
    let protos = number_choices r.protos in
    let behind : Prefix → Prefix × Tail = λ dst. (dst, tail) in
    let pair : Prefix × Prefix → Prefix × (Prefix × Tail) = λ c. (c.0, (c.1, tail)) in
    ap (λ tails. pairs protos (pairs r.src (pairs r.dst tails))) alone
    ∙ ap (λ (ends : List (Prefix × Tail)). pairs protos (pairs r.src ends)) (pairs-one r.dst tail)
    ∙ ap (λ (ends : List (Prefix × (Prefix × Tail))). pairs protos ends) (pairs-map behind r.src r.dst)
    ∙ pairs-map pair protos (pairs r.src r.dst)
