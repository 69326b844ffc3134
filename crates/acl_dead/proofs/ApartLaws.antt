-- No packet is in the own sets of two terms that have nothing in common.
use Rattle.std.proofs.Common.{◌≡◌, ℕ, true, false, List, [], ◌∷◌, length, refl, sym, ap, ◌∙◌, arith, inl, inr, Option, Some, None}
use Rattle.std.proofs.lemmas.Bool.{and_parts, and_from, or_cases, eqb-true, false≢true}
use Rattle.acl_packet.specs.declared.addresses.Family.{Family}
use Rattle.acl_packet.specs.declared.packet_fields.Field.{Field}
use Rattle.acl_packet.specs.declared.packet_fields.Field.TheVariants.{Protocol}
use Rattle.acl_packet.specs.declared.packets.Packet.{Packet}
use Rattle.acl_packet.specs.Packets.{top_of}
use Rattle.acl_sets.specs.declared.sets.Range.{Range}
use Rattle.acl_sets.specs.Ranges.{Numbers, holds}
use Rattle.acl_terms.specs.declared.terms.Term.{Term}
use Rattle.acl_terms.specs.Resolved.{destination_in, has_none, in_both, set_in, source_in}
use Rattle.acl_terms.specs.declared.options.Mode.TheVariants.{Stateless}
use Rattle.term_boxes.specs.Boxes.{IsSet, has}
use Rattle.term_boxes.specs.TermBoxes.{own_box, protocols_in}
use Rattle.term_boxes.proofs.TermSets.{have-boxes, protocol-holds, shared-holds}
use Rattle.acl_dead.specs.ApartSteps.{apart}
use Rattle.acl_dead.specs.declared.coordinates.Coordinate.{Coordinate}
use Rattle.acl_dead.specs.declared.coordinates.Coordinate.TheVariants.{Source, Destination, Number, Flags, Connection}
use Rattle.acl_dead.specs.CoordinateSteps.{set_along}

-- ---- the sets have one top

abbrev top_or : Option Numbers → ℕ
top_or None = 0
top_or (Some s) = s.top

field_set : (t : Term) (field : Field) → IsSet (top_of field) (set_in field t)
field_set t field = record { top_is = t.sound.tops field; normal = t.sound.normal field }

one_top : (c : Coordinate) (f : Family) (t u : Term) → top_or (set_along c f t) ≡ top_or (set_along c f u)
one_top Source f t u = (have-boxes f Stateless t).own.sources.top_is ∙ sym (have-boxes f Stateless u).own.sources.top_is
one_top Destination f t u = (have-boxes f Stateless t).own.destinations.top_is ∙ sym (have-boxes f Stateless u).own.destinations.top_is
one_top (Number field) f t u = (field_set t field).top_is ∙ sym (field_set u field).top_is
one_top Flags f t u = refl
one_top Connection f t u = refl

pub same_tops : (c : Coordinate) (f : Family) (t u : Term) (s e : Numbers) → set_along c f t ≡ Some s → set_along c f u ≡ Some e
    → s.top ≡ e.top
same_tops c f t u s e a b = sym (ap top_or a) ∙ one_top c f t u ∙ ap top_or b

-- ---- a number in both

no_length : (rs : List Range) (x : ℕ) → length rs ≡ 0 → holds rs x ≡ false
no_length [] x e = refl
no_length (r ∷ rs) x e = absurd (omega arith)

none_both : (top : ℕ) (s e : Numbers) (x : ℕ) → IsSet top s → holds s.ranges x ≡ true → holds e.ranges x ≡ true
    → has_none (in_both s e) ≡ true → ⊥
none_both top s e x set a b h =
    false≢true (sym (no_length (in_both s e).ranges x (eqb-true (length (in_both s e).ranges) 0 h))
    ∙ shared-holds top s e x set ∙ and_from _ _ a b)

protocol_held : (f : Family) (t : Term) (x : ℕ) → holds (protocols_in f t).ranges x ≡ true → holds t.protos.ranges x ≡ true
protocol_held f t x h = (and_parts (holds t.protos.ranges x) _ (sym (protocol-holds f t x) ∙ h)).0

pub both_own : (p : Packet) (t u : Term) → has p (own_box p.family t) ≡ true → has p (own_box p.family u) ≡ true
    → apart p.family t u ≡ true → ⊥
unfolding apart
both_own p t u a b h =
    let f = p.family in
    let a0 = and_parts (holds (own_box f t).sources.ranges p.src) _ a in
    let a1 = and_parts (holds (own_box f t).destinations.ranges p.dst) _ a0.1 in
    let a2 = and_parts (holds (own_box f t).protocols.ranges p.proto) _ a1.1 in
    let a3 = and_parts (holds (own_box f t).source_ports.ranges p.sport) _ a2.1 in
    let a4 = and_parts (holds (own_box f t).destination_ports.ranges p.dport) _ a3.1 in
    let a5 = and_parts (holds (own_box f t).types.ranges p.itype) _ a4.1 in
    let a6 = and_parts (holds (own_box f t).codes.ranges p.icode) _ a5.1 in
    let b0 = and_parts (holds (own_box f u).sources.ranges p.src) _ b in
    let b1 = and_parts (holds (own_box f u).destinations.ranges p.dst) _ b0.1 in
    let b2 = and_parts (holds (own_box f u).protocols.ranges p.proto) _ b1.1 in
    let b3 = and_parts (holds (own_box f u).source_ports.ranges p.sport) _ b2.1 in
    let b4 = and_parts (holds (own_box f u).destination_ports.ranges p.dport) _ b3.1 in
    let b5 = and_parts (holds (own_box f u).types.ranges p.itype) _ b4.1 in
    let b6 = and_parts (holds (own_box f u).codes.ranges p.icode) _ b5.1 in
    let own = (have-boxes f Stateless t).own in
    elim (or_cases _ _ h) [
      | inl c ↦ none_both _ (source_in f t) (source_in f u) p.src own.sources a0.0 b0.0 c
      | inr h1 ↦ elim (or_cases _ _ h1) [
        | inl c ↦ none_both _ (destination_in f t) (destination_in f u) p.dst own.destinations a1.0 b1.0 c
        | inr h2 ↦ elim (or_cases _ _ h2) [
          | inl c ↦ none_both _ t.protos u.protos p.proto (field_set t Protocol) (protocol_held f t p.proto a2.0) (protocol_held f u p.proto b2.0) c
          | inr h3 ↦ elim (or_cases _ _ h3) [
            | inl c ↦ none_both _ t.sports u.sports p.sport own.source_ports a3.0 b3.0 c
            | inr h4 ↦ elim (or_cases _ _ h4) [
              | inl c ↦ none_both _ t.dports u.dports p.dport own.destination_ports a4.0 b4.0 c
              | inr h5 ↦ elim (or_cases _ _ h5) [
                | inl c ↦ none_both _ t.itypes u.itypes p.itype own.types a5.0 b5.0 c
                | inr h6 ↦ elim (or_cases _ _ h6) [
                  | inl c ↦ none_both _ t.icodes u.icodes p.icode own.codes a6.0 b6.0 c
                  | inr h7 ↦ false≢true h7
                ]
              ]
            ]
          ]
        ]
      ]
    ]
