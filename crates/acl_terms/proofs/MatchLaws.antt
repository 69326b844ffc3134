-- A resolved term matches as the written one does.
use Rattle.std.proofs.Common.{◌≡◌, ◌↔◌, ℕ, ◌^◌, ◌<◌, ◌≤◌, Bool, true, false, not, ◌&&◌, ◌||◌, ◌==◌, ◌⊎◌, List, [], ◌∷◌, Some, inl, inr, refl, ap, sym, ◌∙◌, arith}
use Rattle.std.proofs.lemmas.Bool.{and_from, and_parts, or_cases, or_left, or_right, both_ways, false_from_ne_true}
use Rattle.acl_packet.specs.declared.addresses.Family.{Family}
use Rattle.acl_packet.specs.declared.addresses.Family.TheVariants.{V4, V6}
use Rattle.acl_packet.specs.declared.packet_fields.Field.{Field}
use Rattle.acl_packet.specs.declared.packet_fields.Field.TheVariants.{Protocol, SourcePort, DestinationPort, IcmpType, IcmpCode}
use Rattle.acl_packet.specs.declared.packets.Packet.{Packet}
use Rattle.acl_packet.specs.Addresses.{width_of}
use Rattle.acl_packet.specs.NumberWords.{protocol_in}
use Rattle.acl_packet.specs.Packets.{IsPacket, foreign_of, number_of}
use Rattle.acl_packet.proofs.FieldLaws.{all-are, by-field}
use Rattle.acl_sets.specs.Ranges.{Numbers, holds}
use Rattle.acl_sets.proofs.ComputableSetLaws.{covers-holds}
use Rattle.acl_words.specs.declared.word_lists.Word.{Word}
use Rattle.acl_policy.specs.RawTerms.{RawTerm}
use Rattle.acl_naming.specs.Definitions.{Naming}
use Rattle.acl_terms.specs.declared.options.Mode.{Mode}
use Rattle.acl_terms.specs.declared.terms.Term.{Term}
use Rattle.acl_terms.specs.Matching.{Admits, AnyOf, IsAddress, IsNamedAddress, IsNumberIn, IsProtocol, IsProtocolIn, Matches, NamesAddress, NamesPort, is_written, protocols_of}
use Rattle.acl_terms.specs.Options.{option_of, passes}
use Rattle.acl_terms.specs.Resolved.{IsResolved, addresses_match, destination_in, either_in, has_number, holds_either, matches, numbers_match, sets_in, source_in}
use Rattle.acl_terms.specs.Sets.{AreSetsOf, IsSetOf}
use Rattle.acl_sets.specs.ComputableSets.{is_all}
use Rattle.acl_terms.proofs.SoundLaws.{named-number, no-zero, whole}
use Rattle.acl_terms.proofs.WordLaws.{none-more}

both : {P Q : Type 0} (a b : Bool) → (a ≡ true) ↔ P → (b ≡ true) ↔ Q → ((a && b) ≡ true) ↔ (P × Q)
both a b p q = (
  λ h. let r = and_parts a b h in (p.0 r.0, q.0 r.1),
  λ r. and_from a b (p.1 r.0) (q.1 r.1),
)

-- One of a list has the one fact or the other, where one has the one or one has the other.
any-either : {A : Type 0} (P Q : A → Type 0) (xs : List A)
    → AnyOf (λ x. P x ⊎ Q x) xs ↔ (AnyOf P xs ⊎ AnyOf Q xs)
any-either P Q [] = (λ a. absurd a, λ e. elim e [ inl a ↦ a | inr b ↦ b ])
any-either P Q (x ∷ xs) =
    let rest = any-either P Q xs in (
      λ a. elim a [
        | inl h ↦ elim h [ inl p ↦ inl (inl p) | inr q ↦ inr (inl q) ]
        | inr t ↦ elim (rest.0 t) [ inl p ↦ inl (inr p) | inr q ↦ inr (inr q) ]
      ],
      λ e. elim e [
        | inl a ↦ elim a [ inl p ↦ inl (inl p) | inr r ↦ inr (rest.1 (inl r)) ]
        | inr b ↦ elim b [ inl q ↦ inl (inr q) | inr r ↦ inr (rest.1 (inr r)) ]
      ],
    )

admits-either : {A : Type 0} (P Q : A → Type 0) (xs : List A)
    → Admits (λ x. P x ⊎ Q x) xs ↔ (Admits P xs ⊎ Admits Q xs)
admits-either P Q [] = (λ _. inl tt, λ _. tt)
admits-either P Q (x ∷ xs) = any-either P Q (x ∷ xs)

either-is : {A : Type 0} (P Q : A → Type 0) (xs : List A) (a b : Bool) → (a ≡ true) ↔ Admits P xs
    → (b ≡ true) ↔ Admits Q xs → ((a || b) ≡ true) ↔ Admits (λ x. P x ⊎ Q x) xs
either-is P Q xs a b p q =
    let e = admits-either P Q xs in (
      λ h. e.1 (elim (or_cases a b h) [ inl l ↦ inl (p.0 l) | inr r ↦ inr (q.0 r) ]),
      λ w. elim (e.0 w) [ inl l ↦ or_left a b (p.1 l) | inr r ↦ or_right a b (q.1 r) ],
    )

source-is : (n : Naming) (raw : RawTerm) (t : Term) (f : Family) (x : ℕ) → AreSetsOf n raw (sets_in t)
    → x < 2 ^ width_of f → (holds (source_in f t).ranges x ≡ true) ↔ IsAddress n f raw.sources raw.source_excludes x
source-is n raw t V4 x are l = are.ipv4.0.exact x (omega arith)
source-is n raw t V6 x are l = are.ipv6.0.exact x (omega arith)

destination-is : (n : Naming) (raw : RawTerm) (t : Term) (f : Family) (x : ℕ) → AreSetsOf n raw (sets_in t)
    → x < 2 ^ width_of f
    → (holds (destination_in f t).ranges x ≡ true) ↔ IsAddress n f raw.destinations raw.destination_excludes x
destination-is n raw t V4 x are l = are.ipv4.1.exact x (omega arith)
destination-is n raw t V6 x are l = are.ipv6.1.exact x (omega arith)

named-is : (n : Naming) (raw : RawTerm) (t : Term) (f : Family) (x : ℕ) → AreSetsOf n raw (sets_in t)
    → x < 2 ^ width_of f → (holds (either_in f t).ranges x ≡ true) ↔ IsNamedAddress n f raw.addresses x
named-is n raw t V4 x are l = are.ipv4.2.exact x (omega arith)
named-is n raw t V6 x are l = are.ipv6.2.exact x (omega arith)

-- Named protocols are never all: none of them is 0.
not-all : (ws : List Word) (w : Word) (s : Numbers) → IsSetOf (IsProtocol (w ∷ ws)) 255 s → is_all s ≡ false
not-all ws w s h = false_from_ne_true (is_all s)
    (λ t. no-zero (w ∷ ws) (named-number (λ n v. protocol_in v.text ≡ Some n) 255 (w ∷ ws) s 0 h (none-more w ws)
    (covers-holds s.ranges 0 s.top 0 t (omega arith) (omega arith))))

not-is : (e : Bool) (a : Bool) → a ≡ false → ((a || not e) ≡ true) ↔ (e ≡ false)
not-is true true h = absurd (both_ways true h refl)
not-is false true h = absurd (both_ways true h refl)
not-is true false h = (λ k. absurd (both_ways false refl k), λ k. absurd (both_ways true k refl))
not-is false false h = (λ _. refl, λ _. refl)

protocol-is : (ws : List Word) (f : Family) (s : Numbers) (x : ℕ) → IsSetOf (IsProtocol ws) 255 s → x ≤ 255
    → ((holds s.ranges x && (is_all s || not (x == foreign_of f))) ≡ true) ↔ IsProtocolIn f ws x
protocol-is [] f s x h l =
    let e = h.exact x l in (
      λ _. tt,
      λ _. and_from (holds s.ranges x) (is_all s || not (x == foreign_of f)) (e.1 tt)
          (or_left (is_all s) (not (x == foreign_of f)) (whole 255 s h)),
    )
protocol-is (w ∷ ws) f s x h l =
    both (holds s.ranges x) (is_all s || not (x == foreign_of f)) (h.exact x l)
    (not-is (x == foreign_of f) (is_all s) (not-all ws w s h))

-- The numbers of a field that the term takes are those that its words name.
number-is : (n : Naming) (raw : RawTerm) (t : Term) (f : Family) (p : Packet) → IsPacket p → AreSetsOf n raw (sets_in t)
    → (field : Field) → (has_number f t field (number_of field p) ≡ true) ↔ IsNumberIn n raw f field (number_of field p)
number-is n raw t f p fits are = by-field
    (λ field. (has_number f t field (number_of field p) ≡ true) ↔ IsNumberIn n raw f field (number_of field p))
    (protocol-is raw.protocols f t.protos p.proto (are.numbers_are Protocol) (fits.numbers Protocol))
    ((are.numbers_are SourcePort).exact p.sport (fits.numbers SourcePort))
    ((are.numbers_are DestinationPort).exact p.dport (fits.numbers DestinationPort))
    ((are.numbers_are IcmpType).exact p.itype (fits.numbers IcmpType))
    ((are.numbers_are IcmpCode).exact p.icode (fits.numbers IcmpCode))

option-is : (n : Naming) (raw : RawTerm) (t : Term) (mode : Mode) (p : Packet) → IsResolved n raw t
    → passes t.option mode t.dport_named p ≡ passes (option_of raw.options) mode (is_written raw.destination_ports) p
option-is n raw t mode p is =
    ap (λ o. passes o mode t.dport_named p) is.fields.option
    ∙ ap (λ b. passes (option_of raw.options) mode b p) is.fields.dport_named

pub match-as-written : (n : Naming) (raw : RawTerm) (t : Term) (mode : Mode) (p : Packet) → IsPacket p
    → IsResolved n raw t → (matches mode t p ≡ true) ↔ Matches n raw mode p
unfolding matches
match-as-written n raw t mode p fits is =
    let are = is.sets in
    let qs = protocols_of raw.protocols in
    let f = p.family in
    let s = fits.source in
    let d = fits.destination in
    let source = source-is n raw t f p.src are s in
    let destination = destination-is n raw t f p.dst are d in
    let either_address = either-is (NamesAddress n f p.src) (NamesAddress n f p.dst) raw.addresses
    (holds (either_in f t).ranges p.src) (holds (either_in f t).ranges p.dst) (named-is n raw t f p.src are s)
    (named-is n raw t f p.dst are d) in
    let numbers = all-are (λ field. has_number f t field (number_of field p))
    (λ field. IsNumberIn n raw f field (number_of field p)) (number-is n raw t f p fits are) in
    let either_port = either-is (NamesPort n qs p.sport) (NamesPort n qs p.dport) raw.ports
    (holds t.ports.ranges p.sport) (holds t.ports.ranges p.dport)
    (are.either_ports.exact p.sport (fits.numbers SourcePort))
    (are.either_ports.exact p.dport (fits.numbers DestinationPort)) in
    let same = option-is n raw t mode p is in
    let option : (passes t.option mode t.dport_named p ≡ true)
    ↔ (passes (option_of raw.options) mode (is_written raw.destination_ports) p ≡ true) =
    (λ h. sym same ∙ h, λ h. same ∙ h) in
    let addresses = both (holds (source_in f t).ranges p.src)
    (holds (destination_in f t).ranges p.dst && holds_either (either_in f t) p.src p.dst) source
    (both (holds (destination_in f t).ranges p.dst) (holds_either (either_in f t) p.src p.dst) destination
    either_address) in
    let passed = passes t.option mode t.dport_named p in
    let last = both (holds_either t.ports p.sport p.dport) passed either_port option in
    let law = both (addresses_match f t p) (numbers_match f t p && (holds_either t.ports p.sport p.dport && passed)) addresses
    (both (numbers_match f t p) (holds_either t.ports p.sport p.dport && passed) numbers last) in (
      λ h. let r = law.0 h in record {
        source = r.0.0;
        destination = r.0.1.0;
        either_address = r.0.1.1;
        numbers = r.1.0;
        either_port = r.1.1.0;
        option = r.1.1.1;
      },
      λ m. law.1 ((m.source, (m.destination, m.either_address)), (m.numbers, (m.either_port, m.option))),
    )
