-- What holds of each field of a packet.
use Rattle.std.proofs.Common.{◌≡◌, ◌↔◌, ℕ, ◌<◌, ◌≤◌, Bool, true, false, ◌||◌, ◌==◌, [], ◌∷◌, refl, arith}
use Rattle.std.specs.List.{list_all}
use Rattle.std.proofs.lemmas.Bool.{and_from, and_parts, both_ways, eqb-true}
use Rattle.std.proofs.lemmas.Bool.Decides.{Decides-eqb}
use Rattle.acl_packet.specs.declared.packet_fields.Field.{Field}
use Rattle.acl_packet.specs.declared.packet_fields.Field.TheVariants.{Protocol, SourcePort, DestinationPort, IcmpType, IcmpCode}
use Rattle.acl_packet.specs.declared.packets.Packet.{Packet}
use Rattle.acl_packet.specs.FieldSteps.{is_fitting}
use Rattle.acl_packet.specs.Packets.{fields, has_field, number_of, top_of}

-- What holds of one field after the other holds of each.
pub by-field : (P : Field → Type 0) → P Protocol → P SourcePort → P DestinationPort → P IcmpType → P IcmpCode → (field : Field) → P field
by-field P a b c d e Protocol = a
by-field P a b c d e SourcePort = b
by-field P a b c d e DestinationPort = c
by-field P a b c d e IcmpType = d
by-field P a b c d e IcmpCode = e

-- All fields pass a test where each does.
pub all-fields : (test : Field → Bool) → (list_all test fields ≡ true) ↔ ((field : Field) → test field ≡ true)
all-fields test = (forth, back)
  where
    forth : list_all test fields ≡ true → (field : Field) → test field ≡ true
    forth h =
        let a = and_parts (test Protocol) (list_all test (SourcePort ∷ DestinationPort ∷ IcmpType ∷ IcmpCode ∷ [])) h in
        let b = and_parts (test SourcePort) (list_all test (DestinationPort ∷ IcmpType ∷ IcmpCode ∷ [])) a.1 in
        let c = and_parts (test DestinationPort) (list_all test (IcmpType ∷ IcmpCode ∷ [])) b.1 in
        let d = and_parts (test IcmpType) (list_all test (IcmpCode ∷ [])) c.1 in
        let e = and_parts (test IcmpCode) (list_all test []) d.1 in
        by-field (λ field. test field ≡ true) a.0 b.0 c.0 d.0 e.0

    back : ((field : Field) → test field ≡ true) → list_all test fields ≡ true
    back h = and_from (test Protocol) (list_all test (SourcePort ∷ DestinationPort ∷ IcmpType ∷ IcmpCode ∷ [])) (h Protocol)
        (and_from (test SourcePort) (list_all test (DestinationPort ∷ IcmpType ∷ IcmpCode ∷ [])) (h SourcePort)
        (and_from (test DestinationPort) (list_all test (IcmpType ∷ IcmpCode ∷ [])) (h DestinationPort)
        (and_from (test IcmpType) (list_all test (IcmpCode ∷ [])) (h IcmpType)
        (and_from (test IcmpCode) (list_all test []) (h IcmpCode) refl))))

-- So do facts that tests decide.
pub all-are : (test : Field → Bool) (P : Field → Type 0) → ((field : Field) → (test field ≡ true) ↔ P field)
    → (list_all test fields ≡ true) ↔ ((field : Field) → P field)
all-are test P law = (
  λ h field. (law field).0 ((all-fields test).0 h field),
  λ k. (all-fields test).1 (λ field. (law field).1 (k field)),
)

zero-or : (b : Bool) (n : ℕ) → ((b || n == 0) ≡ true) ↔ (b ≡ false → n ≡ 0)
zero-or true n = (λ _ h. absurd (both_ways true h refl), λ _. refl)
zero-or false n = (λ h _. eqb-true n 0 h, λ k. (Decides-eqb n 0).1 (k refl))

pub absent_law : (p : Packet) → (list_all (is_fitting p) fields ≡ true)
    ↔ ((field : Field) → has_field p.family field p.proto ≡ false → number_of field p ≡ 0)
absent_law p = all-are (is_fitting p) (λ field. has_field p.family field p.proto ≡ false → number_of field p ≡ 0)
    (λ field. zero-or (has_field p.family field p.proto) (number_of field p))

pub numbers_fit : (p : Packet) → p.proto < 256 → p.sport < 65536 → p.dport < 65536 → p.itype < 256
    → p.icode < 256 → (field : Field) → number_of field p ≤ top_of field
numbers_fit p proto sport dport itype icode = by-field (λ field. number_of field p ≤ top_of field) (omega (arith, proto))
    (omega (arith, sport)) (omega (arith, dport)) (omega (arith, itype)) (omega (arith, icode))
