-- When a section does something to a packet.
use Rattle.std.proofs.Common.{◌≡◌, ℕ, Bool, true, false, cond, List, slice_get, Option, None, Some, is_some, option_and_then, option_map, unwrap_or, refl}
use Rattle.acl_packet.specs.declared.addresses.Family.{Family}
use Rattle.acl_packet.specs.declared.filtering.Outcome.{Outcome}
use Rattle.acl_packet.specs.declared.packets.Packet.{Packet}
use Rattle.acl_rows.specs.Documents.{has_family_at, outcome_at}

-- Something stands where the test holds.
pub some-where : {A : Type 0} (test : Bool) (x : A) → is_some (cond test (Some x) None) ≡ test
some-where true x = refl
some-where false x = refl

of-section : {S : Type 0} (outcome : S → Packet → Option Outcome) (has_family : S → Family → Bool) (p : Packet)
    → ((s : S) → is_some (outcome s p) ≡ has_family s p.family)
    → (o : Option S) → is_some (option_and_then (λ s. outcome s p) o) ≡ unwrap_or (option_map (λ s. has_family s p.family) o) false
of-section outcome has_family p each None = refl
of-section outcome has_family p each (Some s) = each s

-- The section at a place does something to the packets of its families.
pub some-at : {S : Type 0} (outcome : S → Packet → Option Outcome) (has_family : S → Family → Bool)
    → ((s : S) (p : Packet) → is_some (outcome s p) ≡ has_family s p.family)
    → (doc : List S) (which : ℕ) (p : Packet) → is_some (outcome_at outcome doc which p) ≡ has_family_at has_family doc which p.family
some-at outcome has_family each doc which p = of-section outcome has_family p (λ s. each s p) (slice_get doc which)
