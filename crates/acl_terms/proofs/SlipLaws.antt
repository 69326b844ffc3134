-- First answers of lists.
use Rattle.std.proofs.Common.{◌≡◌, ℕ, Bool, true, false, List, [], ◌∷◌, ◌++◌, Option, None, Some, refl, ap, sym, ◌∙◌}
use Rattle.std.specs.Prelude.{is_some, ◌≢◌, Err}
use Rattle.std.proofs.lemmas.Bool.{both_ways}
use Rattle.std.specs.Option.{option_or}
use Rattle.acl_packet.specs.Packets.{has_ports}
use Rattle.acl_text.specs.declared.faults.Code.{Code}
use Rattle.acl_text.specs.declared.faults.Code.TheVariants as codes
use Rattle.acl_text.specs.declared.faults.Slip.{Slip}
use Rattle.acl_text.specs.declared.faults.Refusal.{Refusal}
use Rattle.acl_text.specs.Refusals.{IsRefusalBy, Judges, first_in, first_some}
use Rattle.acl_text.specs.declared.faults.Refusal.TheVariants as refusals
use Rattle.acl_words.specs.declared.word_lists.Word.{Word}
use Rattle.acl_policy.specs.RawTerms.{RawTerm}
use Rattle.acl_naming.specs.Definitions.{Definition, Naming}
use Rattle.acl_terms.specs.Matching.{only, protocols_of}
use Rattle.acl_terms.specs.SetSteps.{ends_slip, ports_by_ends_slip}
use Rattle.acl_terms.specs.Slips.{first_unless, network_slip, networks_slip, port_protocol_slip, questions, service_slip, services_slip, slip_at, slip_of, unless, words_slips}
use Rattle.acl_terms.proofs.WordLaws.{first-passed, some-only}

pub first-of-assoc : {X : Type 0} (a b c : Option X) → option_or (option_or a b) c ≡ option_or a (option_or b c)
first-of-assoc None b c = refl
first-of-assoc (Some x) b c = refl

pub first-in-append : {A : Type 0} (question : A → Option Slip) (xs ys : List A)
    → first_in question (xs ++ ys) ≡ option_or (first_in question xs) (first_in question ys)
first-in-append question [] ys = refl
first-in-append question (x ∷ xs) ys =
    ap (λ o. option_or (question x) o) (first-in-append question xs ys)
    ∙ sym (first-of-assoc (question x) (first_in question xs) (first_in question ys))

pub networks_by_ends : (networks : List Definition) (t : RawTerm) → networks_slip networks t ≡ ends_slip networks t
networks_by_ends networks t =
    let q : Word → Option Slip = network_slip networks in
    first-in-append q (t.sources ++ t.source_excludes ++ (t.destinations ++ t.destination_excludes)) t.addresses
    ∙ ap (λ o. option_or o (first_in q t.addresses))
    (first-in-append q (t.sources ++ t.source_excludes) (t.destinations ++ t.destination_excludes)
    ∙ ap (λ o. option_or o (first_in q (t.destinations ++ t.destination_excludes)))
    (first-in-append q t.sources t.source_excludes)
    ∙ ap (λ o. option_or (option_or (first_in q t.sources) (first_in q t.source_excludes)) o)
    (first-in-append q t.destinations t.destination_excludes))

pub services_by_ends : (services : List Definition) (protos : List ℕ) (t : RawTerm)
    → services_slip services protos t
    ≡ option_or (option_or (first_in (service_slip services protos) t.source_ports)
    (first_in (service_slip services protos) t.destination_ports)) (first_in (service_slip services protos) t.ports)
services_by_ends services protos t =
    let q : Word → Option Slip = service_slip services protos in
    first-in-append q (t.source_ports ++ t.destination_ports) t.ports
    ∙ ap (λ o. option_or o (first_in q t.ports)) (first-in-append q t.source_ports t.destination_ports)

-- The first word of two lists is that of the first one, where it has any.
first-unless-append : (passed : Bool) (code : Code) (xs ys : List Word)
    → first_unless passed code (xs ++ ys) ≡ option_or (first_unless passed code xs) (first_unless passed code ys)
first-unless-append passed code [] ys = refl
first-unless-append false code (x ∷ xs) ys = refl
first-unless-append true code (x ∷ xs) [] = refl
first-unless-append true code (x ∷ xs) (y ∷ ys) = refl

-- A term has no slip where no question on its ends and none behind them has one.
pub none-asked : (n : Naming) (t : RawTerm) (protos : List ℕ) → protos ≡ protocols_of t.protocols
    → networks_slip n.networks t ≡ None
    → first_some (port_protocol_slip protos t ∷ services_slip n.services protos t ∷ words_slips protos t) ≡ None
    → slip_of n t ≡ None
unfolding slip_of
none-asked n t protos are ends others =
    let behind = first_some (port_protocol_slip protos t ∷ services_slip n.services protos t ∷ words_slips protos t) in
    ap (λ (qs : List ℕ). first_some (questions n qs t)) (sym are) ∙ (ap (λ o. option_or o behind) ends ∙ others)

pub port_protocol_by_ends : (protos : List ℕ) (t : RawTerm)
    → port_protocol_slip protos t ≡ ports_by_ends_slip (only has_ports protos) t
port_protocol_by_ends protos t =
    let b = only has_ports protos in
    let code = codes.PortProtocol in
    first-unless-append b code (t.source_ports ++ t.destination_ports) t.ports
    ∙ ap (λ o. option_or o (first_unless b code t.ports)) (first-unless-append b code t.source_ports t.destination_ports)

-- ---- answers of one word

pub refused-is : (X : Type 0) (r : Refusal) (s : Slip) (o : Option Slip) → IsRefusalBy s r → o ≡ Some s
    → Judges {X = X} (Err r) o
refused-is X (refusals.Slip t) s o h e = e ∙ ap (λ x. Some x) (sym h)
refused-is X refusals.Memory s o h e = tt

pub some-is : (o : Option ℕ) → (o ≡ None → ⊥) → is_some o ≡ true
some-is None h = absurd (h refl)
some-is (Some n) h = refl

pub unless-passed : (b : Bool) (code : Code) (w : Word) → b ≡ true → unless b code w ≡ None
unless-passed true code w h = refl
unless-passed false code w h = absurd (both_ways false refl h)

pub unless-failed : (b : Bool) (code : Code) (w : Word) → b ≡ false → unless b code w ≡ Some (slip_at code w)
unless-failed true code w h = absurd (both_ways true h refl)
unless-failed false code w h = refl

pub both-passed : (a b : Bool) (c d : Code) (w : Word) → a ≡ true → b ≡ true
    → option_or (unless a c w) (unless b d w) ≡ None
both-passed a b c d w h k = ap (λ o. option_or o (unless b d w)) (unless-passed a c w h) ∙ unless-passed b d w k

pub second-failed : (a b : Bool) (c d : Code) (w : Word) → a ≡ true → b ≡ false
    → option_or (unless a c w) (unless b d w) ≡ Some (slip_at d w)
second-failed a b c d w h k = ap (λ o. option_or o (unless b d w)) (unless-passed a c w h) ∙ unless-failed b d w k

-- Ports are named only where protocols are.
pub ports-some : (qs : List ℕ) (test : ℕ → Bool) (code : Code) (ws : List Word)
    → first_unless (only test qs) code ws ≡ None → ws ≢ [] → qs ≢ []
ports-some qs test code ws h some = some-only test qs (first-passed (only test qs) code ws h some)
