-- Words of ports with one protocol after another.
use Rattle.std.proofs.Common.{◌≡◌, ◌↔◌, ℕ, ◌+◌, ◌<◌, Bool, true, ◌&&◌, List, [], ◌∷◌, length, drop, get_or, None, Some, ap, sym, ◌∙◌, subst}
use Rattle.std.specs.List.{list_all}
use Rattle.std.specs.Option.{option_or}
use Rattle.std.proofs.Math.Bool.{and-true}
use Rattle.std.proofs.lemmas.List.{drop_more}
use Rattle.std.proofs.lemmas.Bool.{false_from_ne_true}
use Rattle.acl_text.specs.declared.faults.Code.TheVariants as codes
use Rattle.acl_text.specs.declared.faults.Slip.{Slip}
use Rattle.acl_words.specs.declared.word_lists.Word.{Word}
use Rattle.acl_naming.specs.Definitions.{Definition, index_of}
use Rattle.acl_naming.specs.Ports.{top_port}
use Rattle.acl_naming.specs.Reach.{ReachesPort, ReachesProtocol, is_service_of}
use Rattle.acl_sets.specs.Ranges.{Numbers, IsNormal, holds}
use Rattle.acl_terms.specs.Sets.{IsSetOf}
use Rattle.acl_terms.specs.SetSteps.{protocol_slip}
use Rattle.acl_terms.specs.Slips.{is_defined, reaches_protocol, service_slip, slip_at, unless}
use Rattle.acl_naming.proofs.ComputedReachLaws.{reach_computed}
use Rattle.acl_terms.proofs.SlipLaws.{some-is, both-passed, second-failed}
use Rattle.acl_terms.proofs.WordLaws.{parts, passed}

pub protocol-tested : (base : List Definition) (name : List ℕ) (q : ℕ)
    → (reaches_protocol base name q ≡ true) ↔ ReachesProtocol base name q
unfolding reaches_protocol
protocol-tested base name q = reach_computed base name (is_service_of q)

pub word-passed : (services : List Definition) (q : ℕ) (w : Word) → protocol_slip services q w ≡ None
    → (is_defined services w.text ≡ true) × (reaches_protocol services w.text q ≡ true)
word-passed services q w h =
    let p = parts (unless (is_defined services w.text) codes.UnknownName w)
    (unless (reaches_protocol services w.text q) codes.NoPortForProtocol w) h in (
      passed (is_defined services w.text) codes.UnknownName w p.0,
      passed (reaches_protocol services w.text q) codes.NoPortForProtocol w p.1,
    )

-- The question with all protocols is that with the one there is.
pub one-protocol : (services : List Definition) (protos : List ℕ) (q : ℕ) (w : Word) → protos ≡ q ∷ []
    → protocol_slip services q w ≡ service_slip services protos w
one-protocol services protos q w is =
    ap (λ b. option_or (unless (is_defined services w.text) codes.UnknownName w) (unless b codes.NoPortForProtocol w))
    (sym (and-true (reaches_protocol services w.text q)))
    ∙ ap (λ (qs : List ℕ). service_slip services qs w) (sym is)

pub reached-more : (services : List Definition) (text : List ℕ) (qs : List ℕ) (i : ℕ) → i < length qs
    → reaches_protocol services text (get_or qs i 0) ≡ true
    → list_all (reaches_protocol services text) (drop i qs) ≡ list_all (reaches_protocol services text) qs
    → list_all (reaches_protocol services text) (drop (i + 1) qs) ≡ list_all (reaches_protocol services text) qs
reached-more services text qs i within here had =
    let f : ℕ → Bool = reaches_protocol services text in
    ap (λ b. b && list_all f (drop (i + 1) qs)) (sym here)
    ∙ sym (ap (list_all f) (drop_more qs i 0 within)) ∙ had

-- What a look-up of ports says of a word, by the word's text.
pub looked-up : (services : List Definition) (name text : List ℕ) (q : ℕ) (s : Numbers) → name ≡ text
    → s.top ≡ top_port → IsNormal 0 s.top s.ranges
    → ((n : ℕ) → (holds s.ranges n ≡ true) ↔ ReachesPort services name q n)
    → IsSetOf (ReachesPort services text q) top_port s
looked-up services name text q s e top normal exact = record {
  top_is = top;
  normal = normal;
  exact = λ x _. subst (λ w. (holds s.ranges x ≡ true) ↔ ReachesPort services w q x) e (exact x);
}

pub found : (services : List Definition) (name : List ℕ) (q : ℕ) (w : Word) → name ≡ w.text
    → (index_of services name ≡ None → ⊥) → ReachesProtocol services name q → protocol_slip services q w ≡ None
found services name q w e defined reaches =
    both-passed (is_defined services w.text) (reaches_protocol services w.text q) codes.UnknownName codes.NoPortForProtocol w
    (some-is (index_of services w.text) (λ h. defined (ap (index_of services) e ∙ h)))
    (let law = protocol-tested services w.text q in
    law.1 (subst (λ t. ReachesProtocol services t q) e reaches))

-- The slip of a word without ports of a protocol.
abbrev pub word-slip : Word → Slip
word-slip w = slip_at codes.NoPortForProtocol w

pub not-found : (services : List Definition) (name : List ℕ) (q : ℕ) (w : Word) → name ≡ w.text
    → (index_of services name ≡ None → ⊥) → (ReachesProtocol services name q → ⊥)
    → protocol_slip services q w ≡ Some (word-slip w)
not-found services name q w e defined no-port =
    second-failed (is_defined services w.text) (reaches_protocol services w.text q) codes.UnknownName codes.NoPortForProtocol w
    (some-is (index_of services w.text) (λ h. defined (ap (index_of services) e ∙ h)))
    (false_from_ne_true (reaches_protocol services w.text q)
    (λ t. let law = protocol-tested services w.text q in
    no-port (subst (λ u. ReachesProtocol services u q) (sym e) (law.0 t))))
