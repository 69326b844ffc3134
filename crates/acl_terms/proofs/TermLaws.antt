-- A written term is resolved in one way, and in some way where it has no slip.
use Rattle.std.proofs.Common.{◌≡◌, ◌≢◌, ℕ, Bool, List, [], ◌∷◌, ◌++◌, Option, None, inl, refl, ap, sym, ◌∙◌, subst}
use Rattle.std.proofs.Props.{props}
use Rattle.std.specs.List.{list_all}
use Rattle.std.proofs.lemmas.Bool.{and_parts}
use Rattle.acl_packet.specs.declared.filtering.Verdict.{Verdict}
use Rattle.acl_packet.specs.declared.packet_fields.Field.{Field}
use Rattle.acl_packet.specs.declared.packet_fields.Field.TheVariants.{Protocol, SourcePort, DestinationPort, IcmpType, IcmpCode}
use Rattle.acl_packet.specs.Packets.{has_ports}
use Rattle.acl_text.specs.declared.faults.Code.TheVariants as codes
use Rattle.acl_text.specs.declared.faults.Place.{Place}
use Rattle.acl_text.proofs.NoteLaws.{note_is_safe}
use Rattle.acl_text.specs.Notes.{note_of}
use Rattle.acl_text.specs.Refusals.{first_in}
use Rattle.acl_host.specs.declared.days.Day.{Day}
use Rattle.acl_policy.specs.declared.keywords.Keyword.TheVariants as keywords
use Rattle.acl_policy.specs.RawTerms.{RawTerm}
use Rattle.acl_words.specs.declared.word_lists.Word.{Word}
use Rattle.acl_policy.specs.Conditions.{IsRawTerm}
use Rattle.acl_sets.specs.Ranges.{Numbers}
use Rattle.acl_naming.specs.Definitions.{Naming}
use Rattle.acl_naming.specs.PortLaws.{PortsAreSome}
use Rattle.acl_naming.specs.Ports.{top_port}
use Rattle.acl_naming.specs.ComputableReach.{ports_reached}
use Rattle.acl_naming.proofs.ComputedReachLaws.{ports_computed}
use Rattle.acl_terms.specs.declared.options.Opt.{Opt}
use Rattle.acl_terms.specs.declared.terms.Platforms.{Platforms}
use Rattle.acl_terms.specs.declared.terms.Term.{Term}
use Rattle.acl_terms.specs.ComputableTerms.{port_set, sets_of}
use Rattle.acl_terms.specs.Living.{platforms_of, some_platforms}
use Rattle.acl_terms.specs.Matching.{is_written, protocols_of}
use Rattle.acl_terms.specs.Options.{option_of, verdict_of}
use Rattle.acl_terms.specs.Resolved.{IsResolved, sets_in}
use Rattle.acl_terms.specs.Sets.{AreSetsOf, Sets}
use Rattle.acl_terms.specs.Slips.{is_defined, port_words, reaches_protocol, service_slip, slip_of, unless}
use Rattle.acl_terms.specs.Soundness.{IsSoundTerm, normal-prop, one-number-prop}
use Rattle.acl_terms.proofs.ComputedLaws.{computed-sets, one-of-sets, port-is}
use Rattle.acl_terms.proofs.PortLaws.{protocol-tested}
use Rattle.acl_terms.proofs.SetLaws.{holds-some}
use Rattle.acl_terms.proofs.FieldLaws.{told, told-same}
use Rattle.acl_terms.proofs.SlipLaws.{first-in-append, ports-some}
use Rattle.acl_terms.proofs.SoundLaws.{passes-all, some-range, sound}
use Rattle.acl_terms.proofs.WordLaws.{left-some, none-more, parts, passed, right-some}

-- ---- one term

-- The fields of a term without its facts.
record Fields : Type 0 where
  name : List ℕ
  place : Place
  note : List ℕ
  sets : Sets
  addr_named : Bool
  dport_named : Bool
  port_named : Bool
  option : Opt
  verdict : Verdict
  log : Bool
  expires : Option Day
  «only» : Option Platforms
  never : Platforms

AreSound : Fields → Type 0
AreSound f = IsSoundTerm f.name f.note f.sets.src4 f.sets.src6 f.sets.dst4 f.sets.dst6 f.sets.addr4 f.sets.addr6
    f.addr_named (told f.sets.numbers) f.dport_named f.sets.ports f.port_named f.option f.verdict

fields-of : Term → Fields
fields-of t = record {
  name = t.name;
  place = t.place;
  note = t.note;
  sets = sets_in t;
  addr_named = t.addr_named;
  dport_named = t.dport_named;
  port_named = t.port_named;
  option = t.option;
  verdict = t.verdict;
  log = t.log;
  expires = t.expires;
  «only» = t.only;
  never = t.never;
}

term-of : (f : Fields) → AreSound f → Term
unfolding AreSound
term-of f sound = record {
  name = f.name;
  place = f.place;
  note = f.note;
  src4 = f.sets.src4;
  src6 = f.sets.src6;
  dst4 = f.sets.dst4;
  dst6 = f.sets.dst6;
  addr4 = f.sets.addr4;
  addr6 = f.sets.addr6;
  addr_named = f.addr_named;
  protos = f.sets.numbers Protocol;
  sports = f.sets.numbers SourcePort;
  dports = f.sets.numbers DestinationPort;
  dport_named = f.dport_named;
  ports = f.sets.ports;
  port_named = f.port_named;
  itypes = f.sets.numbers IcmpType;
  icodes = f.sets.numbers IcmpCode;
  option = f.option;
  verdict = f.verdict;
  log = f.log;
  expires = f.expires;
  «only» = f.only;
  never = f.never;
  sound = sound;
}

one-proof : (f : Fields) (p q : AreSound f) → p ≡ q
unfolding AreSound
one-proof f p q =
    let prop : IsProp (IsSoundTerm f.name f.note f.sets.src4 f.sets.src6 f.sets.dst4 f.sets.dst6 f.sets.addr4 f.sets.addr6
    f.addr_named (told f.sets.numbers) f.dport_named f.sets.ports f.port_named f.option f.verdict) = hlevel (props, normal-prop, one-number-prop) in prop p q

same-term : (f g : Fields) → f ≡ g → (p : AreSound f) (q : AreSound g) → term-of f p ≡ term-of g q
same-term f g e p =
    subst (λ h. (q : AreSound h) → term-of f p ≡ term-of h q) e (λ q. ap (λ s. term-of f s) (one-proof f p q))

same-fields : (n : Naming) (raw : RawTerm) (t u : Term) → IsResolved n raw t → IsResolved n raw u
    → fields-of t ≡ fields-of u
unfolding fields-of
same-fields n raw t u h k =
    let sets = one-of-sets n raw (sets_in t) (sets_in u) h.sets k.sets in
    let a = h.fields in
    let b = k.fields in
    λ j. record {
      name = (a.name ∙ sym b.name) j;
      place = (a.place ∙ sym b.place) j;
      note = (a.note ∙ sym b.note) j;
      sets = sets j;
      addr_named = (a.addr_named ∙ sym b.addr_named) j;
      dport_named = (a.dport_named ∙ sym b.dport_named) j;
      port_named = (a.port_named ∙ sym b.port_named) j;
      option = (a.option ∙ sym b.option) j;
      verdict = (a.verdict ∙ sym b.verdict) j;
      log = (a.log ∙ sym b.log) j;
      expires = (a.expires ∙ sym b.expires) j;
      «only» = (a.only ∙ sym b.only) j;
      never = (a.never ∙ sym b.never) j;
    }

pub one-term : (n : Naming) (raw : RawTerm) (t u : Term) → IsResolved n raw t → IsResolved n raw u → t ≡ u
unfolding fields-of AreSound term-of
one-term n raw t u h k =
    same-term (fields-of t) (fields-of u) (same-fields n raw t u h k) t.sound u.sound

-- ---- some term

-- The ports of words are some, where each word has ports of each protocol.
port-some : (n : Naming) (qs : List ℕ) (words : List Word) → PortsAreSome n.services → (words ≢ [] → qs ≢ [])
    → first_in (service_slip n.services qs) words ≡ None → (port_set n qs words).ranges ≢ []
port-some n qs [] some more none = none-more _ _
port-some n [] (w ∷ ws) some more none = absurd (more (none-more w ws) refl)
port-some n (q ∷ qs) (w ∷ ws) some more none =
    let services = n.services in
    let here = parts (service_slip services (q ∷ qs) w) (first_in (service_slip services (q ∷ qs)) ws) none in
    let both = parts (unless (is_defined services w.text) codes.UnknownName w)
    (unless (list_all (reaches_protocol services w.text) (q ∷ qs)) codes.NoPortForProtocol w) here.0 in
    let all = passed (list_all (reaches_protocol services w.text) (q ∷ qs)) codes.NoPortForProtocol w both.1 in
    let first = and_parts (reaches_protocol services w.text q) (list_all (reaches_protocol services w.text) qs) all in
    let reached = some q w.text ((protocol-tested services w.text q).0 first.0) in
    let law = ports_computed services q w.text in
    let x = holds-some top_port (ports_reached services q w.text) law.0 reached in
    let port = (port-is n (q ∷ qs) (w ∷ ws)).exact x.0 x.1 in
    some-range (port_set n (q ∷ qs) (w ∷ ws)).ranges x.0 (port.1 (inl (inl ((law.1 x.0 x.1).0 x.2))))

sets-there : (n : Naming) (raw : RawTerm) → PortsAreSome n.services → slip_of n raw ≡ None → AreSetsOf n raw (sets_of n raw)
unfolding sets_of
sets-there n raw some clean =
    let qs = protocols_of raw.protocols in
    let p = passes-all n raw clean in
    let question = service_slip n.services qs in
    let ends = raw.source_ports ++ raw.destination_ports in
    let all = parts (first_in question ends) (first_in question raw.ports)
    (sym (first-in-append question ends raw.ports) ∙ p.services) in
    let both = parts (first_in question raw.source_ports) (first_in question raw.destination_ports)
    (sym (first-in-append question raw.source_ports raw.destination_ports) ∙ all.0) in
    let named = ports-some qs has_ports codes.PortProtocol (port_words raw) p.ports in
    computed-sets n raw
    (port-some n qs raw.source_ports some
    (λ h. named (left-some ends raw.ports (left-some raw.source_ports raw.destination_ports h))) both.0)
    (port-some n qs raw.destination_ports some
    (λ h. named (left-some ends raw.ports (right-some raw.source_ports raw.destination_ports h))) both.1)
    (port-some n qs raw.ports some (λ h. named (right-some ends raw.ports h)) all.1)

abbrev pub IsSoundWith : RawTerm → Sets → (Field → Numbers) → Type 0
IsSoundWith raw s numbers = IsSoundTerm raw.name.text (note_of raw.comments) s.src4 s.src6 s.dst4 s.dst6 s.addr4 s.addr6
    (is_written raw.addresses) numbers (is_written raw.destination_ports) s.ports
    (is_written raw.ports) (option_of raw.options) (verdict_of raw.action.text)

abbrev pub IsWrittenSound : RawTerm → Sets → Type 0
IsWrittenSound raw s = IsSoundWith raw s (told s.numbers)

-- The written term, with these sets.
abbrev pub term-with : (raw : RawTerm) (s : Sets) → IsWrittenSound raw s → Term
term-with raw s sound = record {
  name = raw.name.text;
  place = raw.name.place;
  note = note_of raw.comments;
  src4 = s.src4;
  src6 = s.src6;
  dst4 = s.dst4;
  dst6 = s.dst6;
  addr4 = s.addr4;
  addr6 = s.addr6;
  addr_named = is_written raw.addresses;
  protos = s.numbers Protocol;
  sports = s.numbers SourcePort;
  dports = s.numbers DestinationPort;
  dport_named = is_written raw.destination_ports;
  ports = s.ports;
  port_named = is_written raw.ports;
  itypes = s.numbers IcmpType;
  icodes = s.numbers IcmpCode;
  option = option_of raw.options;
  verdict = verdict_of raw.action.text;
  log = raw.logging;
  expires = raw.expires;
  «only» = some_platforms raw.platforms;
  never = platforms_of raw.not_platforms;
  sound = sound;
}

-- It is resolved, where the sets are those of the written term.
pub term-with-resolved : (n : Naming) (raw : RawTerm) (s : Sets) (sound : IsWrittenSound raw s) → AreSetsOf n raw s
    → IsResolved n raw (term-with raw s sound)
term-with-resolved n raw s sound are = record {
  sets = subst (λ (numbers : Field → Numbers). AreSetsOf n raw (record s { numbers = numbers })) (sym (told-same s.numbers)) are;
  fields = record {
    name = refl;
    place = refl;
    note = refl;
    addr_named = refl;
    dport_named = refl;
    port_named = refl;
    option = refl;
    verdict = refl;
    log = refl;
    expires = refl;
    «only» = refl;
    never = refl;
  };
}

pub term-there : (n : Naming) (raw : RawTerm) → PortsAreSome n.services → IsRawTerm raw → slip_of n raw ≡ None
    → (t : Term) × IsResolved n raw t
term-there n raw some fits clean =
    let s = sets_of n raw in
    let are = sets-there n raw some clean in
    let is_sound : IsWrittenSound raw s =
    subst (IsSoundWith raw s) (sym (told-same s.numbers))
    (sound n raw s fits.name_is (note_is_safe raw.comments) (fits.words_fit keywords.IcmpCode) clean are) in
    (term-with raw s is_sound, term-with-resolved n raw s is_sound are)
