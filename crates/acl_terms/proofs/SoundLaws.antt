-- The sets of a term without a slip fulfil what every term does.
use Rattle.std.proofs.Common.{◌≡◌, ◌≢◌, ℕ, ◌≤◌, Bool, true, false, cond, List, [], ◌∷◌, ◌++◌, Option, None, Some, inl, inr, refl, ap, sym, subst, ◌∙◌, ◌↔◌, arith}
use Rattle.std.specs.Prelude.{is_some, codes as codes_of}
use Rattle.std.specs.List.{All, list_all}
use Rattle.std.specs.Str.{bytes_eq}
use Rattle.std.proofs.lemmas.Bool.{and_parts, both_ways, eqb-true, false_from_ne_true}
use Rattle.std.proofs.lemmas.List.Elements.{All-head}
use Rattle.std.proofs.lemmas.Option.{none-some}
use Rattle.acl_packet.specs.declared.addresses.Family.{Family}
use Rattle.acl_packet.specs.declared.addresses.Family.TheVariants.{V4, V6}
use Rattle.acl_packet.specs.declared.filtering.Verdict.{Verdict}
use Rattle.acl_packet.specs.declared.filtering.Verdict.TheVariants as verdicts
use Rattle.acl_packet.specs.declared.packet_fields.Field.TheVariants.{Protocol, SourcePort, DestinationPort, IcmpType, IcmpCode}
use Rattle.acl_packet.specs.Addresses.{top_address}
use Rattle.acl_packet.specs.NumberWords.{protocol_in}
use Rattle.acl_packet.specs.Packets.{has_ports}
use Rattle.acl_packet.proofs.FieldLaws.{by-field}
use Rattle.acl_text.specs.declared.faults.Code.{Code}
use Rattle.acl_text.specs.declared.faults.Code.TheVariants as codes
use Rattle.acl_text.specs.Names.{is_name}
use Rattle.acl_sets.specs.declared.sets.Range.{Range}
use Rattle.acl_sets.specs.OneNumber.{IsOneNumber}
use Rattle.acl_sets.specs.Ranges.{Numbers, holds}
use Rattle.acl_sets.proofs.RangeLaws.{at_top}
use Rattle.acl_sets.proofs.ComputableSetLaws.{holds-covers}
use Rattle.acl_words.specs.declared.word_lists.Word.{Word}
use Rattle.acl_policy.specs.RawTerms.{RawTerm}
use Rattle.acl_naming.specs.Definitions.{Naming}
use Rattle.acl_naming.specs.Ports.{top_port}
use Rattle.acl_terms.specs.declared.options.Opt.{Opt}
use Rattle.acl_terms.specs.declared.options.Opt.TheVariants.{Plain, Established, TcpEstablished, TcpInitial, Rst}
use Rattle.acl_terms.specs.Matching.{AnyOf, Admits, IsProtocol, NamesAddress, NamesPort, only, is_number, code_in, icmp_family, type_in, types_of, protocols_of, is_written}
use Rattle.acl_terms.specs.Options.{option_of, verdict_of}
use Rattle.acl_terms.specs.Sets.{IsSetOf, Sets, AreSetsOf}
use Rattle.acl_terms.specs.SetSteps.{IsCode, IsType, single}
use Rattle.acl_terms.specs.Slips.{are_one, first_unless, slip_of, type_slip, option_fits, verdict_fits, is_tcp_or_udp, port_words, networks_slip, port_protocol_slip, services_slip, words_slips, types_slip, codes_slip, clash_slip, option_slip, reset_slip}
use Rattle.acl_sets.specs.ComputableSets.{is_all}
use Rattle.acl_sets.specs.Ranges.{Only}
use Rattle.acl_terms.specs.Soundness.{HaveField, IsSoundTerm, is_established, is_protocol, needs_tcp, is_reset, is_left}
use Rattle.acl_text.specs.Notes.{is_note, note_of}
use Rattle.acl_text.specs.Refusals.{first_in, first_some}
use Rattle.acl_terms.proofs.ComputedLaws.{one-set}
use Rattle.acl_terms.proofs.NumberLaws.{any-flat, numbers-set}
use Rattle.acl_terms.proofs.SetLaws.{same-set}
use Rattle.acl_terms.proofs.WordLaws.{code-within, protocol-within, type-within, parts, passed, first-passed, none-more, left-some, right-some, only-all, any-passes, any-number}

-- ---- all numbers

pub whole : (top : ℕ) (s : Numbers) → IsSetOf (λ x. Unit {0}) top s → is_all s ≡ true
whole top s h =
    let t : s.top ≡ top = h.top_is in
    holds-covers 0 s.top s.ranges 0 s.top h.normal (omega arith)
    (λ x a b. let e = h.exact x (omega arith) in e.1 tt)

-- Where a set is not all, words are written.
pub not-whole : (P : ℕ → Word → Type 0) (top : ℕ) (ws : List Word) (s : Numbers)
    → IsSetOf (λ x. Admits (P x) ws) top s → is_all s ≡ false → ws ≢ []
not-whole P top [] s h e = λ _. both_ways (is_all s) e (whole top s h)
not-whole P top (w ∷ ws) s h e = none-more w ws

-- A number of a set that is not all is one of the words'.
pub named-number : (P : ℕ → Word → Type 0) (top : ℕ) (ws : List Word) (s : Numbers) (x : ℕ)
    → IsSetOf (λ n. Admits (P n) ws) top s → ws ≢ [] → holds s.ranges x ≡ true → AnyOf (P x) ws
named-number P top [] s x h some e = absurd (some refl)
named-number P top (w ∷ ws) s x h some e =
    let t : s.top ≡ top = h.top_is in
    let l : x ≤ s.top = at_top 0 s.top s.ranges x h.normal e in
    let law = h.exact x (omega arith) in law.0 e

-- ---- protocols

pub only-held : (test : ℕ → Bool) (ws : List Word) (s : Numbers) → IsSetOf (IsProtocol ws) 255 s
    → only test (protocols_of ws) ≡ true → Only test s
only-held test [] s h o x e = absurd (both_ways false refl o)
only-held test (w ∷ ws) s h o x e =
    any-passes test (λ v. protocol_in v.text) (w ∷ ws) x (only-all test (protocols_of (w ∷ ws)) o)
    (named-number (λ n v. protocol_in v.text ≡ Some n) 255 (w ∷ ws) s x h (none-more w ws) e)

pub no-zero : (ws : List Word) → AnyOf (λ w. protocol_in w.text ≡ Some 0) ws → ⊥
no-zero ws a =
    let l : 1 ≤ 0 = any-number (λ w. protocol_in w.text) (λ n. 1 ≤ n) ws 0
    (λ w e. (protocol-within 0 w.text e).0) a in
    absurd (omega arith)

lack-zero : (ws : List Word) (s : Numbers) → IsSetOf (IsProtocol ws) 255 s → is_all s ≡ false
    → holds s.ranges 0 ≡ false
lack-zero ws s h e = false_from_ne_true (holds s.ranges 0)
    (λ t. no-zero ws (named-number (λ n v. protocol_in v.text ≡ Some n) 255 ws s 0 h
    (not-whole (λ n v. protocol_in v.text ≡ Some n) 255 ws s h e) t))

-- ---- ports

ports-fit : (n : Naming) (P : ℕ → Word → Type 0) (top : ℕ) (ws : List Word) (s : Numbers) (b : Bool) (code : Code) (all : List Word)
    → IsSetOf (λ x. Admits (P x) ws) top s → (ws ≢ [] → all ≢ []) → first_unless b code all ≡ None
    → is_all s ≡ false → b ≡ true
ports-fit n P top ws s b code all h more none e =
    first-passed b code all none (more (not-whole P top ws s h e))

-- ---- types

pub some-range : (rs : List Range) (x : ℕ) → holds rs x ≡ true → rs ≢ []
some-range [] x e = absurd (both_ways false refl e)
some-range (r ∷ rs) x e = none-more r rs

whole-some : (s : Numbers) → is_all s ≡ true → s.ranges ≢ []
whole-some s e = λ h. both_ways false refl (sym (ap (λ rs. is_all (record { top = s.top; ranges = rs })) h) ∙ e)

some-there : (o : Option ℕ) → is_some o ≡ true → (n : ℕ) × (o ≡ Some n)
some-there None h = absurd (both_ways false refl h)
some-there (Some n) h = (n, refl)

some-type : (f : Option Family) (w : Word) → type_slip f w ≡ None
    → (n : ℕ) × (type_in f w.text ≡ Some n)
some-type f w none = some-there (type_in f w.text) (passed (is_some (type_in f w.text)) codes.IcmpProtocol w none)

types-some : (f : Option Family) (ws : List Word) (s : Numbers) → IsSetOf (IsType f ws) 255 s
    → first_in (type_slip f) ws ≡ None → s.ranges ≢ []
types-some f [] s h none = whole-some s (whole 255 s h)
types-some f (w ∷ ws) s h none =
    let t = some-type f w (parts (type_slip f w) (first_in (type_slip f) ws) none).0 in
    let l : t.0 ≤ 254 = type-within f t.0 w.text t.1 in
    let law = h.exact t.0 (omega arith) in
    some-range s.ranges t.0 (law.1 (inl t.1))

lack-255 : (f : Option Family) (ws : List Word) (s : Numbers) → IsSetOf (IsType f ws) 255 s
    → is_all s ≡ false → holds s.ranges 255 ≡ false
lack-255 f ws s h e = false_from_ne_true (holds s.ranges 255)
    (λ t. let a = named-number (λ n v. type_in f v.text ≡ Some n) 255 ws s 255 h
    (not-whole (λ n v. type_in f v.text ≡ Some n) 255 ws s h e) t in
    let l : 255 ≤ 254 = any-number (λ w. type_in f w.text) (λ n. n ≤ 254) ws 255
    (λ w q. type-within f 255 w.text q) a in
    absurd (omega arith))

is-family : (f : Option Family) (ws : List Word) → ws ≢ [] → first_in (type_slip f) ws ≡ None → f ≢ None
is-family f [] some none = absurd (some refl)
is-family f (w ∷ ws) some none =
    let t = some-type f w (parts (type_slip f w) (first_in (type_slip f) ws) none).0 in
    λ e. none-some t.0 (sym (ap (λ g. type_in g w.text) e) ∙ t.1)

one-icmp : (a b : Bool) → cond a (Some V4) (cond b (Some V6) None) ≢ None → (a ≡ true → ⊥) → b ≡ true
one-icmp true b h other = absurd (other refl)
one-icmp false true h other = refl
one-icmp false false h other = absurd (h refl)

-- ---- codes

-- Each word is a number.
codes-some : (ws : List Word) (s : Numbers) → IsSetOf (IsCode ws) 255 s
    → All (λ w. is_some (code_in w.text) ≡ true) ws → s.ranges ≢ []
codes-some [] s h fit = whole-some s (whole 255 s h)
codes-some (w ∷ ws) s h fit =
    let t = some-there (code_in w.text) (All-head (λ v. is_some (code_in v.text) ≡ true) w ws fit) in
    let law = h.exact t.0 (code-within t.0 w.text t.1) in
    some-range s.ranges t.0 (law.1 (inl t.1))

-- Numbers that are one are those of the first of them.
same-number : (n x : ℕ) (ns : List ℕ) → list_all (is_number n) ns ≡ true → AnyOf (λ m. m ≡ x) ns → n ≡ x
same-number n x [] same a = absurd a
same-number n x (m ∷ ms) same a =
    let p = and_parts (is_number n m) (list_all (is_number n) ms) same in elim a [
      | inl e ↦ sym (eqb-true m n p.0) ∙ e
      | inr r ↦ same-number n x ms p.1 r
    ]

one-any : (n x : ℕ) (ns : List ℕ) → list_all (is_number n) ns ≡ true
    → AnyOf (λ m. m ≡ x) (n ∷ ns) ↔ AnyOf (λ m. m ≡ x) (n ∷ [])
one-any n x ns same = (
  λ a. elim a [ inl e ↦ inl e | inr r ↦ inl (same-number n x ns same r) ],
  λ a. elim a [ inl e ↦ inl e | inr b ↦ absurd b ],
)

one-type : (f : Option Family) (ws : List Word) (s : Numbers) (ns : List ℕ) → types_of f ws ≡ ns
    → IsSetOf (IsType f ws) 255 s → are_one ns ≡ true → IsOneNumber s
one-type f ws s [] e h one = absurd (both_ways false refl one)
one-type f [] s (n ∷ ns) e h one = absurd (none-more n ns (sym e))
one-type f (w ∷ ws) s (n ∷ ns) e h one =
    let type : Word → Option ℕ = λ v. type_in f v.text in
    let told : (x : ℕ) → AnyOf (λ m. m ≡ x) (n ∷ ns) ↔ IsType f (w ∷ ws) x =
    λ x. subst (λ (ms : List ℕ). AnyOf (λ m. m ≡ x) ms ↔ IsType f (w ∷ ws) x) e (any-flat type (w ∷ ws) x) in
    let first = told n in
    let l : n ≤ 254 = any-number type (λ k. k ≤ 254) (w ∷ ws) n (λ v q. type-within f n v.text q) (first.0 (inl refl)) in
    let alone : Numbers = record { top = 255; ranges = single n ∷ [] } in
    let is = λ (x : ℕ). AnyOf (λ m. m ≡ x) (n ∷ []) in
    let given = same-set (IsType f (w ∷ ws)) is 255 s
    (λ x. let t = told x in let o = one-any n x ns one in (λ a. o.0 (t.1 a), λ b. t.0 (o.1 b))) h in
    let made = numbers-set (n ∷ []) 255 (single n ∷ []) alone refl refl (omega arith, omega arith, omega arith, tt)
    (λ x. refl) in
    (n, ap (λ (v : Numbers). v.ranges) (one-set is 255 s alone given made))

-- Some type is named only in a family.
no-types : (ws : List Word) → types_of None ws ≡ []
no-types [] = refl
no-types (w ∷ ws) = no-types ws

one-family : (f : Option Family) (ws : List Word) → are_one (types_of f ws) ≡ true → f ≢ None
one-family f ws one = λ e.
    both_ways false refl (sym (ap are_one (no-types ws)) ∙ sym (ap (λ g. are_one (types_of g ws)) e) ∙ one)

-- ---- options and verdicts

established-only : (o : Opt) (qs : List ℕ) → option_fits o qs ≡ true → is_established o ≡ true
    → only is_tcp_or_udp qs ≡ true
established-only Plain qs h e = absurd (both_ways false refl e)
established-only Established qs h e = h
established-only TcpEstablished qs h e = absurd (both_ways false refl e)
established-only TcpInitial qs h e = absurd (both_ways false refl e)
established-only Rst qs h e = absurd (both_ways false refl e)

flags-only : (o : Opt) (qs : List ℕ) → option_fits o qs ≡ true → needs_tcp o ≡ true
    → only (is_number 6) qs ≡ true
flags-only Plain qs h e = absurd (both_ways false refl e)
flags-only Established qs h e = absurd (both_ways false refl e)
flags-only TcpEstablished qs h e = h
flags-only TcpInitial qs h e = h
flags-only Rst qs h e = h

option-fitting : (qs : List ℕ) (ws : List Word)
    → first_unless (option_fits (option_of ws) qs) codes.OptionProtocol ws ≡ None → option_fits (option_of ws) qs ≡ true
option-fitting qs [] h = refl
option-fitting qs (w ∷ ws) h = passed (option_fits (option_of (w ∷ ws)) qs) codes.OptionProtocol w h

reset-only : (v : Verdict) (qs : List ℕ) → verdict_fits v qs ≡ true → is_reset v ≡ true
    → only (is_number 6) qs ≡ true
reset-only verdicts.Accept qs h e = absurd (both_ways false refl e)
reset-only verdicts.Deny qs h e = absurd (both_ways false refl e)
reset-only verdicts.Reject qs h e = absurd (both_ways false refl e)
reset-only verdicts.Reset qs h e = h
reset-only verdicts.Left qs h e = absurd (both_ways false refl e)

never-left : (a b c : Bool) → is_left (cond a verdicts.Accept (cond b verdicts.Deny (cond c verdicts.Reject verdicts.Reset))) ≡ false
never-left true b c = refl
never-left false true c = refl
never-left false false true = refl
never-left false false false = refl

-- ---- the whole term

-- What a term without a slip passes.
pub record Passed (n : Naming) (t : RawTerm) : Type 0 where
  pub ports : first_unless (only has_ports (protocols_of t.protocols)) codes.PortProtocol (port_words t) ≡ None
  pub services : services_slip n.services (protocols_of t.protocols) t ≡ None
  pub types : first_in (type_slip (icmp_family (protocols_of t.protocols))) t.icmp_types ≡ None
  pub codes : first_unless (are_one (types_of (icmp_family (protocols_of t.protocols)) t.icmp_types)) codes.IcmpCode
      t.icmp_codes ≡ None
  pub option : option_fits (option_of t.options) (protocols_of t.protocols) ≡ true
  pub verdict : verdict_fits (verdict_of t.action.text) (protocols_of t.protocols) ≡ true

pub passes-all : (n : Naming) (t : RawTerm) → slip_of n t ≡ None → Passed n t
unfolding slip_of
passes-all n t h =
    let qs = protocols_of t.protocols in
    let a = parts (networks_slip n.networks t) (first_some (port_protocol_slip qs t ∷ services_slip n.services qs t ∷ words_slips qs t)) h in
    let b = parts (port_protocol_slip qs t) (first_some (services_slip n.services qs t ∷ words_slips qs t)) a.1 in
    let c = parts (services_slip n.services qs t) (first_some (words_slips qs t)) b.1 in
    let options = clash_slip t.options ∷ option_slip qs t.options ∷ reset_slip qs t.action ∷ [] in
    let d = parts (types_slip qs t) (first_some (codes_slip qs t ∷ options)) c.1 in
    let e = parts (codes_slip qs t) (first_some options) d.1 in
    let f = parts (clash_slip t.options) (first_some (option_slip qs t.options ∷ reset_slip qs t.action ∷ [])) e.1 in
    let g = parts (option_slip qs t.options) (first_some (reset_slip qs t.action ∷ [])) f.1 in
    let i = parts (reset_slip qs t.action) None g.1 in
    record {
      ports = b.0;
      services = c.0;
      types = d.0;
      codes = e.0;
      option = option-fitting qs t.options g.0;
      verdict = passed (verdict_fits (verdict_of t.action.text) qs) codes.ResetProtocol t.action i.0;
    }

not-written : (ws : List Word) (P : ℕ → Word → Type 0) (top : ℕ) (s : Numbers) → IsSetOf (λ x. Admits (P x) ws) top s
    → is_written ws ≡ false → is_all s ≡ true
not-written [] P top s h e = whole top s h
not-written (w ∷ ws) P top s h e = absurd (both_ways true e refl)

pub sound : (n : Naming) (t : RawTerm) (s : Sets) → is_name t.name.text ≡ true
    → is_note (note_of t.comments) ≡ true → All (λ w. is_some (code_in w.text) ≡ true) t.icmp_codes
    → slip_of n t ≡ None → AreSetsOf n t s
    → IsSoundTerm t.name.text (note_of t.comments) s.src4 s.src6 s.dst4 s.dst6 s.addr4 s.addr6
    (is_written t.addresses) s.numbers (is_written t.destination_ports) s.ports (is_written t.ports)
    (option_of t.options) (verdict_of t.action.text)
sound n t s name note fits clean are =
    let qs = protocols_of t.protocols in
    let p = passes-all n t clean in
    let ends = t.source_ports ++ t.destination_ports in
    let protos = s.numbers Protocol in
    let itypes = s.numbers IcmpType in
    let protos_are = are.numbers_are Protocol in
    let itypes_are = are.numbers_are IcmpType in
    let icodes = s.numbers IcmpCode in
    let icodes_are = are.numbers_are IcmpCode in
    let family = icmp_family qs in
    let one : is_all icodes ≡ false → are_one (types_of family t.icmp_types) ≡ true =
    λ e. first-passed (are_one (types_of family t.icmp_types)) codes.IcmpCode t.icmp_codes p.codes
    (not-whole (λ x w. code_in w.text ≡ Some x) 255 t.icmp_codes icodes icodes_are e) in
    let held = λ (test : ℕ → Bool). only-held test t.protocols protos protos_are in
    let of_icmp : family ≢ None → HaveField IcmpType protos =
    λ is none. held (is_number 58) (one-icmp (only (is_number 1) qs) (only (is_number 58) qs) is
    (λ o. none (held (is_number 1) o))) in
    record {
      name_is = name;
      note_is = note;
      src4_top = are.ipv4.0.top_is;
      src4_normal = are.ipv4.0.normal;
      src6_top = are.ipv6.0.top_is;
      src6_normal = are.ipv6.0.normal;
      dst4_top = are.ipv4.1.top_is;
      dst4_normal = are.ipv4.1.normal;
      dst6_top = are.ipv6.1.top_is;
      dst6_normal = are.ipv6.1.normal;
      addr4_top = are.ipv4.2.top_is;
      addr4_normal = are.ipv4.2.normal;
      addr4_named = not-written t.addresses (NamesAddress n V4) (top_address V4) s.addr4 are.ipv4.2;
      addr6_top = are.ipv6.2.top_is;
      addr6_normal = are.ipv6.2.normal;
      addr6_named = not-written t.addresses (NamesAddress n V6) (top_address V6) s.addr6 are.ipv6.2;
      tops = λ field. (are.numbers_are field).top_is;
      normal = λ field. (are.numbers_are field).normal;
      some = by-field (λ field. is_protocol field ≡ false → (s.numbers field).ranges ≢ [])
          (λ h. absurd (both_ways true h refl)) (λ _. are.some_from) (λ _. are.some_to)
          (λ _. types-some family t.icmp_types itypes itypes_are p.types)
          (λ _. codes-some t.icmp_codes icodes icodes_are fits);
      fit = by-field (λ field. is_all (s.numbers field) ≡ false → HaveField field protos) (λ _ _ _ _. refl)
          (λ e _. held has_ports (ports-fit n (NamesPort n qs) top_port t.source_ports (s.numbers SourcePort)
          (only has_ports qs) codes.PortProtocol (port_words t) (are.numbers_are SourcePort)
          (λ h. left-some ends t.ports (left-some t.source_ports t.destination_ports h)) p.ports e))
          (λ e _. held has_ports (ports-fit n (NamesPort n qs) top_port t.destination_ports (s.numbers DestinationPort)
          (only has_ports qs) codes.PortProtocol (port_words t) (are.numbers_are DestinationPort)
          (λ h. left-some ends t.ports (right-some t.source_ports t.destination_ports h)) p.ports e))
          (λ e. of_icmp (is-family family t.icmp_types
          (not-whole (λ x w. type_in family w.text ≡ Some x) 255 t.icmp_types itypes itypes_are e) p.types))
          (λ e. of_icmp (one-family family t.icmp_types (one e)));
      protos_lack_0 = lack-zero t.protocols protos protos_are;
      itypes_lack_255 = lack-255 family t.icmp_types itypes itypes_are;
      one_itype = λ e. one-type family t.icmp_types itypes (types_of family t.icmp_types) refl itypes_are (one e);
      dports_named = not-written t.destination_ports (NamesPort n qs) top_port (s.numbers DestinationPort)
          (are.numbers_are DestinationPort);
      ports_top = are.either_ports.top_is;
      ports_normal = are.either_ports.normal;
      ports_some = are.some_of_either;
      ports_fit = λ e. held has_ports
          (ports-fit n (NamesPort n qs) top_port t.ports s.ports (only has_ports qs) codes.PortProtocol (port_words t)
          are.either_ports (right-some ends t.ports) p.ports e);
      ports_named = not-written t.ports (NamesPort n qs) top_port s.ports are.either_ports;
      established_fits = λ e. held is_tcp_or_udp (established-only (option_of t.options) qs p.option e);
      flags_fit = λ e. held (is_number 6) (flags-only (option_of t.options) qs p.option e);
      reset_fits = λ e. held (is_number 6) (reset-only (verdict_of t.action.text) qs p.verdict e);
      verdict_is = never-left (bytes_eq t.action.text (codes_of "accept")) (bytes_eq t.action.text (codes_of "deny"))
          (bytes_eq t.action.text (codes_of "reject"));
    }

-- The same for fields that equal those.
pub sound-fields : (n : Naming) (t : RawTerm) (s : Sets) (name note : List ℕ) (addr_named dport_named port_named : Bool)
    (option : Opt) (verdict : Verdict)
    → name ≡ t.name.text → note ≡ note_of t.comments → addr_named ≡ is_written t.addresses
    → dport_named ≡ is_written t.destination_ports → port_named ≡ is_written t.ports
    → option ≡ option_of t.options → verdict ≡ verdict_of t.action.text
    → is_name t.name.text ≡ true → is_note note ≡ true → All (λ w. is_some (code_in w.text) ≡ true) t.icmp_codes
    → slip_of n t ≡ None → AreSetsOf n t s
    → IsSoundTerm name note s.src4 s.src6 s.dst4 s.dst6 s.addr4 s.addr6 addr_named s.numbers dport_named
    s.ports port_named option verdict
sound-fields n t s name note addr_named dport_named port_named option verdict e1 e2 e3 e4 e5 e6 e7 is safe fits clean are =
    rw (e1, e2, e3, e4, e5, e6, e7) (sound n t s is (sym (ap is_note e2) ∙ safe) fits clean are)
