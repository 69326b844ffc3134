-- The terms of a workload have no slip, and are resolved.
use Rattle.std.proofs.Common.{◌≡◌, ℕ, ◌+◌, ◌<◌, ◌≤◌, ◌⊎◌, zero, suc, Bool, true, false, ◌&&◌, ◌||◌, nat_le, List, [], ◌∷◌, ◌++◌, flat_map, Option, None, Some, is_some, inl, inr, refl, ap, sym, subst, ◌∙◌, arith}
use Rattle.std.specs.List.{list_all, list_any}
use Rattle.std.proofs.lemmas.Bool.{and_parts, false≢true}
use Rattle.std.proofs.lemmas.Bool.Decides.{nat_tests}
use Rattle.std.specs.Option.{option_or}
use Rattle.acl_packet.specs.declared.addresses.Family.{Family}
use Rattle.acl_packet.specs.declared.addresses.Family.TheVariants.{V4, V6}
use Rattle.acl_packet.specs.declared.filtering.Verdict.TheVariants.{Accept}
use Rattle.acl_packet.specs.declared.packet_fields.Field.{Field}
use Rattle.acl_packet.specs.declared.packet_fields.Field.TheVariants.{Protocol, SourcePort, DestinationPort, IcmpType, IcmpCode}
use Rattle.acl_packet.specs.Addresses.{top_address}
use Rattle.acl_packet.specs.NumberWords.{protocol_in, row_or_number}
use Rattle.acl_packet.specs.Packets.{has_ports, top_of}
use Rattle.acl_packet.proofs.FieldLaws.{by-field}
use Rattle.acl_text.specs.declared.faults.Code.TheVariants as codes_of
use Rattle.acl_text.specs.declared.faults.Slip.{Slip}
use Rattle.acl_text.specs.Notes.{note_of, safe_words}
use Rattle.acl_text.specs.Refusals.{first_in, first_some}
use Rattle.acl_sets.specs.declared.sets.Range.{Range}
use Rattle.acl_sets.specs.ComputableSets.{cut_all, is_all, put_all}
use Rattle.acl_sets.specs.Ranges.{IsNormal, Numbers, Only}
use Rattle.acl_naming.specs.declared.naming_items.Item.{Item}
use Rattle.acl_naming.specs.ComputableReach.{addresses_of, addresses_reached, items_reached, ports_of, ports_reached}
use Rattle.acl_naming.specs.Definitions.{index_of}
use Rattle.acl_naming.specs.Ports.{top_port}
use Rattle.acl_naming.specs.Reach.{is_service_of}
use Rattle.acl_terms.specs.declared.options.Opt.TheVariants.{Plain}
use Rattle.acl_terms.specs.declared.terms.Term.{Term}
use Rattle.acl_terms.specs.ComputableTerms.{sets_of}
use Rattle.acl_terms.specs.Living.{platforms_of}
use Rattle.acl_terms.specs.Resolved.{IsResolved}
use Rattle.acl_terms.specs.Sets.{AreSetsOf, Sets, by_field}
use Rattle.acl_terms.specs.Slips.{address_words, port_protocol_slip, port_words, reaches_protocol, slip_of, unless, words_slips}
use Rattle.acl_terms.specs.Soundness.{HaveField, IsSoundTerm, is_protocol}
use Rattle.acl_terms.proofs.ComputedLaws.{computed-sets}
use Rattle.acl_terms.proofs.FieldLaws.{told-same}
use Rattle.acl_terms.proofs.TermLaws.{term-with-resolved}
use Rattle.aclgen_core.specs.WorkloadNames.{each, network_items, service, service_items, service_name, workload_naming}
use Rattle.aclgen_core.specs.WorkloadPolicies.{at_line, lines_before, term_name}
use Rattle.aclgen_core.specs.WorkloadTerms.{all_to, ports, protocols, term_sets}
use Rattle.aclgen_core.proofs.PolicyLines.{term_names}
use Rattle.aclgen_core.proofs.PolicyStands.{raw_at}
use Rattle.aclgen_core.proofs.RangeLaws.{SameBelow, computed}
use Rattle.aclgen_core.proofs.ReachedItems.{network_index, network_reaches, service_index, service_reaches}

-- ---- no slip

abbrev tcp_udp : List ℕ
tcp_udp = 6 ∷ 17 ∷ []

-- The first slip of a term, from what its names stand for.
abbrev slip_by : ℕ → Option ℕ → Option ℕ → List Item → Option Slip
slip_by i networks services items = first_some (
    first_in (unless (is_some networks) codes_of.UnknownName) (address_words (raw_at i))
    ∷ port_protocol_slip tcp_udp (raw_at i)
    ∷ first_in (λ w. option_or (unless (is_some services) codes_of.UnknownName w)
    (unless (list_all (λ q. list_any (is_service_of q) items) tcp_udp) codes_of.NoPortForProtocol w)) (port_words (raw_at i))
    ∷ words_slips tcp_udp (raw_at i))

pub no_slip : (n i : ℕ) → i < n → n ≤ 1024 → slip_of (workload_naming n) (raw_at i) ≡ None
unfolding slip_of reaches_protocol protocol_in row_or_number
no_slip n i below few =
    ap (λ o. slip_by i o (index_of (each service n) (service_name i)) (items_reached (each service n) (service_name i))) (network_index n i below few)
    ∙ ap (λ o. slip_by i (Some i) o (items_reached (each service n) (service_name i))) (service_index n i below few)
    ∙ ap (slip_by i (Some i) (Some i)) (service_reaches n i below few)

-- ---- sets

-- The addresses and the ports of items, as the sets of a term have them.
abbrev addresses_in : Family → List Item → List Range
addresses_in f items = cut_all (put_all [] []) (put_all (put_all (flat_map (addresses_of f) items) [] ++ []) [])

abbrev ports_in : List Item → List Range
ports_in items = put_all ((put_all (flat_map (ports_of 6) items) [] ++ (put_all (flat_map (ports_of 17) items) [] ++ [])) ++ []) []

abbrev sets_by : List Item → List Item → Sets
sets_by networks services = record {
  src4 = record { top = top_address V4; ranges = addresses_in V4 networks };
  src6 = record { top = top_address V6; ranges = addresses_in V6 networks };
  dst4 = all_to (top_address V4);
  dst6 = all_to (top_address V6);
  addr4 = all_to (top_address V4);
  addr6 = all_to (top_address V6);
  numbers = by_field protocols (all_to top_port) (record { top = top_port; ranges = ports_in services }) (all_to 255)
      (all_to 255);
  ports = all_to top_port;
}

sets_written : SameBelow 1024 (λ i. sets_by (network_items i) (service_items i)) term_sets
sets_written = computed 1024 _ _ refl

pub sets_are : (n i : ℕ) → i < n → n ≤ 1024 → sets_of (workload_naming n) (raw_at i) ≡ term_sets i
unfolding sets_of addresses_reached ports_reached protocol_in row_or_number
sets_are n i below few =
    let sets = sets_of (workload_naming n) (raw_at i) in
    ap (λ (numbers : Field → Numbers). record sets { numbers = numbers }) (sym (told-same sets.numbers))
    ∙ ap (λ items. sets_by items (items_reached (each service n) (service_name i))) (network_reaches n i below few)
    ∙ ap (sets_by (network_items i)) (service_reaches n i below few)
    ∙ sets_written i (omega (arith, below, few))

-- ---- a term

either : (b c : Bool) → (b || c) ≡ true → (b ≡ true) ⊎ (c ≡ true)
either true c h = inl refl
either false c h = inr h

just_number : (n x : ℕ) → (nat_le n x && nat_le x n) ≡ true → x ≡ n
just_number n x h = grind (arith, nat_tests, and_parts (nat_le n x) (nat_le x n) h)

tcp_or_udp : (test : ℕ → Bool) → test 6 ≡ true → test 17 ≡ true → Only test protocols
tcp_or_udp test six seventeen x h = elim (either (nat_le 6 x && nat_le x 6) _ h) [
  | inl e ↦ subst (λ k. test k ≡ true) (sym (just_number 6 x e)) six
  | inr k ↦ elim (either (nat_le 17 x && nat_le x 17) false k) [
    | inl e ↦ subst (λ j. test j ≡ true) (sym (just_number 17 x e)) seventeen
    | inr never ↦ absurd (false≢true never)
  ]
]

pub is_sound : (i : ℕ) → i < 1024 → IsSoundTerm (term_name i) [] (term_sets i).src4 (term_sets i).src6 (term_sets i).dst4 (term_sets i).dst6
    (term_sets i).addr4 (term_sets i).addr6 false (term_sets i).numbers true (term_sets i).ports false Plain Accept
is_sound i below = let numbers : Field → Numbers = (term_sets i).numbers in record {
  name_is = term_names i below;
  note_is = refl;
  src4_top = refl;
  src4_normal = (omega arith, omega arith, omega (arith, below), tt);
  src6_top = refl;
  src6_normal = (omega arith, omega arith, omega (arith, below), tt);
  dst4_top = refl;
  dst4_normal = (omega arith, omega arith, omega arith, tt);
  dst6_top = refl;
  dst6_normal = (omega arith, omega arith, omega arith, tt);
  addr4_top = refl;
  addr4_normal = (omega arith, omega arith, omega arith, tt);
  addr4_named = λ h. refl;
  addr6_top = refl;
  addr6_normal = (omega arith, omega arith, omega arith, tt);
  addr6_named = λ h. refl;
  tops = by-field (λ field. (numbers field).top ≡ top_of field) refl refl refl refl refl;
  normal = by-field (λ field. IsNormal 0 (numbers field).top (numbers field).ranges)
      (omega arith, omega arith, omega arith, (omega arith, omega arith, omega arith, tt))
      (omega arith, omega arith, omega arith, tt) (omega arith, omega arith, omega (arith, below), tt)
      (omega arith, omega arith, omega arith, tt) (omega arith, omega arith, omega arith, tt);
  some = by-field (λ field. is_protocol field ≡ false → (numbers field).ranges ≡ [] → ⊥) (λ h. absurd (false≢true (sym h)))
      (λ _ e. cc) (λ _ e. cc) (λ _ e. cc) (λ _ e. cc);
  fit = by-field (λ field. is_all (numbers field) ≡ false → HaveField field protocols) (λ _ _ _ _. refl)
      (λ h. absurd (false≢true (sym h))) (λ _ _. tcp_or_udp has_ports refl refl) (λ h. absurd (false≢true (sym h)))
      (λ h. absurd (false≢true (sym h)));
  protos_lack_0 = λ h. refl;
  itypes_lack_255 = λ h. absurd (false≢true (sym h));
  one_itype = λ h. absurd (false≢true (sym h));
  dports_named = λ h. absurd (false≢true (sym h));
  ports_top = refl;
  ports_normal = (omega arith, omega arith, omega arith, tt);
  ports_some = λ e. cc;
  ports_fit = λ h. absurd (false≢true (sym h));
  ports_named = λ h. refl;
  established_fits = λ h. absurd (false≢true h);
  flags_fit = λ h. absurd (false≢true h);
  reset_fits = λ h. absurd (false≢true h);
  verdict_is = refl;
}

abbrev pub resolved_term : (i : ℕ) → i < 1024 → Term
resolved_term i below = record {
  name = term_name i;
  place = at_line (lines_before i + 1);
  note = [];
  src4 = (term_sets i).src4;
  src6 = (term_sets i).src6;
  dst4 = (term_sets i).dst4;
  dst6 = (term_sets i).dst6;
  addr4 = (term_sets i).addr4;
  addr6 = (term_sets i).addr6;
  addr_named = false;
  protos = (term_sets i).numbers Protocol;
  sports = (term_sets i).numbers SourcePort;
  dports = (term_sets i).numbers DestinationPort;
  dport_named = true;
  ports = (term_sets i).ports;
  port_named = false;
  itypes = (term_sets i).numbers IcmpType;
  icodes = (term_sets i).numbers IcmpCode;
  option = Plain;
  verdict = Accept;
  log = false;
  expires = None;
  only = None;
  never = platforms_of [];
  sound = is_sound i below;
}

pub is_resolved : (n i : ℕ) (below : i < n) (few : n ≤ 1024) (small : i < 1024) → IsResolved (workload_naming n) (raw_at i) (resolved_term i small)
unfolding note_of safe_words sets_of
is_resolved n i below few small =
    term-with-resolved (workload_naming n) (raw_at i) (term_sets i) (is_sound i small)
    (subst (AreSetsOf (workload_naming n) (raw_at i)) (sets_are n i below few)
    (computed-sets (workload_naming n) (raw_at i)
    (λ e. some (sym (ap (λ (s : Sets). (s.numbers SourcePort).ranges) (sets_are n i below few)) ∙ e))
    (λ e. some_port (sym (ap (λ (s : Sets). (s.numbers DestinationPort).ranges) (sets_are n i below few)) ∙ e))
    (λ e. some (sym (ap (λ (s : Sets). s.ports.ranges) (sets_are n i below few)) ∙ e))))
  where
    some : (all_to top_port).ranges ≡ [] → ⊥
    some e = cc

    some_port : ports i ≡ [] → ⊥
    some_port e = cc

-- ---- all terms

pub first_small : (a n : ℕ) → a + suc n ≤ 1024 → a < 1024
first_small a n few = omega (arith, few)

pub rest_small : (a n : ℕ) → a + suc n ≤ 1024 → a + 1 + n ≤ 1024
rest_small a n few = omega (arith, few)

unfoldable pub terms_from : (a n : ℕ) → a + n ≤ 1024 → List Term
terms_from a zero few = []
terms_from a (suc n) few = resolved_term a (first_small a n few) ∷ terms_from (a + 1) n (rest_small a n few)
