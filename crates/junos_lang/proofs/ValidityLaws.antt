-- The tests of a section say what a valid one is.
use Rattle.std.proofs.Common.{◌≡◌, ℕ, ◌<◌, ◌≤◌, Bool, true, false, not, ◌&&◌, nat_le, nat_lt, List, [], ◌∷◌, map, flat_map, Option, None, Some, IfSome, refl, ap, subst, ◌∙◌}
use Rattle.std.specs.Bool.{Decides}
use Rattle.std.specs.Borrow.{Bor}
use Rattle.std.specs.Cmp.Lexicographic.{slice_cmp}
use Rattle.std.specs.List.{list_all, IsDistinct}
use Rattle.std.specs.Ordering.{bool_cmp, eq_by_cmp, nat_cmp, ordering_then}
use Rattle.std.specs.Str.{bytes_eq}
use Rattle.std.specs.declared.cmp.Ordering.{Ordering}
use Rattle.std.proofs.lemmas.Bool.{false≢true}
use Rattle.std.proofs.lemmas.Bool.Decides.{Decides-and, Decides-like, Decides-ltb}
use Rattle.std.proofs.lemmas.Map.Text.{is_eq-slice_cmp}
use Rattle.acl_packet.specs.declared.addresses.Family.{Family}
use Rattle.acl_packet.specs.declared.addresses.Family.TheVariants.{V4, V6}
use Rattle.acl_text.specs.Names.{is_name, is_filter_name, is_safe_text}
use Rattle.acl_rows.specs.ApartSteps.{are_apart}
use Rattle.acl_rows.specs.PortRangeSteps.{is_port_range}
use Rattle.acl_rows.specs.PrefixCheckSteps.{is_addresses}
use Rattle.acl_rows.proofs.DecisionLaws.{addresses_decide, le_decides, all_decides}
use Rattle.acl_rows.proofs.ApartLaws.{apart_decides, apart_like}
use Rattle.acl_rows.proofs.PortRangeLaws.{ranges_decide}
use Rattle.acl_rows.specs.RuleParts.{IsAddresses, is_empty}
use Rattle.junos_lang.specs.declared.documents.Section.{Section}
use Rattle.junos_lang.specs.declared.documents.JTerm.{JTerm}
use Rattle.junos_lang.specs.Documents.{parts_fit, IsTerm, term_names, IsSection, name_of, filter_names}
use Rattle.junos_lang.proofs.SectionNameLaws.{same_names}
use Rattle.junos_lang.specs.ValiditySteps.{filter_name, is_note, are_named, are_addresses, are_ports, are_numbers, is_term, is_section}

-- two names are the same where family and filter's name are
abbrev filters_cmp : Bool × Bor (List ℕ) → Bool × Bor (List ℕ) → Ordering
filters_cmp a b = ordering_then (bool_cmp a.0 b.0) (slice_cmp nat_cmp a.1.now b.1.now)

same_filters : (a b : Bool × Bor (List ℕ)) → eq_by_cmp filters_cmp a b ≡ bytes_eq (filter_name a) (filter_name b)
same_filters (false, a) (false, b) = is_eq-slice_cmp a.now b.now ∙ same_names V4 V4 a.now b.now
same_filters (false, a) (true, b) = same_names V4 V6 a.now b.now
same_filters (true, a) (false, b) = same_names V6 V4 a.now b.now
same_filters (true, a) (true, b) = is_eq-slice_cmp a.now b.now ∙ same_names V6 V6 a.now b.now

pub filters_apart : (filters : List (Bool × Bor (List ℕ))) (doc : List Section) → map filter_name filters ≡ map name_of doc
    → are_apart (eq_by_cmp filters_cmp) filters ≡ are_apart bytes_eq (map name_of doc)
filters_apart filters doc h = apart_like filter_name (eq_by_cmp filters_cmp) bytes_eq same_filters filters ∙ ap (are_apart bytes_eq) h

-- ---- terms

holds : (b : Bool) → Decides b (b ≡ true)
holds b = (λ h. h, λ h. h)

note_decides : (o : Option (List ℕ)) → Decides (is_note o) (IfSome o (λ text. is_safe_text text ≡ true))
note_decides None = (λ h. tt, λ h. refl)
note_decides (Some text) = holds (is_safe_text text)

pub term_decides : (f : Family) (t : JTerm) → Decides (is_term f t) (IsTerm f t)
term_decides f t =
    let names = Decides-and (is_note t.note) (is_name t.name) (note_decides t.note) (holds (is_name t.name)) in
    let listed = all_decides (is_addresses f) (IsAddresses f) (addresses_decide f) in
    let addresses = Decides-and (list_all (is_addresses f) t.src) (list_all (is_addresses f) t.dst) (listed t.src) (listed t.dst) in
    let ports = Decides-and (list_all is_port_range t.sports) (list_all is_port_range t.dports) (ranges_decide t.sports) (ranges_decide t.dports) in
    let byte : ℕ → Bool = λ n. nat_lt n 256 in
    let type : ℕ → Bool = λ n. nat_le n 254 in
    let protos = all_decides byte (λ n. n < 256) (λ n. Decides-ltb n 256) t.protos in
    let types = all_decides type (λ n. n ≤ 254) (λ n. le_decides n 254) t.itypes in
    let icmp_codes = all_decides byte (λ n. n < 256) (λ n. Decides-ltb n 256) t.icodes in
    let icmp = Decides-and (list_all type t.itypes) (list_all byte t.icodes) types icmp_codes in
    let numbers = Decides-and (list_all byte t.protos) (list_all type t.itypes && list_all byte t.icodes) protos icmp in
    let rest = Decides-and (are_numbers t) (parts_fit f t) numbers (holds (parts_fit f t)) in
    Decides-like (is_term f t)
    (λ h. record {
      noted = h.0.0.0;
      named = h.0.0.1;
      sources = h.0.1.0;
      destinations = h.0.1.1;
      protocols = h.1.1.0.0;
      source_ports = h.1.0.0;
      destination_ports = h.1.0.1;
      icmp_types = h.1.1.0.1.0;
      icmp_codes = h.1.1.0.1.1;
      fit = h.1.1.1;
    })
    (λ h. (((h.noted, h.named), (h.sources, h.destinations)), ((h.source_ports, h.destination_ports), ((h.protocols, (h.icmp_types, h.icmp_codes)), h.fit))))
    (Decides-and (are_named t && are_addresses f t) (are_ports t && (are_numbers t && parts_fit f t))
    (Decides-and (are_named t) (are_addresses f t) names addresses)
    (Decides-and (are_ports t) (are_numbers t && parts_fit f t) ports rest))

-- ---- sections

some_decides : {A : Type 0} (xs : List A) → Decides (not (is_empty xs)) (is_empty xs ≡ false)
some_decides [] = (λ h. absurd (false≢true h), λ h. absurd cc)
some_decides (x ∷ xs) = (λ h. refl, λ h. refl)

pub section_decides : (s : Section) → Decides (is_section s) (IsSection s)
section_decides s =
    let terms = all_decides (is_term s.family) (IsTerm s.family) (term_decides s.family) s.terms in
    let heads = Decides-and (is_filter_name s.name) (not (is_empty s.terms)) (holds (is_filter_name s.name)) (some_decides s.terms) in
    let body = Decides-and (list_all (is_term s.family) s.terms) (are_apart bytes_eq (term_names s.terms)) terms (apart_decides bytes_eq (term_names s.terms)) in
    Decides-like (is_section s)
    (λ h. record { named = h.0.0; has_terms = h.0.1; terms = h.1.0; terms_differ = h.1.1 })
    (λ h. ((h.named, h.has_terms), (h.terms, h.terms_differ)))
    (Decides-and (is_filter_name s.name && not (is_empty s.terms)) (list_all (is_term s.family) s.terms && are_apart bytes_eq (term_names s.terms)) heads body)

one_each : (doc : List Section) → map name_of doc ≡ flat_map filter_names doc
one_each [] = refl
one_each (s ∷ doc) = ap (λ names. name_of s ∷ names) (one_each doc)

pub filter_names_decide : (doc : List Section) → Decides (are_apart bytes_eq (map name_of doc)) (IsDistinct bytes_eq (flat_map filter_names doc))
filter_names_decide doc =
    subst (λ names. Decides (are_apart bytes_eq (map name_of doc)) (IsDistinct bytes_eq names)) (one_each doc) (apart_decides bytes_eq (map name_of doc))
