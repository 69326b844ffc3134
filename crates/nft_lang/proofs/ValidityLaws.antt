-- The tests say which sections are valid, and where their tables differ.
use Rattle.std.proofs.Common.{◌≡◌, ℕ, ◌^◌, Bool, true, ◌&&◌, ◌==◌, nat_eq, nat_le, nat_lt, List, [], ◌∷◌, map, flat_map, codes, refl, ap, sym, subst, ◌∙◌, arith}
use Rattle.std.specs.Bool.{Decides}
use Rattle.std.specs.Fmt.{decimal}
use Rattle.std.specs.Cmp.{unsigned_tied}
use Rattle.std.specs.List.{list_all, AllByRecursion, IsDistinct}
use Rattle.std.specs.Ordering.{eq_by_cmp, nat_cmp}
use Rattle.std.specs.Str.{bytes_eq}
use Rattle.std.proofs.lemmas.Bool.Decides.{same_from_decides, Decides-and, Decides-like, Decides-eqb, Decides-ltb}
use Rattle.std.proofs.lemmas.Fmt.{decimal_injective}
use Rattle.std.proofs.lemmas.List.{append_cancel_left}
use Rattle.std.proofs.lemmas.Slice.Eq.{bytes_eq-Decides}
use Rattle.acl_packet.specs.declared.addresses.Families.{Families}
use Rattle.acl_packet.specs.Addresses.{covers}
use Rattle.acl_rows.specs.ApartSteps.{are_apart}
use Rattle.acl_rows.specs.PortRangeSteps.{is_port_range}
use Rattle.acl_rows.specs.PortRanges.{IsPortRange}
use Rattle.acl_rows.specs.PrefixCheckSteps.{is_addresses}
use Rattle.acl_rows.specs.RuleParts.{IsAddresses, number_fits}
use Rattle.acl_rows.proofs.ApartLaws.{Apart, apart_decides, apart_like}
use Rattle.acl_rows.proofs.DecisionLaws.{addresses_decide, le_decides, number_decides, all_decides}
use Rattle.acl_rows.proofs.PortRangeLaws.{range_decides}
use Rattle.nft_lang.specs.declared.documents.Section.{Section}
use Rattle.nft_lang.specs.declared.documents.Item.{Item}
use Rattle.nft_lang.specs.declared.documents.Item.TheVariants.{Remark, Rule as ARule}
use Rattle.nft_lang.specs.declared.documents.Rule.{Rule}
use Rattle.nft_lang.specs.Documents.{IsSet, IsType, IsCode, IsRule, IsItem, IsSection, prefixes_overlap, ports_overlap, parts_fit, fits_i32, table_name, table_names}
use Rattle.nft_lang.specs.ValiditySteps.{are_addresses, are_numbers, are_ports, has_icmp, has_sets, is_rule, is_item, is_section, same_table}

-- ---- sets

set_decides : {A : Type 0} (test : A → Bool) (P : A → Type 0) (overlap : A → A → Bool) → ((x : A) → Decides (test x) (P x))
    → (xs : List A) → Decides (list_all test xs && are_apart overlap xs) (IsSet P overlap xs)
set_decides test P overlap each xs =
    Decides-like (list_all test xs && are_apart overlap xs) (λ h. record { each = h.0; apart = h.1 }) (λ h. (h.each, h.apart))
    (Decides-and (list_all test xs) (are_apart overlap xs) (all_decides test P each xs) (apart_decides overlap xs))

-- ---- rules

is_itself : (b : Bool) → Decides b (b ≡ true)
is_itself b = (λ h. h, λ h. h)

rule_decides : (fs : Families) (r : Rule) → Decides (is_rule fs r) (IsRule fs r)
rule_decides fs r =
    let address = set_decides (is_addresses r.family) (IsAddresses r.family) prefixes_overlap (addresses_decide r.family) in
    let port = set_decides is_port_range IsPortRange ports_overlap range_decides in
    let types = set_decides (λ n. nat_le n 254) IsType nat_eq (λ n. le_decides n 254) r.itypes in
    let numbers = set_decides (λ n. nat_le n 255) IsCode nat_eq (λ n. le_decides n 255) r.icodes in
    let icmp = Decides-and (are_numbers 254 r.itypes) (are_numbers 255 r.icodes) types numbers in
    let addresses = Decides-and (are_addresses r.family r.src) (are_addresses r.family r.dst) (address r.src) (address r.dst) in
    let ports = Decides-and (are_ports r.sports) (are_ports r.dports) (port r.sports) (port r.dports) in
    let sets = Decides-and (are_addresses r.family r.src && are_addresses r.family r.dst) ((are_ports r.sports && are_ports r.dports) && has_icmp r) addresses
    (Decides-and (are_ports r.sports && are_ports r.dports) (has_icmp r) ports icmp) in
    let kind = Decides-and (covers fs r.family) (number_fits 1 255 r.proto) (is_itself (covers fs r.family)) (number_decides 1 255 r.proto) in
    Decides-like (is_rule fs r)
    (λ h. record {
      family = h.0.0;
      protocol = h.0.1;
      sources = h.1.0.0.0;
      destinations = h.1.0.0.1;
      source_ports = h.1.0.1.0.0;
      destination_ports = h.1.0.1.0.1;
      icmp_types = h.1.0.1.1.0;
      icmp_codes = h.1.0.1.1.1;
      fit = h.1.1;
    })
    (λ h. ((h.family, h.protocol), (((h.sources, h.destinations), ((h.source_ports, h.destination_ports), (h.icmp_types, h.icmp_codes))), h.fit)))
    (Decides-and (covers fs r.family && number_fits 1 255 r.proto) (has_sets r && parts_fit r) kind (Decides-and (has_sets r) (parts_fit r) sets (is_itself (parts_fit r))))

pub item_decides : (fs : Families) (i : Item) → Decides (is_item fs i) (IsItem fs i)
item_decides fs (Remark text) = (λ h. h, λ h. h)
item_decides fs (ARule r) = rule_decides fs r

-- ---- sections

pub section_decides : (s : Section) → Decides (is_section s) (IsSection s)
section_decides s =
    let items = all_decides (is_item s.families) (IsItem s.families) (item_decides s.families) s.items in
    Decides-like (is_section s) (λ h. record { number = h.0.0; priority = h.0.1; items = h.1 }) (λ h. ((h.number, h.priority), h.items))
    (Decides-and (nat_lt s.number (2 ^ 32) && fits_i32 s.priority) (list_all (is_item s.families) s.items)
    (Decides-and (nat_lt s.number (2 ^ 32)) (fits_i32 s.priority) (Decides-ltb s.number (2 ^ 32)) (is_itself (fits_i32 s.priority))) items)

-- ---- names

-- two tables have one name where they have one number
same_names : (s t : Section) → IsSection s → IsSection t → bytes_eq (table_name s.number) (table_name t.number) ≡ same_table s t
same_names s t h k =
    let m = s.number in
    let n = t.number in
    let small = h.number in
    let other = k.number in
    same_from_decides (bytes_eq (table_name m) (table_name n)) (m == n)
    (Decides-like (bytes_eq (table_name m) (table_name n))
    (λ e. decimal_injective m n (omega arith) (omega arith) (append_cancel_left (codes "aclgen_") (decimal m) (decimal n) e)) (λ e. ap table_name e)
    (bytes_eq-Decides (table_name m) (table_name n)))
    (Decides-eqb m n)

names_apart : (s : Section) (doc : List Section) → IsSection s → AllByRecursion IsSection doc → Apart same_table s doc → Apart bytes_eq (table_name s.number) (flat_map table_names doc)
names_apart s [] h k a = tt
names_apart s (t ∷ doc) h k a = (same_names s t h k.0 ∙ a.0, names_apart s doc h k.1 a.1)

tables_apart : (s : Section) (doc : List Section) → IsSection s → AllByRecursion IsSection doc → Apart bytes_eq (table_name s.number) (flat_map table_names doc) → Apart same_table s doc
tables_apart s [] h k a = tt
tables_apart s (t ∷ doc) h k a = (sym (same_names s t h k.0) ∙ a.0, tables_apart s doc h k.1 a.1)

names_differ : (doc : List Section) → AllByRecursion IsSection doc → IsDistinct same_table doc → IsDistinct bytes_eq (flat_map table_names doc)
unfolding IsDistinct
names_differ [] k d = tt
names_differ (s ∷ doc) k d = (names_apart s doc k.0 k.1 d.0, names_differ doc k.1 d.1)

tables_differ : (doc : List Section) → AllByRecursion IsSection doc → IsDistinct bytes_eq (flat_map table_names doc) → IsDistinct same_table doc
unfolding IsDistinct
tables_differ [] k d = tt
tables_differ (s ∷ doc) k d = (tables_apart s doc k.0 k.1 d.0, tables_differ doc k.1 d.1)

tables_decide : (doc : List Section) → AllByRecursion IsSection doc → Decides (are_apart same_table doc) (IsDistinct bytes_eq (flat_map table_names doc))
tables_decide doc h = Decides-like (are_apart same_table doc) (names_differ doc h) (tables_differ doc h) (apart_decides same_table doc)

pub numbers_decide : (doc : List Section) → AllByRecursion IsSection doc → (numbers : List ℕ) → numbers ≡ map (λ s. s.number) doc
    → Decides (are_apart (eq_by_cmp nat_cmp) numbers) (IsDistinct bytes_eq (flat_map table_names doc))
numbers_decide doc h numbers e =
    subst (λ b. Decides b (IsDistinct bytes_eq (flat_map table_names doc)))
    (apart_like (λ s. s.number) same_table (eq_by_cmp nat_cmp) (λ s t. sym (unsigned_tied s.number t.number)) doc
    ∙ ap (are_apart (eq_by_cmp nat_cmp)) (sym e))
    (tables_decide doc h)

-- ---- types and codes

pub numbers_apart : (numbers : List ℕ) → are_apart (eq_by_cmp nat_cmp) numbers ≡ are_apart nat_eq numbers
numbers_apart numbers = apart_like (λ n. n) (eq_by_cmp nat_cmp) nat_eq unsigned_tied numbers ∙ ap (are_apart nat_eq) (map_same numbers) where
  map_same : (ns : List ℕ) → map (λ n. n) ns ≡ ns
  map_same [] = refl
  map_same (n ∷ ns) = ap (λ ms. n ∷ ms) (map_same ns)
