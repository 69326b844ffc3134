-- The sets of a term that are computed are its sets, and it has no others.
use Rattle.std.proofs.Common.{◌≡◌, ◌≢◌, ◌↔◌, ℕ, ◌≤◌, Bool, true, false, ◌&&◌, ◌||◌, nat_le, List, [], ◌∷◌, ◌++◌, map, Option, None, Some, inl, inr, refl, ap, sym, ◌∙◌, subst, arith}
use Rattle.std.specs.Prelude.{flat_map, option_to_list}
use Rattle.std.specs.List.{AllByRecursion}
use Rattle.std.proofs.lemmas.Bool.{or_cases, or_left, or_right, both_ways, cases_lt}
use Rattle.std.proofs.lemmas.List.Folds.{list_any-append}
use Rattle.acl_packet.specs.declared.addresses.Family.{Family}
use Rattle.acl_packet.specs.declared.addresses.Family.TheVariants.{V4, V6}
use Rattle.acl_packet.specs.declared.packet_fields.Field.{Field}
use Rattle.acl_packet.specs.declared.packet_fields.Field.TheVariants.{SourcePort, DestinationPort}
use Rattle.acl_packet.specs.Addresses.{top_address}
use Rattle.acl_packet.specs.NumberWords.{protocol_in}
use Rattle.acl_packet.specs.Packets.{top_of}
use Rattle.acl_packet.proofs.FieldLaws.{by-field}
use Rattle.acl_sets.specs.declared.sets.Range.{Range}
use Rattle.acl_sets.specs.Ranges.{Numbers, IsNormal, IsRange, holds, inside}
use Rattle.acl_sets.proofs.ComputableSetLaws.{put_all-normal, put_all-holds, cut_all-normal, cut_all-holds}
use Rattle.acl_sets.proofs.RangeLaws.{are_ranges, in_range, one_list, past_top}
use Rattle.acl_text.proofs.ListLaws.{all_append}
use Rattle.acl_policy.specs.RawTerms.{RawTerm}
use Rattle.acl_words.specs.declared.word_lists.Word.{Word}
use Rattle.acl_naming.specs.Definitions.{Naming}
use Rattle.acl_naming.specs.Ports.{top_port}
use Rattle.acl_naming.specs.Reach.{ReachesPort}
use Rattle.acl_naming.proofs.ComputedReachLaws.{addresses_computed, ports_computed}
use Rattle.acl_naming.specs.ComputableReach.{ports_reached}
use Rattle.acl_terms.specs.ComputableTerms.{ranges_or_all, ranges_of, address_set, named_address_set, number_set, port_set, sets_of, word_addresses, word_numbers, word_ports}
use Rattle.acl_terms.specs.Matching.{Admits, AnyOf, IsAddress, IsNamedAddress, IsNumber, IsPort, NamesAddress, NamesPort, code_in, icmp_family, protocols_of, type_in}
use Rattle.acl_terms.specs.Sets.{AreSetsOf, IsSetOf, Sets}
use Rattle.acl_terms.specs.SetSteps.{single}
use Rattle.acl_terms.proofs.NumberLaws.{one-number, single-held}
use Rattle.acl_terms.proofs.SetLaws.{less-set}
use Rattle.acl_terms.proofs.WordLaws.{code-within, protocol-within, type-within}

-- ---- one set for a fact

same-bool : (a b : Bool) → (a ≡ true → b ≡ true) → (b ≡ true → a ≡ true) → a ≡ b
same-bool true b h k = sym (h refl)
same-bool false true h k = k refl
same-bool false false h k = refl

same-ranges : (P : ℕ → Type 0) (top : ℕ) (s u : Numbers) → IsSetOf P top s → IsSetOf P top u
    → s.ranges ≡ u.ranges
same-ranges P top s u h k =
    let a : s.top ≡ top = h.top_is in
    let b : u.top ≡ top = k.top_is in
    one_list 0 0 top s.ranges u.ranges (subst (λ t. IsNormal 0 t s.ranges) a h.normal)
    (subst (λ t. IsNormal 0 t u.ranges) b k.normal)
    (λ x. elim (cases_lt top x) [
      | inl over ↦ past_top 0 s.top s.ranges x h.normal (omega arith)
          ∙ sym (past_top 0 u.top u.ranges x k.normal (omega arith))
      | inr l ↦ let p = h.exact x l in let q = k.exact x l in
          same-bool (holds s.ranges x) (holds u.ranges x) (λ e. q.1 (p.0 e)) (λ e. p.1 (q.0 e))
    ])

pub one-set : (P : ℕ → Type 0) (top : ℕ) (s u : Numbers) → IsSetOf P top s → IsSetOf P top u → s ≡ u
one-set P top s u h k =
    ap (λ t. record { top = t; ranges = s.ranges }) (h.top_is ∙ sym k.top_is)
    ∙ ap (λ rs. record { top = u.top; ranges = rs }) (same-ranges P top s u h k)

pub one-of-sets : (n : Naming) (t : RawTerm) (s u : Sets) → AreSetsOf n t s → AreSetsOf n t u → s ≡ u
one-of-sets n t s u h k =
    let qs = protocols_of t.protocols in
    let a = one-set (IsAddress n V4 t.sources t.source_excludes) (top_address V4) s.src4 u.src4 h.ipv4.0 k.ipv4.0 in
    let b = one-set (IsAddress n V6 t.sources t.source_excludes) (top_address V6) s.src6 u.src6 h.ipv6.0 k.ipv6.0 in
    let c = one-set (IsAddress n V4 t.destinations t.destination_excludes) (top_address V4) s.dst4 u.dst4 h.ipv4.1 k.ipv4.1 in
    let d = one-set (IsAddress n V6 t.destinations t.destination_excludes) (top_address V6) s.dst6 u.dst6 h.ipv6.1 k.ipv6.1 in
    let k4 = one-set (IsNamedAddress n V4 t.addresses) (top_address V4) s.addr4 u.addr4 h.ipv4.2 k.ipv4.2 in
    let k6 = one-set (IsNamedAddress n V6 t.addresses) (top_address V6) s.addr6 u.addr6 h.ipv6.2 k.ipv6.2 in
    let p = one-set (IsPort n qs t.ports) top_port s.ports u.ports h.either_ports k.either_ports in
    let numbers = λ (field : Field). one-set (IsNumber n t field) (top_of field) (s.numbers field) (u.numbers field)
    (h.numbers_are field) (k.numbers_are field) in
    λ j. record {
      src4 = a j;
      src6 = b j;
      dst4 = c j;
      dst6 = d j;
      addr4 = k4 j;
      addr6 = k6 j;
      numbers = λ field. numbers field j;
      ports = p j;
    }

-- ---- the ranges of many items

all-flat : {A : Type 0} (P : Range → Type 0) (f : A → List Range) (xs : List A)
    → ((a : A) → AllByRecursion P (f a)) → AllByRecursion P (flat_map f xs)
all-flat P f [] h = tt
all-flat P f (x ∷ xs) h = all_append P (f x) (flat_map f xs) (h x) (all-flat P f xs h)

flat-held : {A : Type 0} (P : ℕ → A → Type 0) (f : A → List Range) (xs : List A) (x : ℕ)
    → ((a : A) → (holds (f a) x ≡ true) ↔ P x a) → (holds (flat_map f xs) x ≡ true) ↔ AnyOf (P x) xs
flat-held P f [] x h = (λ e. absurd (both_ways false refl e), λ a. absurd a)
flat-held P f (a ∷ xs) x h =
    let rest = flat-held P f xs x h in
    let here = h a in
    let join : holds (f a ++ flat_map f xs) x ≡ (holds (f a) x || holds (flat_map f xs) x) =
    list_any-append (λ (r : Range). inside r x) (f a) (flat_map f xs) in (
      λ e. elim (or_cases (holds (f a) x) (holds (flat_map f xs) x) (sym join ∙ e)) [
        | inl l ↦ inl (here.0 l)
        | inr r ↦ inr (rest.0 r)
      ],
      λ w. elim w [
        | inl p ↦ join ∙ or_left (holds (f a) x) (holds (flat_map f xs) x) (here.1 p)
        | inr r ↦ join ∙ or_right (holds (f a) x) (holds (flat_map f xs) x) (rest.1 r)
      ],
    )

named-set : {A : Type 0} (P : ℕ → A → Type 0) (top : ℕ) (f : A → List Range) (xs : List A)
    → ((a : A) → AllByRecursion (λ r. IsRange top r) (f a))
    → ((a : A) (x : ℕ) → x ≤ top → (holds (f a) x ≡ true) ↔ P x a)
    → IsSetOf (λ x. AnyOf (P x) xs) top (record { top = top; ranges = ranges_of f xs })
named-set P top f xs fit exact =
    let ranges = all-flat (λ r. IsRange top r) f xs fit in record {
      top_is = refl;
      normal = put_all-normal top (flat_map f xs) [] ranges tt;
      exact = λ x l. let e = put_all-holds top (flat_map f xs) [] x ranges tt in
          let law = flat-held P f xs x (λ a. exact a x l) in
          (λ h. law.0 (sym e ∙ h), λ a. e ∙ law.1 a);
    }

admitted-set : {A : Type 0} (P : ℕ → A → Type 0) (top : ℕ) (f : A → List Range) (xs : List A)
    → ((a : A) → AllByRecursion (λ r. IsRange top r) (f a))
    → ((a : A) (x : ℕ) → x ≤ top → (holds (f a) x ≡ true) ↔ P x a)
    → IsSetOf (λ x. Admits (P x) xs) top (record { top = top; ranges = ranges_or_all top f xs })
admitted-set P top f [] fit exact = record {
  top_is = refl;
  normal = (omega arith, omega arith, omega arith, tt);
  exact = λ x l. (
    λ _. tt,
    λ _. or_left (nat_le 0 x && nat_le x top) false
        (in_range 0 top x (omega arith) l),
  );
}
admitted-set P top f (a ∷ xs) fit exact = named-set P top f (a ∷ xs) fit exact

-- ---- the sets

named-address-is : (n : Naming) (f : Family) (words : List Word)
    → IsSetOf (IsNamedAddress n f words) (top_address f) (named_address_set n f words)
named-address-is n f words = admitted-set (NamesAddress n f) (top_address f) (word_addresses n f) words
    (λ w. are_ranges 0 (top_address f) (word_addresses n f w) (addresses_computed n.networks f w.text).0)
    (λ w x l. (addresses_computed n.networks f w.text).1 x l)

address-is : (n : Naming) (f : Family) (words excludes : List Word)
    → IsSetOf (IsAddress n f words excludes) (top_address f) (address_set n f words excludes)
address-is n f words excludes =
    let top = top_address f in
    let fit : (w : Word) → AllByRecursion (λ r. IsRange top r) (word_addresses n f w) =
    λ w. are_ranges 0 top (word_addresses n f w) (addresses_computed n.networks f w.text).0 in
    let exact : (w : Word) (x : ℕ) → x ≤ top → (holds (word_addresses n f w) x ≡ true) ↔ NamesAddress n f x w =
    λ w x l. (addresses_computed n.networks f w.text).1 x l in
    let yes = admitted-set (NamesAddress n f) top (word_addresses n f) words fit exact in
    let out = named-set (NamesAddress n f) top (word_addresses n f) excludes fit exact in
    let some = ranges_or_all top (word_addresses n f) words in
    let less = ranges_of (word_addresses n f) excludes in
    let ranges = are_ranges 0 top less out.normal in
    less-set (λ x. Admits (NamesAddress n f x) words) (λ x. AnyOf (NamesAddress n f x) excludes) top
    (record { top = top; ranges = some }) (record { top = top; ranges = less }) (address_set n f words excludes)
    yes out refl (cut_all-normal 0 top top less some ranges yes.normal)
    (λ x. cut_all-holds 0 top top less some x ranges yes.normal)

pub port-is : (n : Naming) (qs : List ℕ) (words : List Word)
    → IsSetOf (IsPort n qs words) top_port (port_set n qs words)
port-is n qs words = admitted-set (NamesPort n qs) top_port (word_ports n qs) words
    (λ w. all-flat (λ r. IsRange top_port r) (λ q. ports_reached n.services q w.text) qs
    (λ q. are_ranges 0 top_port (ports_reached n.services q w.text) (ports_computed n.services q w.text).0))
    (λ w x l. flat-held (λ y q. ReachesPort n.services w.text q y) (λ q. ports_reached n.services q w.text) qs x
    (λ q. (ports_computed n.services q w.text).1 x l))

word-fits : (o : Option ℕ) → ((k : ℕ) → o ≡ Some k → k ≤ 255)
    → AllByRecursion (λ r. IsRange 255 r) (map single (option_to_list o))
word-fits None h = tt
word-fits (Some k) h = let l : k ≤ 255 = h k refl in ((omega arith, l), tt)

word-held : (o : Option ℕ) (x : ℕ) → (holds (map single (option_to_list o)) x ≡ true) ↔ (o ≡ Some x)
word-held o x =
    let a = single-held (option_to_list o) x in
    let b = one-number o x in (λ h. b.0 (a.0 h), λ e. a.1 (b.1 e))

number-is : (number : Word → Option ℕ) (words : List Word) → ((w : Word) (k : ℕ) → number w ≡ Some k → k ≤ 255)
    → IsSetOf (λ x. Admits (λ w. number w ≡ Some x) words) 255
    (record { top = 255; ranges = ranges_or_all 255 (word_numbers number) words })
number-is number words within = admitted-set (λ x w. number w ≡ Some x) 255 (word_numbers number) words
    (λ w. word-fits (number w) (within w)) (λ w x _. word-held (number w) x)

field-is : (n : Naming) (t : RawTerm) (field : Field) → IsSetOf (IsNumber n t field) (top_of field) (number_set n t field)
field-is n t =
    let qs = protocols_of t.protocols in
    by-field (λ field. IsSetOf (IsNumber n t field) (top_of field) (number_set n t field))
    (number-is (λ w. protocol_in w.text) t.protocols (λ w k e. (protocol-within k w.text e).1))
    (port-is n qs t.source_ports) (port-is n qs t.destination_ports)
    (number-is (λ w. type_in (icmp_family qs) w.text) t.icmp_types
    (λ w k e. let l = type-within (icmp_family qs) k w.text e in omega arith))
    (number-is (λ w. code_in w.text) t.icmp_codes (λ w k e. code-within k w.text e))

-- The sets that are computed, where ports are some.
pub computed-sets : (n : Naming) (t : RawTerm) → (number_set n t SourcePort).ranges ≢ []
    → (number_set n t DestinationPort).ranges ≢ [] → (sets_of n t).ports.ranges ≢ [] → AreSetsOf n t (sets_of n t)
unfolding sets_of
computed-sets n t from into either = record {
  ipv4 = (
    address-is n V4 t.sources t.source_excludes,
    address-is n V4 t.destinations t.destination_excludes,
    named-address-is n V4 t.addresses,
  );
  ipv6 = (
    address-is n V6 t.sources t.source_excludes,
    address-is n V6 t.destinations t.destination_excludes,
    named-address-is n V6 t.addresses,
  );
  numbers_are = field-is n t;
  either_ports = port-is n (protocols_of t.protocols) t.ports;
  some_from = from;
  some_to = into;
  some_of_either = either;
}

-- The sets of a term are those that are computed.
pub sets_computed : (n : Naming) (t : RawTerm) (s : Sets) → AreSetsOf n t s → s ≡ sets_of n t
unfolding sets_of
sets_computed n t s h =
    let qs = protocols_of t.protocols in
    let same : (field : Field) → (s.numbers field).ranges ≡ (number_set n t field).ranges =
    λ field. same-ranges (IsNumber n t field) (top_of field) (s.numbers field) (number_set n t field) (h.numbers_are field)
    (field-is n t field) in
    let either = same-ranges (IsPort n qs t.ports) top_port s.ports (port_set n qs t.ports)
    h.either_ports (port-is n qs t.ports) in
    one-of-sets n t s (sets_of n t) h
    (computed-sets n t (λ e. h.some_from (same SourcePort ∙ e)) (λ e. h.some_to (same DestinationPort ∙ e))
    (λ e. h.some_of_either (either ∙ e)))
