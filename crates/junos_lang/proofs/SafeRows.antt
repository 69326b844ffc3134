-- Each row of a document can be found again in its text.
use Rattle.std.proofs.Common.{◌≡◌, ℕ, ◌<◌, ◌≤◌, Bool, true, false, List, [], ◌∷◌, ◌++◌, map, flat_map, codes, Option, None, Some, IfSome, refl, arith}
use Rattle.std.specs.Fmt.{decimal}
use Rattle.std.specs.List.{AllByRecursion}
use Rattle.acl_packet.specs.declared.addresses.Family.{Family}
use Rattle.acl_packet.specs.declared.addresses.Family.TheVariants.{V4, V6}
use Rattle.acl_packet.specs.declared.addresses.Prefix.{Prefix}
use Rattle.acl_packet.specs.declared.filtering.Verdict.{Verdict}
use Rattle.acl_packet.specs.declared.filtering.Verdict.TheVariants.{Accept, Deny, Reject, Reset, Left}
use Rattle.acl_text.specs.AddressTexts.{prefix_text}
use Rattle.acl_text.specs.Names.{is_safe_text}
use Rattle.acl_text.proofs.ListLaws.{all_append}
use Rattle.acl_rows.specs.PortRanges.{IsPortRange}
use Rattle.acl_rows.specs.Rows.{Row}
use Rattle.acl_rows.specs.RowSteps.{begins, IsRow, IsWord, AreWords, AreRows}
use Rattle.acl_rows.proofs.ListLaws.{all_flat, all_map}
use Rattle.acl_rows.proofs.PortRangeLaws.{range_word as range_is_word}
use Rattle.acl_rows.proofs.WordLaws.{word, decimal_word, prefix_word, name_word, plain_word, text_words, joined_word, both_words}
use Rattle.junos_lang.specs.declared.documents.Section.{Section}
use Rattle.junos_lang.specs.declared.documents.JTerm.{JTerm}
use Rattle.junos_lang.specs.declared.documents.JTest.{JTest}
use Rattle.junos_lang.specs.declared.documents.JTest.TheVariants.{Established, Initial, Rst}
use Rattle.acl_rows.specs.declared.rule_parts.End.{End}
use Rattle.acl_rows.specs.declared.rule_parts.End.TheVariants.{Source, Destination}
use Rattle.acl_rows.specs.RuleParts.{IsAddresses}
use Rattle.junos_lang.specs.declared.conditions.Condition.{Condition}
use Rattle.junos_lang.specs.declared.conditions.Condition.TheVariants.{Protocol, NextHeader, SourcePort, DestinationPort, IcmpType, IcmpCode}
use Rattle.junos_lang.specs.Documents.{IsTerm, IsSection, family_word}
use Rattle.junos_lang.specs.Texts.{closing, end_word, prefix_row, address_rows, condition_word, protocol_of, list_row, list_rows, range_word, test_rows, condition_rows, from_rows, verdict_words, syslog_rows, then_rows, note_row, note_rows, term_row, term_rows, head_rows, end_rows, section_rows}

-- ---- conditions

end_safe : (s : End) → IsWord (end_word s) × (begins (end_word s ∷ codes "{" ∷ []) ≡ true)
end_safe Source = (search word, refl)
end_safe Destination = (search word, refl)

begins-append : (w v : List ℕ) (words : List (List ℕ)) → begins (v ∷ words) ≡ true → begins ((w ++ v) ∷ words) ≡ true
begins-append [] v words h = h
begins-append (b ∷ bs) v words h = refl

prefix_safe : (f : Family) (p : Prefix) → IsAddresses f p → IsRow (prefix_row p)
prefix_safe f p h = record {
  start = begins-append (prefix_text p) (codes ";") [] refl;
  words = (joined_word (prefix_text p) (codes ";") (prefix_word p h.0.1) (search word), tt);
}

addresses_safe : (f : Family) (s : End) (ps : List Prefix) → AllByRecursion (IsAddresses f) ps → AreRows (address_rows s ps)
unfolding address_rows
addresses_safe f s [] h = tt
addresses_safe f s (p ∷ ps) h = (
  search (word, end_safe s),
  all_append IsRow (map prefix_row (p ∷ ps)) (closing 20 ∷ []) (all_map (IsAddresses f) IsRow prefix_row (prefix_safe f) (p ∷ ps) h) (search word),
)

condition_safe : (c : Condition) (words : List (List ℕ)) → IsWord (condition_word c) × (begins (condition_word c ∷ words) ≡ true)
condition_safe Protocol words = (search word, refl)
condition_safe NextHeader words = (search word, refl)
condition_safe SourcePort words = (search word, refl)
condition_safe DestinationPort words = (search word, refl)
condition_safe IcmpType words = (search word, refl)
condition_safe IcmpCode words = (search word, refl)

row_safe : (c : Condition) (values : List (List ℕ)) → AreWords values → IsRow (list_row c values)
unfolding list_row
row_safe c values h =
    let name = condition_safe c (codes "[" ∷ (values ++ codes "];" ∷ [])) in
    record { start = name.1; words = (name.0, (search word, both_words values (codes "];" ∷ []) h (search word))) }

list_safe : (c : Condition) (values : List (List ℕ)) → AreWords values → AreRows (list_rows c values)
unfolding list_rows
list_safe c [] h = tt
list_safe c (v ∷ values) h = (row_safe c (v ∷ values) h, tt)

range_safe : (r : ℕ × ℕ) → IsPortRange r → IsWord (range_word r)
range_safe r h = range_is_word 45 r h refl refl

test_safe : (o : Option JTest) → AreRows (test_rows o)
unfolding test_rows
test_safe None = tt
test_safe (Some Established) = search word
test_safe (Some Initial) = search word
test_safe (Some Rst) = search word

conditions_safe : (f : Family) (t : JTerm) → IsTerm f t → AreRows (condition_rows f t)
unfolding condition_rows
conditions_safe f t h =
    let byte = λ (n : ℕ) (k : n < 256). decimal_word n (omega (arith, k)) in
    let type = λ (n : ℕ) (k : n ≤ 254). decimal_word n (omega (arith, k)) in
    let protos = list_safe (protocol_of f) (map decimal t.protos) (all_map (λ n. n < 256) IsWord decimal byte t.protos h.protocols) in
    let sports = list_safe SourcePort (map range_word t.sports) (all_map IsPortRange IsWord range_word range_safe t.sports h.source_ports) in
    let dports = list_safe DestinationPort (map range_word t.dports) (all_map IsPortRange IsWord range_word range_safe t.dports h.destination_ports) in
    let types = list_safe IcmpType (map decimal t.itypes) (all_map (λ n. n ≤ 254) IsWord decimal type t.itypes h.icmp_types) in
    let icodes = list_safe IcmpCode (map decimal t.icodes) (all_map (λ n. n < 256) IsWord decimal byte t.icodes h.icmp_codes) in
    all_append IsRow (address_rows Source t.src) _ (addresses_safe f Source t.src h.sources)
    (all_append IsRow (address_rows Destination t.dst) _ (addresses_safe f Destination t.dst h.destinations)
    (all_append IsRow (list_rows (protocol_of f) (map decimal t.protos)) _ protos
    (all_append IsRow (list_rows SourcePort (map range_word t.sports)) _ sports
    (all_append IsRow (list_rows DestinationPort (map range_word t.dports)) _ dports
    (all_append IsRow (list_rows IcmpType (map decimal t.itypes)) _ types
    (all_append IsRow (list_rows IcmpCode (map decimal t.icodes)) (test_rows t.test) icodes (test_safe t.test)))))))

from_safe : (rows : List Row) → AreRows rows → AreRows (from_rows rows)
unfolding from_rows
from_safe [] h = tt
from_safe (r ∷ rows) h = (search word, all_append IsRow (r ∷ rows) (closing 16 ∷ []) h (search word))

-- ---- terms

verdict_safe : (v : Verdict) → AreWords (verdict_words v) × (begins (verdict_words v) ≡ true)
verdict_safe Accept = (search word, refl)
verdict_safe Deny = (search word, refl)
verdict_safe Reject = (search word, refl)
verdict_safe Reset = (search word, refl)
verdict_safe Left = (search word, refl)

syslog_safe : (b : Bool) → AreRows (syslog_rows b)
syslog_safe true = search word
syslog_safe false = tt

then_safe : (b : Bool) (v : Verdict) → AreRows (then_rows b v)
unfolding then_rows
then_safe b v =
    let decided = verdict_safe v in
    (search word, all_append IsRow (syslog_rows b) _ (syslog_safe b) (record { start = decided.1; words = decided.0 }, search word))

note_safe : (o : Option (List ℕ)) → IfSome o (λ text. is_safe_text text ≡ true) → AreRows (note_rows o)
unfolding note_row
note_safe None h = tt
note_safe (Some text) h = search (both_words, word, text_words text h)

pub term_safe : (f : Family) (t : JTerm) → IsTerm f t → AreRows (term_rows f t)
unfolding term_rows
term_safe f t h =
    let head : IsRow (term_row t.name) = search (word, plain_word t.name h.named) in
    all_append IsRow (note_rows t.note) _ (note_safe t.note h.noted) (
      head,
      all_append IsRow (from_rows (condition_rows f t)) _ (from_safe (condition_rows f t) (conditions_safe f t h))
          (all_append IsRow (then_rows t.syslog t.verdict) _ (then_safe t.syslog t.verdict) (search word)),
    )

-- ---- sections

family_safe : (f : Family) → IsWord (family_word f)
family_safe V4 = search word
family_safe V6 = search word

head_safe : (family name : List ℕ) → IsWord family → IsWord name → AreRows (head_rows family name)
unfolding head_rows
head_safe family name h k = search (word, h, k)

section_safe : (s : Section) → IsSection s → AreRows (section_rows s)
unfolding section_rows
section_safe s h =
    let terms = all_flat (IsTerm s.family) IsRow (term_rows s.family) (term_safe s.family) s.terms h.terms in
    all_append IsRow (head_rows (family_word s.family) s.name) _ (head_safe (family_word s.family) s.name (family_safe s.family) (name_word s.name h.named))
    (all_append IsRow (flat_map (term_rows s.family) s.terms) end_rows terms (search word))

pub sections_safe : (doc : List Section) → AllByRecursion IsSection doc → AllByRecursion IsRow (flat_map section_rows doc)
sections_safe doc h = all_flat IsSection IsRow section_rows section_safe doc h
