-- What is written of a document is read again.
use Rattle.std.proofs.Common.{◌≡◌, ℕ, ◌-◌, ◌<◌, ◌≤◌, Bool, true, false, List, [], ◌∷◌, ◌++◌, length, take, map, flat_map, codes, Option, None, Some, refl, ap, sym, ◌∙◌, append_assoc, append-nil, arith}
use Rattle.std.specs.Fmt.{decimal}
use Rattle.std.specs.List.{fold, join_with_byte, AllByRecursion}
use Rattle.std.proofs.Math.Seq.{take-append_seam}
use Rattle.std.proofs.lemmas.Bool.{false≢true, and_parts}
use Rattle.std.proofs.lemmas.List.{length-append}
use Rattle.std.proofs.lemmas.List.Splits.{join_with_byte-slice_split}
use Rattle.std.proofs.lemmas.List.Sums.{fold-append}
use Rattle.acl_packet.specs.declared.addresses.Family.{Family}
use Rattle.acl_packet.specs.declared.addresses.Family.TheVariants.{V4, V6}
use Rattle.acl_packet.specs.declared.addresses.Prefix.{Prefix}
use Rattle.acl_packet.specs.declared.filtering.Verdict.{Verdict}
use Rattle.acl_packet.specs.declared.filtering.Verdict.TheVariants.{Accept, Deny, Reject, Reset, Left}
use Rattle.acl_packet.specs.Decimals.{number_in, digits_in}
use Rattle.acl_packet.proofs.DecimalLaws.{number-again}
use Rattle.acl_text.specs.AddressTexts.{prefix_text, spelled_prefix_in}
use Rattle.acl_text.specs.OptionSteps.{◌>>=◌}
use Rattle.acl_text.specs.PortRanges.{ports_in, port_in, port_pair_in}
use Rattle.acl_text.proofs.AddressLaws.{prefix-lacks, spelled-again}
use Rattle.acl_text.proofs.CutLaws.{cut-again}
use Rattle.acl_text.proofs.Printed.{IsForeign}
use Rattle.acl_rows.specs.PortRanges.{IsPortRange}
use Rattle.acl_rows.specs.Rows.{Row, row}
use Rattle.acl_rows.specs.RowSteps.{document_in, row_in}
use Rattle.acl_rows.proofs.PortRangeLaws.{range-again}
use Rattle.acl_rows.proofs.RowLaws.{fold-again, fold-members, split_some}
use Rattle.acl_rows.specs.FamilyWords.{family_in}
use Rattle.junos_lang.specs.declared.documents.Section.{Section}
use Rattle.junos_lang.specs.declared.documents.JTerm.{JTerm}
use Rattle.junos_lang.specs.declared.documents.JTest.{JTest}
use Rattle.junos_lang.specs.declared.documents.JTest.TheVariants.{Established, Initial, Rst}
use Rattle.acl_rows.specs.declared.rule_parts.End.{End}
use Rattle.acl_rows.specs.declared.rule_parts.End.TheVariants.{Source, Destination}
use Rattle.acl_rows.specs.RuleParts.{IsAddresses}
use Rattle.junos_lang.specs.declared.conditions.Condition.TheVariants.{SourcePort, DestinationPort, IcmpType, IcmpCode}
use Rattle.junos_lang.specs.declared.filters_drafts.FiltersDraft.{FiltersDraft}
use Rattle.junos_lang.specs.Documents.{IsTerm, IsSection, ports_fit, types_fit, codes_fit, test_fits, verdict_fits, family_word}
use Rattle.junos_lang.specs.Texts.{closing, prefix_row, address_rows, protocol_of, list_row, list_rows, range_word, test_rows, condition_rows, from_rows, then_rows, note_row, note_rows, term_row, term_rows, head_rows, end_rows, section_rows, text_of}
use Rattle.junos_lang.specs.ReadingSteps.{one_or_none, numbers_in, ranges_in, listed_prefix_in, note_in, no_term, with_prefix, with_list, with_word, with_pair, end_in, no_section, no_draft, take_outer, take_head, take_row}
use Rattle.junos_lang.proofs.SafeRows.{sections_safe}

abbrev draft : List Section → Section → JTerm → End → FiltersDraft
draft ss s t end = record { sections = ss; section = s; term = t; end = end }

-- between two blocks of addresses
abbrev at : List Section → Section → JTerm → FiltersDraft
at ss s t = draft ss s t Source

abbrev read : FiltersDraft → List Row → FiltersDraft
read d rows = fold take_row d rows

then : (d m e : FiltersDraft) (xs ys : List Row) → read d xs ≡ m → read m ys ≡ e → read d (xs ++ ys) ≡ e
then d m e xs ys h k = fold-append take_row d xs ys ∙ ap (λ s. read s ys) h ∙ k

-- ---- addresses

semicolon_foreign : IsForeign 59
semicolon_foreign = record { hex = refl; digit = refl; dot = refl; colon = refl }

prefix_again : (f : Family) (p : Prefix) → IsAddresses f p → listed_prefix_in f (prefix_text p ++ codes ";") ≡ Some p
unfolding listed_prefix_in
prefix_again f p h =
    ap (λ o. o >>= (λ q. spelled_prefix_in f q.0)) (cut-again 59 (prefix_text p) [] (prefix-lacks 59 p h.0.1 semicolon_foreign refl))
    ∙ spelled-again f p h.0.1 h.0.0

abbrev with_prefixes : End → List Prefix → JTerm → JTerm
with_prefixes Source ps t = record t { src = t.src ++ ps }
with_prefixes Destination ps t = record t { dst = t.dst ++ ps }

no_prefixes : (end : End) (t : JTerm) → t ≡ with_prefixes end [] t
no_prefixes Source t = ap (λ l. record t { src = l }) (sym (append-nil t.src))
no_prefixes Destination t = ap (λ l. record t { dst = l }) (sym (append-nil t.dst))

more_prefixes : (end : End) (p : Prefix) (ps : List Prefix) (t : JTerm) → with_prefixes end ps (with_prefix t end (Some p)) ≡ with_prefixes end (p ∷ ps) t
more_prefixes Source p ps t = ap (λ l. record t { src = l }) (append_assoc t.src (p ∷ []) ps)
more_prefixes Destination p ps t = ap (λ l. record t { dst = l }) (append_assoc t.dst (p ∷ []) ps)

prefixes_read : (ss : List Section) (s : Section) (t : JTerm) (end : End) (ps : List Prefix) → AllByRecursion (IsAddresses s.family) ps
    → read (draft ss s t end) (map prefix_row ps) ≡ draft ss s (with_prefixes end ps t) end
unfolding take_row
prefixes_read ss s t end [] h = ap (λ u. draft ss s u end) (no_prefixes end t)
prefixes_read ss s t end (p ∷ ps) h =
    ap (λ o. read (draft ss s (with_prefix t end o) end) (map prefix_row ps)) (prefix_again s.family p h.0)
    ∙ prefixes_read ss s (with_prefix t end (Some p)) end ps h.1 ∙ ap (λ u. draft ss s u end) (more_prefixes end p ps t)

address_read : (ss : List Section) (s : Section) (t : JTerm) (end : End) (ps : List Prefix) → AllByRecursion (IsAddresses s.family) ps
    → read (at ss s t) (address_rows end ps) ≡ at ss s (with_prefixes end ps t)
unfolding address_rows take_row with_pair with_word end_in
address_read ss s t end [] h = ap (at ss s) (no_prefixes end t)
address_read ss s t Source (p ∷ ps) h =
    let u = with_prefixes Source (p ∷ ps) t in
    then (draft ss s t Source) (draft ss s u Source) (at ss s u) (map prefix_row (p ∷ ps)) (closing 20 ∷ []) (prefixes_read ss s t Source (p ∷ ps) h) refl
address_read ss s t Destination (p ∷ ps) h =
    let u = with_prefixes Destination (p ∷ ps) t in
    then (draft ss s t Destination) (draft ss s u Destination) (at ss s u) (map prefix_row (p ∷ ps)) (closing 20 ∷ []) (prefixes_read ss s t Destination (p ∷ ps) h) refl

-- ---- lists of values

-- the values among the words of a list's row, whose other words are none
values_again : {A : Type 0} (one : List ℕ → Option A) (write : A → List ℕ) (P : A → Type 0) → ((x : A) → P x → one (write x) ≡ Some x)
    → one (codes "];") ≡ None → (xs : List A) → AllByRecursion P xs → flat_map (λ w. one_or_none (one w)) (map write xs ++ codes "];" ∷ []) ≡ xs
values_again one write P again last [] h = ap (λ o. one_or_none o ++ []) last
values_again one write P again last (x ∷ xs) h =
    ap (λ o. one_or_none o ++ flat_map (λ w. one_or_none (one w)) (map write xs ++ codes "];" ∷ [])) (again x h.0)
    ∙ ap (λ ys. x ∷ ys) (values_again one write P again last xs h.1)

list_again : {A : Type 0} (one : List ℕ → Option A) (write : A → List ℕ) (P : A → Type 0) → ((x : A) → P x → one (write x) ≡ Some x)
    → (word : List ℕ) → one word ≡ None → one (codes "[") ≡ None → one (codes "];") ≡ None → (xs : List A) → AllByRecursion P xs
    → flat_map (λ w. one_or_none (one w)) (word ∷ codes "[" ∷ (map write xs ++ codes "];" ∷ [])) ≡ xs
list_again one write P again word first bracket last xs h =
    let values = flat_map (λ w. one_or_none (one w)) (map write xs ++ codes "];" ∷ []) in
    ap (λ o. one_or_none o ++ (one_or_none (one (codes "[")) ++ values)) first ∙ ap (λ o. one_or_none o ++ values) bracket
    ∙ values_again one write P again last xs h

number_of_again : (n : ℕ) → n < 256 → number_in 255 (decimal n) ≡ Some n
number_of_again n h = number-again 255 n (omega (arith, h)) (omega (arith, h))

no_number : (number_in 255 (codes "[") ≡ None) × (number_in 255 (codes "];") ≡ None) × (number_in 255 (codes "protocol") ≡ None)
    × (number_in 255 (codes "next-header") ≡ None) × (number_in 255 (codes "icmp-type") ≡ None) × (number_in 255 (codes "icmp-code") ≡ None)
unfolding number_in digits_in
no_number = (refl, refl, refl, refl, refl, refl)

numbers_again : (word : List ℕ) → number_in 255 word ≡ None → (ns : List ℕ) → AllByRecursion (λ n. n < 256) ns
    → numbers_in (word ∷ codes "[" ∷ (map decimal ns ++ codes "];" ∷ [])) ≡ ns
unfolding numbers_in
numbers_again word e ns h = list_again (number_in 255) decimal (λ n. n < 256) number_of_again word e no_number.0 no_number.1 ns h

no_range : (ports_in 45 (codes "[") ≡ None) × (ports_in 45 (codes "];") ≡ None) × (ports_in 45 (codes "source-port") ≡ None) × (ports_in 45 (codes "destination-port") ≡ None)
unfolding ports_in port_in port_pair_in number_in digits_in
no_range = (refl, refl, refl, refl)

ranges_again : (word : List ℕ) → ports_in 45 word ≡ None → (rs : List (ℕ × ℕ)) → AllByRecursion IsPortRange rs
    → ranges_in (word ∷ codes "[" ∷ (map range_word rs ++ codes "];" ∷ [])) ≡ rs
unfolding ranges_in
ranges_again word e rs h = list_again (ports_in 45) range_word IsPortRange (range-again 45 refl) word e no_range.0 no_range.1 rs h

protos_read : (ss : List Section) (s : Section) (t : JTerm) (f : Family) (ns : List ℕ) → t.protos ≡ [] → AllByRecursion (λ n. n < 256) ns
    → read (at ss s t) (list_rows (protocol_of f) (map decimal ns)) ≡ at ss s (record t { protos = ns })
unfolding list_rows list_row take_row with_list
protos_read ss s t f [] e h = ap (λ l. at ss s (record t { protos = l })) e
protos_read ss s t V4 (n ∷ ns) e h = ap (λ l. at ss s (record t { protos = l })) (numbers_again (codes "protocol") no_number.2 (n ∷ ns) h)
protos_read ss s t V6 (n ∷ ns) e h = ap (λ l. at ss s (record t { protos = l })) (numbers_again (codes "next-header") no_number.3 (n ∷ ns) h)

types_read : (ss : List Section) (s : Section) (t : JTerm) (ns : List ℕ) → t.itypes ≡ [] → AllByRecursion (λ n. n < 256) ns
    → read (at ss s t) (list_rows IcmpType (map decimal ns)) ≡ at ss s (record t { itypes = ns })
unfolding list_rows list_row take_row with_list
types_read ss s t [] e h = ap (λ l. at ss s (record t { itypes = l })) e
types_read ss s t (n ∷ ns) e h = ap (λ l. at ss s (record t { itypes = l })) (numbers_again (codes "icmp-type") no_number.4 (n ∷ ns) h)

codes_read : (ss : List Section) (s : Section) (t : JTerm) (ns : List ℕ) → t.icodes ≡ [] → AllByRecursion (λ n. n < 256) ns
    → read (at ss s t) (list_rows IcmpCode (map decimal ns)) ≡ at ss s (record t { icodes = ns })
unfolding list_rows list_row take_row with_list
codes_read ss s t [] e h = ap (λ l. at ss s (record t { icodes = l })) e
codes_read ss s t (n ∷ ns) e h = ap (λ l. at ss s (record t { icodes = l })) (numbers_again (codes "icmp-code") no_number.5 (n ∷ ns) h)

sports_read : (ss : List Section) (s : Section) (t : JTerm) (rs : List (ℕ × ℕ)) → t.sports ≡ [] → AllByRecursion IsPortRange rs
    → read (at ss s t) (list_rows SourcePort (map range_word rs)) ≡ at ss s (record t { sports = rs })
unfolding list_rows list_row take_row with_list
sports_read ss s t [] e h = ap (λ l. at ss s (record t { sports = l })) e
sports_read ss s t (r ∷ rs) e h = ap (λ l. at ss s (record t { sports = l })) (ranges_again (codes "source-port") no_range.2 (r ∷ rs) h)

dports_read : (ss : List Section) (s : Section) (t : JTerm) (rs : List (ℕ × ℕ)) → t.dports ≡ [] → AllByRecursion IsPortRange rs
    → read (at ss s t) (list_rows DestinationPort (map range_word rs)) ≡ at ss s (record t { dports = rs })
unfolding list_rows list_row take_row with_list
dports_read ss s t [] e h = ap (λ l. at ss s (record t { dports = l })) e
dports_read ss s t (r ∷ rs) e h = ap (λ l. at ss s (record t { dports = l })) (ranges_again (codes "destination-port") no_range.3 (r ∷ rs) h)

narrow_types : (ns : List ℕ) → AllByRecursion (λ n. n ≤ 254) ns → AllByRecursion (λ n. n < 256) ns
narrow_types [] h = tt
narrow_types (n ∷ ns) h = (omega (arith, h.0), narrow_types ns h.1)

-- ---- the other parts of a term

test_read : (ss : List Section) (s : Section) (t : JTerm) (o : Option JTest) → t.test ≡ None → read (at ss s t) (test_rows o) ≡ at ss s (record t { test = o })
unfolding test_rows take_row with_word with_pair end_in
test_read ss s t None e = ap (λ o. at ss s (record t { test = o })) e
test_read ss s t (Some Established) e = refl
test_read ss s t (Some Initial) e = refl
test_read ss s t (Some Rst) e = refl

pub conditions_read : (ss : List Section) (s : Section) (t : JTerm) (n : Option (List ℕ)) (name : List ℕ) → IsTerm s.family t
    → read (at ss s (record no_term { note = n; name = name })) (condition_rows s.family t)
    ≡ at ss s (record t { note = n; name = name; syslog = false; verdict = Accept })
unfolding condition_rows
conditions_read ss s t n name h =
    let a : JTerm = record no_term { note = n; name = name } in
    let b : JTerm = record a { src = t.src } in
    let c : JTerm = record b { dst = t.dst } in
    let d : JTerm = record c { protos = t.protos } in
    let e : JTerm = record d { sports = t.sports } in
    let g : JTerm = record e { dports = t.dports } in
    let i : JTerm = record g { itypes = t.itypes } in
    let j : JTerm = record i { icodes = t.icodes } in
    let k : JTerm = record j { test = t.test } in
    let last = at ss s k in
    let test = test_rows t.test in
    let icodes = list_rows IcmpCode (map decimal t.icodes) ++ test in
    let types = list_rows IcmpType (map decimal t.itypes) ++ icodes in
    let dports = list_rows DestinationPort (map range_word t.dports) ++ types in
    let sports = list_rows SourcePort (map range_word t.sports) ++ dports in
    let protos = list_rows (protocol_of s.family) (map decimal t.protos) ++ sports in
    let dst = address_rows Destination t.dst ++ protos in
    let from_codes = then (at ss s i) (at ss s j) last (list_rows IcmpCode (map decimal t.icodes)) test
    (codes_read ss s i t.icodes refl h.icmp_codes) (test_read ss s j t.test refl) in
    let from_types = then (at ss s g) (at ss s i) last (list_rows IcmpType (map decimal t.itypes)) icodes
    (types_read ss s g t.itypes refl (narrow_types t.itypes h.icmp_types)) from_codes in
    let from_dports = then (at ss s e) (at ss s g) last (list_rows DestinationPort (map range_word t.dports)) types
    (dports_read ss s e t.dports refl h.destination_ports) from_types in
    let from_sports = then (at ss s d) (at ss s e) last (list_rows SourcePort (map range_word t.sports)) dports
    (sports_read ss s d t.sports refl h.source_ports) from_dports in
    let from_protos = then (at ss s c) (at ss s d) last (list_rows (protocol_of s.family) (map decimal t.protos)) sports
    (protos_read ss s c s.family t.protos refl h.protocols) from_sports in
    let from_dst = then (at ss s b) (at ss s c) last (address_rows Destination t.dst) protos (address_read ss s b Destination t.dst h.destinations) from_protos in
    then (at ss s a) (at ss s b) last (address_rows Source t.src) dst (address_read ss s a Source t.src h.sources) from_dst

pub from_read : (ss : List Section) (s : Section) (t u : JTerm) (rows : List Row) → read (at ss s t) rows ≡ at ss s u → read (at ss s t) (from_rows rows) ≡ at ss s u
unfolding from_rows take_row
from_read ss s t u [] h = h
from_read ss s t u (r ∷ rows) h = then (at ss s t) (at ss s u) (at ss s u) (r ∷ rows) (closing 16 ∷ []) h refl

pub then_read : (ss : List Section) (s : Section) (t : JTerm) (protos : List ℕ) (b : Bool) (v : Verdict) → t.syslog ≡ false → verdict_fits v protos ≡ true
    → read (at ss s t) (then_rows b v) ≡ at ss s (record t { syslog = b; verdict = v })
unfolding then_rows take_row with_word with_pair end_in
then_read ss s t protos true Accept e h = refl
then_read ss s t protos true Deny e h = refl
then_read ss s t protos true Reject e h = refl
then_read ss s t protos true Reset e h = refl
then_read ss s t protos true Left e h = absurd (false≢true h)
then_read ss s t protos false Accept e h = ap (λ b. at ss s (record t { syslog = b; verdict = Accept })) e
then_read ss s t protos false Deny e h = ap (λ b. at ss s (record t { syslog = b; verdict = Deny })) e
then_read ss s t protos false Reject e h = ap (λ b. at ss s (record t { syslog = b; verdict = Reject })) e
then_read ss s t protos false Reset e h = ap (λ b. at ss s (record t { syslog = b; verdict = Reset })) e
then_read ss s t protos false Left e h = absurd (false≢true h)

-- ---- terms

-- a word more, and then without the three bytes that it took
joined_more : (w : List ℕ) (words : List (List ℕ)) → join_with_byte 32 ((w ∷ words) ++ codes "*/" ∷ []) ≡ join_with_byte 32 (w ∷ words) ++ codes " */"
joined_more w [] = refl
joined_more w (v ∷ words) =
    ap (λ t. w ++ 32 ∷ t) (joined_more v words) ∙ sym (append_assoc w (32 ∷ join_with_byte 32 (v ∷ words)) (codes " */"))

pub without_end : (text : List ℕ) → note_in (text ++ codes " */") ≡ text
unfolding note_in
without_end text =
    let e : length (text ++ codes " */") - 3 ≡ length text = omega (arith, length-append text (codes " */")) in
    ap (λ n. take n (text ++ codes " */")) e ∙ take-append_seam text (codes " */")

note_taken : (ss : List Section) (s : Section) (t : JTerm) (w : List ℕ) (words : List (List ℕ))
    → take_row (at ss s t) (row 12 (codes "/*" ∷ ((w ∷ words) ++ codes "*/" ∷ []))) ≡ at ss s (record t { note = Some (join_with_byte 32 (w ∷ words)) })
unfolding take_row take_head
note_taken ss s t w words =
    ap (λ n. at ss s (record t { note = Some n })) (ap note_in (joined_more w words) ∙ without_end (join_with_byte 32 (w ∷ words)))

pub note_read : (ss : List Section) (s : Section) (o : Option (List ℕ)) → read (at ss s no_term) (note_rows o) ≡ at ss s (record no_term { note = o })
unfolding note_row
note_read ss s None = refl
note_read ss s (Some text) =
    let p = split_some text in
    ap (λ ws. take_row (at ss s no_term) (row 12 (codes "/*" ∷ (ws ++ codes "*/" ∷ [])))) p.2 ∙ note_taken ss s no_term p.0 p.1
    ∙ ap (λ t. at ss s (record no_term { note = Some t })) (ap (join_with_byte 32) (sym p.2) ∙ join_with_byte-slice_split 32 text)

abbrev with_term : Section → JTerm → Section
with_term s t = record s { terms = s.terms ++ t ∷ [] }

pub fitting_verdict : (f : Family) (t : JTerm) → IsTerm f t → verdict_fits t.verdict t.protos ≡ true
fitting_verdict f t h =
    let types = and_parts (ports_fit t) _ h.fit in
    let icodes = and_parts (types_fit f t) _ types.1 in
    let tests = and_parts (codes_fit t) _ icodes.1 in
    (and_parts (test_fits t) (verdict_fits t.verdict t.protos) tests.1).1

term_read : (ss : List Section) (s : Section) (t : JTerm) → IsTerm s.family t → read (at ss s no_term) (term_rows s.family t) ≡ at ss (with_term s t) no_term
unfolding term_rows take_row take_head
term_read ss s t h =
    let noted : JTerm = record no_term { note = t.note } in
    let named : JTerm = record noted { name = t.name } in
    let held : JTerm = record t { syslog = false; verdict = Accept } in
    let end = at ss (with_term s t) no_term in
    let actions = then_rows t.syslog t.verdict ++ closing 12 ∷ [] in
    let from = from_rows (condition_rows s.family t) in
    let acted = then (at ss s held) (at ss s t) end (then_rows t.syslog t.verdict) (closing 12 ∷ [])
    (then_read ss s held t.protos t.syslog t.verdict refl (fitting_verdict s.family t h)) refl in
    let conditions = from_read ss s named held (condition_rows s.family t) (conditions_read ss s t t.note t.name h) in
    then (at ss s no_term) (at ss s noted) end (note_rows t.note) (term_row t.name ∷ (from ++ actions)) (note_read ss s t.note)
    (then (at ss s named) (at ss s held) end from actions conditions acted)

terms_read : (ss : List Section) (s : Section) (ts : List JTerm) → AllByRecursion (IsTerm s.family) ts
    → read (at ss s no_term) (flat_map (term_rows s.family) ts) ≡ at ss (record s { terms = s.terms ++ ts }) no_term
terms_read ss s ts h =
    fold-members take_row (term_rows s.family) (λ us. at ss (record s { terms = us }) no_term) (IsTerm s.family)
    (λ us t k. term_read ss (record s { terms = us }) t k) s.terms ts h

-- ---- sections

abbrev empty : Family → List ℕ → Section
empty f name = record { family = f; name = name; terms = [] }

head_read : (ss : List Section) (f : Family) (name : List ℕ) → read (at ss no_section no_term) (head_rows (family_word f) name) ≡ at ss (empty f name) no_term
unfolding head_rows take_row take_outer family_in
head_read ss V4 name = refl
head_read ss V6 name = refl

end_read : (ss : List Section) (s : Section) → read (at ss s no_term) end_rows ≡ at (ss ++ s ∷ []) no_section no_term
unfolding take_row take_outer
end_read ss s = refl

section_read : (ss : List Section) (s : Section) → IsSection s → read (at ss no_section no_term) (section_rows s) ≡ at (ss ++ s ∷ []) no_section no_term
unfolding section_rows
section_read ss s h =
    let end = at (ss ++ s ∷ []) no_section no_term in
    let terms = flat_map (term_rows s.family) s.terms in
    then (at ss no_section no_term) (at ss (empty s.family s.name) no_term) end (head_rows (family_word s.family) s.name) (terms ++ end_rows) (head_read ss s.family s.name)
    (then (at ss (empty s.family s.name) no_term) (at ss s no_term) end terms end_rows (terms_read ss (empty s.family s.name) s.terms h.terms) (end_read ss s))

sections_read : (ss doc : List Section) → AllByRecursion IsSection doc
    → read (at ss no_section no_term) (flat_map section_rows doc) ≡ at (ss ++ doc) no_section no_term
sections_read ss doc h = fold-members take_row section_rows (λ t. at t no_section no_term) IsSection section_read ss doc h

-- ---- documents

empty_row : (d : FiltersDraft) → take_row d (row_in []) ≡ d
unfolding row_in take_row take_outer
empty_row d = refl

pub document_again : (doc : List Section) → AllByRecursion IsSection doc → document_in take_row no_draft (λ d. d.sections) (text_of doc) ≡ doc
document_again doc h =
    let end = at doc no_section no_term in
    ap (λ d. d.sections) (fold-again take_row no_draft end (flat_map section_rows doc) (sections_safe doc h) (sections_read [] doc h) (empty_row end))
