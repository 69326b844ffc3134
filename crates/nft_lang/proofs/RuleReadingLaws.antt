-- What is written of a rule is read again.
use Rattle.std.proofs.Common.{◌≡◌, ℕ, ◌≤◌, Bool, true, false, cond, ◌==◌, ◌&&◌, List, [], ◌∷◌, ◌++◌, map, codes, Option, None, Some, IfSome, refl, ap, sym, ◌∙◌, append_assoc, append-nil, arith}
use Rattle.std.specs.Fmt.{decimal}
use Rattle.std.specs.List.{fold, AllByRecursion}
use Rattle.std.specs.Option.{option_map_or}
use Rattle.std.proofs.lemmas.Bool.{false≢true, and_parts}
use Rattle.std.proofs.lemmas.List.Sums.{fold-append}
use Rattle.acl_packet.specs.declared.addresses.Family.{Family}
use Rattle.acl_packet.specs.declared.addresses.Family.TheVariants.{V4, V6}
use Rattle.acl_packet.specs.declared.addresses.Families.{Families}
use Rattle.acl_packet.specs.declared.addresses.Families.TheVariants.{Inet, Inet6, Mixed}
use Rattle.acl_packet.specs.declared.addresses.Prefix.{Prefix}
use Rattle.acl_packet.specs.declared.filtering.Verdict.{Verdict}
use Rattle.acl_packet.specs.declared.filtering.Verdict.TheVariants.{Accept, Deny, Reject, Reset, Left}
use Rattle.acl_packet.specs.Addresses.{covers, first_family}
use Rattle.acl_packet.specs.Decimals.{number_in, digits_in}
use Rattle.acl_packet.proofs.DecimalLaws.{number-again}
use Rattle.acl_text.specs.Ipv4.{ipv4_in}
use Rattle.acl_text.specs.Ipv6.{ipv6_in, side_in, groups_in, group_in, last_in, whole_in, short_in}
use Rattle.acl_text.specs.AddressTexts.{spelled_prefix_in, prefix_in, full_in, block_in, prefix_text}
use Rattle.acl_text.specs.Cuts.{has_byte}
use Rattle.acl_text.specs.PortRanges.{ports_in, port_in}
use Rattle.acl_text.proofs.AddressLaws.{spelled-again, prefix-lacks}
use Rattle.acl_text.proofs.CutLaws.{cut-again, cut-none}
use Rattle.acl_text.proofs.DigitLaws.{decimal-lacks}
use Rattle.acl_text.proofs.Printed.{IsForeign}
use Rattle.acl_rows.specs.PortRanges.{IsPortRange}
use Rattle.acl_rows.proofs.PortRangeLaws.{range-again, range-lacks}
use Rattle.acl_rows.specs.RuleParts.{IsAddresses, log_words}
use Rattle.nft_lang.specs.declared.documents.Rule.{Rule}
use Rattle.nft_lang.specs.declared.documents.Flags.{Flags}
use Rattle.nft_lang.specs.declared.documents.Flags.TheVariants.{Rst, SynNotAck}
use Rattle.acl_rows.specs.declared.rule_parts.End.TheVariants.{Source, Destination}
use Rattle.nft_lang.specs.declared.rule_drafts.Next.{Next}
use Rattle.nft_lang.specs.declared.rule_drafts.Next.TheVariants.{Keyword, Addresses, Ports, Types, Codes}
use Rattle.nft_lang.specs.declared.rule_drafts.RuleDraft.{RuleDraft}
use Rattle.nft_lang.specs.Documents.{IsType, IsCode, IsRule, ports_fit, icmp_fits, flags_fit, verdict_fits}
use Rattle.nft_lang.specs.Texts.{with_commas, set_words, ports_word, family_words, proto_words, address_word, icmp_word, port_word, flags_words, state_words, verdict_words, addresses_words, ports_words, icmp_set_words, icmp_words, ending_words, rule_words}
use Rattle.nft_lang.specs.ReadingSteps.{draft, no_rule, up_to, next_in, with_test, with_verdict, with_address, with_ports, with_type, with_code, in_set, take_address, take_ports, take_type, take_code, take_as, take_word, rule_in}

abbrev read : RuleDraft → List (List ℕ) → RuleDraft
read d words = fold take_word d words

then : (d m e : RuleDraft) (xs ys : List (List ℕ)) → read d xs ≡ m → read m ys ≡ e → read d (xs ++ ys) ≡ e
then d m e xs ys h k = fold-append take_word d xs ys ∙ ap (λ s. read s ys) h ∙ k

-- ---- sets

pub up_to_none : (c : ℕ) (w : List ℕ) → has_byte c w ≡ false → up_to c w ≡ w
unfolding up_to
up_to_none c w h = ap (λ o. option_map_or {U = List ℕ} (λ (p : List ℕ × List ℕ). p.0) o w) (cut-none c w h)

pub up_to_there : (c : ℕ) (w : List ℕ) → has_byte c w ≡ false → up_to c (w ++ c ∷ []) ≡ w
unfolding up_to
up_to_there c w h = ap (λ o. option_map_or {U = List ℕ} (λ (p : List ℕ × List ℕ). p.0) o (w ++ c ∷ [])) (cut-again c w [] h)

elements_read : {A : Type 0} (at : List A → RuleDraft) (word : A → List ℕ) (P : A → Type 0)
    → ((xs : List A) (x : A) (w : List ℕ) → P x → up_to 44 w ≡ word x → take_word (at xs) w ≡ at (xs ++ x ∷ []))
    → ((x : A) → P x → has_byte 44 (word x) ≡ false)
    → (xs ys : List A) → AllByRecursion P ys → read (at xs) (with_commas (map word ys)) ≡ at (xs ++ ys)
unfolding with_commas
elements_read at word P each lacks xs [] h = ap at (sym (append-nil xs))
elements_read at word P each lacks xs (y ∷ []) h = each xs y (word y) h.0 (up_to_none 44 (word y) (lacks y h.0))
elements_read at word P each lacks xs (y ∷ z ∷ ys) h =
    ap (λ d. read d (with_commas (map word (z ∷ ys)))) (each xs y (word y ++ codes ",") h.0 (up_to_there 44 (word y) (lacks y h.0)))
    ∙ elements_read at word P each lacks (xs ++ y ∷ []) (z ∷ ys) h.1 ∙ ap at (append_assoc xs (y ∷ []) (z ∷ ys))

-- a rule whose set is empty becomes the rule with the set
set_read : {A : Type 0} (r : Rule) (next : Next) (with : List A → Rule) (front key : List ℕ) (word : A → List ℕ) (P : A → Type 0)
    → with [] ≡ r
    → read (draft r Keyword) (front ∷ key ∷ codes "{" ∷ []) ≡ draft r next
    → ((xs : List A) (x : A) (w : List ℕ) → P x → up_to 44 w ≡ word x → take_word (draft (with xs) next) w ≡ draft (with (xs ++ x ∷ [])) next)
    → ((x : A) → P x → has_byte 44 (word x) ≡ false)
    → ((xs : List A) → take_word (draft (with xs) next) (codes "}") ≡ draft (with xs) Keyword)
    → (ys : List A) → AllByRecursion P ys → read (draft r Keyword) (set_words front key (map word ys)) ≡ draft (with ys) Keyword
unfolding set_words
set_read r next with front key word P empty opened each lacks closed [] h = ap (λ x. draft x Keyword) (sym empty)
set_read {A} r next with front key word P empty opened each lacks closed (y ∷ ys) h =
    let at : List A → RuleDraft = λ xs. draft (with xs) next in
    let elements : List (List ℕ) = with_commas (map word (y ∷ ys)) in
    ap (λ d. read d (elements ++ codes "}" ∷ [])) (opened ∙ ap (λ x. draft x next) (sym empty))
    ∙ then (at []) (at (y ∷ ys)) (draft (with (y ∷ ys)) Keyword) elements (codes "}" ∷ []) (elements_read at word P each lacks [] (y ∷ ys) h) (closed (y ∷ ys))

-- ---- addresses

no_prefix : (f : Family) → (spelled_prefix_in f (up_to 44 (codes "{")) ≡ None) × (spelled_prefix_in f (up_to 44 (codes "}")) ≡ None)
unfolding up_to spelled_prefix_in prefix_in full_in block_in ipv4_in ipv6_in side_in groups_in group_in last_in whole_in short_in number_in digits_in
no_prefix f = (refl, refl)

address_taken : (r : Rule) (w : List ℕ) (p : Prefix) → IsAddresses r.family p → up_to 44 w ≡ prefix_text p → spelled_prefix_in r.family (up_to 44 w) ≡ Some p
address_taken r w p h e = ap (spelled_prefix_in r.family) e ∙ spelled-again r.family p h.0.1 h.0.0

comma_foreign : IsForeign 44
comma_foreign = record { hex = refl; digit = refl; dot = refl; colon = refl }

address_lacks : (f : Family) (p : Prefix) → IsAddresses f p → has_byte 44 (prefix_text p) ≡ false
address_lacks f p h = prefix-lacks 44 p h.0.1 comma_foreign refl

source_opened : (r : Rule) → read (draft r Keyword) (address_word r.family ∷ codes "saddr" ∷ codes "{" ∷ []) ≡ draft r (Addresses Source)
unfolding take_as take_address with_test with_verdict next_in
source_opened r = passed r.family ∙ ap (λ o. option_map_or {U = RuleDraft} (λ p. draft (with_address Source p r) (Addresses Source)) o (draft r (Addresses Source))) (no_prefix r.family).0 where
  passed : (f : Family) → read (draft r Keyword) (address_word f ∷ codes "saddr" ∷ codes "{" ∷ []) ≡ take_as r (Addresses Source) (codes "{")
  passed V4 = refl
  passed V6 = refl

destination_opened : (r : Rule) → read (draft r Keyword) (address_word r.family ∷ codes "daddr" ∷ codes "{" ∷ []) ≡ draft r (Addresses Destination)
unfolding take_as take_address with_test with_verdict next_in
destination_opened r =
    passed r.family ∙ ap (λ o. option_map_or {U = RuleDraft} (λ p. draft (with_address Destination p r) (Addresses Destination)) o (draft r (Addresses Destination))) (no_prefix r.family).0 where
      passed : (f : Family) → read (draft r Keyword) (address_word f ∷ codes "daddr" ∷ codes "{" ∷ []) ≡ take_as r (Addresses Destination) (codes "{")
      passed V4 = refl
      passed V6 = refl

sources_read : (r : Rule) (ps : List Prefix) → r.src ≡ [] → AllByRecursion (IsAddresses r.family) ps
    → read (draft r Keyword) (set_words (address_word r.family) (codes "saddr") (map prefix_text ps)) ≡ draft (record r { src = ps }) Keyword
unfolding take_as take_address
sources_read r ps empty h =
    let with : List Prefix → Rule = λ xs. record r { src = xs } in
    let end : Rule → RuleDraft = λ x. draft x (Addresses Source) in
    set_read r (Addresses Source) with (address_word r.family) (codes "saddr") prefix_text (IsAddresses r.family) (ap with (sym empty)) (source_opened r)
    (λ xs p w k e. ap (λ o. option_map_or {U = RuleDraft} (λ q. end (with_address Source q (with xs))) o (draft (with xs) (in_set (Addresses Source) w))) (address_taken (with xs) w p k e))
    (address_lacks r.family)
    (λ xs. ap (λ o. option_map_or {U = RuleDraft} (λ q. end (with_address Source q (with xs))) o (draft (with xs) Keyword)) (no_prefix r.family).1)
    ps h

destinations_read : (r : Rule) (ps : List Prefix) → r.dst ≡ [] → AllByRecursion (IsAddresses r.family) ps
    → read (draft r Keyword) (set_words (address_word r.family) (codes "daddr") (map prefix_text ps)) ≡ draft (record r { dst = ps }) Keyword
unfolding take_as take_address
destinations_read r ps empty h =
    let with : List Prefix → Rule = λ xs. record r { dst = xs } in
    let end : Rule → RuleDraft = λ x. draft x (Addresses Destination) in
    set_read r (Addresses Destination) with (address_word r.family) (codes "daddr") prefix_text (IsAddresses r.family) (ap with (sym empty)) (destination_opened r)
    (λ xs p w k e. ap (λ o. option_map_or {U = RuleDraft} (λ q. end (with_address Destination q (with xs))) o (draft (with xs) (in_set (Addresses Destination) w))) (address_taken (with xs) w p k e))
    (address_lacks r.family)
    (λ xs. ap (λ o. option_map_or {U = RuleDraft} (λ q. end (with_address Destination q (with xs))) o (draft (with xs) Keyword)) (no_prefix r.family).1)
    ps h

-- ---- ports

no_ports : (ports_in 45 (up_to 44 (codes "{")) ≡ None) × (ports_in 45 (up_to 44 (codes "}")) ≡ None)
unfolding up_to ports_in port_in number_in digits_in
no_ports = (refl, refl)

ports_taken : (w : List ℕ) (ports : ℕ × ℕ) → IsPortRange ports → up_to 44 w ≡ ports_word ports → ports_in 45 (up_to 44 w) ≡ Some ports
ports_taken w ports h e = ap (ports_in 45) e ∙ range-again 45 refl ports h

comma_lacks : (ports : ℕ × ℕ) → IsPortRange ports → has_byte 44 (ports_word ports) ≡ false
comma_lacks ports h = range-lacks 45 44 ports h refl refl

port_passed : (r : Rule) (o : Option ℕ) → take_as r Keyword (port_word o) ≡ draft r Keyword
unfolding take_as port_word with_test with_verdict next_in
port_passed r None = refl
port_passed r (Some n) = name_cases (n == 17) (n == 132) where
  name_cases : (a b : Bool) → take_as r Keyword (cond a (codes "udp") (cond b (codes "sctp") (codes "tcp"))) ≡ draft r Keyword
  name_cases true b = refl
  name_cases false true = refl
  name_cases false false = refl

sports_opened : (r : Rule) (o : Option ℕ) → read (draft r Keyword) (port_word o ∷ codes "sport" ∷ codes "{" ∷ []) ≡ draft r (Ports Source)
unfolding take_as take_ports with_test with_verdict next_in
sports_opened r o =
    ap (λ d. read d (codes "sport" ∷ codes "{" ∷ [])) (port_passed r o)
    ∙ ap (λ p. option_map_or {U = RuleDraft} (λ ports. draft (with_ports Source ports r) (Ports Source)) p (draft r (Ports Source))) no_ports.0

dports_opened : (r : Rule) (o : Option ℕ) → read (draft r Keyword) (port_word o ∷ codes "dport" ∷ codes "{" ∷ []) ≡ draft r (Ports Destination)
unfolding take_as take_ports with_test with_verdict next_in
dports_opened r o =
    ap (λ d. read d (codes "dport" ∷ codes "{" ∷ [])) (port_passed r o)
    ∙ ap (λ p. option_map_or {U = RuleDraft} (λ ports. draft (with_ports Destination ports r) (Ports Destination)) p (draft r (Ports Destination))) no_ports.0

sports_read : (r : Rule) (o : Option ℕ) (ranges : List (ℕ × ℕ)) → r.sports ≡ [] → AllByRecursion IsPortRange ranges
    → read (draft r Keyword) (set_words (port_word o) (codes "sport") (map ports_word ranges)) ≡ draft (record r { sports = ranges }) Keyword
unfolding take_as take_ports
sports_read r o ranges empty h =
    let with : List (ℕ × ℕ) → Rule = λ xs. record r { sports = xs } in
    let end : Rule → RuleDraft = λ x. draft x (Ports Source) in
    set_read r (Ports Source) with (port_word o) (codes "sport") ports_word IsPortRange (ap with (sym empty)) (sports_opened r o)
    (λ xs p w k e. ap (λ o. option_map_or {U = RuleDraft} (λ q. end (with_ports Source q (with xs))) o (draft (with xs) (in_set (Ports Source) w))) (ports_taken w p k e))
    comma_lacks
    (λ xs. ap (λ o. option_map_or {U = RuleDraft} (λ q. end (with_ports Source q (with xs))) o (draft (with xs) Keyword)) no_ports.1)
    ranges h

dports_read : (r : Rule) (o : Option ℕ) (ranges : List (ℕ × ℕ)) → r.dports ≡ [] → AllByRecursion IsPortRange ranges
    → read (draft r Keyword) (set_words (port_word o) (codes "dport") (map ports_word ranges)) ≡ draft (record r { dports = ranges }) Keyword
unfolding take_as take_ports
dports_read r o ranges empty h =
    let with : List (ℕ × ℕ) → Rule = λ xs. record r { dports = xs } in
    let end : Rule → RuleDraft = λ x. draft x (Ports Destination) in
    set_read r (Ports Destination) with (port_word o) (codes "dport") ports_word IsPortRange (ap with (sym empty)) (dports_opened r o)
    (λ xs p w k e. ap (λ o. option_map_or {U = RuleDraft} (λ q. end (with_ports Destination q (with xs))) o (draft (with xs) (in_set (Ports Destination) w))) (ports_taken w p k e))
    comma_lacks
    (λ xs. ap (λ o. option_map_or {U = RuleDraft} (λ q. end (with_ports Destination q (with xs))) o (draft (with xs) Keyword)) no_ports.1)
    ranges h

-- ---- types and codes

no_number : (most : ℕ) → (number_in most (up_to 44 (codes "{")) ≡ None) × (number_in most (up_to 44 (codes "}")) ≡ None)
unfolding up_to number_in digits_in
no_number most = (refl, refl)

number_lacks : (n : ℕ) → n ≤ 255 → has_byte 44 (decimal n) ≡ false
number_lacks n h = decimal-lacks 44 n (omega (arith, h)) refl

number_taken : (most : ℕ) (w : List ℕ) (n : ℕ) → most ≤ 255 → n ≤ most → up_to 44 w ≡ decimal n → number_in most (up_to 44 w) ≡ Some n
number_taken most w n m h e = ap (number_in most) e ∙ number-again most n (omega (arith, m, h)) h

types_opened : (r : Rule) → read (draft r Keyword) (icmp_word r.family ∷ codes "type" ∷ codes "{" ∷ []) ≡ draft r Types
unfolding take_as take_type with_test with_verdict next_in
types_opened r = passed r.family ∙ ap (λ o. option_map_or {U = RuleDraft} (λ n. draft (with_type n r) Types) o (draft r Types)) (no_number 254).0 where
  passed : (f : Family) → read (draft r Keyword) (icmp_word f ∷ codes "type" ∷ codes "{" ∷ []) ≡ take_as r Types (codes "{")
  passed V4 = refl
  passed V6 = refl

types_read : (r : Rule) (ns : List ℕ) → r.itypes ≡ [] → AllByRecursion IsType ns
    → read (draft r Keyword) (icmp_set_words r.family (codes "type") ns) ≡ draft (record r { itypes = ns }) Keyword
unfolding take_as take_type
types_read r ns empty h =
    let with : List ℕ → Rule = λ xs. record r { itypes = xs } in
    set_read r Types with (icmp_word r.family) (codes "type") (λ n. decimal n) IsType (ap with (sym empty)) (types_opened r)
    (λ xs n w k e. ap (λ o. option_map_or {U = RuleDraft} (λ m. draft (with_type m (with xs)) Types) o (draft (with xs) (in_set Types w))) (number_taken 254 w n (omega arith) k e))
    (λ n k. number_lacks n (omega (arith, k)))
    (λ xs. ap (λ o. option_map_or {U = RuleDraft} (λ m. draft (with_type m (with xs)) Types) o (draft (with xs) Keyword)) (no_number 254).1)
    ns h

codes_opened : (r : Rule) → read (draft r Keyword) (icmp_word r.family ∷ codes "code" ∷ codes "{" ∷ []) ≡ draft r Codes
unfolding take_as take_code with_test with_verdict next_in
codes_opened r = passed r.family ∙ ap (λ o. option_map_or {U = RuleDraft} (λ n. draft (with_code n r) Codes) o (draft r Codes)) (no_number 255).0 where
  passed : (f : Family) → read (draft r Keyword) (icmp_word f ∷ codes "code" ∷ codes "{" ∷ []) ≡ take_as r Codes (codes "{")
  passed V4 = refl
  passed V6 = refl

codes_read : (r : Rule) (ns : List ℕ) → r.icodes ≡ [] → AllByRecursion IsCode ns
    → read (draft r Keyword) (icmp_set_words r.family (codes "code") ns) ≡ draft (record r { icodes = ns }) Keyword
unfolding take_as take_code
codes_read r ns empty h =
    let with : List ℕ → Rule = λ xs. record r { icodes = xs } in
    set_read r Codes with (icmp_word r.family) (codes "code") (λ n. decimal n) IsCode (ap with (sym empty)) (codes_opened r)
    (λ xs n w k e. ap (λ o. option_map_or {U = RuleDraft} (λ m. draft (with_code m (with xs)) Codes) o (draft (with xs) (in_set Codes w))) (number_taken 255 w n (omega arith) k e))
    number_lacks
    (λ xs. ap (λ o. option_map_or {U = RuleDraft} (λ m. draft (with_code m (with xs)) Codes) o (draft (with xs) Keyword)) (no_number 255).1)
    ns h

-- ---- family, protocol, tests and verdict

family_read : (fs : Families) (f : Family) → covers fs f ≡ true
    → read (draft (no_rule (first_family fs)) Keyword) (family_words fs f) ≡ draft (no_rule f) Keyword
unfolding family_words take_as with_test with_verdict next_in
family_read Inet V4 h = refl
family_read Inet V6 h = absurd (false≢true h)
family_read Inet6 V4 h = absurd (false≢true h)
family_read Inet6 V6 h = refl
family_read Mixed V4 h = refl
family_read Mixed V6 h = refl

proto_read : (r : Rule) (o : Option ℕ) → r.proto ≡ None → IfSome o (λ n. (1 ≤ n) × (n ≤ 255))
    → read (draft r Keyword) (proto_words o) ≡ draft (record r { proto = o }) Keyword
unfolding proto_words take_as with_test with_verdict next_in
proto_read r None e h = ap (λ o. draft (record r { proto = o }) Keyword) e
proto_read r (Some n) e h = ap (λ o. draft (record r { proto = o }) Keyword) (number-again 255 n (omega (arith, h.1)) h.1)

flags_read : (r : Rule) (o : Option Flags) → r.flags ≡ None → read (draft r Keyword) (flags_words o) ≡ draft (record r { flags = o }) Keyword
unfolding flags_words take_as with_test with_verdict next_in
flags_read r None e = ap (λ o. draft (record r { flags = o }) Keyword) e
flags_read r (Some Rst) e = refl
flags_read r (Some SynNotAck) e = refl

state_read : (r : Rule) (b : Bool) → r.state ≡ false → read (draft r Keyword) (state_words b) ≡ draft (record r { state = b }) Keyword
unfolding state_words take_as with_test with_verdict next_in
state_read r true e = refl
state_read r false e = ap (λ b. draft (record r { state = b }) Keyword) e

log_read : (r : Rule) (b : Bool) → r.log ≡ false → read (draft r Keyword) (log_words b) ≡ draft (record r { log = b }) Keyword
unfolding log_words take_as with_test with_verdict next_in
log_read r true e = refl
log_read r false e = ap (λ b. draft (record r { log = b }) Keyword) e

verdict_read : (r : Rule) (o : Option ℕ) (v : Verdict) → verdict_fits o v ≡ true → read (draft r Keyword) (verdict_words v) ≡ draft (record r { verdict = v }) Keyword
unfolding verdict_words take_as with_test with_verdict next_in
verdict_read r o Accept h = refl
verdict_read r o Deny h = refl
verdict_read r o Reject h = refl
verdict_read r o Reset h = refl
verdict_read r o Left h = absurd (false≢true h)

-- ---- rules

verdict_of_rule : (fs : Families) (r : Rule) → IsRule fs r → verdict_fits r.proto r.verdict ≡ true
verdict_of_rule fs r h =
    (and_parts (flags_fit r) (verdict_fits r.proto r.verdict)
    (and_parts (ports_fit r && icmp_fits r) (flags_fit r && verdict_fits r.proto r.verdict) h.fit).1).1

pub rule_again : (fs : Families) (r : Rule) → IsRule fs r → rule_in fs (rule_words fs r) ≡ r
unfolding rule_in rule_words addresses_words ports_words icmp_words ending_words
rule_again fs r h =
    let a : Rule = no_rule r.family in
    let b : Rule = record a { proto = r.proto } in
    let c : Rule = record b { src = r.src } in
    let d : Rule = record c { dst = r.dst } in
    let e : Rule = record d { sports = r.sports } in
    let f : Rule = record e { dports = r.dports } in
    let g : Rule = record f { itypes = r.itypes } in
    let i : Rule = record g { icodes = r.icodes } in
    let t : Rule = record i { flags = r.flags } in
    let j : Rule = record t { state = r.state } in
    let k : Rule = record j { log = r.log } in
    let start = draft (no_rule (first_family fs)) Keyword in
    let at : Rule → RuleDraft = λ x. draft x Keyword in
    let decided = log_words r.log ++ verdict_words r.verdict in
    let ending = state_words r.state ++ decided in
    let tests = flags_words r.flags ++ ending in
    let types = icmp_set_words r.family (codes "type") r.itypes in
    let numbers = icmp_set_words r.family (codes "code") r.icodes in
    let icmp = (types ++ numbers) ++ tests in
    let sports = set_words (port_word r.proto) (codes "sport") (map ports_word r.sports) in
    let dports = set_words (port_word r.proto) (codes "dport") (map ports_word r.dports) in
    let ports = (sports ++ dports) ++ icmp in
    let sources = set_words (address_word r.family) (codes "saddr") (map prefix_text r.src) in
    let destinations = set_words (address_word r.family) (codes "daddr") (map prefix_text r.dst) in
    let addresses = (sources ++ destinations) ++ ports in
    let protocol = proto_words r.proto ++ addresses in
    let decision = then (at j) (at k) (at r) (log_words r.log) (verdict_words r.verdict) (log_read j r.log refl) (verdict_read k r.proto r.verdict (verdict_of_rule fs r h)) in
    let ended = then (at t) (at j) (at r) (state_words r.state) decided (state_read t r.state refl) decision in
    let tested = then (at i) (at t) (at r) (flags_words r.flags) ending (flags_read i r.flags refl) ended in
    let both_icmp = then (at f) (at g) (at i) types numbers (types_read f r.itypes refl h.icmp_types.each) (codes_read g r.icodes refl h.icmp_codes.each) in
    let typed = then (at f) (at i) (at r) (types ++ numbers) tests both_icmp tested in
    let both_ports = then (at d) (at e) (at f) sports dports (sports_read d r.proto r.sports refl h.source_ports.each) (dports_read e r.proto r.dports refl h.destination_ports.each) in
    let ported = then (at d) (at f) (at r) (sports ++ dports) icmp both_ports typed in
    let both_ends = then (at b) (at c) (at d) sources destinations (sources_read b r.src refl h.sources.each) (destinations_read c r.dst refl h.destinations.each) in
    let addressed = then (at b) (at d) (at r) (sources ++ destinations) ports both_ends ported in
    let rest = then (at a) (at b) (at r) (proto_words r.proto) addresses (proto_read a r.proto refl h.protocol) addressed in
    ap (λ x. x.rule) (then start (at a) (at r) (family_words fs r.family) protocol (family_read fs r.family h.family) rest)
