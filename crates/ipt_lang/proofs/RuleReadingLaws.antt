-- What is written of a rule is read again.
use Rattle.std.proofs.Common.{◌≡◌, ℕ, ◌≤◌, Bool, true, false, cond, ◌==◌, ◌&&◌, ◌||◌, List, [], ◌∷◌, ◌++◌, map, codes, Option, None, Some, IfSome, is_none, is_some, refl, ap, sym, ◌∙◌, append_assoc, append-nil, arith, eqb}
use Rattle.std.specs.Fmt.{decimal}
use Rattle.std.specs.List.{fold, AllByRecursion, join_with_byte, slice_split}
use Rattle.std.specs.Option.{option_or}
use Rattle.std.proofs.lemmas.Bool.{false≢true, eqb-true, and_parts}
use Rattle.std.proofs.lemmas.List.Sums.{fold-append}
use Rattle.acl_packet.specs.declared.addresses.Family.{Family}
use Rattle.acl_packet.specs.declared.addresses.Family.TheVariants.{V4, V6}
use Rattle.acl_packet.specs.declared.addresses.Prefix.{Prefix}
use Rattle.acl_packet.specs.declared.filtering.Verdict.TheVariants.{Accept, Deny, Reject, Reset, Left}
use Rattle.acl_packet.specs.Packets.{icmp_of}
use Rattle.acl_packet.specs.Decimals.{number_in, digits_in}
use Rattle.acl_packet.proofs.DecimalLaws.{number-again}
use Rattle.acl_text.specs.Cuts.{cut_at, has_byte}
use Rattle.acl_text.specs.PortRanges.{ports_in}
use Rattle.acl_text.proofs.AddressLaws.{spelled-again}
use Rattle.acl_text.proofs.CutLaws.{cut-again, cut-found, cut-none, none-cut}
use Rattle.acl_text.proofs.DigitLaws.{decimal-lacks}
use Rattle.acl_rows.specs.PortRanges.{IsPortRange}
use Rattle.acl_rows.proofs.ListLaws.{all_map}
use Rattle.acl_rows.proofs.PortRangeLaws.{range-again, range-lacks}
use Rattle.acl_rows.proofs.RowLaws.{cut_none, cut_there}
use Rattle.acl_rows.specs.RuleParts.{IsAddresses}
use Rattle.ipt_lang.specs.declared.documents.Rule.{Rule}
use Rattle.ipt_lang.specs.declared.documents.Act.{Act}
use Rattle.ipt_lang.specs.declared.documents.Act.TheVariants.{Log, Decide}
use Rattle.ipt_lang.specs.declared.documents.Flags.{Flags}
use Rattle.ipt_lang.specs.declared.documents.Flags.TheVariants.{Ack, Rst, SynNotAck}
use Rattle.ipt_lang.specs.declared.rule_drafts.Next.TheVariants.{Keyword}
use Rattle.ipt_lang.specs.declared.rule_drafts.RuleDraft.{RuleDraft}
use Rattle.ipt_lang.specs.Documents.{IsRule, ports_fit, type_fits, code_fits, flags_fit, act_fits}
use Rattle.ipt_lang.specs.Texts.{proto_word, proto_words, address_words, range_word, is_single, key_words, port_list_words, ports_words, type_word, type_words, flags_words, state_words, reset_words, act_words, front_words, back_words, rule_words}
use Rattle.ipt_lang.specs.ReadingSteps.{draft, no_rule, named_proto_in, proto_in, one_or_none, ranges_among, ranges_in, act_in, next_in, with_word, with_type, with_value, take_word, rule_in}

abbrev at : Family → Rule → RuleDraft
at f r = draft f r Keyword

abbrev read : RuleDraft → List (List ℕ) → RuleDraft
read d words = fold take_word d words

then : (d m e : RuleDraft) (xs ys : List (List ℕ)) → read d xs ≡ m → read m ys ≡ e → read d (xs ++ ys) ≡ e
then d m e xs ys h k = fold-append take_word d xs ys ∙ ap (λ s. read s ys) h ∙ k

-- ---- protocol and addresses

no_number : (number_in 255 (codes "tcp") ≡ None) × (number_in 255 (codes "udp") ≡ None) × (number_in 255 (codes "sctp") ≡ None)
    × (number_in 255 (codes "icmp") ≡ None) × (number_in 255 (codes "icmpv6") ≡ None)
unfolding number_in digits_in
no_number = (refl, refl, refl, refl, refl)

abbrev known : Option ℕ → List ℕ → Option ℕ
known o w = option_or o (named_proto_in w)

named : (w : List ℕ) (n m : ℕ) → number_in 255 w ≡ None → named_proto_in w ≡ Some m → (n == m) ≡ true → proto_in w ≡ Some n
named w n m h k e = ap (λ o. option_or o (named_proto_in w)) h ∙ k ∙ ap (λ x. Some x) (sym (eqb-true n m e))

proto_again : (f : Family) (n : ℕ) → n ≤ 255 → proto_in (proto_word f n) ≡ Some n
unfolding proto_word named_proto_in
proto_again V4 n h = name_cases (n == 6) (n == 17) (n == 132) (n == icmp_of V4) refl refl refl refl where
  name_cases : (a b c d : Bool) → (n == 6) ≡ a → (n == 17) ≡ b → (n == 132) ≡ c → (n == icmp_of V4) ≡ d
      → proto_in (cond a (codes "tcp") (cond b (codes "udp") (cond c (codes "sctp") (cond d (codes "icmp") (decimal n))))) ≡ Some n
  name_cases true b c d e i j k = named (codes "tcp") n 6 no_number.0 refl e
  name_cases false true c d e i j k = named (codes "udp") n 17 no_number.1 refl i
  name_cases false false true d e i j k = named (codes "sctp") n 132 no_number.2 refl j
  name_cases false false false true e i j k = named (codes "icmp") n 1 no_number.3 refl k
  name_cases false false false false e i j k = ap (λ o. known o (decimal n)) (number-again 255 n (omega (arith, h)) h)
proto_again V6 n h = name_cases (n == 6) (n == 17) (n == 132) (n == icmp_of V6) refl refl refl refl where
  name_cases : (a b c d : Bool) → (n == 6) ≡ a → (n == 17) ≡ b → (n == 132) ≡ c → (n == icmp_of V6) ≡ d
      → proto_in (cond a (codes "tcp") (cond b (codes "udp") (cond c (codes "sctp") (cond d (codes "icmpv6") (decimal n))))) ≡ Some n
  name_cases true b c d e i j k = named (codes "tcp") n 6 no_number.0 refl e
  name_cases false true c d e i j k = named (codes "udp") n 17 no_number.1 refl i
  name_cases false false true d e i j k = named (codes "sctp") n 132 no_number.2 refl j
  name_cases false false false true e i j k = named (codes "icmpv6") n 58 no_number.4 refl k
  name_cases false false false false e i j k = ap (λ o. known o (decimal n)) (number-again 255 n (omega (arith, h)) h)

proto_read : (f : Family) (r : Rule) (o : Option ℕ) → r.proto ≡ None → IfSome o (λ n. (1 ≤ n) × (n ≤ 255))
    → read (at f r) (proto_words f o) ≡ at f (record r { proto = o })
unfolding proto_words with_value with_word next_in
proto_read f r None e h = ap (λ o. at f (record r { proto = o })) e
proto_read f r (Some n) e h = ap (λ o. at f (record r { proto = o })) (proto_again f n h.1)

source_read : (f : Family) (r : Rule) (o : Option Prefix) → r.src ≡ None → IfSome o (IsAddresses f)
    → read (at f r) (address_words (codes "-s") o) ≡ at f (record r { src = o })
unfolding address_words with_value with_word next_in
source_read f r None e h = ap (λ o. at f (record r { src = o })) e
source_read f r (Some p) e h = ap (λ o. at f (record r { src = o })) (spelled-again f p h.0.1 h.0.0)

destination_read : (f : Family) (r : Rule) (o : Option Prefix) → r.dst ≡ None → IfSome o (IsAddresses f)
    → read (at f r) (address_words (codes "-d") o) ≡ at f (record r { dst = o })
unfolding address_words with_value with_word next_in
destination_read f r None e h = ap (λ o. at f (record r { dst = o })) e
destination_read f r (Some p) e h = ap (λ o. at f (record r { dst = o })) (spelled-again f p h.0.1 h.0.0)

-- ---- ports

parts_again : (w : List ℕ) (words : List (List ℕ)) → AllByRecursion (λ v. has_byte 44 v ≡ false) (w ∷ words)
    → slice_split (λ b. eqb b 44) (join_with_byte 44 (w ∷ words)) ≡ w ∷ words
parts_again w [] h = cut_none 44 w h.0
parts_again w (v ∷ words) h = cut_there 44 w (join_with_byte 44 (v ∷ words)) h.0 ∙ ap (λ vs. w ∷ vs) (parts_again v words h.1)

among_again : (ranges : List (ℕ × ℕ)) → AllByRecursion IsPortRange ranges → ranges_among (map range_word ranges) ≡ ranges
among_again [] h = refl
among_again (r ∷ ranges) h =
    ap (λ o. one_or_none o ++ ranges_among (map range_word ranges)) (range-again 58 refl r h.0) ∙ ap (λ rs. r ∷ rs) (among_again ranges h.1)

ranges_again : (r : ℕ × ℕ) (ranges : List (ℕ × ℕ)) → AllByRecursion IsPortRange (r ∷ ranges) → ranges_in (join_with_byte 44 (map range_word (r ∷ ranges))) ≡ r ∷ ranges
unfolding ranges_in
ranges_again r ranges h =
    let lack = all_map IsPortRange (λ v. has_byte 44 v ≡ false) range_word (λ x k. range-lacks 58 44 x k refl refl) (r ∷ ranges) h in
    ap ranges_among (parts_again (range_word r) (map range_word ranges) lack) ∙ among_again (r ∷ ranges) h

-- the ranges of a word are that of its first part and those of the parts behind it
first_range : (word part rest : List ℕ) → cut_at 44 word ≡ Some (part, rest) → ranges_in word ≡ one_or_none (ports_in 58 part) ++ ranges_in rest
unfolding ranges_in
first_range word part rest h =
    let cut = cut-found 44 word part rest h in
    ap (λ w. ranges_among (slice_split (λ b. eqb b 44) w)) cut.0 ∙ ap ranges_among (cut_there 44 part rest cut.1)

pub more_ranges : (ranges : List (ℕ × ℕ)) (word part rest : List ℕ) → cut_at 44 word ≡ Some (part, rest)
    → (ranges ++ one_or_none (ports_in 58 part)) ++ ranges_in rest ≡ ranges ++ ranges_in word
more_ranges ranges word part rest h =
    append_assoc ranges (one_or_none (ports_in 58 part)) (ranges_in rest) ∙ ap (λ rs. ranges ++ rs) (sym (first_range word part rest h))

pub last_range : (word : List ℕ) → cut_at 44 word ≡ None → ranges_in word ≡ one_or_none (ports_in 58 word)
unfolding ranges_in
last_range word h = ap ranges_among (cut_none 44 word (none-cut 44 word h)) ∙ append-nil (one_or_none (ports_in 58 word))

sports_read : (f : Family) (r : Rule) (plain : Bool) (ranges : List (ℕ × ℕ)) → r.sports ≡ [] → AllByRecursion IsPortRange ranges
    → read (at f r) (port_list_words plain (codes "--sport") (codes "--sports") (map range_word ranges)) ≡ at f (record r { sports = ranges })
unfolding port_list_words key_words with_value with_word next_in
sports_read f r plain [] e h = ap (λ l. at f (record r { sports = l })) e
sports_read f r true (p ∷ ranges) e h = ap (λ l. at f (record r { sports = l })) (ranges_again p ranges h)
sports_read f r false (p ∷ ranges) e h = ap (λ l. at f (record r { sports = l })) (ranges_again p ranges h)

dports_read : (f : Family) (r : Rule) (plain : Bool) (ranges : List (ℕ × ℕ)) → r.dports ≡ [] → AllByRecursion IsPortRange ranges
    → read (at f r) (port_list_words plain (codes "--dport") (codes "--dports") (map range_word ranges)) ≡ at f (record r { dports = ranges })
unfolding port_list_words key_words with_value with_word next_in
dports_read f r plain [] e h = ap (λ l. at f (record r { dports = l })) e
dports_read f r true (p ∷ ranges) e h = ap (λ l. at f (record r { dports = l })) (ranges_again p ranges h)
dports_read f r false (p ∷ ranges) e h = ap (λ l. at f (record r { dports = l })) (ranges_again p ranges h)

-- ---- type and code, flags, state and act

type_again : (r : Rule) (n : ℕ) (code : Option ℕ) → r.icode ≡ None → n ≤ 254 → IfSome code (λ c. c ≤ 255)
    → with_type (type_word n code) (cut_at 47 (type_word n code)) r ≡ record r { itype = Some n; icode = code }
unfolding type_word
type_again r n None e h k =
    ap (λ parts. with_type (decimal n) parts r) (cut-none 47 (decimal n) (decimal-lacks 47 n (omega (arith, h)) refl))
    ∙ ap (λ o. record r { itype = o }) (number-again 254 n (omega (arith, h)) h)
    ∙ ap (λ o. record r { itype = Some n; icode = o }) e
type_again r n (Some c) e h k =
    ap (λ parts. with_type (decimal n ++ 47 ∷ decimal c) parts r) (cut-again 47 (decimal n) (decimal c) (decimal-lacks 47 n (omega (arith, h)) refl))
    ∙ ap (λ o. record r { itype = o; icode = number_in 255 (decimal c) }) (number-again 254 n (omega (arith, h)) h)
    ∙ ap (λ o. record r { itype = Some n; icode = o }) (number-again 255 c (omega (arith, k)) k)

type_read : (f : Family) (r : Rule) (o code : Option ℕ) → r.itype ≡ None → r.icode ≡ None → IfSome o (λ n. n ≤ 254)
    → IfSome code (λ c. c ≤ 255) → is_none code || is_some o ≡ true
    → read (at f r) (type_words f o code) ≡ at f (record r { itype = o; icode = code })
unfolding type_words with_value with_word next_in
type_read f r None None d e h k b = ap (λ o. at f (record r { itype = o })) d ∙ ap (λ o. at f (record r { itype = None; icode = o })) e
type_read f r None (Some c) d e h k b = absurd (false≢true b)
type_read V4 r (Some n) code d e h k b = ap (λ s. at V4 s) (type_again r n code e h k)
type_read V6 r (Some n) code d e h k b = ap (λ s. at V6 s) (type_again r n code e h k)

flags_read : (f : Family) (r : Rule) (o : Option Flags) → r.flags ≡ None → read (at f r) (flags_words o) ≡ at f (record r { flags = o })
unfolding flags_words with_value with_word next_in
flags_read f r None e = ap (λ o. at f (record r { flags = o })) e
flags_read f r (Some Ack) e = refl
flags_read f r (Some Rst) e = refl
flags_read f r (Some SynNotAck) e = refl

state_read : (f : Family) (r : Rule) (b : Bool) → r.state ≡ false → read (at f r) (state_words b) ≡ at f (record r { state = b })
unfolding state_words with_value with_word next_in
state_read f r true e = refl
state_read f r false e = ap (λ b. at f (record r { state = b })) e

act_read : (f : Family) (r : Rule) (o : Option ℕ) (a : Act) → act_fits o a ≡ true → read (at f r) (act_words a) ≡ at f (record r { act = a })
unfolding act_words reset_words act_in with_value with_word next_in
act_read f r o Log h = refl
act_read f r o (Decide Accept) h = refl
act_read f r o (Decide Deny) h = refl
act_read f r o (Decide Reject) h = refl
act_read f r o (Decide Reset) h = refl
act_read f r o (Decide Left) h = absurd (false≢true h)

-- ---- rules

fitting_end : (f : Family) (r : Rule) → IsRule f r → (code_fits r ≡ true) × (flags_fit r && act_fits r.proto r.act ≡ true)
fitting_end f r h =
    let ends = flags_fit r && act_fits r.proto r.act in
    and_parts (code_fits r) ends (and_parts (ports_fit r && type_fits f r) (code_fits r && ends) h.fit).1

pub fitting_act : (f : Family) (r : Rule) → IsRule f r → act_fits r.proto r.act ≡ true
fitting_act f r h = (and_parts (flags_fit r) (act_fits r.proto r.act) (fitting_end f r h).1).1

pub rule_again : (f : Family) (r : Rule) → IsRule f r → rule_in f (rule_words f r) ≡ r
unfolding rule_in rule_words front_words back_words ports_words
rule_again f r h =
    let b : Rule = record no_rule { proto = r.proto } in
    let c : Rule = record b { src = r.src } in
    let d : Rule = record c { dst = r.dst } in
    let e : Rule = record d { sports = r.sports } in
    let g : Rule = record e { dports = r.dports } in
    let i : Rule = record g { itype = r.itype; icode = r.icode } in
    let j : Rule = record i { flags = r.flags } in
    let k : Rule = record j { state = r.state } in
    let plain = is_single (map range_word r.sports) && is_single (map range_word r.dports) in
    let proto = proto_words f r.proto in
    let src = address_words (codes "-s") r.src in
    let dst = address_words (codes "-d") r.dst in
    let sports = port_list_words plain (codes "--sport") (codes "--sports") (map range_word r.sports) in
    let dports = port_list_words plain (codes "--dport") (codes "--dports") (map range_word r.dports) in
    let acted = state_words r.state ++ act_words r.act in
    let flagged = flags_words r.flags ++ acted in
    let back = type_words f r.itype r.icode ++ flagged in
    let ending = then (at f j) (at f k) (at f r) (state_words r.state) (act_words r.act) (state_read f j r.state refl) (act_read f k r.proto r.act (fitting_act f r h)) in
    let tested = then (at f i) (at f j) (at f r) (flags_words r.flags) acted (flags_read f i r.flags refl) ending in
    let typed = then (at f g) (at f i) (at f r) (type_words f r.itype r.icode) flagged
    (type_read f g r.itype r.icode refl refl h.icmp_type h.icmp_code (fitting_end f r h).0) tested in
    let both_ports = then (at f d) (at f e) (at f g) sports dports
    (sports_read f d plain r.sports refl h.source_ports.each) (dports_read f e plain r.dports refl h.destination_ports.each) in
    let ported = then (at f d) (at f g) (at f r) (sports ++ dports) back both_ports typed in
    let both_ends = then (at f b) (at f c) (at f d) src dst (source_read f b r.src refl h.source) (destination_read f c r.dst refl h.destination) in
    let front = then (at f no_rule) (at f b) (at f d) proto (src ++ dst) (proto_read f no_rule r.proto refl h.protocol) both_ends in
    ap (λ x. x.rule) (then (at f no_rule) (at f d) (at f r) (proto ++ (src ++ dst)) ((sports ++ dports) ++ back) front ported)
