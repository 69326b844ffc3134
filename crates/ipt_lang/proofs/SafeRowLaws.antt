-- Each row of a document can be found again in its text.
use Rattle.std.proofs.Common.{◌≡◌, ℕ, ◌≤◌, Bool, true, false, nat_le, ◌==◌, ◌&&◌, List, [], ◌∷◌, length, map, flat_map, codes, Option, None, Some, IfSome, refl, arith}
use Rattle.std.specs.Fmt.{decimal}
use Rattle.std.specs.List.{AllByRecursion, join_with_byte}
use Rattle.std.proofs.lemmas.Bool.{and_parts}
use Rattle.acl_packet.specs.declared.addresses.Family.{Family}
use Rattle.acl_packet.specs.declared.addresses.Family.TheVariants.{V4, V6}
use Rattle.acl_packet.specs.declared.addresses.Prefix.{Prefix}
use Rattle.acl_packet.specs.declared.filtering.Hook.{Hook}
use Rattle.acl_packet.specs.declared.filtering.Hook.TheVariants.{Input, Output, Forward}
use Rattle.acl_packet.specs.declared.filtering.Verdict.TheVariants.{Accept, Deny, Reject, Reset, Left}
use Rattle.acl_packet.specs.Packets.{icmp_of}
use Rattle.acl_text.specs.Names.{is_name}
use Rattle.acl_text.proofs.ListLaws.{all_append}
use Rattle.acl_rows.specs.PortRanges.{IsPortRange}
use Rattle.acl_rows.specs.RowSteps.{IsWord, AreWords, IsRow, AreRows}
use Rattle.acl_rows.proofs.ListLaws.{all_flat, all_map}
use Rattle.acl_rows.proofs.PortRangeLaws.{range_word as range_is_word}
use Rattle.acl_rows.proofs.WordLaws.{word, decimal_word, prefix_word, plain_word, text_words, joined_word, both_words, either_word}
use Rattle.acl_rows.specs.RuleParts.{IsAddresses}
use Rattle.ipt_lang.specs.declared.documents.Section.{Section}
use Rattle.ipt_lang.specs.declared.documents.Chain.{Chain}
use Rattle.ipt_lang.specs.declared.documents.Rule.{Rule}
use Rattle.ipt_lang.specs.declared.documents.Act.{Act}
use Rattle.ipt_lang.specs.declared.documents.Act.TheVariants.{Log, Decide}
use Rattle.ipt_lang.specs.declared.documents.Flags.{Flags}
use Rattle.ipt_lang.specs.declared.documents.Flags.TheVariants.{Ack, Rst, SynNotAck}
use Rattle.ipt_lang.specs.Documents.{IsRule, is_chain_name, IsRemark, IsChain, IsSection, hook_word, family_word}
use Rattle.ipt_lang.specs.Texts.{icmp_word, proto_word, proto_words, address_words, range_word, is_single, key_words, port_list_words, ports_words, type_word, type_words, flags_words, state_words, reset_words, act_words, front_words, back_words, rule_words, chain_name, remark_rows, rule_rows, chain_row, jump_row, chain_rows, default_rows, head_rows, section_rows}

-- ---- words of a rule

icmp_safe : (f : Family) → IsWord (icmp_word f)
icmp_safe V4 = search word
icmp_safe V6 = search word

proto_word_safe : (f : Family) (n : ℕ) → n ≤ 255 → IsWord (proto_word f n)
unfolding proto_word
proto_word_safe f n h =
    either_word (n == 6) (codes "tcp") _ (search word) (either_word (n == 17) (codes "udp") _ (search word) (either_word (n == 132) (codes "sctp") _ (search word)
    (either_word (n == icmp_of f) (icmp_word f) (decimal n) (icmp_safe f) (decimal_word n (omega (arith, h))))))

proto_safe : (f : Family) (o : Option ℕ) → IfSome o (λ n. (1 ≤ n) × (n ≤ 255)) → AreWords (proto_words f o)
unfolding proto_words
proto_safe f None h = tt
proto_safe f (Some n) h = search (word, proto_word_safe f n h.1)

address_safe : (key : List ℕ) (f : Family) (o : Option Prefix) → IsWord key → IfSome o (IsAddresses f) → AreWords (address_words key o)
unfolding address_words
address_safe key f None k h = tt
address_safe key f (Some p) k h = (k, (prefix_word p h.0.1, tt))

range_safe : (ports : ℕ × ℕ) → IsPortRange ports → IsWord (range_word ports)
range_safe ports h = range_is_word 58 ports h refl refl

joined_safe : (w : List ℕ) (words : List (List ℕ)) → AreWords (w ∷ words) → IsWord (join_with_byte 44 (w ∷ words))
joined_safe w [] h = h.0
joined_safe w (v ∷ words) h =
    joined_word w _ h.0 (joined_word (codes ",") (join_with_byte 44 (v ∷ words)) (search word) (joined_safe v words h.1))

port_list_safe : (plain : Bool) (key keys : List ℕ) → IsWord key → IsWord keys → (words : List (List ℕ)) → AreWords words
    → AreWords (port_list_words plain key keys words)
unfolding port_list_words key_words
port_list_safe plain key keys k l [] h = tt
port_list_safe true key keys k l (w ∷ words) h = (k, (joined_safe w words h, tt))
port_list_safe false key keys k l (w ∷ words) h = search (word, l, joined_safe w words h)

ports_safe : (sports dports : List (List ℕ)) → AreWords sports → AreWords dports → AreWords (ports_words sports dports)
unfolding ports_words
ports_safe sports dports h k =
    let plain = is_single sports && is_single dports in
    both_words _ _ (port_list_safe plain (codes "--sport") (codes "--sports") (search word) (search word) sports h)
    (port_list_safe plain (codes "--dport") (codes "--dports") (search word) (search word) dports k)

type_word_safe : (n : ℕ) (code : Option ℕ) → n ≤ 254 → IfSome code (λ c. c ≤ 255) → IsWord (type_word n code)
unfolding type_word
type_word_safe n None h k = decimal_word n (omega (arith, h))
type_word_safe n (Some c) h k =
    joined_word (decimal n) _ (decimal_word n (omega (arith, h))) (joined_word (codes "/") (decimal c) (search word) (decimal_word c (omega (arith, k))))

type_safe : (f : Family) (o code : Option ℕ) → IfSome o (λ n. n ≤ 254) → IfSome code (λ c. c ≤ 255) → AreWords (type_words f o code)
unfolding type_words
type_safe f None code h k = tt
type_safe V4 (Some n) code h k = search (word, type_word_safe n code h k)
type_safe V6 (Some n) code h k = search (word, type_word_safe n code h k)

flags_safe : (o : Option Flags) → AreWords (flags_words o)
unfolding flags_words
flags_safe None = tt
flags_safe (Some Ack) = search word
flags_safe (Some Rst) = search word
flags_safe (Some SynNotAck) = search word

state_safe : (b : Bool) → AreWords (state_words b)
unfolding state_words
state_safe true = search word
state_safe false = tt

act_safe : (a : Act) → AreWords (act_words a)
unfolding act_words reset_words
act_safe Log = search word
act_safe (Decide Accept) = search word
act_safe (Decide Deny) = search word
act_safe (Decide Reject) = search word
act_safe (Decide Reset) = search word
act_safe (Decide Left) = search word

pub rule_safe : (f : Family) (r : Rule) → IsRule f r → AreWords (rule_words f r)
unfolding rule_words front_words back_words
rule_safe f r h =
    let sports = all_map IsPortRange IsWord range_word range_safe r.sports h.source_ports.each in
    let dports = all_map IsPortRange IsWord range_word range_safe r.dports h.destination_ports.each in
    let ports = ports_safe (map range_word r.sports) (map range_word r.dports) sports dports in
    let source = address_safe (codes "-s") f r.src (search word) h.source in
    let destination = address_safe (codes "-d") f r.dst (search word) h.destination in
    search (both_words, proto_safe f r.proto h.protocol, source, destination, ports, type_safe f r.itype r.icode h.icmp_type h.icmp_code, flags_safe, state_safe, act_safe) depth 8

-- ---- rows

pub name_safe : (hook : Hook) (name : List ℕ) → is_chain_name name ≡ true → IsWord (chain_name hook name)
name_safe hook name h = lettered hook (plain_word name (and_parts (is_name name) (nat_le (length name) 24) h).0) where
  lettered : (g : Hook) → IsWord name → IsWord (chain_name g name)
  lettered Input w = word (chain_name Input name) w.no_space w.no_feed
  lettered Output w = word (chain_name Output name) w.no_space w.no_feed
  lettered Forward w = word (chain_name Forward name) w.no_space w.no_feed

pub hook_safe : (h : Hook) → IsWord (hook_word h)
hook_safe Input = search word
hook_safe Output = search word
hook_safe Forward = search word

pub family_safe : (f : Family) → IsWord (family_word f)
family_safe V4 = search word
family_safe V6 = search word

pub remark_safe : (text : List ℕ) → IsRemark text → AreRows (remark_rows text)
unfolding remark_rows
remark_safe text h = search (word, text_words text h)

chain_safe : (hook : Hook) (f : Family) (c : Chain) → IsChain f c → AreRows (chain_rows hook f c)
unfolding chain_rows rule_rows
chain_safe hook f c h =
    let name = name_safe hook c.name h.named in
    let head : IsRow (chain_row hook c.name) = search word in
    let jumped : IsRow (jump_row hook c.name) = search (word, hook_safe hook) in
    let rules = all_flat (IsRule f) IsRow (rule_rows hook f c.name) (λ r k. (record { start = refl; words = (search word, (name, rule_safe f r k)) }, tt)) c.rules h.rules in
    all_append IsRow (flat_map remark_rows c.remarks) _ (all_flat IsRemark IsRow remark_rows remark_safe c.remarks h.remarks)
    (head, all_append IsRow (flat_map (rule_rows hook f c.name) c.rules) (jump_row hook c.name ∷ []) rules (jumped, tt))

default_safe : (hook : Hook) (o : Option Bool) → AreRows (default_rows hook o)
unfolding default_rows
default_safe hook None = tt
default_safe hook (Some true) = search (word, hook_safe hook)
default_safe hook (Some false) = search (word, hook_safe hook)

section_safe : (s : Section) → IsSection s → AreRows (section_rows s)
unfolding section_rows head_rows
section_safe s h =
    all_append IsRow (head_rows s.hook s.family s.accept) _ (search (word, hook_safe s.hook, family_safe s.family), default_safe s.hook s.accept)
    (all_flat (IsChain s.family) IsRow (chain_rows s.hook s.family) (chain_safe s.hook s.family) s.chains h.chains)

pub sections_safe : (doc : List Section) → AllByRecursion IsSection doc → AllByRecursion IsRow (flat_map section_rows doc)
sections_safe doc h = all_flat IsSection IsRow section_rows section_safe doc h
