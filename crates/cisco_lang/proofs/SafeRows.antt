-- Each row of a document can be found again in its text.
use Rattle.std.proofs.Common.{◌≡◌, ℕ, ◌≤◌, Bool, true, false, ◌==◌, List, [], ◌∷◌, map, flat_map, codes, Option, None, Some, IfSome, refl, subst, sym, arith}
use Rattle.std.specs.Fmt.{decimal}
use Rattle.std.specs.List.{AllByRecursion}
use Rattle.acl_packet.specs.declared.addresses.Family.{Family}
use Rattle.acl_packet.specs.declared.addresses.Family.TheVariants.{V4, V6}
use Rattle.acl_packet.specs.declared.addresses.Families.{Families}
use Rattle.acl_packet.specs.declared.addresses.Families.TheVariants.{Inet, Inet6, Mixed}
use Rattle.acl_packet.specs.declared.addresses.Prefix.{Prefix}
use Rattle.acl_packet.specs.Addresses.{IsPrefixOf}
use Rattle.acl_packet.specs.Packets.{icmp_of}
use Rattle.acl_packet.proofs.PrefixLaws.{first_fits}
use Rattle.acl_text.proofs.ListLaws.{all_append}
use Rattle.acl_rows.specs.PortRanges.{IsPortRange}
use Rattle.acl_rows.specs.RowSteps.{begins, IsRow, IsWord, AreWords, AreRows}
use Rattle.acl_rows.proofs.ListLaws.{all_flat}
use Rattle.acl_rows.proofs.WordLaws.{word, decimal_word, address_word, wildcard_word, prefix_word, name_word, text_words, joined_word, both_words, either_word, either_words, log_safe}
use Rattle.cisco_lang.specs.declared.documents.Section.{Section}
use Rattle.cisco_lang.specs.declared.documents.AccessList.{AccessList}
use Rattle.cisco_lang.specs.declared.documents.Item.{Item}
use Rattle.cisco_lang.specs.declared.documents.Item.TheVariants.{Remark, Entry as AnEntry}
use Rattle.cisco_lang.specs.declared.documents.Entry.{Entry}
use Rattle.cisco_lang.specs.declared.documents.Flags.{Flags}
use Rattle.cisco_lang.specs.declared.documents.Flags.TheVariants.{Established, Rst, SynNotAck}
use Rattle.cisco_lang.specs.Documents.{IsEntry, IsItem, IsList, heads_of, IsSection}
use Rattle.cisco_lang.specs.Texts.{action_word, proto_word, masked_words, address_words, ports_words, number_words, icmp_words, flags_words, end_words, entry_words, item_rows, head_rows, end_rows, list_rows, families_word, section_row, section_rows}
use Rattle.cisco_lang.proofs.ValidityLaws.{head_of}

-- ---- entries

pub action_safe : (b : Bool) → IsWord (action_word b)
action_safe true = search word
action_safe false = search word

proto_safe : (f : Family) (o : Option ℕ) → IfSome o (λ n. (1 ≤ n) × (n ≤ 255)) → IsWord (proto_word f o)
unfolding proto_word
proto_safe V4 None h = search word
proto_safe V6 None h = search word
proto_safe f (Some n) h =
    either_word (n == 6) (codes "tcp") _ (search word) (either_word (n == 17) (codes "udp") _ (search word)
    (either_word (n == icmp_of f) (codes "icmp") (decimal n) (search word) (decimal_word n (omega (arith, h.1)))))

masked_safe : (f : Family) (p : Prefix) → IsPrefixOf f p → AreWords (masked_words f p)
masked_safe V4 p h = search (address_word V4 p.first (first_fits V4 p h), wildcard_word)
masked_safe V6 p h = search (prefix_word p h.1)

pub address_safe : (f : Family) (p : Prefix) → IsPrefixOf f p → AreWords (address_words f p)
unfolding address_words
address_safe f p h = search (either_words, word, address_word f p.first (first_fits f p h), masked_safe f p h)

ports_safe : (o : Option (ℕ × ℕ)) → IfSome o IsPortRange → AreWords (ports_words o)
unfolding ports_words
ports_safe None h = tt
ports_safe (Some (m, n)) h =
    search (either_words, word, decimal_word m (omega (arith, h.0, h.1)), decimal_word n (omega (arith, h.1)))

end_safe : (f : Family) (p : Prefix) (o : Option (ℕ × ℕ)) → IsPrefixOf f p → IfSome o IsPortRange → AreWords (end_words f p o)
unfolding end_words
end_safe f p o h k = search (both_words, address_safe f p h, ports_safe o k)

number_safe : (o : Option ℕ) → IfSome o (λ n. n ≤ 255) → AreWords (number_words o)
unfolding number_words
number_safe None h = tt
number_safe (Some n) h = search (decimal_word n (omega (arith, h)))

icmp_safe : (t c : Option ℕ) → IfSome t (λ n. n ≤ 254) → IfSome c (λ n. n ≤ 255) → AreWords (icmp_words t c)
unfolding icmp_words
icmp_safe t c h k = search (both_words, number_safe t (below t h), number_safe c k) where
  below : (o : Option ℕ) → IfSome o (λ n. n ≤ 254) → IfSome o (λ n. n ≤ 255)
  below None l = tt
  below (Some n) l = omega (arith, l)

flags_safe : (o : Option Flags) → AreWords (flags_words o)
unfolding flags_words
flags_safe None = tt
flags_safe (Some Established) = search word
flags_safe (Some Rst) = search word
flags_safe (Some SynNotAck) = search word

entry_safe : (f : Family) (e : Entry) → IsEntry f e → AreWords (entry_words f e)
unfolding entry_words
entry_safe f e h =
    let source = end_safe f e.src e.sport h.source h.source_ports in
    let destination = end_safe f e.dst e.dport h.destination h.destination_ports in
    search (both_words, action_safe, proto_safe f e.proto h.protocol, source, destination, icmp_safe e.itype e.icode h.icmp_type h.icmp_code, flags_safe, log_safe)

-- ---- rows

pub item_safe : (f : Family) (i : Item) → IsItem f i → AreRows (item_rows f i)
unfolding item_rows entry_words
item_safe f (Remark text) h = search (word, text_words text h)
item_safe f (AnEntry e) h = (record { start = action_starts e.permit _; words = entry_safe f e h }, tt) where
  action_starts : (b : Bool) (words : List (List ℕ)) → begins (action_word b ∷ words) ≡ true
  action_starts true words = refl
  action_starts false words = refl

pub head_safe : (f : Family) (name : List ℕ) → IsWord name → AreRows (head_rows f name)
head_safe V4 name h = search (word, h)
head_safe V6 name h = search (word, h)

list_safe : (l : AccessList) → IsWord l.name × IsList l → AreRows (list_rows l)
unfolding list_rows
list_safe l h =
    let items = all_flat (IsItem l.family) IsRow (item_rows l.family) (item_safe l.family) l.items h.1 in
    all_append IsRow (head_rows l.family l.name) _ (head_safe l.family l.name h.0) (all_append IsRow (flat_map (item_rows l.family) l.items) end_rows items (search word))

families_safe : (fs : Families) → IsWord (families_word fs)
families_safe Inet = search word
families_safe Inet6 = search word
families_safe Mixed = search word

pub heads_safe : (fs : Families) (name : List ℕ) → IsWord name → AllByRecursion (λ (h : Family × List ℕ). IsWord h.1) (heads_of fs name)
heads_safe Inet name h = (h, tt)
heads_safe Inet6 name h = (h, tt)
heads_safe Mixed name h = (h, (joined_word (codes "ipv6-") name (search word) h, tt))

named_lists : (ls : List AccessList) → AllByRecursion (λ (h : Family × List ℕ). IsWord h.1) (map head_of ls) → AllByRecursion IsList ls
    → AllByRecursion (λ l. IsWord l.name × IsList l) ls
named_lists [] n h = tt
named_lists (l ∷ ls) n h = ((n.0, h.0), named_lists ls n.1 h.1)

pub heading_safe : (name : List ℕ) (fs : Families) → IsWord name → IsRow (section_row name fs)
heading_safe name fs h = search (word, h, families_safe)

section_safe : (s : Section) → IsSection s → AreRows (section_rows s)
unfolding section_rows
section_safe s h =
    let name = name_word s.name h.named in
    let P : List (Family × List ℕ) → Type 0 = AllByRecursion (λ (x : Family × List ℕ). IsWord x.1) in
    let names = subst P (sym h.heads) (heads_safe s.families s.name name) in
    (heading_safe s.name s.families name, all_flat (λ l. IsWord l.name × IsList l) IsRow list_rows list_safe s.lists (named_lists s.lists names h.lists))

pub sections_safe : (doc : List Section) → AllByRecursion IsSection doc → AllByRecursion IsRow (flat_map section_rows doc)
sections_safe doc h = all_flat IsSection IsRow section_rows section_safe doc h
