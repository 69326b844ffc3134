-- The tests of a section say what a valid one is.
use Rattle.std.proofs.Common.{◌≡◌, ℕ, ◌≤◌, true, false, ◌&&◌, List, [], ◌∷◌, ◌++◌, map, codes, Option, None, Some, IfSome, refl, ap, sym, ◌∙◌, arith}
use Rattle.std.specs.Bool.{Decides}
use Rattle.std.specs.List.{list_all}
use Rattle.std.specs.Str.{bytes_eq}
use Rattle.std.proofs.lemmas.Bool.{false≢true, false_from_ne_true}
use Rattle.std.proofs.lemmas.Bool.Decides.{same_from_decides, Decides-and, Decides-like}
use Rattle.std.proofs.lemmas.List.{append_cancel_left}
use Rattle.std.proofs.lemmas.Option.{none-some}
use Rattle.std.proofs.lemmas.Slice.Eq.{bytes_eq-Decides}
use Rattle.acl_packet.specs.declared.addresses.Family.{Family}
use Rattle.acl_packet.specs.declared.addresses.Family.TheVariants.{V4, V6}
use Rattle.acl_packet.specs.declared.addresses.Families.{Families}
use Rattle.acl_packet.specs.declared.addresses.Families.TheVariants.{Inet, Inet6, Mixed}
use Rattle.acl_packet.specs.declared.addresses.Prefix.{Prefix}
use Rattle.acl_packet.specs.Addresses.{same_family, IsPrefixOf}
use Rattle.acl_text.specs.Cuts.{behind}
use Rattle.acl_text.specs.Names.{is_filter_name}
use Rattle.acl_text.proofs.CutLaws.{behind-found, behind-again}
use Rattle.acl_rows.specs.PrefixCheckSteps.{is_prefix_of}
use Rattle.acl_rows.specs.PortRanges.{IsPortRange}
use Rattle.acl_rows.specs.RuleParts.{number_fits}
use Rattle.acl_rows.proofs.DecisionLaws.{number_decides, type_decides, family_decides, prefix_decides, all_decides}
use Rattle.acl_rows.proofs.PortRangeLaws.{range_decides}
use Rattle.cisco_lang.specs.declared.documents.Section.{Section}
use Rattle.cisco_lang.specs.declared.documents.AccessList.{AccessList}
use Rattle.cisco_lang.specs.declared.documents.Item.{Item}
use Rattle.cisco_lang.specs.declared.documents.Item.TheVariants.{Remark, Entry as AnEntry}
use Rattle.cisco_lang.specs.declared.documents.Entry.{Entry}
use Rattle.cisco_lang.specs.Documents.{parts_fit, IsEntry, IsItem, IsList, heads_of, IsSection}
use Rattle.cisco_lang.specs.ValiditySteps.{are_numbers, are_ports, is_end, is_entry, is_item, is_list, is_headed, are_headed, is_section}

-- ---- a name that is a front and a name

pub front_some : (front word rest name : List ℕ) → behind front word ≡ Some rest → bytes_eq rest name ≡ bytes_eq word (front ++ name)
front_some front word rest name h =
    let e : word ≡ front ++ rest = behind-found front word rest h in
    same_from_decides (bytes_eq rest name) (bytes_eq word (front ++ name))
    (Decides-like (bytes_eq rest name) (λ k. e ∙ ap (λ t. front ++ t) k) (λ k. append_cancel_left front rest name (sym e ∙ k)) (bytes_eq-Decides rest name))
    (bytes_eq-Decides word (front ++ name))

pub front_none : (front word name : List ℕ) → behind front word ≡ None → false ≡ bytes_eq word (front ++ name)
front_none front word name h =
    sym (false_from_ne_true (bytes_eq word (front ++ name)) (λ k.
    none-some name (sym h ∙ ap (behind front) ((bytes_eq-Decides word (front ++ name)).0 k) ∙ behind-again front name)))

-- ---- entries

ports_decide : (o : Option (ℕ × ℕ)) → Decides (are_ports o) (IfSome o IsPortRange)
ports_decide None = (λ h. tt, λ h. refl)
ports_decide (Some ports) = range_decides ports

end_decides : (f : Family) (p : Prefix) (o : Option (ℕ × ℕ)) → Decides (is_end f p o) (IsPrefixOf f p × IfSome o IsPortRange)
end_decides f p o = Decides-and (is_prefix_of f p) (are_ports o) (prefix_decides f p) (ports_decide o)

code_decides : (o : Option ℕ) → Decides (number_fits 0 255 o) (IfSome o (λ n. n ≤ 255))
code_decides None = (λ h. tt, λ h. refl)
code_decides (Some n) = Decides-like (number_fits 0 255 (Some n)) (λ h. h.1) (λ h. (omega arith, h)) (number_decides 0 255 (Some n))

entry_decides : (f : Family) (e : Entry) → Decides (is_entry f e) (IsEntry f e)
entry_decides f e =
    let ends = Decides-and (is_end f e.src e.sport) (is_end f e.dst e.dport) (end_decides f e.src e.sport) (end_decides f e.dst e.dport) in
    let icmp = Decides-and (number_fits 0 254 e.itype) (number_fits 0 255 e.icode) (type_decides e.itype) (code_decides e.icode) in
    let numbers = Decides-and (number_fits 1 255 e.proto) (number_fits 0 254 e.itype && number_fits 0 255 e.icode) (number_decides 1 255 e.proto) icmp in
    let fit : Decides (parts_fit f e) (parts_fit f e ≡ true) = (λ h. h, λ h. h) in
    let tests = Decides-and (are_numbers e) (parts_fit f e) numbers fit in
    Decides-like (is_entry f e)
    (λ h. record {
      protocol = h.1.0.0;
      source = h.0.0.0;
      source_ports = h.0.0.1;
      destination = h.0.1.0;
      destination_ports = h.0.1.1;
      icmp_type = h.1.0.1.0;
      icmp_code = h.1.0.1.1;
      fit = h.1.1;
    })
    (λ h. (((h.source, h.source_ports), (h.destination, h.destination_ports)), ((h.protocol, (h.icmp_type, h.icmp_code)), h.fit)))
    (Decides-and (is_end f e.src e.sport && is_end f e.dst e.dport) (are_numbers e && parts_fit f e) ends tests)

pub item_decides : (f : Family) (i : Item) → Decides (is_item f i) (IsItem f i)
item_decides f (Remark text) = (λ h. h, λ h. h)
item_decides f (AnEntry e) = entry_decides f e

list_decides : (l : AccessList) → Decides (is_list l) (IsList l)
list_decides l = all_decides (is_item l.family) (IsItem l.family) (item_decides l.family) l.items

-- ---- sections

abbrev pub head_of : AccessList → Family × List ℕ
head_of l = (l.family, l.name)

head_decides : (l : AccessList) (f : Family) (name : List ℕ) → Decides (is_headed l f name) (head_of l ≡ (f, name))
head_decides l f name =
    Decides-like (is_headed l f name) (λ h. ap (λ g. (g, l.name)) h.0 ∙ ap (λ n. (f, n)) h.1) (λ e. (ap (λ p. p.0) e, ap (λ p. p.1) e))
    (Decides-and (same_family l.family f) (bytes_eq l.name name) (family_decides l.family f) (bytes_eq-Decides l.name name))

one_head : (l : AccessList) (f : Family) (name : List ℕ) → Decides (is_headed l f name) (map head_of (l ∷ []) ≡ (f, name) ∷ [])
one_head l f name = Decides-like (is_headed l f name) (λ e. ap (λ h. h ∷ []) e) (λ e. cc) (head_decides l f name)

no_heads : {P : Type 0} → (P → ⊥) → Decides false P
no_heads n = (λ h. absurd (false≢true h), λ e. absurd (n e))

heads_decide : (ls : List AccessList) (fs : Families) (name : List ℕ) → Decides (are_headed ls fs name) (map head_of ls ≡ heads_of fs name)
heads_decide [] Inet name = no_heads (λ e. cc)
heads_decide [] Inet6 name = no_heads (λ e. cc)
heads_decide [] Mixed name = no_heads (λ e. cc)
heads_decide (l ∷ []) Inet name = one_head l V4 name
heads_decide (l ∷ []) Inet6 name = one_head l V6 name
heads_decide (l ∷ []) Mixed name = no_heads (λ e. cc)
heads_decide (l ∷ m ∷ []) Inet name = no_heads (λ e. cc)
heads_decide (l ∷ m ∷ []) Inet6 name = no_heads (λ e. cc)
heads_decide (l ∷ m ∷ []) Mixed name =
    let six : List ℕ = codes "ipv6-" ++ name in
    Decides-like (is_headed l V4 name && is_headed m V6 six) (λ h. ap (λ a. a ∷ head_of m ∷ []) h.0 ∙ ap (λ b. (V4, name) ∷ b ∷ []) h.1) (λ e. (cc, cc))
    (Decides-and (is_headed l V4 name) (is_headed m V6 six) (head_decides l V4 name) (head_decides m V6 six))
heads_decide (l ∷ m ∷ n ∷ ls) Inet name = no_heads (λ e. cc)
heads_decide (l ∷ m ∷ n ∷ ls) Inet6 name = no_heads (λ e. cc)
heads_decide (l ∷ m ∷ n ∷ ls) Mixed name = no_heads (λ e. cc)

pub section_decides : (s : Section) → Decides (is_section s) (IsSection s)
section_decides s =
    let named : Decides (is_filter_name s.name) (is_filter_name s.name ≡ true) = (λ h. h, λ h. h) in
    let heads = heads_decide s.lists s.families s.name in
    let lists = all_decides is_list IsList list_decides s.lists in
    Decides-like (is_section s) (λ h. record { named = h.0; heads = h.1.0; lists = h.1.1 }) (λ h. (h.named, (h.heads, h.lists)))
    (Decides-and (is_filter_name s.name) (are_headed s.lists s.families s.name && list_all is_list s.lists) named
    (Decides-and (are_headed s.lists s.families s.name) (list_all is_list s.lists) heads lists))
