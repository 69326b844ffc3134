-- How many entries the filters of a workload have.
use Rattle.std.proofs.Common.{◌≡◌, ℕ, ◌+◌, ◌*◌, ◌<◌, ◌≤◌, zero, suc, cond, List, [], ◌∷◌, ◌++◌, map, flat_map, refl, ap, sym, ◌∙◌, arith}
use Rattle.std.specs.Fmt.{digits}
use Rattle.std.specs.List.{count_by, range_with_len, sum_by}
use Rattle.std.proofs.Math.Nat.{mul-suc, mul-zero}
use Rattle.std.proofs.lemmas.List.Sums.{sum_by-append}
use Rattle.acl_packet.specs.declared.addresses.Family.{Family}
use Rattle.acl_packet.specs.declared.addresses.Family.TheVariants.{V4, V6}
use Rattle.acl_target.specs.declared.targets.Kind.TheVariants.{Cisco, Juniper, Iptables, Nftables}
use Rattle.acl_platform.specs.declared.rules.Rule.{Rule}
use Rattle.cisco_lang.specs.declared.documents.Item.{Item}
use Rattle.cisco_lang.specs.Walks.{is_entry}
use Rattle.gen_cisco.specs.Sections as cisco_sections
use Rattle.gen_iptables.specs.Groups.{groups_up_to}
use Rattle.gen_iptables.specs.Sections as ipt_sections
use Rattle.gen_junos.specs.Sections as junos_sections
use Rattle.gen_nftables.specs.Sections as nft_sections
use Rattle.acl_filters.specs.PlatformFiles.{count_of}
use Rattle.aclgen_core.proofs.FilterLimits.{filter_at}
use Rattle.aclgen_core.proofs.RangeLaws.{SameBelow, computed}
use Rattle.aclgen_core.proofs.TermRules.{cisco, inet_rules, iptables, juniper, mixed_rules, nftables}

-- ---- sums

sum_map : {A B : Type 0} (size : B → ℕ) (f : A → B) (xs : List A) → sum_by size (map f xs) ≡ sum_by (λ x. size (f x)) xs
sum_map size f [] = refl
sum_map size f (x ∷ xs) =
    sum_by-append size (f x ∷ []) (map f xs)
    ∙ ap (λ n. sum_by size (f x ∷ []) + n) (sum_map size f xs)
    ∙ sym (sum_by-append (λ y. size (f y)) (x ∷ []) xs)

sum_flat : {A B : Type 0} (size : B → ℕ) (f : A → List B) (xs : List A) → sum_by size (flat_map f xs) ≡ sum_by (λ x. sum_by size (f x)) xs
sum_flat size f [] = refl
sum_flat size f (x ∷ xs) =
    sum_by-append size (f x) (flat_map f xs)
    ∙ ap (λ n. sum_by size (f x) + n) (sum_flat size f xs)
    ∙ from_zero (sum_by size (f x)) (sum_by (λ y. sum_by size (f y)) xs)
    ∙ sym (sum_by-append (λ y. sum_by size (f y)) (x ∷ []) xs)
  where
    from_zero : (n m : ℕ) → n + m ≡ 0 + n + m
    from_zero n m = omega arith

-- The rules of each term have the same sum.
sum_each : (size : Rule → ℕ) (rules_at : ℕ → List Rule) (k : ℕ) → SameBelow 1024 (λ i. sum_by size (rules_at i)) (λ i. k) → (a n : ℕ)
    → a + n ≤ 1024 → sum_by size (flat_map rules_at (range_with_len a n)) ≡ k * n
sum_each size rules_at k h a zero few = sym (mul-zero k)
sum_each size rules_at k h a (suc n) few =
    sum_by-append size (rules_at a) (flat_map rules_at (range_with_len (a + 1) n))
    ∙ omega (arith, h a (omega (arith, few)), sum_each size rules_at k h (a + 1) n (omega (arith, few)), mul-suc k n)

-- ---- the four platforms

-- The size of a rule on each platform.
abbrev junos_size : Rule → ℕ
junos_size r = junos_sections.term_count (junos_sections.term_of r)

abbrev ipt_size : Rule → ℕ
ipt_size r = ipt_sections.chain_size (ipt_sections.chain_of r)

abbrev nft_size : Rule → ℕ
nft_size r = sum_by nft_sections.item_size (nft_sections.rule_items nftables.verbose r)

abbrev cisco_size : Family → Rule → ℕ
cisco_size f r = count_by is_entry (cisco_sections.items_in f r)

junos_sizes : SameBelow 1024 (λ i. sum_by junos_size (inet_rules Juniper i)) (λ i. 5)
unfolding digits
junos_sizes = computed 1024 _ _ refl

ipt_sizes : SameBelow 1024 (λ i. sum_by ipt_size (inet_rules Iptables i)) (λ i. 3)
unfolding digits groups_up_to
ipt_sizes = computed 1024 _ _ refl

nft_sizes : SameBelow 1024 (λ i. sum_by nft_size (mixed_rules Nftables i)) (λ i. 12)
unfolding digits
nft_sizes = computed 1024 _ _ refl

cisco_sizes4 : SameBelow 1024 (λ i. sum_by (cisco_size V4) (mixed_rules Cisco i)) (λ i. 2)
unfolding digits
cisco_sizes4 = computed 1024 _ _ refl

cisco_sizes6 : SameBelow 1024 (λ i. sum_by (cisco_size V6) (mixed_rules Cisco i)) (λ i. 2)
unfolding digits
cisco_sizes6 = computed 1024 _ _ refl

pub juniper_count : (n : ℕ) → 0 < n → n ≤ 1024 → count_of (filter_at juniper (inet_rules Juniper) n) ≡ 5 * n
unfolding count_of
juniper_count zero some few = absurd (omega (arith, some))
juniper_count (suc n) some few =
    sum_map junos_sections.term_count junos_sections.term_of (flat_map (inet_rules Juniper) (range_with_len 0 (suc n)))
    ∙ sum_each junos_size (inet_rules Juniper) 5 junos_sizes 0 (suc n) (omega (arith, few))

pub iptables_count : (n : ℕ) → n ≤ 1024 → count_of (filter_at iptables (inet_rules Iptables) n) ≡ 3 * n
unfolding count_of
iptables_count n few =
    sum_map ipt_sections.chain_size ipt_sections.chain_of (flat_map (inet_rules Iptables) (range_with_len 0 n))
    ∙ sum_each ipt_size (inet_rules Iptables) 3 ipt_sizes 0 n (omega (arith, few))

pub nftables_count : (n : ℕ) → n ≤ 1024 → count_of (filter_at nftables (mixed_rules Nftables) n) ≡ 12 * n
unfolding count_of
nftables_count n few =
    sum_flat nft_sections.item_size (nft_sections.rule_items nftables.verbose) (flat_map (mixed_rules Nftables) (range_with_len 0 n))
    ∙ sum_each nft_size (mixed_rules Nftables) 12 nft_sizes 0 n (omega (arith, few))

-- Rules of a family give its list entries, so that nothing closes it.
count_closed : (f : Family) (items : List Item) → 0 < count_by is_entry items → count_by is_entry (cisco_sections.closed f items) ≡ count_by is_entry items
count_closed f [] some = absurd (omega (arith, some))
count_closed f (item ∷ items) some = refl

in_family : (f : Family) → SameBelow 1024 (λ i. sum_by (cisco_size f) (mixed_rules Cisco i)) (λ i. 2) → (n : ℕ) → 0 < n → n ≤ 1024
    → count_by is_entry (cisco_sections.list_items f (flat_map (mixed_rules Cisco) (range_with_len 0 n))) ≡ 2 * n
in_family f sizes n some few =
    let rules = flat_map (mixed_rules Cisco) (range_with_len 0 n) in
    let count : count_by is_entry (flat_map (cisco_sections.items_in f) rules) ≡ 2 * n =
    sum_flat (λ item. cond (is_entry item) 1 0) (cisco_sections.items_in f) rules
    ∙ sum_each (cisco_size f) (mixed_rules Cisco) 2 sizes 0 n (omega (arith, few)) in
    count_closed f (flat_map (cisco_sections.items_in f) rules) (omega (arith, count, some)) ∙ count

pub cisco_count : (n : ℕ) → 0 < n → n ≤ 1024 → count_of (filter_at cisco (mixed_rules Cisco) n) ≡ 4 * n
unfolding count_of
cisco_count n some few =
    let rules = flat_map (mixed_rules Cisco) (range_with_len 0 n) in
    let size : Item → ℕ = λ item. cond (is_entry item) 1 0 in
    sum_by-append size (cisco_sections.list_items V4 rules) (cisco_sections.list_items V6 rules ++ [])
    ∙ ap (λ k. count_by is_entry (cisco_sections.list_items V4 rules) + k) (sum_by-append size (cisco_sections.list_items V6 rules) [])
    ∙ omega (arith, in_family V4 cisco_sizes4 n some few, in_family V6 cisco_sizes6 n some few)
