-- The filters of a workload meet no limit.
use Rattle.std.proofs.Common.{◌≡◌, ℕ, ◌+◌, ◌-◌, ◌<◌, ◌≤◌, zero, suc, Bool, true, false, ◌||◌, List, [], ◌∷◌, ◌++◌, flat_map, None, inl, refl, ap, sym, subst, ◌∙◌, arith}
use Rattle.std.specs.Fmt.{digits}
use Rattle.std.specs.List.{list_any, range_with_len}
use Rattle.std.proofs.lemmas.Grind.{flat_map-append}
use Rattle.std.proofs.lemmas.List.Folds.{list_any-append}
use Rattle.acl_packet.specs.declared.addresses.Family.{Family}
use Rattle.acl_packet.specs.declared.addresses.Family.TheVariants.{V4, V6}
use Rattle.acl_packet.specs.Addresses.{same_family}
use Rattle.acl_target.specs.declared.targets.Kind.TheVariants.{Cisco, Juniper, Iptables, Nftables}
use Rattle.acl_target.specs.declared.targets.Target.{Target}
use Rattle.acl_platform.specs.declared.filters.Filter.{Filter}
use Rattle.acl_platform.specs.declared.rules.Rule.{Rule}
use Rattle.acl_expand.specs.Expansions.{filter_with}
use Rattle.gen_iptables.specs.Groups.{groups_up_to}
use Rattle.acl_filters.specs.FewerRules.{IsLeftOf}
use Rattle.acl_filters.specs.PlatformFiles.{limit_of}
use Rattle.acl_filters.proofs.FewerRulesLaws.{fewer-rules-fit}
use Rattle.aclgen_core.proofs.TermRules.{cisco, inet_rules, iptables, juniper, mixed_rules, nftables}

abbrev pub filter_at : Target → (ℕ → List Rule) → ℕ → Filter
filter_at target rules_at n = filter_with target (flat_map rules_at (range_with_len 0 n))

-- ---- of 1,024 terms, which is computed

cisco_most : limit_of (filter_at cisco (mixed_rules Cisco) 1024) ≡ None
unfolding limit_of digits
cisco_most = refl

juniper_most : limit_of (filter_at juniper (inet_rules Juniper) 1024) ≡ None
unfolding limit_of digits
juniper_most = refl

iptables_most : limit_of (filter_at iptables (inet_rules Iptables) 1024) ≡ None
unfolding limit_of digits groups_up_to
iptables_most = refl

nftables_most : limit_of (filter_at nftables (mixed_rules Nftables) 1024) ≡ None
unfolding limit_of digits
nftables_most = refl

-- ---- of fewer terms, which are a front of these

range_on : (a n m : ℕ) → range_with_len a (n + m) ≡ range_with_len a n ++ range_with_len (a + n) m
range_on a zero m =
    let whole : 0 + m ≡ m = omega arith in
    let start : a ≡ a + 0 = omega arith in
    ap (range_with_len a) whole ∙ ap (λ k. range_with_len k m) start
range_on a (suc n) m =
    let more : suc n + m ≡ suc (n + m) = omega arith in
    let start : a + 1 + n ≡ a + suc n = omega arith in
    ap (range_with_len a) more ∙ ap (λ xs. a ∷ xs) (range_on (a + 1) n m ∙ ap (λ k. range_with_len (a + 1) n ++ range_with_len k m) start)

front_left : {A : Type 0} (xs ys : List A) → IsLeftOf xs (xs ++ ys)
front_left [] ys = tt
front_left (x ∷ xs) ys = inl (refl, front_left xs ys)

rules_front : (rules_at : ℕ → List Rule) (n : ℕ) → n ≤ 1024
    → IsLeftOf (flat_map rules_at (range_with_len 0 n)) (flat_map rules_at (range_with_len 0 1024))
rules_front rules_at n few =
    let whole : n + (1024 - n) ≡ 1024 = omega (arith, few) in
    subst (λ rules. IsLeftOf (flat_map rules_at (range_with_len 0 n)) rules)
    (sym (flat_map-append rules_at (range_with_len 0 n) (range_with_len (0 + n) (1024 - n)))
    ∙ ap (flat_map rules_at) (sym (range_on 0 n (1024 - n)) ∙ ap (range_with_len 0) whole))
    (front_left (flat_map rules_at (range_with_len 0 n)) (flat_map rules_at (range_with_len (0 + n) (1024 - n))))

-- The rules of each term have the same families.
abbrev HasFamily : (ℕ → List Rule) → Family → Bool → Type 0
HasFamily rules_at f b = (i : ℕ) → list_any (λ r. same_family r.family f) (rules_at i) ≡ b

some_has : (rules_at : ℕ → List Rule) (f : Family) (b : Bool) → HasFamily rules_at f b → (a n : ℕ)
    → list_any (λ r. same_family r.family f) (flat_map rules_at (range_with_len a n)) ≡ true → b ≡ true
some_has rules_at f true h a n e = refl
some_has rules_at f false h a zero e = e
some_has rules_at f false h a (suc n) e =
    some_has rules_at f false h (a + 1) n
    (sym (list_any-append (λ r. same_family r.family f) (rules_at a) (flat_map rules_at (range_with_len (a + 1) n))
    ∙ ap (λ t. t || list_any (λ r. same_family r.family f) (flat_map rules_at (range_with_len (a + 1) n))) (h a)) ∙ e)

first_has : (rules_at : ℕ → List Rule) (f : Family) (b : Bool) → HasFamily rules_at f b → (n : ℕ) → 0 < n → b ≡ true
    → list_any (λ r. same_family r.family f) (flat_map rules_at (range_with_len 0 n)) ≡ true
first_has rules_at f b h zero some e = absurd (omega (arith, some))
first_has rules_at f b h (suc n) some e =
    list_any-append (λ r. same_family r.family f) (rules_at 0) (flat_map rules_at (range_with_len (0 + 1) n))
    ∙ ap (λ t. t || list_any (λ r. same_family r.family f) (flat_map rules_at (range_with_len (0 + 1) n))) (h 0 ∙ e)

fewer_fit : (target : Target) (rules_at : ℕ → List Rule) (has : Family → Bool) → ((f : Family) → HasFamily rules_at f (has f))
    → limit_of (filter_at target rules_at 1024) ≡ None → (n : ℕ) → 0 < n → n ≤ 1024 → limit_of (filter_at target rules_at n) ≡ None
fewer_fit target rules_at has families most n some few = fewer-rules-fit (filter_at target rules_at 1024) (filter_at target rules_at n) (record {
  kind_is = refl;
  families_are = refl;
  rules = rules_front rules_at n few;
  kept = λ f e. first_has rules_at f (has f) (families f) n some (some_has rules_at f (has f) (families f) 0 1024 e);
}) most

-- Whether rules of IPv4 alone, or of both families, have the family.
abbrev inet_has : Family → Bool
inet_has f = same_family V4 f || false

abbrev mixed_has : Family → Bool
mixed_has f = same_family V4 f || (same_family V6 f || false)

pub cisco_fits : (n : ℕ) → 0 < n → n ≤ 1024 → limit_of (filter_at cisco (mixed_rules Cisco) n) ≡ None
cisco_fits = fewer_fit cisco (mixed_rules Cisco) mixed_has (λ f i. refl) cisco_most

pub juniper_fits : (n : ℕ) → 0 < n → n ≤ 1024 → limit_of (filter_at juniper (inet_rules Juniper) n) ≡ None
juniper_fits = fewer_fit juniper (inet_rules Juniper) inet_has (λ f i. refl) juniper_most

pub iptables_fits : (n : ℕ) → 0 < n → n ≤ 1024 → limit_of (filter_at iptables (inet_rules Iptables) n) ≡ None
iptables_fits = fewer_fit iptables (inet_rules Iptables) inet_has (λ f i. refl) iptables_most

pub nftables_fits : (n : ℕ) → 0 < n → n ≤ 1024 → limit_of (filter_at nftables (mixed_rules Nftables) n) ≡ None
nftables_fits = fewer_fit nftables (mixed_rules Nftables) mixed_has (λ f i. refl) nftables_most
