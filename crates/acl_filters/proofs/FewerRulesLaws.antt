-- A filter with fewer rules is taken where the whole one is: no rule that stays meets a limit, and there are no more
-- entries.
use Rattle.std.proofs.Common.{◌≡◌, ℕ, ◌≤◌, Bool, true, false, cond, nat_lt, List, [], ◌∷◌, ◌++◌, length, map, sum_by, Option, None, Some, inl, inr, refl, ap, sym, subst, ◌∙◌, arith}
use Rattle.std.specs.List.{list_any}
use Rattle.std.specs.Option.{option_or}
use Rattle.std.specs.Str.{bytes_eq}
use Rattle.std.proofs.lemmas.Bool.{cases_Bool, false≢true, le-ltb, ltb-false, or_left}
use Rattle.std.proofs.lemmas.List.Sums.{sum_by-cons}
use Rattle.acl_packet.specs.declared.addresses.Families.{Families}
use Rattle.acl_packet.specs.declared.addresses.Families.TheVariants.{Inet, Inet6, Mixed}
use Rattle.acl_packet.specs.declared.addresses.Family.{Family}
use Rattle.acl_packet.specs.declared.addresses.Family.TheVariants.{V4, V6}
use Rattle.acl_packet.specs.Addresses.{same_family}
use Rattle.acl_target.specs.declared.targets.Kind.{Kind}
use Rattle.acl_target.specs.declared.targets.Kind.TheVariants.{Cisco, Juniper, Iptables, Nftables}
use Rattle.acl_platform.specs.declared.filters.Filter.{Filter}
use Rattle.acl_platform.specs.declared.filters.Limit.{Limit}
use Rattle.acl_platform.specs.declared.filters.Feature.TheVariants.{TcpInitial, SctpPorts}
use Rattle.acl_platform.specs.declared.filters.Limit.TheVariants.{NameClash, NameLength, TooManyEntries, Unsupported}
use Rattle.acl_platform.specs.declared.rules.Rule.{Rule}
use Rattle.acl_platform.specs.Limits.{count_limit, filter_limit, first_limit, is_name_taken, names_sctp_ports}
use Rattle.acl_platform.proofs.AcceptedFilters.{both-none, not-limited}
use Rattle.gen_cisco.specs.CountSteps.{rule_count}
use Rattle.gen_cisco.specs.Limits as cisco
use Rattle.gen_cisco.specs.Sections.{list_items}
use Rattle.gen_cisco.proofs.EntryCounts.{closing-list, entries, inet-count, inet6-count, lists-count, mixed-count, rule-list}
use Rattle.gen_junos.specs.Limits as junos
use Rattle.gen_junos.specs.Sections.{term_count, term_of, terms_of}
use Rattle.gen_iptables.specs.Limits as ipt
use Rattle.gen_iptables.specs.Sections.{chain_of, chain_size}
use Rattle.gen_nftables.specs.CountSteps as nft_steps
use Rattle.gen_nftables.specs.Limits as nft
use Rattle.gen_nftables.specs.Sections as nft_sections
use Rattle.gen_nftables.proofs.EntryCounts as nft_counts
use Rattle.acl_filters.specs.FewerRules.{FewerRulesFit, HasFewerRules, IsLeftOf}
use Rattle.acl_filters.specs.PlatformFiles.{limit_of, limit_on}
use Rattle.acl_filters.proofs.LeftLaws.{left-append, left-count, left-more, left-none}

-- ---- limits that are not met

if-none : (b : Bool) (l : Limit) (o : Option Limit) → b ≡ false → o ≡ None → cond b (Some l) o ≡ None
if-none true l o h k = absurd (false≢true (sym h))
if-none false l o h k = k

-- ---- the limits of rules

-- Behind fewer earlier rules a rule meets no limit that it does not meet behind all of them.
abbrev IsFalling : (List Rule → Rule → Option Limit) → Type 0
IsFalling limit = (fewer earlier : List Rule) (r : Rule) → IsLeftOf fewer earlier → limit earlier r ≡ None → limit fewer r ≡ None

fewer-limits : (limit : List Rule → Rule → Option Limit) → IsFalling limit → (fewer earlier gs fs : List Rule)
    → IsLeftOf fewer earlier → IsLeftOf gs fs → first_limit limit earlier fs ≡ None → first_limit limit fewer gs ≡ None
fewer-limits limit falls fewer earlier [] fs before h none = refl
fewer-limits limit falls fewer earlier (g ∷ gs) [] before h none = absurd h
fewer-limits limit falls fewer earlier (g ∷ gs) (f ∷ fs) before h none =
    let parts = both-none (limit earlier f) (first_limit limit (earlier ++ f ∷ []) fs) none in
    elim h [
      | inl p ↦
          let rest = fewer-limits limit falls (fewer ++ f ∷ []) (earlier ++ f ∷ []) gs fs
          (left-append fewer earlier (f ∷ []) before) p.1 parts.1 in
          subst (λ q. first_limit limit fewer (q ∷ gs) ≡ None) (sym p.0)
          (ap (λ o. option_or o (first_limit limit (fewer ++ f ∷ []) gs)) (falls fewer earlier f before parts.0) ∙ rest)
      | inr q ↦
          fewer-limits limit falls fewer (earlier ++ f ∷ []) (g ∷ gs) fs (left-more fewer earlier (f ∷ []) before) q parts.1
    ]

name-free : (fewer earlier : List Rule) (r : Rule) → IsLeftOf fewer earlier
    → is_name_taken earlier r ≡ false → is_name_taken fewer r ≡ false
name-free fewer earlier r h none = left-none (λ (e : Rule). bytes_eq e.name r.name) fewer earlier h none

cisco-falls : IsFalling cisco.rule_limit
cisco-falls fewer earlier r h none =
    let first = not-limited (nat_lt 64 (length r.name)) (NameLength (length earlier)) _ none in
    let second = not-limited (cisco.asks_initial_in_ipv6 r) (Unsupported (length earlier) TcpInitial) _ first.1 in
    let third = not-limited (names_sctp_ports r) (Unsupported (length earlier) SctpPorts) None second.1 in
    if-none (nat_lt 64 (length r.name)) (NameLength (length fewer)) _ first.0
    (if-none (cisco.asks_initial_in_ipv6 r) (Unsupported (length fewer) TcpInitial) _ second.0
    (if-none (names_sctp_ports r) (Unsupported (length fewer) SctpPorts) None third.0 refl))

junos-falls : IsFalling junos.rule_limit
junos-falls fewer earlier r h none =
    let first = not-limited (nat_lt 64 (length r.name)) (NameLength (length earlier)) _ none in
    let second = not-limited (is_name_taken earlier r) (NameClash (length earlier)) _ first.1 in
    let third = not-limited (names_sctp_ports r) (Unsupported (length earlier) SctpPorts) None second.1 in
    if-none (nat_lt 64 (length r.name)) (NameLength (length fewer)) _ first.0
    (if-none (is_name_taken fewer r) (NameClash (length fewer)) _ (name-free fewer earlier r h second.0)
    (if-none (names_sctp_ports r) (Unsupported (length fewer) SctpPorts) None third.0 refl))

ipt-falls : IsFalling ipt.rule_limit
ipt-falls fewer earlier r h none =
    let first = not-limited (nat_lt 24 (length r.name)) (NameLength (length earlier)) _ none in
    let second = not-limited (is_name_taken earlier r) (NameClash (length earlier)) None first.1 in
    if-none (nat_lt 24 (length r.name)) (NameLength (length fewer)) _ first.0
    (if-none (is_name_taken fewer r) (NameClash (length fewer)) None (name-free fewer earlier r h second.0) refl)

nft-falls : IsFalling nft.rule_limit
nft-falls fewer earlier r h none =
    let first = not-limited (nat_lt 128 (length r.name)) (NameLength (length earlier)) None none in
    if-none (nat_lt 128 (length r.name)) (NameLength (length fewer)) None first.0 refl

-- ---- the limit of the count

-- Where the count meets no limit, it is at most 100,000.
pub count-fits : (n : ℕ) → count_limit n ≡ None → n ≤ 100000
count-fits n h = ltb-false 100000 n (not-limited (nat_lt 100000 n) TooManyEntries None h).0

fewer-fit : (m n : ℕ) → m ≤ n → count_limit n ≡ None → count_limit m ≡ None
fewer-fit m n h none =
    let fits = count-fits n none in
    if-none (nat_lt 100000 m) TooManyEntries None (le-ltb 100000 m (omega arith)) refl

fit-both : (limit : List Rule → Rule → Option Limit) → IsFalling limit → (m n : ℕ) (f g : Filter)
    → IsLeftOf g.rules f.rules → m ≤ n → filter_limit limit n f ≡ None → filter_limit limit m g ≡ None
fit-both limit falls m n f g h le none =
    let parts = both-none (first_limit limit [] f.rules) (count_limit n) none in
    ap (λ o. option_or o (count_limit m)) (fewer-limits limit falls [] [] g.rules f.rules tt h parts.0)
    ∙ fewer-fit m n le parts.1

-- ---- the counts

-- Of each family of which the one list has a rule, the other has one.
abbrev KeepsFamilies : List Rule → List Rule → Type 0
KeepsFamilies fs gs = (family : Family) → list_any (λ r. same_family r.family family) fs ≡ true
    → list_any (λ r. same_family r.family family) gs ≡ true

combinations-fewer : (family : Family) (gs fs : List Rule) → IsLeftOf gs fs → sum_by (rule_count family) gs ≤ sum_by (rule_count family) fs
combinations-fewer family gs fs h =
    left-count (sum_by (rule_count family)) (rule_count family) refl (sum_by-cons (rule_count family)) gs fs h

list-fewer : (family : Family) (gs fs : List Rule) → IsLeftOf gs fs → KeepsFamilies fs gs
    → entries (list_items family gs) ≤ entries (list_items family fs)
list-fewer family gs fs h kept =
    let in_family : List Rule → Bool = λ rules. list_any (λ (r : Rule). same_family r.family family) rules in
    elim (cases_Bool (in_family fs)) [
      | inl some ↦
          let here = rule-list family gs (kept family some) in
          let there = rule-list family fs some in
          let fewer = combinations-fewer family gs fs h in
          omega (arith, here, there, fewer)
      | inr none ↦
          let here = closing-list family gs (left-none (λ (r : Rule). same_family r.family family) gs fs h none) in
          let there = closing-list family fs none in
          omega (arith, here, there)
    ]

cisco-fewer : (families : Families) (gs fs : List Rule) (name other : List ℕ) → IsLeftOf gs fs → KeepsFamilies fs gs
    → lists-count families gs name ≤ lists-count families fs other
cisco-fewer Inet gs fs name other h kept =
    let here = inet-count gs name in
    let there = inet-count fs other in
    let fewer = list-fewer V4 gs fs h kept in
    omega (arith, here, there, fewer)
cisco-fewer Inet6 gs fs name other h kept =
    let here = inet6-count gs name in
    let there = inet6-count fs other in
    let fewer = list-fewer V6 gs fs h kept in
    omega (arith, here, there, fewer)
cisco-fewer Mixed gs fs name other h kept =
    let here = mixed-count gs name in
    let there = mixed-count fs other in
    let fewer = list-fewer V4 gs fs h kept in
    let fewer_6 = list-fewer V6 gs fs h kept in
    omega (arith, here, there, fewer, fewer_6)

itself : (family : Family) → same_family family family ≡ true
itself V4 = refl
itself V6 = refl

junos-fewer : (gs fs : List Rule) → IsLeftOf gs fs → KeepsFamilies fs gs → sum_by term_count (terms_of gs) ≤ sum_by term_count (terms_of fs)
junos-fewer [] [] h kept = omega arith
junos-fewer [] (f ∷ fs) h kept =
    absurd (false≢true (kept f.family (or_left (same_family f.family f.family) _ (itself f.family))))
junos-fewer (g ∷ gs) [] h kept = absurd h
junos-fewer (g ∷ gs) (f ∷ fs) h kept =
    left-count (λ rules. sum_by term_count (map term_of rules)) (λ r. term_count (term_of r)) refl
    (λ r rules. sum_by-cons term_count (term_of r) (map term_of rules)) (g ∷ gs) (f ∷ fs) h

ipt-fewer : (gs fs : List Rule) → IsLeftOf gs fs → sum_by chain_size (map chain_of gs) ≤ sum_by chain_size (map chain_of fs)
ipt-fewer gs fs h =
    left-count (λ rules. sum_by chain_size (map chain_of rules)) (λ r. chain_size (chain_of r)) refl
    (λ r rules. sum_by-cons chain_size (chain_of r) (map chain_of rules)) gs fs h

nft-rules-fewer : (gs fs : List Rule) → IsLeftOf gs fs → sum_by nft_steps.rule_count gs ≤ sum_by nft_steps.rule_count fs
nft-rules-fewer gs fs h =
    left-count (sum_by nft_steps.rule_count) nft_steps.rule_count refl (sum_by-cons nft_steps.rule_count) gs fs h

nft-fewer : (f g : Filter) → IsLeftOf g.rules f.rules → nft_sections.entry_count g ≤ nft_sections.entry_count f
nft-fewer f g h =
    let here = nft_counts.all-sizes g.verbose g.rules in
    let there = nft_counts.all-sizes f.verbose f.rules in
    let fewer = nft-rules-fewer g.rules f.rules h in
    omega (arith, here, there, fewer)

-- ---- the law

fit-on : (kind : Kind) (f g : Filter) → HasFewerRules f g → limit_on kind f ≡ None → limit_on kind g ≡ None
fit-on Cisco f g h none =
    let fewer : lists-count g.families g.rules g.name ≤ lists-count f.families f.rules f.name =
    subst (λ families. lists-count families g.rules g.name ≤ lists-count f.families f.rules f.name) (sym h.families_are)
    (cisco-fewer f.families g.rules f.rules g.name f.name h.rules h.kept) in
    fit-both cisco.rule_limit cisco-falls _ _ f g h.rules fewer none
fit-on Juniper f g h none =
    fit-both junos.rule_limit junos-falls _ _ f g h.rules (junos-fewer g.rules f.rules h.rules h.kept) none
fit-on Iptables f g h none =
    fit-both ipt.rule_limit ipt-falls _ _ f g h.rules (ipt-fewer g.rules f.rules h.rules) none
fit-on Nftables f g h none = fit-both nft.rule_limit nft-falls _ _ f g h.rules (nft-fewer f g h.rules) none

pub fewer-rules-fit : FewerRulesFit
unfolding limit_of
fewer-rules-fit f g h none = subst (λ kind. limit_on kind g ≡ None) (sym h.kind_is) (fit-on f.kind f g h none)
