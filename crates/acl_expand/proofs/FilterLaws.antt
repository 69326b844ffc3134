-- Terms without a slip make a sound filter.
use Rattle.std.proofs.Common.{◌≡◌, ℕ, Bool, true, false, cond, not, ◌&&◌, List, [], ◌∷◌, ◌++◌, map, flat_map, Option, None, Some, refl}
use Rattle.std.specs.List.{AllByRecursion, list_all}
use Rattle.std.proofs.lemmas.Bool.{and_from, and_left, and_right, both_ways}
use Rattle.std.specs.Option.{option_or}
use Rattle.acl_packet.specs.declared.addresses.Families.{Families}
use Rattle.acl_packet.specs.declared.addresses.Families.TheVariants.{Inet, Inet6, Mixed}
use Rattle.acl_packet.specs.declared.addresses.Family.{Family}
use Rattle.acl_packet.specs.declared.addresses.Family.TheVariants.{V4, V6}
use Rattle.acl_packet.specs.Addresses.{covers}
use Rattle.acl_host.specs.declared.days.Day.{Day}
use Rattle.acl_target.specs.declared.targets.Kind.{Kind}
use Rattle.acl_target.specs.declared.targets.Kind.TheVariants.{Cisco, Juniper, Iptables, Nftables}
use Rattle.acl_target.specs.declared.targets.Target.{Target}
use Rattle.acl_target.specs.TargetData.{FitsPlatform, IsTarget}
use Rattle.acl_terms.specs.declared.options.Mode.TheVariants.{Stateful, Stateless}
use Rattle.acl_terms.specs.declared.sides.SidePair.{SidePair}
use Rattle.acl_terms.specs.declared.terms.Term.{Term}
use Rattle.acl_terms.specs.Outcomes.{mode_of}
use Rattle.acl_terms.specs.Resolved.{is_empty_in, is_pair_empty, is_term_live, pairs_of}
use Rattle.acl_terms.proofs.WordLaws.{parts}
use Rattle.acl_platform.specs.declared.rules.Rule.{Rule}
use Rattle.acl_platform.specs.SoundFilters.{IsSound, IsSoundRule}
use Rattle.acl_expand.specs.Expansions.{filter_of}
use Rattle.acl_expand.specs.ExpansionSlips.{first_slip, header_at, header_named, header_slip, is_for_ipv6, prefix_slip, prefixes_of, slip_behind}
use Rattle.acl_expand.specs.TermRules.{conditions_by, family_rules, members, pair_rules, rule_of, rules_of, term_rules}
use Rattle.acl_expand.proofs.SoundLaws.{KnowsTests, NoHeader, pair-sound}

knows : (kind : Kind) (target : Target) (b : Bool) → target.stateful ≡ b → FitsPlatform kind target → KnowsTests kind (cond b Stateful Stateless)
knows Cisco target true e fits = absurd (both_ways target.stateful fits.stateless e)
knows Cisco target false e fits = refl
knows Juniper target true e fits = absurd (both_ways target.stateful fits.0.stateless e)
knows Juniper target false e fits = refl
knows Iptables target true e fits = refl
knows Iptables target false e fits = refl
knows Nftables target true e fits = refl
knows Nftables target false e fits = absurd (both_ways target.stateful e fits.stateful_is)

joined : (P : Rule → Type 0) (xs ys : List Rule) → AllByRecursion P xs → AllByRecursion P ys → AllByRecursion P (xs ++ ys)
joined P [] ys h k = k
joined P (x ∷ xs) ys h k = (h.0, joined P xs ys h.1 k)

by-emptiness : (P : Rule → Type 0) (b e : Bool) (rules : List Rule) → e ≡ b → (e ≡ false → AllByRecursion P rules)
    → AllByRecursion P (cond b [] rules)
by-emptiness P true e rules is h = tt
by-emptiness P false e rules is h = h is

-- What holds of the rules on each pair that is not empty holds of all of them.
pairs-sound : (P : Rule → Type 0) (target : Target) (t : Term) (f : Family) (pairs : List SidePair)
    → (list_all (is_pair_empty f t) pairs ≡ false → (pair : SidePair) → is_pair_empty f t pair ≡ false
    → AllByRecursion P (map (rule_of target.kind f t pair) (conditions_by t.option (mode_of target) f t pair.ports)))
    → AllByRecursion P (flat_map (pair_rules target t f) pairs)
unfolding pair_rules
pairs-sound P target t f [] h = tt
pairs-sound P target t f (pair ∷ pairs) h =
    let empty : Bool = is_pair_empty f t pair in
    let others : Bool = list_all (is_pair_empty f t) pairs in
    joined P (pair_rules target t f pair) (flat_map (pair_rules target t f) pairs)
    (by-emptiness P empty empty (map (rule_of target.kind f t pair) (conditions_by t.option (mode_of target) f t pair.ports)) refl
    (λ some. h (and_left empty others some) pair some))
    (pairs-sound P target t f pairs (λ e. h (and_right empty others e)))

rules-sound : (target : Target) (t : Term) (f : Family) → IsTarget target → covers target.families f ≡ true
    → (is_empty_in f t ≡ false → NoHeader f t) → AllByRecursion (IsSoundRule target.kind target.families) (family_rules target t f)
unfolding family_rules is_empty_in
rules-sound target t f is covered header =
    pairs-sound (IsSoundRule target.kind target.families) target t f (pairs_of t)
    (λ some pair here. pair-sound target.kind (mode_of target) target.families f t pair covered here (header some)
    (knows target.kind target target.stateful refl is.platform))

over-members : (P : Rule → Type 0) (rows : Family → List Rule) (families : Families)
    → ((f : Family) → covers families f ≡ true → AllByRecursion P (rows f)) → AllByRecursion P (flat_map rows (members families))
over-members P rows Inet h = joined P (rows V4) [] (h V4 refl) tt
over-members P rows Inet6 h = joined P (rows V6) [] (h V6 refl) tt
over-members P rows Mixed h = joined P (rows V4) (rows V6 ++ []) (h V4 refl) (joined P (rows V6) [] (h V6 refl) tt)

by-life : (P : Rule → Type 0) (b l : Bool) (rules : List Rule) → l ≡ b → (l ≡ true → AllByRecursion P rules)
    → AllByRecursion P (cond b rules [])
by-life P true l rules is h = h is
by-life P false l rules is h = tt

none-at : (t : Term) (o : Option ℕ) → header_at t o ≡ None → o ≡ None
none-at t None e = refl
none-at t (Some n) e = absurd cc

asked : (b : Bool) (t : Term) → b ≡ true → cond b (header_at t (header_named t)) None ≡ None → header_named t ≡ None
asked true t is e = none-at t (header_named t) e
asked false t is e = absurd (both_ways false refl is)

true-not : (b : Bool) → b ≡ false → not b ≡ true
true-not true e = absurd (both_ways true e refl)
true-not false e = refl

lacks-header : (target : Target) (today : Day) (t : Term) (f : Family) → header_slip target today t ≡ None
    → is_term_live t target.kind today ≡ true → covers target.families f ≡ true → is_empty_in f t ≡ false → NoHeader f t
unfolding header_slip
lacks-header target today t V4 none live covered some = tt
lacks-header target today t V6 none live covered some =
    asked (is_for_ipv6 target today t) t
    (and_from (is_term_live t target.kind today) (covers target.families V6 && not (is_empty_in V6 t)) live
    (and_from (covers target.families V6) (not (is_empty_in V6 t)) covered (true-not (is_empty_in V6 t) some))) none

term-sound : (target : Target) (today : Day) (t : Term) → IsTarget target → header_slip target today t ≡ None
    → AllByRecursion (IsSoundRule target.kind target.families) (term_rules target today t)
unfolding term_rules
term-sound target today t is none =
    by-life (IsSoundRule target.kind target.families) (is_term_live t target.kind today) (is_term_live t target.kind today)
    (flat_map (family_rules target t) (members target.families)) refl
    (λ live. over-members (IsSoundRule target.kind target.families) (family_rules target t) target.families
    (λ f covered. rules-sound target t f is covered (λ some. lacks-header target today t f none live covered some)))

terms-sound : (target : Target) (today : Day) (earlier terms : List Term) → IsTarget target
    → slip_behind target today earlier terms ≡ None
    → AllByRecursion (IsSoundRule target.kind target.families) (rules_of target today terms)
terms-sound target today earlier [] is none = tt
terms-sound target today earlier (t ∷ terms) is none =
    let all = earlier ++ t ∷ [] in
    let here = header_slip target today t in
    let count = prefix_slip t (prefixes_of (rules_of target today all)) in
    let p = parts (option_or here count) (slip_behind target today all terms) none in
    let q = parts here count p.0 in
    joined (IsSoundRule target.kind target.families) (term_rules target today t) (rules_of target today terms)
    (term-sound target today t is q.0) (terms-sound target today all terms is p.1)

pub filter-sound : (target : Target) (today : Day) (terms : List Term) → IsTarget target
    → first_slip target today terms ≡ None → IsSound (filter_of target today terms)
unfolding first_slip
filter-sound target today terms is none = record {
  target = (target.stateful, is);
  rules = terms-sound target today [] terms is none;
}
