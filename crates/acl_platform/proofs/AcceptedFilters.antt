-- What follows from a filter's having no limit, and from its being accepted.
use Rattle.std.proofs.Common.{◌≡◌, ℕ, ◌≤◌, Bool, true, false, ◌||◌, cond, nat_lt, List, [], ◌∷◌, ◌++◌, map, Option, None, Some, inl, inr, refl, sym, subst, ◌∙◌, append_assoc, append-nil}
use Rattle.std.specs.List.{AllByRecursion, IsDistinct}
use Rattle.std.specs.Option.{option_or}
use Rattle.std.specs.Str.{bytes_eq}
use Rattle.std.proofs.lemmas.Bool.{cases_lt, false≢true, lt-ltb, or_from, or_parts}
use Rattle.std.proofs.lemmas.List.{map-append}
use Rattle.std.proofs.lemmas.Option.{none-some}
use Rattle.acl_text.specs.Names.{in_common}
use Rattle.acl_rows.proofs.NamingLaws.{distinct-append}
use Rattle.acl_target.specs.declared.targets.Kind.{Kind}
use Rattle.acl_target.specs.declared.targets.Kind.TheVariants.{Cisco, Juniper, Iptables, Nftables}
use Rattle.acl_target.specs.Clashes.{same_kind}
use Rattle.acl_target.specs.TargetData.{FitsPlatform}
use Rattle.acl_platform.specs.declared.filters.Filter.{Filter}
use Rattle.acl_platform.specs.declared.filters.Limit.{Limit}
use Rattle.acl_platform.specs.declared.rules.Rule.{Rule}
use Rattle.acl_platform.specs.Limits.{count_limit, filter_limit, first_limit, is_for, is_name_taken}
use Rattle.acl_platform.specs.Platforms.{IsAccepted}
use Rattle.acl_platform.specs.SoundFilters.{IsSoundRule, target_of}

-- ---- its kind

pub same-kind-is : (k kind : Kind) → same_kind k kind ≡ true → k ≡ kind
same-kind-is Cisco Cisco h = refl
same-kind-is Cisco Juniper h = absurd (false≢true h)
same-kind-is Cisco Iptables h = absurd (false≢true h)
same-kind-is Cisco Nftables h = absurd (false≢true h)
same-kind-is Juniper Cisco h = absurd (false≢true h)
same-kind-is Juniper Juniper h = refl
same-kind-is Juniper Iptables h = absurd (false≢true h)
same-kind-is Juniper Nftables h = absurd (false≢true h)
same-kind-is Iptables Cisco h = absurd (false≢true h)
same-kind-is Iptables Juniper h = absurd (false≢true h)
same-kind-is Iptables Iptables h = refl
same-kind-is Iptables Nftables h = absurd (false≢true h)
same-kind-is Nftables Cisco h = absurd (false≢true h)
same-kind-is Nftables Juniper h = absurd (false≢true h)
same-kind-is Nftables Iptables h = absurd (false≢true h)
same-kind-is Nftables Nftables h = refl

pub kind-is : (kind : Kind) (f : Filter) → is_for kind f ≡ true → f.kind ≡ kind
kind-is kind f h = same-kind-is f.kind kind h

pub target-fits : (kind : Kind) (limit : Filter → Option Limit) (f : Filter) → IsAccepted (is_for kind) limit f
    → (stateful : Bool) × FitsPlatform kind (target_of stateful f)
target-fits kind limit f h =
    let t = h.sound.target in
    let P : Kind → Type 0 = λ k. FitsPlatform k (target_of t.0 f) in
    (t.0, subst P (kind-is kind f h.handled) t.1.platform)

pub rules-are : (kind : Kind) (limit : Filter → Option Limit) (f : Filter) → IsAccepted (is_for kind) limit f
    → AllByRecursion (IsSoundRule kind f.families) f.rules
rules-are kind limit f h =
    let P : Kind → Type 0 = λ k. AllByRecursion (IsSoundRule k f.families) f.rules in
    subst P (kind-is kind f h.handled) h.sound.rules

-- ---- no limit

pub both-none : (o p : Option Limit) → option_or o p ≡ None → (o ≡ None) × (p ≡ None)
both-none None p h = (refl, h)
both-none (Some l) p h = absurd (none-some l (sym h))

-- a limit that comes first under a condition
pub not-limited : (b : Bool) (l : Limit) (o : Option Limit) → cond b (Some l) o ≡ None → (b ≡ false) × (o ≡ None)
not-limited true l o h = absurd (none-some l (sym h))
not-limited false l o h = (refl, h)

pub short-name : (most n : ℕ) → nat_lt most n ≡ false → n ≤ most
short-name most n h = elim (cases_lt most n) [
  | inl long ↦ absurd (false≢true (sym h ∙ lt-ltb most n long))
  | inr short ↦ short
]

-- what follows from a rule's having no limit holds of all rules
pub all-within : (limit : List Rule → Rule → Option Limit) (P : Rule → Type 0) → ((earlier : List Rule) (r : Rule) → limit earlier r ≡ None → P r)
    → (earlier rules : List Rule) → first_limit limit earlier rules ≡ None → AllByRecursion P rules
all-within limit P each earlier [] h = tt
all-within limit P each earlier (r ∷ rules) h =
    let p = both-none (limit earlier r) (first_limit limit (earlier ++ r ∷ []) rules) h in
    (each earlier r p.0, all-within limit P each (earlier ++ r ∷ []) rules p.1)

pub rules-within : (limit : List Rule → Rule → Option Limit) (P : Rule → Type 0) → ((earlier : List Rule) (r : Rule) → limit earlier r ≡ None → P r)
    → (count : ℕ) (f : Filter) → filter_limit limit count f ≡ None → AllByRecursion P f.rules
rules-within limit P each count f h =
    all-within limit P each [] f.rules (both-none (first_limit limit [] f.rules) (count_limit count) h).0

-- ---- no name that is taken

taken-again : (earlier : List Rule) (r : Rule) → is_name_taken earlier r ≡ false
    → in_common (map (λ e. e.name) earlier) (r.name ∷ []) ≡ false
taken-again [] r h = refl
taken-again (e ∷ earlier) r h =
    let p = or_parts (bytes_eq e.name r.name) (is_name_taken earlier r) h in
    or_from (bytes_eq e.name r.name || false) (in_common (map (λ e. e.name) earlier) (r.name ∷ []))
    (or_from (bytes_eq e.name r.name) false p.0 refl) (taken-again earlier r p.1)

all-differ : (limit : List Rule → Rule → Option Limit) → ((earlier : List Rule) (r : Rule) → limit earlier r ≡ None → is_name_taken earlier r ≡ false)
    → (earlier rules : List Rule) → IsDistinct bytes_eq (map (λ r. r.name) earlier) → first_limit limit earlier rules ≡ None
    → IsDistinct bytes_eq (map (λ r. r.name) (earlier ++ rules))
unfolding IsDistinct
all-differ limit each earlier [] d h =
    subst (λ (rs : List Rule). IsDistinct bytes_eq (map (λ r. r.name) rs)) (sym (append-nil earlier)) d
all-differ limit each earlier (r ∷ rules) d h =
    let p = both-none (limit earlier r) (first_limit limit (earlier ++ r ∷ []) rules) h in
    let here = subst (IsDistinct bytes_eq) (sym (map-append (λ (e : Rule). e.name) earlier (r ∷ [])))
    (distinct-append (map (λ e. e.name) earlier) (r.name ∷ []) d (tt, tt) (taken-again earlier r (each earlier r p.0))) in
    subst (λ (rs : List Rule). IsDistinct bytes_eq (map (λ e. e.name) rs)) (append_assoc earlier (r ∷ []) rules)
    (all-differ limit each (earlier ++ r ∷ []) rules here p.1)

-- where no rule is taken whose name an earlier one has, the names of the rules differ
pub names-differ : (limit : List Rule → Rule → Option Limit)
    → ((earlier : List Rule) (r : Rule) → limit earlier r ≡ None → is_name_taken earlier r ≡ false)
    → (count : ℕ) (f : Filter) → filter_limit limit count f ≡ None → IsDistinct bytes_eq (map (λ r. r.name) f.rules)
unfolding IsDistinct
names-differ limit each count f h =
    all-differ limit each [] f.rules tt (both-none (first_limit limit [] f.rules) (count_limit count) h).0
