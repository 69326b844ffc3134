-- What each platform's own contract asks of the filters that are rendered.
use Rattle.std.proofs.Common.{◌≡◌, ◌≢◌, ◌≤◌, ◌==◌, true, false, List, [], ◌∷◌, map, refl, ap, sym, subst, ◌∙◌, arith}
use Rattle.std.specs.List.{All, AllByRecursion, AllPairs, IsDistinct}
use Rattle.std.proofs.lemmas.List.Elements.{All-cons, All-nil, All-weaker, recursion_from_All}
use Rattle.std.proofs.lemmas.List.Kept.{AllPairs-cons}
use Rattle.std.proofs.lemmas.Bool.{eq-eqb, false≢true}
use Rattle.acl_target.specs.declared.targets.Kind.{Kind}
use Rattle.acl_target.specs.declared.targets.Kind.TheVariants.{Cisco, Juniper, Iptables, Nftables}
use Rattle.acl_target.specs.declared.targets.Target.{Target}
use Rattle.acl_target.specs.Clashes.{same_kind}
use Rattle.acl_platform.specs.declared.filters.Filter.{Filter}
use Rattle.acl_platform.specs.Limits.{is_for}
use Rattle.acl_platform.specs.Platforms.{IsAccepted}
use Rattle.acl_platform.specs.SoundFilters.{target_of}
use Rattle.acl_target.specs.TargetData.{FitsPlatform}
use Rattle.gen_junos.specs.SectionNames.{IsOfJunos}
use Rattle.gen_iptables.specs.SectionNames.{IsOfIptables}
use Rattle.acl_filters.specs.PlatformFiles.{AreApart, IsTaken, limit_on}

pub kinds : (kind : Kind) (filters : List Filter) → All (IsTaken kind) filters → AllByRecursion (λ f. f.kind ≡ kind) filters
kinds kind filters h =
    recursion_from_All (λ f. f.kind ≡ kind) filters (All-weaker (IsTaken kind) (λ f. f.kind ≡ kind) (λ f t. t.kind_is) filters h)

same-as-itself : (kind : Kind) → same_kind kind kind ≡ true
same-as-itself Cisco = refl
same-as-itself Juniper = refl
same-as-itself Iptables = refl
same-as-itself Nftables = refl

-- The platform takes them.
pub accepted : (kind : Kind) (filters : List Filter) → All (IsTaken kind) filters → All (IsAccepted (is_for kind) (limit_on kind)) filters
accepted kind filters h =
    All-weaker (IsTaken kind) (IsAccepted (is_for kind) (limit_on kind))
    (λ f t. record { handled = ap (λ k. same_kind k kind) t.kind_is ∙ same-as-itself kind; sound = t.sound; within = t.within }) filters h

one-family : (f : Filter) → IsTaken Juniper f → IsOfJunos f
one-family f t =
    let P : Kind → Type 0 = λ k. FitsPlatform k (target_of t.sound.target.0 f) in
    (t.kind_is, (subst P t.kind_is t.sound.target.1.platform).1)

pub of-junos : (filters : List Filter) → All (IsTaken Juniper) filters → AllByRecursion IsOfJunos filters
of-junos filters h = recursion_from_All IsOfJunos filters (All-weaker (IsTaken Juniper) IsOfJunos one-family filters h)

one-hook : (f : Filter) → IsTaken Iptables f → IsOfIptables f
one-hook f t =
    let P : Kind → Type 0 = λ k. FitsPlatform k (target_of t.sound.target.0 f) in
    (t.kind_is, (subst P t.kind_is t.sound.target.1.platform).one_family)

pub of-iptables : (filters : List Filter) → All (IsTaken Iptables) filters → AllByRecursion IsOfIptables filters
of-iptables filters h = recursion_from_All IsOfIptables filters (All-weaker (IsTaken Iptables) IsOfIptables one-hook filters h)

pub of-nftables : (filters : List Filter) → All (IsTaken Nftables) filters → AllByRecursion (λ f. (f.kind ≡ Nftables) × (f.number ≤ 64)) filters
of-nftables filters h =
    recursion_from_All (λ f. (f.kind ≡ Nftables) × (f.number ≤ 64)) filters
    (All-weaker (IsTaken Nftables) (λ f. (f.kind ≡ Nftables) × (f.number ≤ 64)) (λ f t. (t.kind_is, t.sound.target.1.number_to)) filters h)

-- ---- numbers

-- Two targets of a platform differ in number.
abbrev pub NumbersDiffer : Target → Target → Type 0
NumbersDiffer a b = a.kind ≡ b.kind → a.number ≢ b.number

number-apart : (f g : Filter) → (f.number == g.number) ≡ false → NumbersDiffer (target_of false f) (target_of false g)
number-apart f g h = λ _ e. false≢true (sym h ∙ eq-eqb f.number g.number e)

number-differs : (f : Filter) (fs : List Filter) → AllByRecursion (λ (g : Filter). (f.number == g.number) ≡ false) fs
    → All (NumbersDiffer (target_of false f)) (map (target_of false) fs)
number-differs f [] h = All-nil (NumbersDiffer (target_of false f))
number-differs f (g ∷ gs) h =
    All-cons (NumbersDiffer (target_of false f)) (target_of false g) (map (target_of false) gs) (number-apart f g h.0) (number-differs f gs h.1)

pub numbers-differ : (fs : List Filter) → IsDistinct (λ (a : Filter) (b : Filter). a.number == b.number) fs
    → AllPairs NumbersDiffer (map (target_of false) fs)
unfolding IsDistinct
numbers-differ [] h = λ i j d l m. absurd (omega (arith, m))
numbers-differ (f ∷ fs) h =
    AllPairs-cons NumbersDiffer (target_of false f) (map (target_of false) fs) (number-differs f fs h.0) (numbers-differ fs h.1)

-- One filter is apart from others.
pub alone : (f : Filter) → AreApart (f ∷ [])
unfolding IsDistinct
alone f = record { clash_not = (tt, tt); numbers_differ = (tt, tt) }
