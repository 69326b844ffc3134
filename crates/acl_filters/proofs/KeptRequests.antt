-- Some of the requests of a policy: what holds of all of them holds of those that are kept.
use Rattle.std.proofs.Common.{◌≡◌, Bool, true, false, ◌&&◌, ◌==◌, if◌then◌else◌, List, [], ◌∷◌, filter, map, refl, ap, sym, subst}
use Rattle.std.specs.List.{AllByRecursion, IsDistinct}
use Rattle.acl_host.specs.declared.days.Day.{Day}
use Rattle.acl_naming.specs.Definitions.{Naming}
use Rattle.acl_target.specs.declared.targets.Kind.{Kind}
use Rattle.acl_target.specs.declared.targets.Target.{Target}
use Rattle.acl_target.specs.Clashes.{clash, same_kind}
use Rattle.acl_policy.specs.declared.blocks.Policy.{Policy}
use Rattle.acl_policy.specs.Conditions.{IsPolicy}
use Rattle.acl_terms.specs.declared.terms.Term.{Term}
use Rattle.acl_load.specs.LoadedPolicies.{AreResolvedIn}
use Rattle.acl_platform.specs.declared.filters.Filter.{Filter}
use Rattle.acl_platform.specs.SoundFilters.{target_of}
use Rattle.acl_filters.specs.PlatformFiles.{AreApart}
use Rattle.acl_filters.specs.AskedFilters.{FilterRequest}
use Rattle.acl_filters.specs.FilterRequests.{filter_for, requests_in, requests_on}
use Rattle.acl_filters.proofs.ApartLaws.{all-on, apart-on}

pub kept : (p : FilterRequest → Bool) (P : FilterRequest → Type 0) (rs : List FilterRequest) → AllByRecursion P rs → AllByRecursion P (filter p rs)
kept p P [] h = tt
kept p P (r ∷ rs) h = by (p r) (kept p P rs h.1)
  where
    by : (b : Bool) → AllByRecursion P (filter p rs) → AllByRecursion P (if b then r ∷ filter p rs else filter p rs)
    by true more = (h.0, more)
    by false more = more

pub are-kept : (p : FilterRequest → Bool) (rs : List FilterRequest) → AllByRecursion (λ r. p r ≡ true) (filter p rs)
are-kept p [] = tt
are-kept p (r ∷ rs) = by (p r) refl (are-kept p rs)
  where
    by : (b : Bool) → p r ≡ b → AllByRecursion (λ s. p s ≡ true) (filter p rs) → AllByRecursion (λ s. p s ≡ true) (if b then r ∷ filter p rs else filter p rs)
    by true e more = (e, more)
    by false e more = more

pub both-by : (P Q R : FilterRequest → Type 0) → ((r : FilterRequest) → P r → Q r → R r) → (rs : List FilterRequest)
    → AllByRecursion P rs → AllByRecursion Q rs → AllByRecursion R rs
both-by P Q R f [] p q = tt
both-by P Q R f (r ∷ rs) p q = (f r p.0 q.0, both-by P Q R f rs p.1 q.1)

-- ---- names that differ, of some of the filters

mapped-kept : {B : Type 0} (f : FilterRequest → B) (P : B → Type 0) (p : FilterRequest → Bool) (rs : List FilterRequest)
    → AllByRecursion P (map f rs) → AllByRecursion P (map f (filter p rs))
mapped-kept f P p [] h = tt
mapped-kept f P p (r ∷ rs) h = by (p r) (mapped-kept f P p rs h.1)
  where
    by : (b : Bool) → AllByRecursion P (map f (filter p rs)) → AllByRecursion P (map f (if b then r ∷ filter p rs else filter p rs))
    by true more = (h.0, more)
    by false more = more

distinct-kept : {B : Type 0} (f : FilterRequest → B) (eq : B → B → Bool) (p : FilterRequest → Bool) (rs : List FilterRequest)
    → IsDistinct eq (map f rs) → IsDistinct eq (map f (filter p rs))
unfolding IsDistinct
distinct-kept f eq p [] h = tt
distinct-kept f eq p (r ∷ rs) h = by (p r) (distinct-kept f eq p rs h.1)
  where
    by : (b : Bool) → IsDistinct eq (map f (filter p rs)) → IsDistinct eq (map f (if b then r ∷ filter p rs else filter p rs))
    by true more = (mapped-kept f (λ y. eq (f r) y ≡ false) p rs h.0, more)
    by false more = more

mapped-twice : {B C : Type 0} (g : B → C) (f : FilterRequest → B) (rs : List FilterRequest) → map g (map f rs) ≡ map (λ r. g (f r)) rs
mapped-twice g f [] = refl
mapped-twice g f (r ∷ rs) = ap (λ xs. g (f r) ∷ xs) (mapped-twice g f rs)

apart-kept : (today : Day) (p : FilterRequest → Bool) (rs : List FilterRequest) → AreApart (map (filter_for today) rs)
    → AreApart (map (filter_for today) (filter p rs))
apart-kept today p rs h =
    let g : FilterRequest → Target = λ r. target_of false (filter_for today r) in
    record {
      clash_not = subst (IsDistinct clash) (sym (mapped-twice (target_of false) (filter_for today) (filter p rs)))
          (distinct-kept g clash p rs (subst (IsDistinct clash) (mapped-twice (target_of false) (filter_for today) rs) h.clash_not));
      numbers_differ = distinct-kept (filter_for today) (λ (a : Filter) (b : Filter). a.number == b.number) p rs h.numbers_differ;
    }

-- ---- a platform's requests, and some of them

on-first : (kind : Kind) (q : FilterRequest → Bool) (rs : List FilterRequest)
    → filter (λ r. same_kind r.target.kind kind && q r) rs ≡ filter q (requests_on kind rs)
on-first kind q [] = refl
on-first kind q (r ∷ rs) = by (same_kind r.target.kind kind) (on-first kind q rs)
  where
    both : List FilterRequest
    both = filter (λ s. same_kind s.target.kind kind && q s) rs

    by : (a : Bool) → both ≡ filter q (requests_on kind rs)
        → (if a && q r then r ∷ both else both) ≡ filter q (if a then r ∷ requests_on kind rs else requests_on kind rs)
    by true e = ap (λ xs. if q r then r ∷ xs else xs) e
    by false e = e

any : (rs : List FilterRequest) → AllByRecursion (λ (r : FilterRequest). Unit {0}) rs
any [] = tt
any (r ∷ rs) = (tt, any rs)

pub of-kind : (kind : Kind) (q : FilterRequest → Bool) (rs : List FilterRequest)
    → AllByRecursion (λ (r : FilterRequest). r.target.kind ≡ kind) (filter (λ r. same_kind r.target.kind kind && q r) rs)
of-kind kind q rs =
    subst (AllByRecursion (λ (r : FilterRequest). r.target.kind ≡ kind)) (sym (on-first kind q rs))
    (kept q (λ r. r.target.kind ≡ kind) (requests_on kind rs) (all-on kind (λ r. Unit {0}) (λ r. r.target.kind ≡ kind) (λ r e _. e) rs (any rs)))

-- Their filters are apart, since the targets of a policy do not clash.
pub apart-of : (today : Day) (n : Naming) (policy : Policy) (lists : List (List Term)) (kind : Kind) (q : FilterRequest → Bool) → IsPolicy policy
    → AreResolvedIn n policy.blocks lists
    → AreApart (map (filter_for today) (filter (λ r. same_kind r.target.kind kind && q r) (requests_in policy.blocks lists)))
apart-of today n policy lists kind q is resolved =
    let rs = requests_in policy.blocks lists in
    subst (λ xs. AreApart (map (filter_for today) xs)) (sym (on-first kind q rs))
    (apart-kept today q (requests_on kind rs) (apart-on today n policy lists kind is resolved))
