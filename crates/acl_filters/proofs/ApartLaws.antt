-- The filters of one platform: they are apart, since the targets of a policy do not clash.
use Prim.Native.Nat.{suc}
use Rattle.std.proofs.Common.{◌≡◌, ◌≢◌, ℕ, ◌<◌, Bool, true, false, ◌||◌, ◌&&◌, ◌==◌, if◌then◌else◌, List, [], ◌∷◌, ◌++◌, map, refl, ap, sym, subst, ◌∙◌, append_assoc, length, arith}
use Rattle.std.specs.Prelude.{slice_index_or}
use Rattle.std.specs.List.{All, AllByRecursion, IsDistinct, list_any}
use Rattle.std.proofs.lemmas.Bool.{and_parts, eqb-true, false_from_ne_true, false≢true}
use Rattle.std.proofs.lemmas.List.{map-append}
use Rattle.std.proofs.lemmas.List.Elements.{All-cons, All-nil}
use Rattle.acl_host.specs.declared.days.Day.{Day}
use Rattle.acl_naming.specs.Definitions.{Naming}
use Rattle.acl_target.specs.declared.targets.Kind.{Kind}
use Rattle.acl_target.specs.declared.targets.Kind.TheVariants.{Cisco, Juniper, Iptables, Nftables}
use Rattle.acl_target.specs.declared.targets.Target.{Target}
use Rattle.acl_target.specs.Clashes.{clash, clash_on, same_kind, share_lists}
use Rattle.acl_policy.specs.declared.blocks.Block.{Block}
use Rattle.acl_policy.specs.declared.blocks.Policy.{Policy}
use Rattle.acl_policy.specs.RawTerms.{RawTerm}
use Rattle.acl_policy.specs.Conditions.{Each, IsPolicy, NumbersDiffer, StandsBehind, targets_of}
use Rattle.acl_terms.specs.declared.terms.Term.{Term}
use Rattle.acl_platform.specs.declared.filters.Filter.{Filter}
use Rattle.acl_platform.specs.SoundFilters.{target_of}
use Rattle.acl_load.specs.LoadedPolicies.{AreResolvedIn}
use Rattle.acl_filters.specs.PlatformFiles.{AreApart, IsTaken}
use Rattle.acl_filters.specs.AskedFilters.{FilterRequest}
use Rattle.acl_filters.specs.FilterRequests.{block_requests, filter_for, request_of, requests_in, requests_on}

-- ---- targets that do not clash

or-left : (a b : Bool) → (a || b) ≡ false → a ≡ false
or-left true b e = absurd (false≢true (sym e))
or-left false b e = refl

or-right : (a b : Bool) → (a || b) ≡ false → b ≡ false
or-right true b e = absurd (false≢true (sym e))
or-right false b e = e

any-none : {A : Type 0} (p : A → Bool) (x : A) (xs ys : List A) → list_any p (xs ++ x ∷ ys) ≡ false → p x ≡ false
any-none p x [] ys e = or-left (p x) (list_any p ys) e
any-none p x (y ∷ xs) ys e = any-none p x xs ys (or-right (p y) (list_any p (xs ++ x ∷ ys)) e)

later : (e : Target) (xs ys ts : List Target) → Each StandsBehind (xs ++ e ∷ ys) ts → AllByRecursion (λ t. clash e t ≡ false) ts
later e xs ys [] h = tt
later e xs ys (t ∷ ts) h = (
  any-none (λ o. clash o t) e xs ys h.0.clashes_not,
  later e xs (ys ++ t ∷ []) ts (subst (λ b. Each StandsBehind b ts) (append_assoc xs (e ∷ ys) (t ∷ [])) h.1),
)

no-clash : (before ts : List Target) → Each StandsBehind before ts → IsDistinct clash ts
unfolding IsDistinct
no-clash before [] h = tt
no-clash before (t ∷ ts) h = (later t before [] ts h.1, no-clash (before ++ t ∷ []) ts h.1)

-- ---- the targets of requests

block-targets : (written : List RawTerm) (terms : List Term) (ts : List Target) → map (λ (r : FilterRequest). r.target) (map (request_of written terms) ts) ≡ ts
block-targets written terms [] = refl
block-targets written terms (t ∷ ts) = ap (λ xs. t ∷ xs) (block-targets written terms ts)

all-targets : (n : Naming) (blocks : List Block) (lists : List (List Term)) → AreResolvedIn n blocks lists
    → map (λ (r : FilterRequest). r.target) (requests_in blocks lists) ≡ targets_of blocks
all-targets n [] lists h = refl
all-targets n (b ∷ bs) [] h = absurd h
all-targets n (b ∷ bs) (ts ∷ tss) h =
    map-append (λ (r : FilterRequest). r.target) (block_requests b ts) (requests_in bs tss)
    ∙ ap (λ xs. xs ++ map (λ (r : FilterRequest). r.target) (requests_in bs tss)) (block-targets b.terms ts b.targets)
    ∙ ap (λ xs. b.targets ++ xs) (all-targets n bs tss h.1)

-- ---- the requests of one platform

same-kinds : (a b : Kind) → same_kind a b ≡ true → a ≡ b
same-kinds Cisco Cisco e = refl
same-kinds Cisco Juniper e = absurd (false≢true e)
same-kinds Cisco Iptables e = absurd (false≢true e)
same-kinds Cisco Nftables e = absurd (false≢true e)
same-kinds Juniper Cisco e = absurd (false≢true e)
same-kinds Juniper Juniper e = refl
same-kinds Juniper Iptables e = absurd (false≢true e)
same-kinds Juniper Nftables e = absurd (false≢true e)
same-kinds Iptables Cisco e = absurd (false≢true e)
same-kinds Iptables Juniper e = absurd (false≢true e)
same-kinds Iptables Iptables e = refl
same-kinds Iptables Nftables e = absurd (false≢true e)
same-kinds Nftables Cisco e = absurd (false≢true e)
same-kinds Nftables Juniper e = absurd (false≢true e)
same-kinds Nftables Iptables e = absurd (false≢true e)
same-kinds Nftables Nftables e = refl

-- What holds of each request that is of the platform holds of each of the platform's requests.
pub all-on : (kind : Kind) (P : FilterRequest → Type 0) (Q : FilterRequest → Type 0) → ((r : FilterRequest) → r.target.kind ≡ kind → P r → Q r)
    → (rs : List FilterRequest) → AllByRecursion P rs → AllByRecursion Q (requests_on kind rs)
all-on kind P Q f [] h = tt
all-on kind P Q f (r ∷ rs) h = by (all-on kind P Q f rs h.1) (same_kind r.target.kind kind) refl
  where
    by : AllByRecursion Q (requests_on kind rs) → (b : Bool) → same_kind r.target.kind kind ≡ b → AllByRecursion Q (if b then r ∷ requests_on kind rs else requests_on kind rs)
    by more true e = (f r (same-kinds r.target.kind kind e) h.0, more)
    by more false e = more

-- No two of a platform's requests are the same by a test, where no two of all are.
distinct-on : (kind : Kind) (eq : FilterRequest → FilterRequest → Bool) (rs : List FilterRequest) → IsDistinct eq rs → IsDistinct eq (requests_on kind rs)
unfolding IsDistinct
distinct-on kind eq [] h = tt
distinct-on kind eq (r ∷ rs) h = by (distinct-on kind eq rs h.1) (same_kind r.target.kind kind)
  where
    by : IsDistinct eq (requests_on kind rs) → (b : Bool) → IsDistinct eq (if b then r ∷ requests_on kind rs else requests_on kind rs)
    by more true = (all-on kind (λ s. eq r s ≡ false) (λ s. eq r s ≡ false) (λ s _ e. e) rs h.0, more)
    by more false = more

pub all-by : {A B : Type 0} (f : A → B) (P : A → Type 0) (Q : B → Type 0) → ((x : A) → P x → Q (f x)) → (xs : List A) → AllByRecursion P xs → AllByRecursion Q (map f xs)
all-by f P Q g [] h = tt
all-by f P Q g (x ∷ xs) h = (g x h.0, all-by f P Q g xs h.1)

all-back : {A B : Type 0} (f : A → B) (P : A → Type 0) (Q : B → Type 0) → ((x : A) → Q (f x) → P x) → (xs : List A) → AllByRecursion Q (map f xs) → AllByRecursion P xs
all-back f P Q g [] h = tt
all-back f P Q g (x ∷ xs) h = (g x h.0, all-back f P Q g xs h.1)

distinct-back : {A B : Type 0} (f : A → B) (eq : B → B → Bool) (xs : List A) → IsDistinct eq (map f xs) → IsDistinct (λ x y. eq (f x) (f y)) xs
unfolding IsDistinct
distinct-back f eq [] h = tt
distinct-back f eq (x ∷ xs) h =
    (all-back f (λ y. eq (f x) (f y) ≡ false) (λ y. eq (f x) y ≡ false) (λ y e. e) xs h.0, distinct-back f eq xs h.1)

-- ---- targets that clash

same-on : (today : Day) (r s : FilterRequest) (k : Kind) → clash_on k (target_of false (filter_for today r)) (target_of false (filter_for today s)) ≡ clash_on k r.target s.target
unfolding share_lists
same-on today r s Cisco = refl
same-on today r s Juniper = refl
same-on today r s Iptables = refl
same-on today r s Nftables = refl

same-clash : (today : Day) (r s : FilterRequest) → clash r.target s.target ≡ false → clash (target_of false (filter_for today r)) (target_of false (filter_for today s)) ≡ false
unfolding clash
same-clash today r s e = ap (λ b. same_kind r.target.kind s.target.kind && b) (same-on today r s r.target.kind) ∙ e

clash-not : (today : Day) (rs : List FilterRequest) → IsDistinct (λ (r : FilterRequest) (s : FilterRequest). clash r.target s.target) rs
    → IsDistinct clash (map (target_of false) (map (filter_for today) rs))
unfolding IsDistinct
clash-not today [] h = tt
clash-not today (r ∷ rs) h = (
  all-by (target_of false) (λ f. clash (target_of false (filter_for today r)) (target_of false f) ≡ false)
      (λ t. clash (target_of false (filter_for today r)) t ≡ false) (λ f e. e) (map (filter_for today) rs)
      (all-by (filter_for today) (λ s. clash r.target s.target ≡ false) (λ f. clash (target_of false (filter_for today r)) (target_of false f) ≡ false)
      (λ s e. same-clash today r s e) rs h.0),
  clash-not today rs h.1,
)

-- ---- numbers

-- Two targets of one platform with one number.
abbrev same_number : Target → Target → Bool
same_number a b = same_kind a.kind b.kind && a.number == b.number

number-apart : (a b : Target) → (a.kind ≡ b.kind → a.number ≢ b.number) → same_number a b ≡ false
number-apart a b h = false_from_ne_true (same_number a b) (λ e.
    let p = and_parts (same_kind a.kind b.kind) (a.number == b.number) e in
    h (same-kinds a.kind b.kind p.0) (eqb-true a.number b.number p.1))

behind : {A : Type 0} (P : A → Type 0) (xs : List A) → ((j : ℕ) (d : A) → j < length xs → P (slice_index_or xs j d)) → AllByRecursion P xs
behind P [] h = tt
behind P (x ∷ xs) h = (h 0 x (omega arith), behind P xs (λ j d l. h (suc j) d (omega (arith, l))))

pairs-distinct : (ts : List Target) → NumbersDiffer ts → IsDistinct same_number ts
unfolding IsDistinct
pairs-distinct [] h = tt
pairs-distinct (t ∷ ts) h = (
  behind (λ u. same_number t u ≡ false) ts (λ j d l. number-apart t (slice_index_or ts j d) (h 0 (suc j) d (omega arith) (omega (arith, l)))),
  pairs-distinct ts (λ i j d l m. h (suc i) (suc j) d (omega (arith, l)) (omega (arith, m))),
)

same-there : (kind : Kind) (r s : FilterRequest) → r.target.kind ≡ kind → s.target.kind ≡ kind → same_number r.target s.target ≡ false
    → (r.target.number == s.target.number) ≡ false
same-there kind r s e f h =
    let same : same_kind r.target.kind s.target.kind ≡ true = ap (λ k. same_kind k s.target.kind) e ∙ ap (λ k. same_kind kind k) f ∙ itself kind in
    ap (λ b. b && r.target.number == s.target.number) (sym same) ∙ h
  where
    itself : (k : Kind) → same_kind k k ≡ true
    itself Cisco = refl
    itself Juniper = refl
    itself Iptables = refl
    itself Nftables = refl

numbers-differ : (today : Day) (kind : Kind) (rs : List FilterRequest) → AllByRecursion (λ (r : FilterRequest). r.target.kind ≡ kind) rs
    → IsDistinct (λ (r : FilterRequest) (s : FilterRequest). same_number r.target s.target) rs
    → IsDistinct (λ (a : Filter) (b : Filter). a.number == b.number) (map (filter_for today) rs)
unfolding IsDistinct
numbers-differ today kind [] k h = tt
numbers-differ today kind (r ∷ rs) k h = (
  each rs k.1 h.0,
  numbers-differ today kind rs k.1 h.1,
)
  where
    each : (ss : List FilterRequest) → AllByRecursion (λ (s : FilterRequest). s.target.kind ≡ kind) ss
        → AllByRecursion (λ (s : FilterRequest). same_number r.target s.target ≡ false) ss
        → AllByRecursion (λ (f : Filter). ((filter_for today r).number == f.number) ≡ false) (map (filter_for today) ss)
    each [] q d = tt
    each (s ∷ ss) q d = (same-there kind r s k.0 q.0 d.0, each ss q.1 d.1)

-- ---- what a platform's text wants

pub apart-on : (today : Day) (n : Naming) (policy : Policy) (lists : List (List Term)) (kind : Kind) → IsPolicy policy → AreResolvedIn n policy.blocks lists
    → AreApart (map (filter_for today) (requests_on kind (requests_in policy.blocks lists)))
apart-on today n policy lists kind is resolved =
    let rs = requests_in policy.blocks lists in
    let targets = all-targets n policy.blocks lists resolved in
    let clashes = distinct-back (λ (r : FilterRequest). r.target) clash rs (subst (IsDistinct clash) (sym targets) (no-clash [] (targets_of policy.blocks) is.targets_stand)) in
    let numbers = distinct-back (λ (r : FilterRequest). r.target) same_number rs
    (subst (IsDistinct same_number) (sym targets) (pairs-distinct (targets_of policy.blocks) is.numbers_differ)) in
    record {
      clash_not = clash-not today (requests_on kind rs) (distinct-on kind (λ r s. clash r.target s.target) rs clashes);
      numbers_differ = numbers-differ today kind (requests_on kind rs) (all-on kind (λ r. Unit {0}) (λ r. r.target.kind ≡ kind) (λ r e _. e) rs (any rs))
          (distinct-on kind (λ r s. same_number r.target s.target) rs numbers);
    }
  where
    any : (xs : List FilterRequest) → AllByRecursion (λ (r : FilterRequest). Unit {0}) xs
    any [] = tt
    any (x ∷ xs) = (tt, any xs)

pub all-taken : (today : Day) (kind : Kind) (rs : List FilterRequest) → AllByRecursion (λ (r : FilterRequest). IsTaken kind (filter_for today r)) rs
    → All (IsTaken kind) (map (filter_for today) rs)
all-taken today kind [] h = All-nil (IsTaken kind)
all-taken today kind (r ∷ rs) h = All-cons (IsTaken kind) (filter_for today r) (map (filter_for today) rs) h.0 (all-taken today kind rs h.1)
