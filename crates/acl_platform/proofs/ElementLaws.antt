-- The elements of a sound rule's sets: what they are, and that they hold what their set holds.
use Rattle.std.proofs.Common.{◌≡◌, ◌≢◌, ℕ, zero, suc, ◌+◌, ◌-◌, ◌*◌, ◌^◌, ◌<◌, ◌≤◌, Bool, true, false, ◌||◌, ◌&&◌, ◌==◌, nat_le, nat_lt, cond, List, [], ◌∷◌, map, inl, inr, refl, ap, sym, subst, ◌∙◌, arith, zero-le, ◌++◌}
use Rattle.std.specs.List.{AllByRecursion, list_any, range_with_len}
use Rattle.std.proofs.Math.Nat.{lt_of_mul-lt-mul_right}
use Rattle.std.proofs.lemmas.Bool.{and_from, eqb-true, false≢true, lt-ltb, or_cases, or_left, or_parts, or_right}
use Rattle.std.proofs.lemmas.Bool.Decides.{Decides-eqb}
use Rattle.acl_packet.specs.declared.addresses.Family.{Family}
use Rattle.acl_packet.specs.declared.addresses.Prefix.{Prefix}
use Rattle.acl_packet.specs.Addresses.{has_address, IsPrefixOf, size_of, width_of}
use Rattle.acl_rows.proofs.DecisionLaws.{le_decides}
use Rattle.acl_sets.specs.declared.sets.Range.{Range}
use Rattle.acl_sets.specs.ComputableSets.{is_all}
use Rattle.acl_packet.specs.AddressLists.{any_has}
use Rattle.acl_sets.specs.Ranges.{holds, inside, IsNormal, Numbers, Only}
use Rattle.acl_sets.proofs.ComputableSetLaws.{covers-holds}
use Rattle.acl_sets.proofs.RangeLaws.{at_top}
use Rattle.acl_platform.specs.Choices.{numbers_of}
use Rattle.acl_platform.specs.Elements.{address_elements, number_elements, port_elements}
use Rattle.acl_platform.specs.SoundFilters.{IsFull, IsFullList}
use Rattle.acl_platform.proofs.ChoiceLaws.{fit, numbers-any, some-numbers}
use Rattle.acl_platform.proofs.CombinationFacts.{all-map, all-prefixes, all-weaker, held}

abbrev pub is_nil : {A : Type 0} → List A → Bool
is_nil [] = true
is_nil (x ∷ xs) = false

some-any : {A : Type 0} (test : A → Bool) (xs : List A) → xs ≢ [] → (is_nil xs || list_any test xs) ≡ list_any test xs
some-any test [] h = absurd (h refl)
some-any test (x ∷ xs) h = refl

-- ---- ranges

pub each-range : {A : Type 0} (f : ℕ × ℕ → A) (rs : List Range) → map (λ r. f (r.low, r.high)) rs ≡ map f (map (λ r. (r.low, r.high)) rs)
each-range f [] = refl
each-range f (r ∷ rs) = ap (λ xs. f (r.low, r.high) ∷ xs) (each-range f rs)

-- ---- addresses

holds-all : (f : Family) (p : Prefix) (a : ℕ) → IsPrefixOf f p → p.len ≡ 0 → a < 2 ^ width_of f → has_address p a ≡ true
holds-all f p a h none within =
    let w = width_of p.family in
    let s : ℕ = 2 ^ (w - p.len) in
    let n = h.1.aligned.0 in
    let size : s ≡ 2 ^ w = ap (λ k. 2 ^ k) (omega (arith, none)) in
    let starts : n * s < 1 * s = omega (arith, h.1.first_fits, h.1.aligned.1, size) in
    let below : n < 1 = lt_of_mul-lt-mul_right s starts in
    let times : n * s ≡ 0 * s = ap (λ k. k * s) (omega (arith, below)) in
    let first : p.first ≡ 0 = omega (arith, h.1.aligned.1, times) in
    let inside : a < 2 ^ w = subst (λ g. a < 2 ^ width_of g) (sym h.0) within in
    and_from (nat_le p.first a) (nat_lt a (p.first + size_of p)) ((le_decides p.first a).1 (omega (arith, first)))
    (lt-ltb a (p.first + size_of p) (omega (arith, inside, size, first)))

any-holds-all : (f : Family) (ps : List Prefix) (a : ℕ) → AllByRecursion (IsPrefixOf f) ps → a < 2 ^ width_of f
    → list_any (λ p. p.len == 0) ps ≡ true → any_has ps a ≡ true
any-holds-all f [] a h within e = e
any-holds-all f (p ∷ ps) a h within e = elim (or_cases (p.len == 0) (list_any (λ q. q.len == 0) ps) e) [
  | inl k ↦ or_left (has_address p a) (any_has ps a) (holds-all f p a h.0 (eqb-true p.len 0 k) within)
  | inr k ↦ or_right (has_address p a) (any_has ps a) (any-holds-all f ps a h.1 within k)
]

addresses-by : (f : Family) (ps : List Prefix) (a : ℕ) → IsFullList f ps → a < 2 ^ width_of f → (b : Bool) → list_any (λ p. p.len == 0) ps ≡ b
    → (is_nil (cond b [] ps) || any_has (cond b [] ps) a) ≡ any_has ps a
addresses-by f ps a h within true e = sym (any-holds-all f ps a (all-prefixes f ps h) within e)
addresses-by f ps a h within false e = some-any (λ p. has_address p a) ps h.some

pub addresses-hold : (f : Family) (ps : List Prefix) (a : ℕ) → IsFullList f ps → a < 2 ^ width_of f
    → (is_nil (address_elements ps) || any_has (address_elements ps) a) ≡ any_has ps a
addresses-hold f ps a h within = addresses-by f ps a h within (list_any (λ p. p.len == 0) ps) refl

some-bits : (n : ℕ) → (n == 0) ≡ false → 1 ≤ n
some-bits zero h = absurd (false≢true (sym h))
some-bits (suc n) h = omega arith

with-bits : (f : Family) (ps : List Prefix) → AllByRecursion (IsPrefixOf f) ps → list_any (λ p. p.len == 0) ps ≡ false
    → AllByRecursion (λ p. IsPrefixOf f p × (1 ≤ p.len)) ps
with-bits f [] h e = tt
with-bits f (p ∷ ps) h e =
    let parts = or_parts (p.len == 0) (list_any (λ q. q.len == 0) ps) e in
    ((h.0, some-bits p.len parts.0), with-bits f ps h.1 parts.1)

addresses-are-by : (f : Family) (ps : List Prefix) → IsFullList f ps → (b : Bool) → list_any (λ p. p.len == 0) ps ≡ b
    → AllByRecursion (λ p. IsPrefixOf f p × (1 ≤ p.len)) (cond b [] ps)
addresses-are-by f ps h true e = tt
addresses-are-by f ps h false e = with-bits f ps (all-prefixes f ps h) e

pub addresses-are : (f : Family) (ps : List Prefix) → IsFullList f ps
    → AllByRecursion (λ p. IsPrefixOf f p × (1 ≤ p.len)) (address_elements ps)
addresses-are f ps h = addresses-are-by f ps h (list_any (λ p. p.len == 0) ps) refl

-- ---- ports

abbrev pub has_port : ℕ × ℕ → ℕ → Bool
has_port q x = nat_le q.0 x && nat_le x q.1

any-ports : (rs : List Range) (x : ℕ) → list_any {X = ℕ × ℕ} (λ q. has_port q x) (map (λ r. (r.low, r.high)) rs) ≡ holds rs x
any-ports [] x = refl
any-ports (r ∷ rs) x = ap (λ t. (nat_le r.low x && nat_le x r.high) || t) (any-ports rs x)

some-ports : (rs : List Range) → rs ≢ [] → map {B = ℕ × ℕ} (λ r. (r.low, r.high)) rs ≢ []
some-ports [] h = absurd (h refl)
some-ports (r ∷ rs) h = λ e. cc

ports-by : (s : Numbers) (x : ℕ) → s.ranges ≢ [] → x ≤ s.top → (b : Bool) → is_all s ≡ b
    → (is_nil {A = ℕ × ℕ} (map (λ r. (r.low, r.high)) (cond b [] s.ranges))
    || list_any {X = ℕ × ℕ} (λ q. has_port q x) (map (λ r. (r.low, r.high)) (cond b [] s.ranges))) ≡ holds s.ranges x
ports-by s x some within true e = sym (covers-holds s.ranges 0 s.top x e (omega arith) within)
ports-by s x some within false e =
    some-any {A = ℕ × ℕ} (λ q. has_port q x) (map (λ r. (r.low, r.high)) s.ranges) (some-ports s.ranges some) ∙ any-ports s.ranges x

pub ports-hold : (s : Numbers) (x : ℕ) → s.ranges ≢ [] → x ≤ s.top
    → (is_nil {A = ℕ × ℕ} (port_elements s) || list_any {X = ℕ × ℕ} (λ q. has_port q x) (port_elements s)) ≡ holds s.ranges x
ports-hold s x some within = ports-by s x some within (is_all s) refl

ports-are-by : (s : Numbers) (b : Bool) → IsFull 65535 s
    → AllByRecursion {X = ℕ × ℕ} (λ q. (q.0 ≤ q.1) × (q.1 < 65536)) (map (λ r. (r.low, r.high)) (cond b [] s.ranges))
ports-are-by s true h = tt
ports-are-by s false h =
    all-map {B = ℕ × ℕ} (λ q. (q.0 ≤ q.1) × (q.1 < 65536)) (λ r. (r.low, r.high)) s.ranges
    (all-weaker (λ r k. let most = k.1 in (k.0, omega (arith, most))) s.ranges (fit 0 65535 65535 s.ranges h.normal (omega arith)))

pub ports-are : (s : Numbers) → IsFull 65535 s → AllByRecursion {X = ℕ × ℕ} (λ q. (q.0 ≤ q.1) × (q.1 < 65536)) (port_elements s)
ports-are s h = ports-are-by s (is_all s) h

-- ---- numbers

turned : (n m : ℕ) → (n == m) ≡ true → (m == n) ≡ true
turned n m h = (Decides-eqb m n).1 (sym (eqb-true n m h))

same-turned : (n m : ℕ) → (n == m) ≡ (m == n)
same-turned n m = by_tests (n == m) (m == n) (turned n m) (turned m n)
  where
    by_tests : (a b : Bool) → (a ≡ true → b ≡ true) → (b ≡ true → a ≡ true) → a ≡ b
    by_tests true b f g = sym (f refl)
    by_tests false true f g = g refl
    by_tests false false f g = refl

any-turned : (ns : List ℕ) (x : ℕ) → list_any (λ n. n == x) ns ≡ list_any (λ n. x == n) ns
any-turned [] x = refl
any-turned (n ∷ ns) x = ap (λ t. t || list_any (λ m. m == x) ns) (same-turned n x) ∙ ap (λ t. (x == n) || t) (any-turned ns x)

numbers-by : (floor top : ℕ) (s : Numbers) (x : ℕ) → IsNormal floor top s.ranges → s.ranges ≢ [] → x ≤ s.top → (b : Bool) → is_all s ≡ b
    → (is_nil (numbers_of (cond b [] s.ranges)) || list_any (λ n. n == x) (numbers_of (cond b [] s.ranges))) ≡ holds s.ranges x
numbers-by floor top s x normal some within true e = sym (covers-holds s.ranges 0 s.top x e (omega arith) within)
numbers-by floor top s x normal some within false e =
    some-any (λ n. n == x) (numbers_of s.ranges) (some-numbers floor top s.ranges normal some)
    ∙ any-turned (numbers_of s.ranges) x ∙ numbers-any s.ranges x

pub numbers-hold : (top : ℕ) (s : Numbers) (x : ℕ) → IsFull top s → x ≤ s.top
    → (is_nil (number_elements s) || list_any (λ n. n == x) (number_elements s)) ≡ holds s.ranges x
numbers-hold top s x h within = numbers-by 0 top s x h.normal h.some within (is_all s) refl

numbers-are-by : (s : Numbers) (b : Bool) → is_all s ≡ b
    → AllByRecursion (λ n. (is_all s ≡ false) × (holds s.ranges n ≡ true)) (numbers_of (cond b [] s.ranges))
numbers-are-by s true e = tt
numbers-are-by s false e = all-weaker (λ n h. (e, h)) (numbers_of s.ranges) (held s.ranges)

-- each is a number of the set
pub numbers-are : (s : Numbers) → AllByRecursion (λ n. (is_all s ≡ false) × (holds s.ranges n ≡ true)) (number_elements s)
numbers-are s = numbers-are-by s (is_all s) refl

-- they are below 256
pub numbers-small : (s : Numbers) → IsFull 255 s → AllByRecursion (λ n. n < 256) (number_elements s)
numbers-small s h =
    all-weaker {P = λ n. (is_all s ≡ false) × (holds s.ranges n ≡ true)} {Q = λ n. n < 256}
    (λ n k. let most = at_top 0 255 s.ranges n h.normal k.1 in omega (arith, most)) (number_elements s) (numbers-are s)

-- ---- a set that passes a test which 0 does not

pub not-all : (s : Numbers) (test : ℕ → Bool) → test 0 ≡ false → Only test s → is_all s ≡ false
not-all s test none only = by_test (is_all s) refl
  where
    by_test : (b : Bool) → is_all s ≡ b → b ≡ false
    by_test true e = absurd (false≢true (sym none ∙ only 0 (covers-holds s.ranges 0 s.top 0 e zero-le zero-le)))
    by_test false e = refl

pub not-all-elements : (s : Numbers) → is_all s ≡ false → number_elements s ≡ numbers_of s.ranges
not-all-elements s e = ap (λ b. numbers_of (cond b [] s.ranges)) e

low-inside : (r : Range) → r.low ≤ r.high → inside r r.low ≡ true
low-inside r h = and_from (nat_le r.low r.low) (nat_le r.low r.high) ((le_decides r.low r.low).1 (omega arith)) ((le_decides r.low r.high).1 h)

high-inside : (r : Range) → r.low ≤ r.high → inside r r.high ≡ true
high-inside r h = and_from (nat_le r.low r.high) (nat_le r.high r.high) ((le_decides r.low r.high).1 h) ((le_decides r.high r.high).1 (omega arith))

one-row : (low count k : ℕ) → low ≡ k → count ≡ 1 → range_with_len low count ++ [] ≡ k ∷ []
one-row low count k e f = ap (λ n. range_with_len n count ++ []) e ∙ ap (λ n. range_with_len k n ++ []) f

only-one : (floor top : ℕ) (rs : List Range) (k : ℕ) → IsNormal floor top rs → rs ≢ [] → ((x : ℕ) → holds rs x ≡ true → (x == k) ≡ true)
    → numbers_of rs ≡ k ∷ []
only-one floor top [] k n some only = absurd (some refl)
only-one floor top (r ∷ []) k n some only =
    let low = eqb-true r.low k (only r.low (or_left (inside r r.low) false (low-inside r n.1))) in
    let high = eqb-true r.high k (only r.high (or_left (inside r r.high) false (high-inside r n.1))) in
    one-row r.low (r.high + 1 - r.low) k low (omega (arith, low, high))
only-one floor top (r ∷ q ∷ rs) k n some only =
    let low = eqb-true r.low k (only r.low (or_left (inside r r.low) (holds (q ∷ rs) r.low) (low-inside r n.1))) in
    let next = eqb-true q.low k (only q.low (or_right (inside r q.low) (holds (q ∷ rs) q.low)
    (or_left (inside q q.low) (holds rs q.low) (low-inside q n.3.1)))) in
    let behind = n.3.0 in
    let ends = n.1 in
    absurd (omega (arith, low, next, behind, ends))

-- a set that has one number alone has that one element
pub alone : (s : Numbers) (k : ℕ) → IsFull 255 s → (0 == k) ≡ false → Only (λ n. n == k) s → number_elements s ≡ k ∷ []
alone s k h none only = not-all-elements s (not-all s (λ n. n == k) none only) ∙ only-one 0 255 s.ranges k h.normal h.some only
