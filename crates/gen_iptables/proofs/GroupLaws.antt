-- Groups of ports hold what their set holds, and each is within the weight.
use Rattle.std.proofs.Common.{◌≡◌, ℕ, zero, suc, ◌+◌, ◌-◌, ◌≤◌, Bool, true, false, ◌||◌, ◌==◌, cond, nat_le, List, [], ◌∷◌, length, take, drop, map, refl, ap, sym, subst, ◌∙◌, arith}
use Rattle.std.specs.List.{AllByRecursion, list_any}
use Rattle.std.proofs.lemmas.Bool.{true≢false}
use Rattle.std.proofs.lemmas.List.{length-drop, take-append-drop}
use Rattle.std.proofs.lemmas.List.Folds.{list_any-append}
use Rattle.std.proofs.lemmas.List.Sums.{sum_by-cons}
use Rattle.acl_rows.specs.PortRanges.{IsPortRange}
use Rattle.acl_sets.specs.declared.sets.Range.{Range}
use Rattle.acl_sets.specs.ComputableSets.{is_all}
use Rattle.acl_sets.specs.Groups.{IsGroupEnd, group_length, weight, weight_of}
use Rattle.acl_sets.specs.Ranges.{holds, inside, Numbers}
use Rattle.acl_sets.proofs.ComputableSetLaws.{covers-holds}
use Rattle.acl_sets.proofs.GroupLaws.{group_end-is}
use Rattle.acl_platform.specs.SoundFilters.{IsFull}
use Rattle.acl_platform.proofs.ChoiceLaws.{fit}
use Rattle.acl_platform.proofs.CombinationFacts.{all-weaker, all-map}
use Rattle.acl_rows.specs.RuleParts.{has_port, set_holds}
use Rattle.ipt_lang.specs.Documents.{IsPortList, weight as ports_weight, weight_of as ports_weight_of}
use Rattle.gen_iptables.specs.Groups.{behind_group, first_group, group_choices, groups, groups_up_to}
use Rattle.gen_iptables.specs.Sections.{ends_of}

-- ---- a group has a range

some-room : (b : Bool) (n : ℕ) (rest : ℕ → ℕ) → cond (nat_le (cond b 1 2) 15) (suc (rest (cond b 1 2))) 0 ≡ suc (rest (cond b 1 2))
some-room true n rest = refl
some-room false n rest = refl

-- the length of a first group is one more than that of a group with less room
pub one-at-least : (r : Range) (rs : List Range) → group_length 15 (r ∷ rs) ≡ suc (group_length (15 - weight_of r) rs)
one-at-least r rs = some-room (r.low == r.high) 0 (λ w. group_length (15 - w) rs)

pub first-is : (r : Range) (rs : List Range)
    → first_group (r ∷ rs) ≡ r ∷ take (group_length (15 - weight_of r) rs) rs
first-is r rs = ap (λ k. take k (r ∷ rs)) (one-at-least r rs)

pub behind-is : (r : Range) (rs : List Range)
    → behind_group (r ∷ rs) ≡ drop (group_length (15 - weight_of r) rs) rs
behind-is r rs = ap (λ k. drop k (r ∷ rs)) (one-at-least r rs)

pub behind-shorter : (r : Range) (rs : List Range) (n : ℕ) → length (r ∷ rs) ≤ suc n → length (behind_group (r ∷ rs)) ≤ n
behind-shorter r rs n h =
    let size = ap length (behind-is r rs) in
    let less = length-drop (group_length (15 - weight_of r) rs) rs in
    omega (arith, h, size, less)

-- ---- as many groups as are asked for, or more

enough : (n m : ℕ) (rs : List Range) → length rs ≤ n → length rs ≤ m → groups_up_to n rs ≡ groups_up_to m rs
unfolding groups_up_to
enough zero zero rs h k = refl
enough zero (suc m) [] h k = refl
enough zero (suc m) (r ∷ rs) h k = absurd (omega (arith, h))
enough (suc n) zero [] h k = refl
enough (suc n) zero (r ∷ rs) h k = absurd (omega (arith, k))
enough (suc n) (suc m) [] h k = refl
enough (suc n) (suc m) (r ∷ rs) h k =
    ap (λ gs. first_group (r ∷ rs) ∷ gs) (enough n m (behind_group (r ∷ rs)) (behind-shorter r rs n h) (behind-shorter r rs m k))

pub groups-step : (r : Range) (rs : List Range) → groups (r ∷ rs) ≡ first_group (r ∷ rs) ∷ groups (behind_group (r ∷ rs))
unfolding groups_up_to
groups-step r rs =
    let rest = behind_group (r ∷ rs) in
    ap (λ gs. first_group (r ∷ rs) ∷ gs)
    (enough (length rs) (length rest) rest (behind-shorter r rs (length rs) (omega arith)) (omega arith))

-- ---- which ports some group holds

-- A group holds a port where one of its ranges does; the group without ports holds all.
abbrev pub group_holds : ℕ → List Range → Bool
group_holds port g = set_holds has_port (map ends_of g) port

any-ports : (rs : List Range) (x : ℕ) → list_any (λ q. has_port q x) (map ends_of rs) ≡ holds rs x
any-ports [] x = refl
any-ports (r ∷ rs) x = ap (λ t. inside r x || t) (any-ports rs x)

one-group : (r : Range) (rs : List Range) (x : ℕ) → group_holds x (first_group (r ∷ rs)) ≡ holds (first_group (r ∷ rs)) x
one-group r rs x =
    let more = take (group_length (15 - weight_of r) rs) rs in
    ap (group_holds x) (first-is r rs) ∙ any-ports (r ∷ more) x ∙ sym (ap (λ g. holds g x) (first-is r rs))

any-group-of : (n : ℕ) (rs : List Range) (x : ℕ) → length rs ≤ n
    → list_any (group_holds x) (groups_up_to n rs) ≡ holds rs x
unfolding groups_up_to
any-group-of zero [] x h = refl
any-group-of zero (r ∷ rs) x h = absurd (omega (arith, h))
any-group-of (suc n) [] x h = refl
any-group-of (suc n) (r ∷ rs) x h =
    let front = first_group (r ∷ rs) in
    let rest = behind_group (r ∷ rs) in
    let later = list_any (group_holds x) (groups_up_to n rest) in
    ap (λ t. t || later) (one-group r rs x) ∙ ap (λ t. holds front x || t) (any-group-of n rest x (behind-shorter r rs n h))
    ∙ sym (list_any-append (λ q. inside q x) front rest)
    ∙ ap (λ qs. holds qs x) (take-append-drop (group_length 15 (r ∷ rs)) (r ∷ rs))

any-by : (s : Numbers) (x : ℕ) → x ≤ s.top → (b : Bool) → is_all s ≡ b
    → list_any (group_holds x) (cond b ([] ∷ []) (groups s.ranges)) ≡ holds s.ranges x
any-by s x h true e = sym (covers-holds s.ranges 0 s.top x e (omega arith) h)
any-by s x h false e = any-group-of (length s.ranges) s.ranges x (omega arith)

-- Some group of a set holds a port exactly where the set does.
pub any-group : (s : Numbers) (x : ℕ) → x ≤ s.top → list_any (group_holds x) (group_choices s) ≡ holds s.ranges x
any-group s x h = any-by s x h (is_all s) refl

-- ---- each group is a list of ports that one match takes

same-weight : (rs : List Range) → ports_weight (map ends_of rs) ≡ weight rs
same-weight [] = refl
same-weight (r ∷ rs) =
    sum_by-cons ports_weight_of (ends_of r) (map ends_of rs) ∙ ap (λ n. weight_of r + n) (same-weight rs)

all-taken : {A : Type 0} (P : A → Type 0) (n : ℕ) (xs : List A) → AllByRecursion P xs → AllByRecursion P (take n xs)
all-taken P zero xs h = tt
all-taken P (suc n) [] h = tt
all-taken P (suc n) (x ∷ xs) h = (h.0, all-taken P n xs h.1)

all-left : {A : Type 0} (P : A → Type 0) (n : ℕ) (xs : List A) → AllByRecursion P xs → AllByRecursion P (drop n xs)
all-left P zero xs h = h
all-left P (suc n) [] h = tt
all-left P (suc n) (x ∷ xs) h = all-left P n xs h.1

pub first-end : (rs : List Range) → IsGroupEnd rs 0 15 (group_length 15 rs)
first-end rs =
    let k = group_length 15 rs in
    let same : k ≡ 0 + k = omega arith in
    group_end-is rs 0 15 k (omega arith) same

first-light : (rs : List Range) → weight (first_group rs) ≤ 15
first-light rs =
    let k = group_length 15 rs in
    let same : k - 0 ≡ k = omega arith in
    subst (λ n. weight (take n rs) ≤ 15) same (first-end rs).fits

abbrev IsPort : Range → Type 0
IsPort r = IsPortRange (ends_of r)

first-list : (rs : List Range) → AllByRecursion IsPort rs → IsPortList (map ends_of (first_group rs))
first-list rs h = record {
  each = all-map IsPortRange ends_of (first_group rs) (all-taken IsPort (group_length 15 rs) rs h);
  light = subst (λ n. n ≤ 15) (sym (same-weight (first_group rs))) (first-light rs);
}

each-list : (n : ℕ) (rs : List Range) → AllByRecursion IsPort rs → AllByRecursion (λ g. IsPortList (map ends_of g)) (groups_up_to n rs)
unfolding groups_up_to
each-list zero rs h = tt
each-list (suc n) [] h = tt
each-list (suc n) (r ∷ rs) h =
    (first-list (r ∷ rs) h, each-list n (behind_group (r ∷ rs)) (all-left IsPort (group_length 15 (r ∷ rs)) (r ∷ rs) h))

ports-of-set : (s : Numbers) → IsFull 65535 s → AllByRecursion IsPort s.ranges
ports-of-set s h =
    all-weaker (λ r k. let most = k.1 in (k.0, omega (arith, most))) s.ranges (fit 0 65535 65535 s.ranges h.normal (omega arith))

-- A group of a set: a list of ports, which has none where the set is all.
pub record IsGroupOf (s : Numbers) (g : List Range) : Type 0 where
  pub ports : IsPortList (map ends_of g)
  pub none : is_all s ≡ true → g ≡ []

no-ports : IsPortList []
no-ports = record { each = tt; light = omega arith }

choices-by : (s : Numbers) (b : Bool) → is_all s ≡ b → IsFull 65535 s → AllByRecursion (IsGroupOf s) (cond b ([] ∷ []) (groups s.ranges))
choices-by s true e h = (record { ports = no-ports; none = λ k. refl }, tt)
choices-by s false e h =
    all-weaker (λ g k. record { ports = k; none = λ a. absurd (true≢false (sym a ∙ e)) }) (groups s.ranges)
    (each-list (length s.ranges) s.ranges (ports-of-set s h))

pub all-groups : (s : Numbers) → IsFull 65535 s → AllByRecursion (IsGroupOf s) (group_choices s)
all-groups s h = choices-by s (is_all s) refl h
