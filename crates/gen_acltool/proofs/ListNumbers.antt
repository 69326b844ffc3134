-- The lists of targets that differ in number.
use Rattle.std.proofs.Common.{◌≡◌, ◌≢◌, ℕ, suc, ◌<◌, ◌≤◌, Bool, true, false, ◌&&◌, List, [], ◌∷◌, length, get_or, map, flat_map, AllPairs, sym, ◌∙◌, arith}
use Rattle.std.specs.Fmt.{decimal}
use Rattle.std.specs.List.{AllByRecursion, IsDistinct}
use Rattle.std.specs.Str.{bytes_eq}
use Rattle.std.proofs.lemmas.Bool.{and_parts, false_from_ne_true}
use Rattle.std.proofs.lemmas.Fmt.{decimal_injective}
use Rattle.std.proofs.lemmas.Slice.Eq.{bytes_eq-Decides}
use Rattle.acl_target.specs.declared.targets.Kind.TheVariants.{Cisco}
use Rattle.acl_target.specs.declared.targets.Target.{Target}
use Rattle.acl_platform.specs.declared.filters.Filter.{Filter}
use Rattle.acl_platform.specs.Limits.{is_for}
use Rattle.acl_platform.specs.SoundFilters.{target_of}
use Rattle.acl_platform.proofs.AcceptedFilters.{kind-is}
use Rattle.std_lang.specs.Documents.{list_names}
use Rattle.gen_acltool.specs.Limits.{has_number, is_for_standard, is_inet}
use Rattle.gen_acltool.specs.ListNumbers.{ListsDiffer}
use Rattle.gen_acltool.specs.Sections.{list_number, section_of}
use Rattle.gen_acltool.proofs.SectionLaws.{number-is}

abbrev IsNumbered : ℕ → Filter → Type 0
IsNumbered first f = (is_for_standard first f ≡ true) × (1 ≤ f.number)

abbrev Differ : Target → Target → Type 0
Differ a b = a.kind ≡ b.kind → a.number ≢ b.number

cisco-is : (first : ℕ) (f : Filter) → is_for_standard first f ≡ true → f.kind ≡ Cisco
cisco-is first f h = kind-is Cisco f (and_parts (is_for Cisco f) (is_inet f.families && has_number first f) h).0

pub numbers-apart : (m n : ℕ) → m ≤ 99 → n ≤ 99 → m ≢ n → bytes_eq (decimal m) (decimal n) ≡ false
numbers-apart m n h k differ = false_from_ne_true (bytes_eq (decimal m) (decimal n)) (λ e.
    differ (decimal_injective m n (omega (arith, h)) (omega (arith, k)) ((bytes_eq-Decides (decimal m) (decimal n)).0 e)))

names-apart : (first : ℕ) (f g : Filter) → IsNumbered first f → IsNumbered first g → f.number ≢ g.number
    → bytes_eq (decimal (list_number first f)) (decimal (list_number first g)) ≡ false
names-apart first f g h k differ =
    let low = number-is first f h.0 in
    let high = number-is first g k.0 in
    numbers-apart (list_number first f) (list_number first g) low.1 high.1 (λ same. differ (omega (arith, same, low.0, h.1, k.1)))

each-behind : {A : Type 0} (P : A → Type 0) (xs : List A) → ((k : ℕ) (d : A) → k < length xs → P (get_or xs k d)) → AllByRecursion P xs
each-behind P [] h = tt
each-behind P (x ∷ xs) h = (h 0 x (omega arith), each-behind P xs (λ k d l. h (suc k) d (omega (arith, l))))

later-pairs : {A : Type 0} (R : A → A → Type 0) (x : A) (xs : List A) → AllPairs R (x ∷ xs) → AllPairs R xs
later-pairs R x xs h = λ i j d below within. h (suc i) (suc j) d (omega (arith, below)) (omega (arith, within))

first-pairs : {A : Type 0} (R : A → A → Type 0) (x : A) (xs : List A) → AllPairs R (x ∷ xs) → AllByRecursion (R x) xs
first-pairs R x xs h = each-behind (R x) xs (λ k d l. h 0 (suc k) d (omega arith) (omega (arith, l)))

all-apart : (first : ℕ) (f : Filter) (stateful : Bool) (fs : List Filter) → IsNumbered first f → AllByRecursion (IsNumbered first) fs
    → AllByRecursion (Differ (target_of stateful f)) (map (target_of stateful) fs)
    → AllByRecursion (λ name. bytes_eq (decimal (list_number first f)) name ≡ false) (flat_map list_names (map (section_of first) fs))
all-apart first f stateful [] h k d = tt
all-apart first f stateful (g ∷ fs) h k d =
    (names-apart first f g h k.0 (d.0 (cisco-is first f h.0 ∙ sym (cisco-is first g k.0.0))), all-apart first f stateful fs h k.1 d.1)

pub lists_differ : ListsDiffer
unfolding IsDistinct
lists_differ first [] stateful h d = tt
lists_differ first (f ∷ fs) stateful h d =
    let t = target_of stateful f in
    let ts = map (target_of stateful) fs in
    (all-apart first f stateful fs h.0 h.1 (first-pairs Differ t ts d), lists_differ first fs stateful h.1 (later-pairs Differ t ts d))
