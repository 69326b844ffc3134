-- The groups of a list, one after the other.
use Rattle.std.proofs.Common.{◌≡◌, ℕ, ◌+◌, ◌-◌, ◌<◌, ◌≤◌, min, Bool, false, ◌==◌, cond, List, [], ◌∷◌, ◌++◌, length, take, drop, flat_map, ap, sym, subst, ◌∙◌, append_assoc, append-nil, arith}
use Rattle.std.proofs.lemmas.Bool.{true≢false}
use Rattle.std.proofs.lemmas.List.{drop-drop, drop_all, length-drop, take_all}
use Rattle.std.proofs.lemmas.Grind.{flat_map-append}
use Rattle.acl_text.specs.Output.{COUNT_END}
use Rattle.acl_rows.specs.Rows.{Row, text_of_rows}
use Rattle.acl_rows.proofs.PutLaws.{rows_append}
use Rattle.acl_sets.specs.declared.sets.Range.{Range}
use Rattle.acl_sets.specs.ComputableSets.{is_all}
use Rattle.acl_sets.specs.Groups.{group_length}
use Rattle.acl_sets.specs.Ranges.{Numbers}
use Rattle.gen_iptables.proofs.GroupLaws.{groups-step}
use Rattle.gen_iptables.specs.Groups.{behind_group, first_group, group_choices, groups, groups_up_to}

first-of : (rs : List Range) → 0 < length rs → groups rs ≡ first_group rs ∷ groups (behind_group rs)
first-of [] h = absurd (omega (arith, h))
first-of (r ∷ rs) h = groups-step r rs

-- the groups from one place on: a first one, and those from its end on
pub groups-from : (rs : List Range) (from end : ℕ) → from < length rs → end ≡ from + group_length 15 (drop from rs)
    → groups (drop from rs) ≡ first_group (drop from rs) ∷ groups (drop end rs)
groups-from rs from end h e =
    let size = length-drop from rs in
    first-of (drop from rs) (omega (arith, h, size))
    ∙ ap (λ l. first_group (drop from rs) ∷ groups l) (drop-drop (group_length 15 (drop from rs)) from rs ∙ ap (λ n. drop n rs) (sym e))

pub no-groups : (rs : List Range) (from : ℕ) → length rs ≤ from → groups (drop from rs) ≡ []
unfolding groups_up_to
no-groups rs from h = ap groups (drop_all from rs h)

-- a list that its first group goes to the end of
pub one-group : (rs : List Range) → (length rs == 0) ≡ false → length rs ≤ group_length 15 rs → groups rs ≡ rs ∷ []
one-group [] some end = absurd (true≢false some)
one-group (r ∷ rs) some end =
    let all = r ∷ rs in
    let size = group_length 15 all in
    groups-step r rs ∙ ap (λ group. group ∷ groups (behind_group all)) (take_all size all end)
    ∙ ap (λ later. all ∷ later) (no-groups all size end)

-- a set that is not all gives its groups
pub listed : (s : Numbers) {b : Bool} → b ≡ is_all s → b ≡ false → groups s.ranges ≡ group_choices s
listed s e h = ap (λ all. cond all ([] ∷ []) (groups s.ranges)) (sym h ∙ e)

-- ---- what is written

-- the group that is put: the ranges from one place up to another
pub group-text : (f : List Range → List Row) (ranges rs : List Range) (from end : ℕ) → ranges ≡ rs → end ≡ from + group_length 15 (drop from rs)
    → text_of_rows (f (take (end - from) (drop from ranges))) ≡ text_of_rows (f (first_group (drop from rs)))
group-text f ranges rs from end is e =
    let size : end - from ≡ group_length 15 (drop from rs) = omega (arith, e) in
    ap (λ l. text_of_rows (f (take (end - from) (drop from l)))) is ∙ ap (λ k. text_of_rows (f (take k (drop from rs)))) size

-- some groups, one more, and the rest
pub one-further : (front : List (List Range)) (ranges rs : List Range) (from end : ℕ) → ranges ≡ rs → from < length ranges
    → end ≡ from + group_length 15 (drop from rs) → front ++ groups (drop from rs) ≡ groups rs
    → (front ++ first_group (drop from rs) ∷ []) ++ groups (drop end rs) ≡ groups rs
one-further front ranges rs from end is h e before =
    let P : List Range → Type 0 = λ l. from < length l in
    let group = first_group (drop from rs) in
    append_assoc front (group ∷ []) (groups (drop end rs)) ∙ ap (λ t. front ++ t) (sym (groups-from rs from end (subst P is h) e)) ∙ before

pub more-text : {A : Type 0} (f : A → List Row) (front : List A) (g : A)
    → text_of_rows (flat_map f front) ++ text_of_rows (f g) ≡ text_of_rows (flat_map f (front ++ g ∷ []))
more-text f front g =
    rows_append (flat_map f front) (f g)
    ∙ ap text_of_rows (ap (λ t. flat_map f front ++ t) (sym (append-nil (f g))) ∙ sym (flat_map-append f front (g ∷ [])))

pub whole-text : {A : Type 0} (f : A → List Row) (front : List A) (g : A) (later : List A) {all : List A} → (front ++ g ∷ []) ++ later ≡ all
    → (text_of_rows (flat_map f front) ++ text_of_rows (f g)) ++ text_of_rows (flat_map f later) ≡ text_of_rows (flat_map f all)
whole-text f front g later h =
    ap (λ t. t ++ text_of_rows (flat_map f later)) (more-text f front g)
    ∙ rows_append (flat_map f (front ++ g ∷ [])) (flat_map f later)
    ∙ ap text_of_rows (sym (flat_map-append f (front ++ g ∷ []) later) ∙ ap (flat_map f) h)

-- ---- how many

pub counted : (count more : ℕ) (rs : List Range) (from end : ℕ) → from < length rs → end ≡ from + group_length 15 (drop from rs)
    → more ≡ min (count + 1) COUNT_END
    → min (more + length (groups (drop end rs))) COUNT_END ≡ min (count + length (groups (drop from rs))) COUNT_END
counted count more rs from end h e plus =
    let step = ap length (groups-from rs from end h e) in
    omega (arith, step, plus)

pub none-left : (rs : List Range) (from : ℕ) → length rs ≤ from → length (groups (drop from rs)) ≡ 0
none-left rs from h = ap length (no-groups rs from h)
