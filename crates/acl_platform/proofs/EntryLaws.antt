-- Entries with one decision in front of others, for walks that stop at the first entry that holds.
use Rattle.std.proofs.Common.{◌≡◌, Bool, true, false, ◌||◌, cond, List, [], ◌∷◌, ◌++◌, map, flat_map, refl, ap, ◌∙◌, append_assoc}
use Rattle.std.specs.List.{list_any}

one-of-two : {R : Type 0} (here later : Bool) (d rest : R) → cond here d (cond later d rest) ≡ cond (here || later) d rest
one-of-two true later d rest = refl
one-of-two false later d rest = refl

-- Where the items of each choice decide alike what the choice's test holds, and pass on the rest, so
-- do the items of all choices what some test holds. A choice may have several items.
pub over-entries : {C I R : Type 0} (walk : List I → R) (items : C → List I) (test : C → Bool) (d : R)
    → ((c : C) (more : List I) → walk (items c ++ more) ≡ cond (test c) d (walk more))
    → (cs : List C) (rest : List I) → walk (flat_map items cs ++ rest) ≡ cond (list_any test cs) d (walk rest)
over-entries walk items test d each [] rest = refl
over-entries walk items test d each (c ∷ cs) rest =
    let later = flat_map items cs in
    ap walk (append_assoc (items c) later rest) ∙ each c (later ++ rest)
    ∙ ap (λ o. cond (test c) d o) (over-entries walk items test d each cs rest)
    ∙ one-of-two (test c) (list_any test cs) d (walk rest)

as-flat : {A B : Type 0} (f : A → B) (xs : List A) → map f xs ≡ flat_map (λ x. f x ∷ []) xs
as-flat f [] = refl
as-flat f (x ∷ xs) = ap (λ t. f x ∷ t) (as-flat f xs)

-- The same where each choice has one item.
pub over-items : {C I R : Type 0} (walk : List I → R) (item : C → I) (test : C → Bool) (d : R)
    → ((c : C) (more : List I) → walk (item c ∷ more) ≡ cond (test c) d (walk more))
    → (cs : List C) (rest : List I) → walk (map item cs ++ rest) ≡ cond (list_any test cs) d (walk rest)
over-items walk item test d each cs rest =
    ap (λ items. walk (items ++ rest)) (as-flat item cs) ∙ over-entries walk (λ c. item c ∷ []) test d each cs rest
