-- Where no earlier rule's name has the slot of a rule's name, none has the name.
use Rattle.std.proofs.Common.{◌≡◌, ℕ, ◌+◌, ◌<◌, Bool, true, false, ◌||◌, List, [], ◌∷◌, ◌++◌, ap, sym, ◌∙◌, refl, subst, All, length, get_or, take, drop, arith, Option, None, Some}
use Rattle.std.specs.Option.{is_some, option_or}
use Rattle.std.proofs.lemmas.Bool.{false≢true}
use Rattle.std.proofs.lemmas.List.{drop_more, take_more}
use Rattle.std.proofs.lemmas.List.Elements.{All-append, All-cons, All-head, All-tail}
use Rattle.acl_platform.specs.declared.rules.Rule.{Rule}
use Rattle.acl_platform.specs.declared.filters.Limit.{Limit}
use Rattle.acl_platform.specs.Limits.{first_limit, is_name_taken}
use Rattle.acl_text.specs.NameSlots.{has_slot}
use Rattle.acl_text.proofs.NameSlotLaws.{other_name}
use Rattle.acl_platform.specs.NameSlotSteps.{IsSeen}

pub new_by_slot : (slots : List Bool) (earlier : List Rule) (r : Rule) → All (IsSeen slots) earlier → has_slot slots r.name ≡ false
    → is_name_taken earlier r ≡ false
new_by_slot slots [] r seen free = refl
new_by_slot slots (e ∷ earlier) r seen free =
    ap (λ t. t || is_name_taken earlier r) (other_name slots e.name r.name (All-head (IsSeen slots) e earlier seen) free)
    ∙ new_by_slot slots earlier r (All-tail (IsSeen slots) e earlier seen) free

-- one more rule is earlier, whose name was seen
pub one_more_seen : (old new : List Bool) (rules : List Rule) (i : ℕ) (r : Rule) → i < length rules → get_or rules i r ≡ r
    → IsSeen new r → ((other : List ℕ) → has_slot old other ≡ true → has_slot new other ≡ true)
    → All (IsSeen old) (take i rules) → All (IsSeen new) (take (i + 1) rules)
one_more_seen old new rules i r within is own others seen =
    subst (All (IsSeen new)) (sym (take_more rules i r within ∙ ap (λ x. take i rules ++ x ∷ []) is))
    (All-append (IsSeen new) (take i rules) (r ∷ []) (λ k d below. others (get_or (take i rules) k d).name (seen k d below))
    (All-cons (IsSeen new) r [] own (λ k d below. absurd (omega (arith, below)))))

-- a rule without a limit is passed over
pub one_more_judged : (limit : List Rule → Rule → Option Limit) (rules : List Rule) (i : ℕ) (r : Rule) → i < length rules → get_or rules i r ≡ r
    → limit (take i rules) r ≡ None
    → first_limit limit (take i rules) (drop i rules) ≡ first_limit limit (take (i + 1) rules) (drop (i + 1) rules)
one_more_judged limit rules i r within is none =
    ap (first_limit limit (take i rules)) (drop_more rules i r within ∙ ap (λ x. x ∷ drop (i + 1) rules) is)
    ∙ ap (λ o. option_or o (first_limit limit (take i rules ++ r ∷ []) (drop (i + 1) rules))) none
    ∙ ap (λ e. first_limit limit e (drop (i + 1) rules)) (sym (take_more rules i r within ∙ ap (λ x. take i rules ++ x ∷ []) is))

pub none_found : (limit : Option Limit) → is_some limit ≡ false → limit ≡ None
none_found None h = refl
none_found (Some limit) h = absurd (false≢true (sym h))
