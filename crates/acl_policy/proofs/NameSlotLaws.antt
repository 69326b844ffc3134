-- Where no term's name has the slot of a name, no term has the name.
use Rattle.std.proofs.Common.{◌≡◌, ℕ, Bool, true, false, ◌||◌, List, [], ◌∷◌, ◌++◌, get_or, Result, Ok, Err, OnOk, OnErr, ap, sym, subst, ◌∙◌, refl, All, arith}
use Rattle.std.specs.List.{list_any}
use Rattle.std.specs.Str.{bytes_eq}
use Rattle.std.proofs.lemmas.List.Elements.{All-append, All-cons, All-head, All-tail}
use Rattle.acl_text.specs.declared.texts.Memory.{Memory}
use Rattle.acl_policy.specs.RawTerms.{RawTerm}
use Rattle.acl_text.specs.NameSlots.{has_slot}
use Rattle.acl_text.proofs.NameSlotLaws.{other_name}
use Rattle.acl_policy.specs.NameSlotSteps.{IsSeen}

pub new_by_slot : (slots : List Bool) (terms : List RawTerm) (name : List ℕ) → All (IsSeen slots) terms → has_slot slots name ≡ false
    → list_any (λ t. bytes_eq t.name.text name) terms ≡ false
new_by_slot slots [] name seen free = refl
new_by_slot slots (t ∷ terms) name seen free =
    ap (λ b. b || list_any (λ (r : RawTerm). bytes_eq r.name.text name) terms) (other_name slots t.name.text name (All-head (IsSeen slots) t terms seen) free)
    ∙ new_by_slot slots terms name (All-tail (IsSeen slots) t terms seen) free

more_seen : (old new : List Bool) (terms : List RawTerm) → ((other : List ℕ) → has_slot old other ≡ true → has_slot new other ≡ true)
    → All (IsSeen old) terms → All (IsSeen new) terms
more_seen old new terms others seen k d below = others (get_or terms k d).name.text (seen k d below)

-- the terms are seen behind one more, or without it where memory is wanted
pub one_more_seen : (old new : List Bool) (terms now : List RawTerm) (term : RawTerm) (r : Result (Unit {0}) Memory)
    → OnOk r (now ≡ terms ++ term ∷ []) → OnErr r (now ≡ terms) → IsSeen new term
    → ((other : List ℕ) → has_slot old other ≡ true → has_slot new other ≡ true) → All (IsSeen old) terms → All (IsSeen new) now
one_more_seen old new terms now term (Ok done) ok err own others seen =
    subst (All (IsSeen new)) (sym ok)
    (All-append (IsSeen new) terms (term ∷ []) (more_seen old new terms others seen)
    (All-cons (IsSeen new) term [] own (λ k d below. absurd (omega (arith, below)))))
one_more_seen old new terms now term (Err e) ok err own others seen = subst (All (IsSeen new)) (sym err) (more_seen old new terms others seen)
