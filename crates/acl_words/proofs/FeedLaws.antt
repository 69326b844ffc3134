-- No line of a file holds a line feed.
use Rattle.std.proofs.Common.{◌≡◌, ℕ, ◌==◌, Bool, true, false, if◌then◌else◌, List, [], ◌∷◌, refl, subst}
use Rattle.std.specs.List.{AllByRecursion}
use Rattle.acl_text.specs.Cursors.{onto_first, lines_of}
use Rattle.acl_words.specs.LineTexts.{HasNoFeed}

onto_line : (b : ℕ) (texts : List (List ℕ)) → (b == 10) ≡ false → AllByRecursion HasNoFeed texts
    → AllByRecursion HasNoFeed (onto_first b texts)
onto_line b [] e h = (rw e refl, tt)
onto_line b (text ∷ texts) e h = (rw (e, h.0) refl, h.1)

pub lines_have_none : (bs : List ℕ) → AllByRecursion HasNoFeed (lines_of bs)
lines_have_none [] = tt
lines_have_none (b ∷ bs) = elim (b == 10)
    as (λ (c : Bool). (b == 10) ≡ c → AllByRecursion HasNoFeed (if c then [] ∷ lines_of bs else onto_first b (lines_of bs))) [
      | true ↦ λ e. (refl, lines_have_none bs)
      | false ↦ λ e. onto_line b (lines_of bs) e (lines_have_none bs)
    ] refl

pub first_has_none : (texts others : List (List ℕ)) (text : List ℕ) → texts ≡ text ∷ others
    → AllByRecursion HasNoFeed texts → HasNoFeed text
first_has_none texts others text e h = (subst (AllByRecursion HasNoFeed) e h).0

pub others_have_none : (texts others : List (List ℕ)) (text : List ℕ) → texts ≡ text ∷ others
    → AllByRecursion HasNoFeed texts → AllByRecursion HasNoFeed others
others_have_none texts others text e h = (subst (AllByRecursion HasNoFeed) e h).1
