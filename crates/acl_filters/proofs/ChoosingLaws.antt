-- Filters that are chosen: lists of them that are added one behind the other.
use Rattle.std.proofs.Common.{◌≡◌, Bool, true, false, if◌then◌else◌, List, [], ◌∷◌, ◌++◌, map, Option, None, Some, Result, Ok, Err, refl, ap, sym, ◌∙◌, append_assoc, append-nil}
use Rattle.std.specs.Prelude.{IsErrAnd}
use Rattle.std.specs.Option.{option_or}
use Rattle.std.specs.List.{filter}
use Rattle.std.proofs.lemmas.List.{map-append}
use Rattle.std.proofs.lemmas.List.Elements.{filter-append}
use Rattle.acl_text.specs.declared.faults.Refusal.{Refusal}
use Rattle.acl_text.specs.declared.faults.Refusal.TheVariants as refusals
use Rattle.acl_text.specs.declared.faults.Slip.{Slip}
use Rattle.acl_text.specs.Refusals.{first_in}
use Rattle.acl_host.specs.declared.days.Day.{Day}
use Rattle.acl_terms.proofs.SlipLaws.{first-in-append}
use Rattle.acl_platform.specs.declared.filters.Filter.{Filter}
use Rattle.acl_filters.specs.AskedFilters.{FilterRequest}
use Rattle.acl_filters.specs.FilterRequests.{filter_for}
use Rattle.acl_filters.specs.ChosenFilters.{GivesFilter, IsFilterOf, chosen_slip}
use Rattle.acl_filters.specs.ChoosingSteps.{Adds, AddsAll}
use Rattle.acl_filters.proofs.FilterLaws.{both-none}

module _ (chosen : FilterRequest → Bool) (slip : FilterRequest → Option Slip) (today : Day) where
  -- ---- none, and one

  only : (r : FilterRequest) → chosen r ≡ true → filter chosen (r ∷ []) ≡ r ∷ []
  only r e = ap (λ (b : Bool). if b then r ∷ [] else []) e

  passed-over : (r : FilterRequest) → chosen r ≡ false → filter chosen (r ∷ []) ≡ []
  passed-over r e = ap (λ (b : Bool). if b then r ∷ [] else []) e

  -- a target that has no filter
  pub adds-passed : (r : FilterRequest) (filters : List Filter) → chosen r ≡ false → AddsAll chosen slip today (r ∷ []) filters filters
  adds-passed r filters e = record {
    no_slip = ap (first_in slip) (passed-over r e);
    filters_are = sym (append-nil filters) ∙ ap (λ rs. filters ++ map (filter_for today) rs) (sym (passed-over r e));
  }

  -- the filter of a target
  pub adds-one : (r : FilterRequest) (f : Filter) (old new : List Filter) → chosen r ≡ true → IsFilterOf slip today r f → new ≡ old ++ f ∷ []
      → AddsAll chosen slip today (r ∷ []) old new
  adds-one r f old new asked one is = record {
    no_slip = ap (first_in slip) (only r asked) ∙ both-none (slip r) None one.no_slip refl;
    filters_are = is ∙ ap (λ g. old ++ g ∷ []) one.filter_is ∙ ap (λ rs. old ++ map (filter_for today) rs) (sym (only r asked));
  }

  -- its slip
  pub adds-none : {X : Type 0} (r : FilterRequest) (old new : List Filter) (e : Refusal) (given : Result X Refusal) → chosen r ≡ true
      → GivesFilter slip today r (Err e) → IsErrAnd given (λ x. x ≡ e) → Adds {X = X} chosen slip today (r ∷ []) old new given
  adds-none r old new e (Ok x) asked gives is = absurd is
  adds-none r old new (refusals.Slip s) (Err (refusals.Slip t)) asked gives is =
      let same : s ≡ t = cc in
      ap (first_in slip) (only r asked) ∙ ap (λ o. option_or o None) gives ∙ ap Some same
  adds-none r old new (refusals.Slip s) (Err refusals.Memory) asked gives is = tt
  adds-none r old new refusals.Memory (Err (refusals.Slip t)) asked gives is = absurd (cc)
  adds-none r old new refusals.Memory (Err refusals.Memory) asked gives is = tt

  -- ---- several

  slips-append : (xs ys : List FilterRequest) → chosen_slip chosen slip (xs ++ ys) ≡ option_or (chosen_slip chosen slip xs) (chosen_slip chosen slip ys)
  slips-append xs ys = ap (first_in slip) (filter-append chosen xs ys) ∙ first-in-append slip (filter chosen xs) (filter chosen ys)

  filters-append : (xs ys : List FilterRequest)
      → map (filter_for today) (filter chosen (xs ++ ys)) ≡ map (filter_for today) (filter chosen xs) ++ map (filter_for today) (filter chosen ys)
  filters-append xs ys =
      ap (map (filter_for today)) (filter-append chosen xs ys) ∙ map-append (filter_for today) (filter chosen xs) (filter chosen ys)

  pub adds-append : {X : Type 0} (xs ys : List FilterRequest) (p q s : List Filter) (r : Result X Refusal)
      → AddsAll chosen slip today xs p q → Adds chosen slip today ys q s r → Adds chosen slip today (xs ++ ys) p s r
  adds-append xs ys p q s (Ok x) h k = record {
    no_slip = slips-append xs ys ∙ both-none (chosen_slip chosen slip xs) (chosen_slip chosen slip ys) h.no_slip k.no_slip;
    filters_are = k.filters_are ∙ ap (λ fs. fs ++ map (filter_for today) (filter chosen ys)) h.filters_are
        ∙ append_assoc p (map (filter_for today) (filter chosen xs)) (map (filter_for today) (filter chosen ys))
        ∙ ap (λ fs. p ++ fs) (sym (filters-append xs ys));
  }
  adds-append xs ys p q s (Err (refusals.Slip e)) h k =
      slips-append xs ys ∙ ap (λ o. option_or o (chosen_slip chosen slip ys)) h.no_slip ∙ k
  adds-append xs ys p q s (Err refusals.Memory) h k = tt

  pub adds-slip : {X Y : Type 0} (xs ys : List FilterRequest) (p s : List Filter) (e : Refusal) (q : Result X Refusal)
      (r : Result Y Refusal) → q ≡ Err e → Adds chosen slip today xs p s q → IsErrAnd r (λ x. x ≡ e) → Adds chosen slip today (xs ++ ys) p s r
  adds-slip xs ys p s e q (Ok y) was h is = absurd is
  adds-slip xs ys p s e (Ok x) (Err f) was h is = absurd (cc)
  adds-slip xs ys p s e (Err (refusals.Slip a)) (Err (refusals.Slip b)) was h is =
      let same : a ≡ b = cc in
      slips-append xs ys ∙ ap (λ o. option_or o (chosen_slip chosen slip ys)) h ∙ ap Some same
  adds-slip xs ys p s e (Err (refusals.Slip a)) (Err refusals.Memory) was h is = tt
  adds-slip xs ys p s e (Err refusals.Memory) (Err (refusals.Slip b)) was h is = absurd (cc)
  adds-slip xs ys p s e (Err refusals.Memory) (Err refusals.Memory) was h is = tt
