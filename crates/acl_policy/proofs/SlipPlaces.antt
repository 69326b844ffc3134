-- The file of a slip has a label.
use Rattle.std.proofs.Common.{Result, Ok, Err, IfSome, inl, inr, sym, subst, map}
use Rattle.std.specs.Result.{IfErr}
use Rattle.std.proofs.lemmas.List.Elements.{All-map, All-contains}
use Rattle.acl_text.specs.Answers.{slip_told}
use Rattle.acl_text.specs.declared.faults.Place.{Place}
use Rattle.acl_text.specs.declared.faults.Refusal.{Refusal}
use Rattle.acl_text.specs.declared.faults.Refusal.TheVariants as refusals
use Rattle.acl_text.specs.declared.file_lines.Line.{Line}
use Rattle.acl_words.specs.Labels.{HasLabel, IsLabelled}
use Rattle.acl_words.specs.Splices.{Splice}
use Rattle.acl_policy.specs.PolicyPlaces.{IsSlipPlace}

place_has_label : (s : Splice) (place : Place) → IsLabelled s → IsSlipPlace s.lines place → HasLabel s.labels place
place_has_label s place h (inl e) = subst (HasLabel s.labels) (sym e) h.policy
place_has_label s place h (inr e) = All-contains (HasLabel s.labels) (map (λ (l : Line). l.place) s.lines) place
    (All-map (HasLabel s.labels) (λ (l : Line). l.place) s.lines h.lines_are) e

pub slip_has_label : {X : Type 0} (s : Splice) (r : Result X Refusal) → IsLabelled s
    → IfErr r (λ e. IfSome (slip_told e) (λ x. IsSlipPlace s.lines x.place))
    → IfErr r (λ e. IfSome (slip_told e) (λ x. HasLabel s.labels x.place))
slip_has_label s (Ok x) h k = tt
slip_has_label s (Err (refusals.Slip x)) h k = place_has_label s x.place h k
slip_has_label s (Err refusals.Memory) h k = tt
