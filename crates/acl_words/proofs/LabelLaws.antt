-- Which files have labels.
use Rattle.std.proofs.Common.{ℕ, ◌<◌, List, [], ◌∷◌, ◌++◌, length, IsSome, refl, subst, sym, arith, length-append}
use Rattle.std.specs.Prelude.{slice_get}
use Rattle.std.specs.List.{All}
use Rattle.std.proofs.lemmas.List.Elements.{All-weaker}
use Rattle.std.proofs.lemmas.Option.{slice_get-get_or}
use Rattle.acl_text.specs.declared.file_lines.Line.{Line}
use Rattle.acl_words.specs.Splices.{Splice}
use Rattle.acl_words.specs.Labels.{IsLabelled, HasLabel, GoesOn}

label_below : (labels : List (List ℕ)) (n : ℕ) → n < length labels → IsSome (slice_get labels n)
label_below labels n h = subst IsSome (sym (slice_get-get_or labels n [] h)) refl

pub is_labelled : (old s : Splice) → 0 < length s.labels → GoesOn old s → IsLabelled s
is_labelled old s some on = record {
  policy = label_below s.labels 0 some;
  lines_are = All-weaker (λ (l : Line). l.place.file < length s.labels) (λ l. HasLabel s.labels l.place)
      (λ l lt. label_below s.labels l.place.file lt) s.lines on.files_are;
}

pub of_more_files : (labels : List (List ℕ)) (label : List ℕ) (lines : List Line)
    → All (λ l. l.place.file < length labels) lines
    → All (λ l. l.place.file < length (labels ++ label ∷ [])) lines
of_more_files labels label lines h =
    All-weaker (λ (l : Line). l.place.file < length labels) (λ l. l.place.file < length (labels ++ label ∷ []))
    (λ l lt. omega (arith, lt, length-append labels (label ∷ []))) lines h
