use Rattle.std.proofs.Common.{◌≡◌, ℕ, ◌+◌, true, if◌then◌else◌, slice_set, List, [], ◌∷◌, ◌++◌, drop, get_or, length, ap, sym, ◌∙◌, add-one, append_assoc, append-nil}
use Rattle.std.proofs.Math.Seq.{drop-cons}
use Rattle.acl_naming.specs.MarkSteps.{mark_all, marked, unmarked}
use Rattle.acl_naming.proofs.MarkLaws.{length_mark}
use Rattle.acl_naming.proofs.marking.mark_links.Goals as goal

one_more : (places new rest : List ℕ) → (places ++ (new ++ [])) ++ rest ≡ places ++ (new ++ rest)
one_more places new rest = ap (λ more. (places ++ more) ++ rest) (append-nil new) ∙ append_assoc places new rest

pub loop-link-preserved : goal.loop-link-preserved
loop-link-preserved c =
    let links = c.args.links.now in
    let i = c.loop-link.link-index in
    let j = get_or links i 0 in
    let rest = drop (i + 1) links in
    let marks = c.loop-link.marks in
    let places = c.loop-link.places.items in
    let is = c.in_ok-mark.ensures.marked in
    let had = c.loop-link.invariant in
    let step : drop i links ≡ j ∷ rest = rw add-one (drop-cons links i 0 c.loop-link-test.true) in
    record {
      fits = ap length is ∙ length_mark marks j ∙ had.fits;
      goes = ap (mark_all rest) is ∙ sym (ap (λ js. mark_all js marks) step) ∙ had.goes;
      adds = ap (λ m. c.mark.new.places.items ++ unmarked rest m) is
          ∙ ap (λ more. more ++ unmarked rest (slice_set marks j true)) c.in_ok-mark.ensures.added
          ∙ one_more places (if marked marks j then [] else j ∷ []) (unmarked rest (slice_set marks j true))
          ∙ sym (ap (λ js. places ++ unmarked js marks) step) ∙ had.adds;
    }
