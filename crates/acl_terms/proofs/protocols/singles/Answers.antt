use Rattle.std.proofs.Common.{◌≡◌, ℕ, ◌+◌, List, [], ◌∷◌, ◌++◌, map, drop, get_or, ap, sym, ◌∙◌, add-one, append_assoc, arith}
use Rattle.std.proofs.Math.Seq.{drop-cons}
use Rattle.std.proofs.lemmas.List.Elements.{All-push, All-same}
use Rattle.acl_sets.specs.declared.sets.Range.{Range}
use Rattle.acl_sets.specs.Ranges.{IsRange}
use Rattle.acl_terms.specs.SetSteps.{single}
use Rattle.acl_terms.proofs.protocols.singles.Goals as goal

pub loop-number-preserved : goal.loop-number-preserved
loop-number-preserved c =
    let numbers = c.args.numbers.now in
    let i = c.loop-number.number-index in
    let rest = map single (drop (i + 1) numbers) in
    let old = c.loop-number.out.items in
    let number = c.from-number.result in
    let had = c.loop-number.invariant in
    let step : drop i numbers ≡ get_or numbers i 0 ∷ drop (i + 1) numbers =
    rw add-one (drop-cons numbers i 0 c.loop-number-test.true) in
    record {
      same = ap (λ (rs : List Range). rs ++ rest) c.in_ok-push.ensures.items
          ∙ append_assoc old (single number ∷ []) rest
          ∙ ap (λ (n : ℕ). old ++ (single n ∷ rest)) c.from-number.ensures
          ∙ sym (ap (λ (ns : List ℕ). old ++ map single ns) step) ∙ had.same;
      fit = All-same (IsRange 255) c.push.new.self.items (old ++ single number ∷ []) c.in_ok-push.ensures.items
          (All-push (IsRange 255) old (single number) had.fit (omega arith, omega (arith, c.from-number.ensures)));
    }
