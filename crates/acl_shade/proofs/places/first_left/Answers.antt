use Rattle.std.proofs.Common.{◌≡◌, ℕ, ◌+◌, ◌*◌, ◌/◌, ◌%◌, ◌^◌, Bool, true, ◌&&◌, ◌==◌, get_or, inl, inr, sym, ap, ◌∙◌, subst, arith}
use Rattle.std.proofs.lemmas.Bool.{and_from, and_parts, both_ways, cases_Bool, cases_lt, eq-eqb}
use Rattle.std.proofs.lemmas.List.{get_or_default}
use Rattle.acl_terms.specs.declared.terms.Term.{Term}
use Rattle.acl_shade.specs.ComputableShading.{shades}
use Rattle.acl_shade.specs.Sifting.{RowHas}
use Rattle.acl_shade.proofs.BitLaws.{from-row}
use Rattle.acl_shade.proofs.SiftLaws.{dead-unshaded, first-told, none-left, none-told, unshaded-out}
use Rattle.acl_shade.proofs.places.first_left.Goals as goal

pub returns-then-not-is_live_on_some : goal.returns-then-not-is_live_on_some
returns-then-not-is_live_on_some c =
    let a = c.args in
    let t = c.index-terms-place in
    none-told a.targets.now a.today a.terms.now a.place t.result c.requires.there t.is
    (λ i d before. dead-unshaded a.targets.now a.today (get_or a.terms.now i d) t.result
    (sym c.is_live_on_some.ensures ∙ c.if-not-is_live_on_some.true))

pub loop-at-preserved-then-rest-eq0 : goal.loop-at-preserved-then-rest-eq0
loop-at-preserved-then-rest-eq0 c = λ i d small before.
    let a = c.args in
    let t = c.index-terms-place in
    elim (cases_lt i c.loop-at.at) [
      | inl past ↦ c.loop-at.invariant i d past before
      | inr next ↦ unshaded-out a.targets.now a.today a.terms.now a.place t.result c.requires.there t.is
          (λ k. RowHas a.width a.left.now a.place k) c.requires.shading i d before
          (none-left a.width a.left.now a.place c.loop-at.at i c.if-rest-eq0.true next small)
    ]

pub returns-then-is_left : goal.returns-then-is_left
returns-then-is_left c =
    let a = c.args in
    let t = c.index-terms-place in
    let at : ℕ = c.loop-at.at in
    let there = c.requires.there in
    let before = c.loop-at-test.true in
    let odd : Bool = get_or a.left.now (a.place * a.width + at / 64) 0 / 2 ^ (at % 64) % 2 == 1 in
    let found = (and_parts odd (shades a.targets.now a.today c.index-terms-at.result t.result)
    (sym c.is_left.ensures ∙ c.if-is_left.true)).1 in
    first-told a.targets.now a.today a.terms.now a.place t.result there t.is at before
    (subst (λ (x : Term). shades a.targets.now a.today x t.result ≡ true)
    (c.index-terms-at.is ∙ get_or_default a.terms.now at c.index-terms-at.result t.result (omega arith)) found)
    (λ i d small. c.loop-at.invariant i d small (omega arith))

pub loop-at-preserved : goal.loop-at-preserved
loop-at-preserved c = λ i d small before.
    let a = c.args in
    let t = c.index-terms-place in
    let at : ℕ = c.loop-at.at in
    let there = c.requires.there in
    let odd : Bool = get_or a.left.now (a.place * a.width + at / 64) 0 / 2 ^ (at % 64) % 2 == 1 in
    elim (cases_lt i at) [
      | inl past ↦ c.loop-at.invariant i d past before
      | inr next ↦
          let here : i ≡ at = omega arith in
          let this = ap (λ n. get_or a.terms.now n d) here
          ∙ get_or_default a.terms.now at d c.index-terms-at.result (omega arith) ∙ sym c.index-terms-at.is in
          let shading : Bool = shades a.targets.now a.today c.index-terms-at.result t.result in
          elim (cases_Bool shading) [
            | inl h ↦ unshaded-out a.targets.now a.today a.terms.now a.place t.result there t.is
                (λ k. RowHas a.width a.left.now a.place k) c.requires.shading i d before
                (λ has. both_ways (odd && shading) (sym c.is_left.ensures ∙ c.if-is_left.false)
                (and_from odd shading (eq-eqb _ 1 (from-row a.left.now (a.place * a.width) at
                (subst (λ k. RowHas a.width a.left.now a.place k) here has))) h))
            | inr h ↦ ap (λ (x : Term). shades a.targets.now a.today x t.result) this ∙ h
          ]
    ]

pub returns : goal.returns
returns c =
    let a = c.args in
    let t = c.index-terms-place in
    none-told a.targets.now a.today a.terms.now a.place t.result c.requires.there t.is
    (λ i d before. c.loop-at.invariant i d (omega arith) before)
