use Rattle.std.proofs.Common.{ℕ, ◌+◌, ◌-◌, List, ◌∷◌, length, ap, sym, subst, ◌∙◌, arith}
use Rattle.std.proofs.lemmas.Nat.{pow_pos}
use Rattle.std.specs.Iterator.{YieldsFirst}
use Rattle.acl_packet.specs.declared.addresses.Prefix.{Prefix}
use Rattle.acl_packet.specs.Addresses.{top_address, width_of}
use Rattle.acl_sets.specs.declared.sets.Range.{Range}
use Rattle.acl_sets.specs.Ranges.{IsNormal}
use Rattle.acl_sets.specs.ComputableLeastLists.{block, halved_space}
use Rattle.acl_sets.specs.CutSteps.{ranges_from}
use Rattle.acl_sets.proofs.CutFacts.{free-fits}
use Rattle.acl_sets.proofs.CutWalks.{behind_block, behind_range, from_low_end, nothing_left}
use Rattle.acl_sets.proofs.prefixes_left.PrefixesLeftIterator.next.Goals as goal
use Rattle.acl_sets.proofs.prefixes_left.PrefixesLeftIterator.next.Goals.{then-block-range, else-block-range}

pub returns-in_err-range-clause-steps : goal.returns-in_err-range-clause-steps
returns-in_err-range-clause-steps c =
    let e = sym c.self.view_is ∙ nothing_left c.self.inside.family c.self.inside.first c.self.inside.rest c.in_err-range.ensures.none in
    subst (λ r. YieldsFirst {A = Prefix} (λ l. l) c.args.self.now r c.args.self.now) (sym c.from_residual.ensures) (e, e)

pub overflow_sub-prefix : goal.overflow_sub-prefix
overflow_sub-prefix c =
    let f = c.self.inside.family in
    let N : List Range → Type 0 = λ z. IsNormal 0 (top_address f) (ranges_from c.self.inside.first z) in
    let n = subst N c.in_ok-range.ensures.some c.self.invariant in
    omega (
      arith,
      c.width.ensures,
      free-fits f c.self.inside.first c.in_ok-range.range.high c.longest_block-block.result.free
          (omega (arith, n.2, pow_pos (width_of f))) c.longest_block-block.ensures.longest,
    )

pub returns-clause-steps : goal.returns-clause-steps
returns-clause-steps c =
    let f = c.self.inside.family in
    let first = c.self.inside.first in
    let r = c.in_ok-range.range in
    let rs = c.in_ok-range.behind in
    let free = c.longest_block-block.result.free in
    let longest = c.longest_block-block.ensures.longest in
    let N : List Range → Type 0 = λ z. IsNormal 0 (top_address f) (ranges_from first z) in
    let n = subst N c.in_ok-range.ensures.some c.self.invariant in
    let left : ℕ × List Range → List Prefix = λ p. halved_space f (ranges_from p.0 p.1) in
    let all = sym c.self.view_is ∙ ap (λ (z : List Range). halved_space f (ranges_from first z)) c.in_ok-range.ensures.some in
    let length_is = ap (λ z. record { family = f; first = first; len = z - free } ∷ left c.if-block-range.first) (sym c.width.ensures) in
    elim c.if-block-range.branch [
      | then-block-range w ↦
          let same = ap (λ z. halved_space f (ranges_from z rs)) w.low_end.ensures ∙ ap (halved_space f) (from_low_end rs) in
          all ∙ behind_range f first free r rs n longest (omega (arith, c.longest_block-block.ensures.last, w.if-block-range.true))
          ∙ ap (λ (ps : List Prefix). block f free first ∷ ps) (sym (ap left w.first-is ∙ same)) ∙ length_is
      | else-block-range w ↦
          let last = c.longest_block-block.ensures.last in
          let next = ap (λ z. halved_space f (record { low = z; high = r.high } ∷ rs)) last in
          let same = ap (λ (z : List Range). halved_space f (ranges_from (c.longest_block-block.result.last + 1) z)) c.in_ok-range.ensures.some in
          all ∙ behind_block f first free r rs n longest (omega (arith, last, longest.fits.1, w.if-block-range.false))
          ∙ ap (λ (ps : List Prefix). block f free first ∷ ps) (sym (ap left w.first-is ∙ ap (λ z. left (c.longest_block-block.result.last + 1, z)) w.copy.ensures ∙ same ∙ next)) ∙ length_is
    ]

pub returns-clause-goes : goal.returns-clause-goes
returns-clause-goes c = record {
  on = λ _. (tt, tt, omega (arith, ap length (returns-clause-steps c)));
  keeps = tt;
  rests = λ _. tt;
}
