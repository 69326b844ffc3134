use Rattle.std.proofs.Common.{◌∙◌, ◌≤◌, subst, sym, ap, arith}
use Rattle.acl_text.specs.declared.octets.TheConstants.{DIGITS}
use Rattle.std.proofs.Common.{get_or}
use Rattle.acl_text.proofs.OctetTable.{digits_at, few_digits}
use Rattle.acl_text.proofs.octets.octet_digits.Goals as goal

pub returns-clause-exact : goal.returns-clause-exact
returns-clause-exact c =
    c.from-2.ensures ∙ ap (λ i. get_or DIGITS i _) c.from.ensures ∙ digits_at c.args.n _ (omega (arith, c.ranges.n.fits))

pub returns-clause-few : goal.returns-clause-few
returns-clause-few c =
    subst (λ k. k ≤ 3) (sym (returns-clause-exact c)) (few_digits c.args.n (omega (arith, c.ranges.n.fits)))
