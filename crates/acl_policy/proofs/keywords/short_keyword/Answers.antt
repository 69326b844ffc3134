use Rattle.std.proofs.Common.{refl, arith, sym}
use Rattle.acl_policy.proofs.RowLaws.{of_one, of_two, of_three, not_named}
use Rattle.acl_policy.proofs.keywords.short_keyword.Goals as goal

pub returns-in-6 : goal.returns-in-6
returns-in-6 c = of_one 6 c.args.text.now _ _ _ (omega (arith, c.in-6.is)) refl c.only.ensures

pub returns-in-7 : goal.returns-in-7
returns-in-7 c = of_one 7 c.args.text.now _ _ _ (omega (arith, c.in-7.is)) refl c.only-in-7.ensures

pub returns-in-8 : goal.returns-in-8
returns-in-8 c = of_two 8 c.args.text.now _ _ _ _ _ (omega (arith, c.in-8.is)) refl c.either.ensures

pub returns-in-9 : goal.returns-in-9
returns-in-9 c =
    of_three 9 c.args.text.now _ _ _ _ _ _ _ _ _ (omega (arith, c.in-9.is)) refl c.only-in-9.ensures c.either-in-9.ensures c.or.ensures

pub returns-in_default : goal.returns-in_default
returns-in_default c = sym (not_named c.args.text.now (grind (arith, c.in_default)))
