use Rattle.std.proofs.Common.{refl, arith, sym}
use Rattle.acl_policy.proofs.RowLaws.{of_one, of_two, not_named}
use Rattle.acl_policy.proofs.keywords.long_keyword.Goals as goal

pub returns-in-10 : goal.returns-in-10
returns-in-10 c = of_two 10 c.args.text.now _ _ _ _ _ (omega (arith, c.in-10.is)) refl c.either.ensures

pub returns-in-11 : goal.returns-in-11
returns-in-11 c = of_two 11 c.args.text.now _ _ _ _ _ (omega (arith, c.in-11.is)) refl c.either-in-11.ensures

pub returns-in-12 : goal.returns-in-12
returns-in-12 c = of_one 12 c.args.text.now _ _ _ (omega (arith, c.in-12.is)) refl c.only.ensures

pub returns-in-13 : goal.returns-in-13
returns-in-13 c = of_one 13 c.args.text.now _ _ _ (omega (arith, c.in-13.is)) refl c.only-in-13.ensures

pub returns-in-16 : goal.returns-in-16
returns-in-16 c = of_two 16 c.args.text.now _ _ _ _ _ (omega (arith, c.in-16.is)) refl c.either-in-16.ensures

pub returns-in-18 : goal.returns-in-18
returns-in-18 c = of_two 18 c.args.text.now _ _ _ _ _ (omega (arith, c.in-18.is)) refl c.either-in-18.ensures

pub returns-in-21 : goal.returns-in-21
returns-in-21 c = of_two 21 c.args.text.now _ _ _ _ _ (omega (arith, c.in-21.is)) refl c.either-in-21.ensures

pub returns-in_default : goal.returns-in_default
returns-in_default c = sym (not_named c.args.text.now (grind (arith, c.in_default)))
