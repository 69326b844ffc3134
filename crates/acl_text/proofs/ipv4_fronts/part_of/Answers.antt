use Rattle.std.proofs.Common.{ℕ, List, ◌+◌, ◌*◌, subst, arith}
use Rattle.acl_text.specs.Fronts.{IsByteFront}
use Rattle.acl_text.proofs.FrontLaws.{one_digit, two_digits, three_digits}
use Rattle.acl_text.proofs.ipv4_fronts.part_of.Goals as goal

pub returns-in-Some : goal.returns-in-Some
returns-in-Some c =
    subst (λ (rest : List ℕ). IsByteFront c.args.text.now rest c.in_ok-first.first) c.in-Some.ensures
    (one_digit c.args.text.now c.in_ok-first.rest.now c.in_ok-first.first c.in_ok-first.ensures)

pub returns-in-Some-behind_byte : goal.returns-in-Some-behind_byte
returns-in-Some-behind_byte c =
    subst (λ (rest : List ℕ). IsByteFront c.args.text.now rest (c.in_ok-first.first * 10 + c.in_ok-second.second)) c.in-Some-behind_byte.ensures
    (two_digits c.args.text.now c.in_ok-first.rest.now c.in_ok-second.rest.now c.in_ok-first.first c.in_ok-second.second
    c.in_ok-first.ensures c.in_ok-second.ensures (λ z. omega (arith, z, c.if-first-eq0.false)))

pub returns : goal.returns
returns c =
    subst (λ (rest : List ℕ). IsByteFront c.args.text.now rest ((c.in_ok-first.first * 10 + c.in_ok-second.second) * 10 + c.in_ok-third.third))
    c.in_ok-behind_byte.ensures
    (three_digits c.args.text.now c.in_ok-first.rest.now c.in_ok-second.rest.now c.in_ok-third.rest.now
    c.in_ok-first.first c.in_ok-second.second c.in_ok-third.third
    c.in_ok-first.ensures c.in_ok-second.ensures c.in_ok-third.ensures (λ z. omega (arith, z, c.if-first-eq0.false))
    (omega (arith, c.if-value-gt255.false)))
