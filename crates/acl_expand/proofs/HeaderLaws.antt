-- Protocols that all lie below the extension headers name none of them.
use Rattle.std.proofs.Common.{◌≡◌, ℕ, ◌≤◌, nat_le, Bool, true, false, if◌then◌else◌, List, [], ◌∷◌, Option, None, Some, refl, ap, sym, ◌∙◌, arith}
use Rattle.std.proofs.lemmas.Bool.{leb-true, and_parts, or_from}
use Rattle.std.specs.List.{find}
use Rattle.acl_host.specs.declared.days.Day.{Day}
use Rattle.acl_sets.specs.declared.sets.Range.{Range}
use Rattle.acl_sets.specs.Ranges.{holds, inside}
use Rattle.acl_sets.proofs.RangeLaws.{out_high}
use Rattle.acl_expand.specs.ExpansionSlips.{extension_headers, header_at, header_named, header_slip, is_for_ipv6}
use Rattle.acl_target.specs.declared.targets.Target.{Target}
use Rattle.acl_terms.specs.declared.terms.Term.{Term}
use Rattle.acl_expand.specs.SlipSteps.{are_below_headers}

not_held : (n : ℕ) (rs : List Range) → 43 ≤ n → are_below_headers rs ≡ true → holds rs n ≡ false
not_held n [] least below = refl
not_held n (r ∷ rs) least below =
    let p = and_parts (nat_le r.high 42) (are_below_headers rs) below in
    or_from (inside r n) (holds rs n) (out_high r.low r.high n (omega (arith, leb-true r.high 42 p.0, least))) (not_held n rs least p.1)

-- the first number is not held
passed_over : (n : ℕ) (ns : List ℕ) (rs : List Range) → holds rs n ≡ false → find (λ k. holds rs k) ns ≡ None
    → find (λ k. holds rs k) (n ∷ ns) ≡ None
passed_over n ns rs e h = ap (λ (b : Bool). if b then Some n else find (λ k. holds rs k) ns) e ∙ h

pub none_named : (rs : List Range) → are_below_headers rs ≡ true → None ≡ find (λ n. holds rs n) extension_headers
none_named rs h =
    let no : (n : ℕ) → 43 ≤ n → holds rs n ≡ false = λ n least. not_held n rs least h in
    sym (passed_over 43 (44 ∷ 51 ∷ 59 ∷ 60 ∷ 135 ∷ 139 ∷ 140 ∷ []) rs (no 43 (omega arith))
    (passed_over 44 (51 ∷ 59 ∷ 60 ∷ 135 ∷ 139 ∷ 140 ∷ []) rs (no 44 (omega arith))
    (passed_over 51 (59 ∷ 60 ∷ 135 ∷ 139 ∷ 140 ∷ []) rs (no 51 (omega arith))
    (passed_over 59 (60 ∷ 135 ∷ 139 ∷ 140 ∷ []) rs (no 59 (omega arith))
    (passed_over 60 (135 ∷ 139 ∷ 140 ∷ []) rs (no 60 (omega arith))
    (passed_over 135 (139 ∷ 140 ∷ []) rs (no 135 (omega arith))
    (passed_over 139 (140 ∷ []) rs (no 139 (omega arith))
    (passed_over 140 [] rs (no 140 (omega arith))
    refl))))))))

-- A term that names none has no slip, and else that at the least one, where it has rules for IPv6.
pub none_asked : (target : Target) (today : Day) (t : Term) → header_named t ≡ None → header_slip target today t ≡ None
unfolding header_slip
none_asked target today t e =
    let b : Bool = is_for_ipv6 target today t in
    ap (λ (o : Option ℕ). if b then header_at t o else None) e ∙ either b
  where
    either : (b : Bool) → (if b then header_at t None else None) ≡ None
    either true = refl
    either false = refl

pub one_asked : (target : Target) (today : Day) (t : Term) (n : ℕ) → header_named t ≡ Some n
    → header_slip target today t ≡ (if is_for_ipv6 target today t then header_at t (Some n) else None)
unfolding header_slip
one_asked target today t n e =
    let b : Bool = is_for_ipv6 target today t in ap (λ (o : Option ℕ). if b then header_at t o else None) e
