-- One step in reading the groups of an IPv6 address.
use Rattle.std.proofs.Common.{◌≡◌, ℕ, zero, suc, ◌+◌, ◌-◌, ◌*◌, ◌<◌, Bool, List, Option, None, Some, refl, ap, sym, ◌∙◌, arith}
use Rattle.std.specs.Option.{option_map_or}
use Rattle.acl_text.specs.OptionSteps.{◌>>=◌}
use Rattle.acl_text.specs.Cuts.{cut_at}
use Rattle.acl_text.specs.Ipv6.{group_in, last_in, groups_in}

pub step_none : (left : ℕ) (dotted : Bool) (v : ℕ) (bs : List ℕ) → left ≡ 0 → groups_in left dotted v bs ≡ None
unfolding groups_in
step_none zero dotted v bs e = refl
step_none (suc left) dotted v bs e = absurd (omega arith)

unary : (n : ℕ) → suc n - 1 ≡ n
unary n = omega arith

pub step_bad : (left : ℕ) (dotted : Bool) (v : ℕ) (bs xs ys : List ℕ) → 0 < left → cut_at 58 bs ≡ Some (xs, ys) → group_in xs ≡ None
    → groups_in left dotted v bs ≡ None
unfolding groups_in
step_bad zero dotted v bs xs ys l e h = absurd (omega arith)
step_bad (suc left) dotted v bs xs ys l e h =
    ap (λ o. option_map_or {U = Option (ℕ × ℕ)} (λ p. group_in p.0 >>= (λ g. groups_in left dotted (v * 65536 + g) p.1)) o (last_in left dotted v bs)) e
    ∙ ap (λ o. o >>= (λ g. groups_in left dotted (v * 65536 + g) ys)) h

pub step_more : (left : ℕ) (dotted : Bool) (v : ℕ) (bs xs ys : List ℕ) (g : ℕ) (r : Option (ℕ × ℕ)) → 0 < left → cut_at 58 bs ≡ Some (xs, ys) → group_in xs ≡ Some g
    → groups_in (left - 1) dotted (v * 65536 + g) ys ≡ r → groups_in left dotted v bs ≡ r
unfolding groups_in
step_more zero dotted v bs xs ys g r l e h k = absurd (omega arith)
step_more (suc left) dotted v bs xs ys g r l e h k =
    ap (λ o. option_map_or {U = Option (ℕ × ℕ)} (λ p. group_in p.0 >>= (λ g. groups_in left dotted (v * 65536 + g) p.1)) o (last_in left dotted v bs)) e
    ∙ ap (λ o. o >>= (λ g. groups_in left dotted (v * 65536 + g) ys)) h
    ∙ ap (λ n. groups_in n dotted (v * 65536 + g) ys) (sym (unary left)) ∙ k

pub step_last : (left : ℕ) (dotted : Bool) (v : ℕ) (bs : List ℕ) (r : Option (ℕ × ℕ)) → 0 < left → cut_at 58 bs ≡ None
    → last_in (left - 1) dotted v bs ≡ r → groups_in left dotted v bs ≡ r
unfolding groups_in
step_last zero dotted v bs r l e k = absurd (omega arith)
step_last (suc left) dotted v bs r l e k =
    ap (λ o. option_map_or {U = Option (ℕ × ℕ)} (λ p. group_in p.0 >>= (λ g. groups_in left dotted (v * 65536 + g) p.1)) o (last_in left dotted v bs)) e
    ∙ ap (λ n. last_in n dotted v bs) (sym (unary left)) ∙ k
