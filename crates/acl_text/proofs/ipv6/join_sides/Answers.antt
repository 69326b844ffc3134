use Rattle.std.proofs.Common.{◌≡◌, ℕ, zero, suc, ◌+◌, ◌-◌, ◌*◌, ◌^◌, ◌<◌, ◌≤◌, refl, ap, sym, ◌∙◌, arith}
use Rattle.std.proofs.Math.Nat.{pow-suc}
use Rattle.std.proofs.lemmas.Nat.{pow-add}
use Rattle.acl_text.proofs.Bounds.{both_bound}
use Rattle.acl_text.proofs.ipv6.join_sides.Goals as goal

-- the groups of both sides make an address, where the front is moved up by a power
moved_fit : (f k b j : ℕ) → k ≤ 8 → j ≤ 8 → f < 65536 ^ (8 - k) → b < 65536 ^ (8 - j) → 9 ≤ k + j → f * 65536 ^ k + b < 2 ^ 128
moved_fit f k b j l m h g e = both_bound f k b j l m h g (omega arith)

shift_is : (k : ℕ) → 2 ^ (16 * k) ≡ 65536 ^ k
shift_is zero = refl
shift_is (suc k) =
    let more : 16 * suc k ≡ 16 * k + 16 = omega arith in
    ap (λ n. 2 ^ n) more ∙ pow-add 2 (16 * k) 16 ∙ ap (λ n. n * 65536) (shift_is k) ∙ sym (pow-suc 65536 k)

pub overflow_add-result : goal.overflow_add-result
overflow_add-result c =
    let fits = moved_fit c.args.front c.args.front_left c.args.back c.args.back_left c.requires.front_fits.0 c.requires.back_fits.0 c.requires.front_fits.1 c.requires.back_fits.1 c.requires.fewer in
    rw (shift_is c.args.front_left) (omega (arith, fits))

pub returns-else-front_left-eq8 : goal.returns-else-front_left-eq8
returns-else-front_left-eq8 c =
    let fits = moved_fit c.args.front c.args.front_left c.args.back c.args.back_left c.requires.front_fits.0 c.requires.back_fits.0 c.requires.front_fits.1 c.requires.back_fits.1 c.requires.fewer in
    rw (shift_is c.args.front_left) (omega (arith, fits))
