use Rattle.std.proofs.Common.{◌≡◌, ℕ, List, length, arith, ap, subst, set, bit_or, eqb, ◌||◌, ◌<◌, ◌/◌, ◌%◌, ◌*◌, ◌^◌}
use Rattle.std.proofs.lemmas.List.{get_or_read}
use Rattle.acl_dead.specs.PlaceSteps.{has}
use Rattle.acl_dead.proofs.PlaceFacts.{has-insert}
use Rattle.acl_dead.proofs.places.Places.insert.Goals as goal

pub returns-clause-exact : goal.returns-clause-exact
returns-clause-exact c = λ b.
    let p = c.args.place in
    let ws = c.self.inside.words.items in
    let view : ws ≡ c.args.self.now = c.self.view_is in
    let small : p < 64 * length ws = omega (arith, ap length view, c.requires) in
    let within : p / 64 < length ws = omega arith in
    let read = get_or_read ws (p / 64) c.index_mut.result.now within c.index_mut.ensures.value 0 in
    let word : ℕ → ℕ = λ w. bit_or w (1 * 2 ^ (p % 64) % 2 ^ 64) in
    subst (λ (xs : List ℕ). has (set ws (p / 64) (word c.index_mut.result.now)) b ≡ (eqb b p || has xs b)) view
    (has-insert ws _ p small (ap (λ w. set ws (p / 64) (word w)) read) b)
