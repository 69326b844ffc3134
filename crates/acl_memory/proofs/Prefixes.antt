-- What stands behind a prefix.
use Rattle.std.proofs.Common.{◌≡◌, ◌≢◌, ℕ, ◌+◌, true, false, ◌==◌, ◌&&◌, nat_eq, nat_lt, List, ◌++◌, length, drop, None, Some, refl, arith}
use Rattle.std.specs.List.{starts_with}
use Rattle.std.proofs.lemmas.Bool.{false_from_ne_true, and_left, and_right, lt-ltb, le-ltb, eqb-true, eqb-false}
use Rattle.std.proofs.lemmas.Bool.Decides.{Decides-eqb}
use Rattle.std.proofs.lemmas.Slice.Eq.{starts_is}
use Rattle.acl_host.specs.Files.{rest_behind}

pub behind-some : (prefix path rest : List ℕ) (k : ℕ) → k ≡ length prefix
    → path ≡ prefix ++ drop k path → rest ≡ drop k path → length rest + k ≡ length path
    → (length rest == 0) ≡ false → Some rest ≡ rest_behind prefix path
behind-some prefix path rest k at e is len nonempty =
    let starts : starts_with nat_eq path prefix ≡ true =
    (starts_is Decides-eqb path prefix (starts_with nat_eq path prefix) refl).1
    (drop k path) e in
    let some : length rest ≡ 0 → ⊥ = eqb-false (length rest) 0 nonempty in
    let longer : nat_lt (length prefix) (length path) ≡ true =
    lt-ltb (length prefix) (length path) (omega arith) in
    rw (starts, longer, is, at) refl

pub behind-empty : (prefix path rest : List ℕ) (k : ℕ) → k ≡ length prefix
    → length rest + k ≡ length path → (length rest == 0) ≡ true → None ≡ rest_behind prefix path
behind-empty prefix path rest k at len empty =
    let zero : length rest ≡ 0 = eqb-true (length rest) 0 empty in
    let shorter : nat_lt (length prefix) (length path) ≡ false =
    le-ltb (length prefix) (length path) (omega arith) in
    let no : (starts_with nat_eq path prefix && nat_lt (length prefix) (length path)) ≡ false =
    and_right (starts_with nat_eq path prefix) (nat_lt (length prefix) (length path)) shorter in
    rw no refl

pub behind-none : (prefix path : List ℕ) → ((rest : List ℕ) → path ≢ prefix ++ rest)
    → None ≡ rest_behind prefix path
behind-none prefix path lacks =
    let not_there : starts_with nat_eq path prefix ≡ false =
    false_from_ne_true (starts_with nat_eq path prefix)
    (λ t. lacks (drop (length prefix) path)
    ((starts_is Decides-eqb path prefix (starts_with nat_eq path prefix) refl).0 t)) in
    let no : (starts_with nat_eq path prefix && nat_lt (length prefix) (length path)) ≡ false =
    and_left (starts_with nat_eq path prefix)
    (nat_lt (length prefix) (length path)) not_there in
    rw no refl
