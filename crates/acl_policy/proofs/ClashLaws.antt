-- A target's number is no part of a clash.
use Rattle.std.proofs.Common.{◌≡◌, ℕ, Bool, ◌&&◌, List, [], ◌∷◌, refl, ap}
use Rattle.std.specs.List.{list_any}
use Rattle.acl_target.specs.declared.targets.Kind.{Kind}
use Rattle.acl_target.specs.declared.targets.Kind.TheVariants.{Cisco, Juniper, Iptables, Nftables}
use Rattle.acl_target.specs.declared.targets.Target.{Target}
use Rattle.acl_target.specs.Clashes.{clash, clash_on, same_kind, share_lists}

pub any_same : {A : Type 0} (p q : A → Bool) (xs : List A) → ((x : A) → p x ≡ q x) → list_any p xs ≡ list_any q xs
any_same p q [] h = refl
any_same p q (x ∷ xs) h =
    let e : p x ≡ q x = h x in
    let f : list_any p xs ≡ list_any q xs = any_same p q xs h in
    cc

clash_on_same : (kind : Kind) (e t : Target) (m : ℕ) → clash_on kind e (record t { number = m }) ≡ clash_on kind e t
unfolding share_lists
clash_on_same Cisco e t m = refl
clash_on_same Juniper e t m = refl
clash_on_same Iptables e t m = refl
clash_on_same Nftables e t m = refl

pub clash_same : (e t : Target) (m : ℕ) → clash e (record t { number = m }) ≡ clash e t
unfolding clash
clash_same e t m = ap (λ c. same_kind e.kind t.kind && c) (clash_on_same e.kind e t m)
