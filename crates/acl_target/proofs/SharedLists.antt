-- When two Cisco targets have a list in common.
use Rattle.std.proofs.Common.{◌≡◌, ℕ, Bool, true, false, ◌||◌, List, refl, ap, ◌∙◌}
use Rattle.std.specs.Str.{bytes_eq}
use Rattle.std.proofs.lemmas.Cmp.{nat_list_eq_equiv}
use Rattle.acl_target.specs.ClashSteps.{names_shared}
use Rattle.acl_text.specs.Names.{in_common}
use Rattle.acl_target.specs.Clashes.{ipv6_list, list_names}

second-only : (p q : Bool) → ((p || (q || false)) || false) ≡ ((p || q) || false)
second-only true q = refl
second-only false true = refl
second-only false false = refl

first-only : (p r : Bool) → ((p || false) || ((r || false) || false)) ≡ ((p || false) || r)
first-only true r = refl
first-only false true = refl
first-only false false = refl

both : (p q r : Bool) → ((p || (q || false)) || ((r || (p || false)) || false)) ≡ ((p || q) || r)
both true q r = refl
both false true r = refl
both false false true = refl
both false false false = refl

turned : (a b : List ℕ) → bytes_eq (ipv6_list a) b ≡ bytes_eq b (ipv6_list a)
turned a b = nat_list_eq_equiv.symm (ipv6_list a) b

pub shared_is : (x y : Bool) (a b : List ℕ) → in_common (list_names x a) (list_names y b) ≡ names_shared x y a b
shared_is false false a b = refl
shared_is false true a b = second-only (bytes_eq a b) (bytes_eq a (ipv6_list b))
shared_is true false a b =
    ap (λ r. (bytes_eq a b || false) || ((r || false) || false)) (turned a b)
    ∙ first-only (bytes_eq a b) (bytes_eq b (ipv6_list a))
shared_is true true a b =
    ap (λ r. (bytes_eq a b || (bytes_eq a (ipv6_list b) || false)) || ((r || (bytes_eq a b || false)) || false)) (turned a b)
    ∙ both (bytes_eq a b) (bytes_eq a (ipv6_list b)) (bytes_eq b (ipv6_list a))
