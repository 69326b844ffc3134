-- Two sections have the same name where they have the same family and filter's name.
use Rattle.std.proofs.Common.{◌≡◌, ℕ, ◌&&◌, List, [], ◌∷◌, ◌++◌, codes, sym, ap, ◌∙◌, append_assoc, arith, Decides}
use Rattle.std.specs.Str.{bytes_eq}
use Rattle.std.proofs.lemmas.Bool.{false_from_ne_true}
use Rattle.std.proofs.lemmas.Bool.Decides.{same_from_decides}
use Rattle.std.proofs.lemmas.List.{append_cancel_right}
use Rattle.std.proofs.lemmas.Slice.Eq.{bytes_eq-Decides}
use Rattle.acl_packet.specs.declared.addresses.Family.{Family}
use Rattle.acl_packet.specs.declared.addresses.Family.TheVariants.{V4, V6}
use Rattle.acl_packet.specs.Addresses.{same_family}
use Rattle.junos_lang.specs.Documents.{family_word}

same_last : (xs ys : List ℕ) (x y : ℕ) → xs ++ x ∷ [] ≡ ys ++ y ∷ [] → x ≡ y
same_last [] [] x y e = cc
same_last [] (b ∷ []) x y e = cc
same_last [] (b ∷ c ∷ ys) x y e = cc
same_last (a ∷ []) [] x y e = cc
same_last (a ∷ b ∷ xs) [] x y e = cc
same_last (a ∷ xs) (b ∷ ys) x y e = same_last xs ys x y cc

-- the one word ends in `t`, the other in `6`
other_family : (a b : List ℕ) → a ++ codes " inet" ≡ b ++ codes " inet6" → ⊥
other_family a b e =
    let last : 116 ≡ 54 = same_last (a ++ codes " ine") (b ++ codes " inet") 116 54
    (append_assoc a (codes " ine") (116 ∷ []) ∙ e ∙ sym (append_assoc b (codes " inet") (54 ∷ []))) in
    omega (arith, last)

same_before : (t a b : List ℕ) → bytes_eq a b ≡ bytes_eq (a ++ t) (b ++ t)
same_before t a b =
    let texts = bytes_eq-Decides (a ++ t) (b ++ t) in
    let names : Decides (bytes_eq (a ++ t) (b ++ t)) (a ≡ b) = (λ h. append_cancel_right a b t (texts.0 h), λ e. texts.1 (ap (λ x. x ++ t) e)) in
    same_from_decides (bytes_eq a b) (bytes_eq (a ++ t) (b ++ t)) (bytes_eq-Decides a b) names

pub same_names : (f g : Family) (a b : List ℕ) → (same_family f g && bytes_eq a b) ≡ bytes_eq (a ++ 32 ∷ family_word f) (b ++ 32 ∷ family_word g)
same_names V4 V4 a b = same_before (codes " inet") a b
same_names V6 V6 a b = same_before (codes " inet6") a b
same_names V4 V6 a b =
    sym (false_from_ne_true (bytes_eq (a ++ codes " inet") (b ++ codes " inet6")) (λ h. other_family a b ((bytes_eq-Decides (a ++ codes " inet") (b ++ codes " inet6")).0 h)))
same_names V6 V4 a b =
    sym (false_from_ne_true (bytes_eq (a ++ codes " inet6") (b ++ codes " inet")) (λ h. other_family b a (sym ((bytes_eq-Decides (a ++ codes " inet6") (b ++ codes " inet")).0 h))))
