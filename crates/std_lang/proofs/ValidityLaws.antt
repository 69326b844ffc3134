-- The tests of a section say what a valid one is, and where the numbers of sections differ.
use Rattle.std.proofs.Common.{◌≡◌, ℕ, ◌&&◌, ◌==◌, nat_le, List, [], ◌∷◌, map, flat_map, ap, sym, subst, ◌∙◌, arith}
use Rattle.std.specs.Bool.{Decides}
use Rattle.std.specs.Cmp.{unsigned_tied}
use Rattle.std.specs.Fmt.{decimal}
use Rattle.std.specs.List.{list_all, AllByRecursion, IsDistinct}
use Rattle.std.specs.Ordering.{eq_by_cmp, nat_cmp}
use Rattle.std.specs.Str.{bytes_eq}
use Rattle.std.proofs.lemmas.Bool.Decides.{same_from_decides, Decides-and, Decides-like, Decides-eqb}
use Rattle.std.proofs.lemmas.Fmt.{decimal_injective}
use Rattle.std.proofs.lemmas.Slice.Eq.{bytes_eq-Decides}
use Rattle.acl_packet.specs.declared.addresses.Family.TheVariants.{V4}
use Rattle.acl_rows.specs.ApartSteps.{are_apart}
use Rattle.acl_rows.proofs.ApartLaws.{Apart, apart_decides, apart_like}
use Rattle.acl_rows.proofs.DecisionLaws.{all_decides, le_decides, prefix_decides}
use Rattle.std_lang.specs.declared.documents.Section.{Section}
use Rattle.std_lang.specs.declared.documents.Item.{Item}
use Rattle.std_lang.specs.declared.documents.Item.TheVariants.{Remark, Entry as AnEntry}
use Rattle.std_lang.specs.Documents.{IsItem, IsSection, list_names}
use Rattle.std_lang.specs.ValiditySteps.{is_item, is_section, same_list}

item_decides : (i : Item) → Decides (is_item i) (IsItem i)
item_decides (Remark text) = (λ h. h, λ h. h)
item_decides (AnEntry e) = prefix_decides V4 e.src

pub section_decides : (s : Section) → Decides (is_section s) (IsSection s)
section_decides s =
    let number = Decides-and (nat_le 1 s.number) (nat_le s.number 99) (le_decides 1 s.number) (le_decides s.number 99) in
    Decides-like (is_section s) (λ h. record { number_from = h.0.0; number_to = h.0.1; items = h.1 }) (λ h. ((h.number_from, h.number_to), h.items))
    (Decides-and (nat_le 1 s.number && nat_le s.number 99) (list_all is_item s.items) number (all_decides is_item IsItem item_decides s.items))

-- ---- numbers

-- two lists have one name where they have one number
same_names : (s t : Section) → IsSection s → IsSection t → bytes_eq (decimal s.number) (decimal t.number) ≡ same_list s t
same_names s t h k =
    let m = s.number in
    let n = t.number in
    let small = h.number_to in
    let other = k.number_to in
    same_from_decides (bytes_eq (decimal m) (decimal n)) (m == n)
    (Decides-like (bytes_eq (decimal m) (decimal n)) (λ e. decimal_injective m n (omega (arith, small)) (omega (arith, other)) e) (λ e. ap decimal e)
    (bytes_eq-Decides (decimal m) (decimal n)))
    (Decides-eqb m n)

names_apart : (s : Section) (doc : List Section) → IsSection s → AllByRecursion IsSection doc → Apart same_list s doc
    → Apart bytes_eq (decimal s.number) (flat_map list_names doc)
names_apart s [] h k a = tt
names_apart s (t ∷ doc) h k a = (same_names s t h k.0 ∙ a.0, names_apart s doc h k.1 a.1)

lists_apart : (s : Section) (doc : List Section) → IsSection s → AllByRecursion IsSection doc
    → Apart bytes_eq (decimal s.number) (flat_map list_names doc) → Apart same_list s doc
lists_apart s [] h k a = tt
lists_apart s (t ∷ doc) h k a = (sym (same_names s t h k.0) ∙ a.0, lists_apart s doc h k.1 a.1)

names_differ : (doc : List Section) → AllByRecursion IsSection doc → IsDistinct same_list doc → IsDistinct bytes_eq (flat_map list_names doc)
unfolding IsDistinct
names_differ [] k d = tt
names_differ (s ∷ doc) k d = (names_apart s doc k.0 k.1 d.0, names_differ doc k.1 d.1)

lists_differ : (doc : List Section) → AllByRecursion IsSection doc → IsDistinct bytes_eq (flat_map list_names doc) → IsDistinct same_list doc
unfolding IsDistinct
lists_differ [] k d = tt
lists_differ (s ∷ doc) k d = (lists_apart s doc k.0 k.1 d.0, lists_differ doc k.1 d.1)

pub numbers_decide : (doc : List Section) → AllByRecursion IsSection doc → (numbers : List ℕ) → numbers ≡ map (λ s. s.number) doc
    → Decides (are_apart (eq_by_cmp nat_cmp) numbers) (IsDistinct bytes_eq (flat_map list_names doc))
numbers_decide doc h numbers e =
    subst (λ b. Decides b (IsDistinct bytes_eq (flat_map list_names doc)))
    (apart_like (λ s. s.number) same_list (eq_by_cmp nat_cmp) (λ s t. sym (unsigned_tied s.number t.number)) doc
    ∙ ap (are_apart (eq_by_cmp nat_cmp)) (sym e))
    (Decides-like (are_apart same_list doc) (names_differ doc h) (lists_differ doc h) (apart_decides same_list doc))
