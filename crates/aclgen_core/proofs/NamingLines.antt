-- A line that defines a name.
use Rattle.std.proofs.Common.{◌≡◌, ℕ, ◌+◌, ◌<◌, ◌≤◌, Bool, true, false, not, nat_le, is_some, List, [], ◌∷◌, ◌++◌, length, map, None, Some, Ok, Err, refl, ap, sym, ◌∙◌, append_assoc, append-nil, arith}
use Rattle.std.specs.Option.{option_map_or}
use Rattle.std.proofs.lemmas.Bool.{cond-false}
use Rattle.std.proofs.lemmas.Bool.Decides.{nat_tests}
use Rattle.std.proofs.lemmas.List.{length-append}
use Rattle.acl_text.specs.declared.faults.Code.TheVariants as codes
use Rattle.acl_text.specs.declared.faults.Place.{Place}
use Rattle.acl_text.specs.Steps.{◌>>=◌}
use Rattle.acl_text.specs.Cursors.{words_of}
use Rattle.acl_text.specs.Cuts.{cut_at}
use Rattle.acl_text.specs.Names.{is_name}
use Rattle.acl_text.specs.Refusals.{slip}
use Rattle.acl_naming.specs.declared.item_words.NamingKind.{NamingKind}
use Rattle.acl_naming.specs.declared.naming_items.Item.{Item}
use Rattle.acl_naming.specs.Definitions.{Definition, index_of, items_count}
use Rattle.acl_naming.specs.ItemWords.{item_in}
use Rattle.acl_naming.specs.NamingFiles.{TableOrSlip, bad_byte, item_added, item_put, items_added, line_added, most, split_added, trimmed, with_definition, with_items}
use Rattle.acl_naming.specs.Tables.{with_item}
use Rattle.acl_naming.proofs.TableLaws.{items_more}
use Rattle.aclgen_core.proofs.RangeLaws.{head_or, tail_of}

with_last : (ds : List Definition) (d : Definition) (item : Item)
    → with_item (ds ++ d ∷ []) item ≡ ds ++ record { name = d.name; place = d.place; items = d.items ++ item ∷ [] } ∷ []
with_last [] d item = refl
with_last (c ∷ []) d item = refl
with_last (c ∷ e ∷ ds) d item = ap (λ xs. c ∷ xs) (with_last (e ∷ ds) d item)

-- the definition with further items
abbrev more_items : Definition → List Item → Definition
more_items d items = record { name = d.name; place = d.place; items = d.items ++ items }

has_room : (n m : ℕ) → n < m → nat_le m n ≡ false
has_room n m below = grind (arith, nat_tests)

one_put : (kind : NamingKind) (place : Place) (ds : List Definition) (d : Definition) (word : List ℕ) (item : Item) → item_in kind place word ≡ Some item
    → items_count (ds ++ d ∷ []) < most → item_added kind place (ds ++ d ∷ []) word ≡ Ok (ds ++ more_items d (item ∷ []) ∷ [])
unfolding item_added
one_put kind place ds d word item is room =
    ap (item_put place (ds ++ d ∷ []) word) is
    ∙ cond-false (nat_le most (items_count (ds ++ d ∷ []))) _ (Ok (with_item (ds ++ d ∷ []) item)) (has_room (items_count (ds ++ d ∷ [])) most room)
    ∙ ap Ok (with_last ds d item)

counted : (ds : List Definition) (d : Definition) (item : Item) → items_count (ds ++ more_items d (item ∷ []) ∷ []) ≡ items_count (ds ++ d ∷ []) + 1
counted ds d item =
    items_more ds (more_items d (item ∷ []))
    ∙ ap (λ n. items_count ds + n) (length-append d.items (item ∷ []))
    ∙ omega (arith, items_more ds d)

pub items_put : (kind : NamingKind) (place : Place) (ds : List Definition) (d : Definition) (words : List (List ℕ)) (items : List Item)
    → map (item_in kind place) words ≡ map Some items → items_count (ds ++ d ∷ []) + length items ≤ most
    → items_added kind place (ds ++ d ∷ []) words ≡ Ok (ds ++ more_items d items ∷ [])
items_put kind place ds d [] [] e room = ap (λ is. Ok (ds ++ record { name = d.name; place = d.place; items = is } ∷ [])) (sym (append-nil d.items))
items_put kind place ds d [] (item ∷ items) e room = absurd (nil_cons e)
  where
    nil_cons : {A : Type 0} {x : A} {xs : List A} → [] ≡ x ∷ xs → ⊥
    nil_cons e = cc
items_put kind place ds d (w ∷ ws) [] e room = absurd (cons_nil e)
  where
    cons_nil : {A : Type 0} {x : A} {xs : List A} → x ∷ xs ≡ [] → ⊥
    cons_nil e = cc
items_put kind place ds d (w ∷ ws) (item ∷ items) e room =
    let here = ap (head_or (Some item)) e in
    ap (λ o. o >>= λ more. items_added kind place more ws) (one_put kind place ds d w item here (omega (arith, room)))
    ∙ items_put kind place ds (more_items d (item ∷ [])) ws items (ap tail_of e) (omega (arith, room, counted ds d item))
    ∙ ap (λ is. Ok (ds ++ record { name = d.name; place = d.place; items = is } ∷ [])) (append_assoc d.items (item ∷ []) items)

-- a line without a bad byte
good_line : (kind : NamingKind) (place : Place) (is_open : Bool) (ds : List Definition) (text : List ℕ) → bad_byte text ≡ None
    → line_added kind place is_open ds text ≡ split_added kind place is_open ds text
good_line kind place is_open ds text good =
    ap (λ o. option_map_or {U = TableOrSlip} (λ b. Err (slip codes.BadByte place (b ∷ []))) o (split_added kind place is_open ds text)) good

cut_line : (kind : NamingKind) (place : Place) (is_open : Bool) (ds : List Definition) (text front rest : List ℕ) → cut_at 61 text ≡ Some (front, rest)
    → split_added kind place is_open ds text ≡ with_definition kind place ds (trimmed front) rest
cut_line kind place is_open ds text front rest cut =
    ap (λ o. option_map_or {U = TableOrSlip} (λ p. with_definition kind place ds (trimmed p.0) p.1) o (with_items kind place is_open ds (words_of text))) cut

-- a line with a new name, and items behind `=`
pub line_defines : (kind : NamingKind) (place : Place) (is_open : Bool) (ds : List Definition) (text front rest name : List ℕ) (items : List Item)
    → bad_byte text ≡ None → cut_at 61 text ≡ Some (front, rest) → trimmed front ≡ name → is_name name ≡ true
    → map (item_in kind place) (words_of rest) ≡ map Some items → index_of ds name ≡ None → length ds < most
    → items_count ds + length items ≤ most
    → line_added kind place is_open ds text ≡ Ok (ds ++ record { name = name; place = place; items = items } ∷ [])
unfolding with_definition
line_defines kind place is_open ds text front rest name items good cut trim is_good read new few room =
    good_line kind place is_open ds text good
    ∙ cut_line kind place is_open ds text front rest cut
    ∙ ap (λ n. with_definition kind place ds n rest) trim
    ∙ cond-false (not (is_name name)) _ _ (ap not is_good)
    ∙ cond-false (is_some (index_of ds name)) _ _ (ap is_some new)
    ∙ cond-false (nat_le most (length ds)) _ _ (has_room (length ds) most few)
    ∙ items_put kind place ds (record { name = name; place = place; items = [] }) (words_of rest) items read
    (omega (arith, room, items_more ds (record { name = name; place = place; items = [] })))
