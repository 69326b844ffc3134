-- The table of definitions as a list: look-ups, one more definition, and one more item.
use Rattle.std.proofs.Common.{◌≡◌, ℕ, zero, suc, ◌+◌, ◌<◌, Bool, false, cond, nat_lt, List, [], ◌∷◌, ◌++◌, length, map, slice_get, position, is_some, Option, None, Some, refl, ap, subst, sym, ◌∙◌, arith, not}
use Rattle.std.specs.List.{AllByRecursion, IsDistinct, prefix_len, position_or_len, slice_range}
use Rattle.std.specs.Cmp.Lexicographic.{nat_list_eq_equiv}
use Rattle.std.specs.Str.{bytes_eq}
use Rattle.std.specs.Map.{keys_of}
use Rattle.std.proofs.lemmas.Bool.{cond-false, cond-true, lt-ltb}
use Rattle.std.proofs.lemmas.Map.Keys.{IsDistinct-head, IsDistinct-tail}
use Rattle.std.proofs.lemmas.Option.{none-some, same_Some}
use Rattle.std.proofs.lemmas.Slice.Eq.{bytes_eq-Decides}
use Rattle.std.proofs.lemmas.List.{length-map, map-append, length-append}
use Rattle.acl_naming.specs.declared.naming_items.Item.{Item}
use Rattle.acl_naming.specs.Definitions.{Definition, index_of, items_at, items_count}
use Rattle.acl_naming.specs.Tables.{name_at, place_at, with_item}
use Rattle.acl_naming.specs.Rows.{Ascend, begin_at}
use Rattle.acl_naming.specs.TableViewSteps.{AreLaid, Kept, begins_of, definitions_of}
use Rattle.acl_naming.proofs.RowLaws.{ascend_more, ascend_on, begin_behind, begin_within, slice_kept, slice_more, slice_none}

prefix_map : {X Y : Type 0} (p : Y → Bool) (f : X → Y) (xs : List X) → prefix_len p (map f xs) ≡ prefix_len (λ x. p (f x)) xs
prefix_map p f [] = refl
prefix_map p f (x ∷ xs) = ap (λ n. cond (p (f x)) (1 + n) 0) (prefix_map p f xs)

abbrev within : ℕ → ℕ → Option ℕ
within i n = cond (nat_lt i n) (Some i) None

pub position_map : {X Y : Type 0} (p : Y → Bool) (f : X → Y) (xs : List X) → position p (map f xs) ≡ position (λ x. p (f x)) xs
position_map p f xs =
    ap (λ i. within i (length (map f xs))) (prefix_map (λ y. not (p y)) f xs)
    ∙ ap (λ n. within (position_or_len (λ x. p (f x)) xs) n) (length-map xs f)

pub length_laid : (es : List Kept) (items : List Item) → length (definitions_of es items) ≡ length es
length_laid [] items = refl
length_laid (e ∷ es) items = ap suc (length_laid es items)

pub long_laid : (es : List Kept) (items : List Item) (ds : List Definition) → definitions_of es items ≡ ds → length es ≡ length ds
long_laid es items ds is = sym (length_laid es items) ∙ ap (λ (t : List Definition). length t) is

names_laid : (es : List Kept) (items : List Item) → map (λ (d : Definition). d.name) (definitions_of es items) ≡ map (λ (e : Kept). e.0) es
names_laid [] items = refl
names_laid (e ∷ es) items = ap (λ (t : List (List ℕ)). e.0 ∷ t) (names_laid es items)

-- a name is looked up among the keys
pub index_keys : (name : List ℕ) (es : List Kept) (items : List Item) → position (λ k. bytes_eq name k) (keys_of es) ≡ index_of (definitions_of es items) name
index_keys name es items =
    position_map (bytes_eq name) (λ (e : Kept). e.0) es
    ∙ sym (position_map (bytes_eq name) (λ (e : Kept). e.0) es)
    ∙ ap (position (bytes_eq name)) (sym (names_laid es items))
    ∙ position_map (bytes_eq name) (λ (d : Definition). d.name) (definitions_of es items)

apart : (k : List ℕ) (es : List Kept) (i : ℕ) (e : Kept) → AllByRecursion (λ y. bytes_eq k y ≡ false) (keys_of es) → Some e ≡ slice_get es i → bytes_eq e.0 k ≡ false
apart k [] i e a h = absurd (none-some e (sym h))
apart k (x ∷ es) zero e a h = nat_list_eq_equiv.symm e.0 k ∙ ap (λ (y : Kept). bytes_eq k y.0) (same_Some e x h) ∙ a.0
apart k (x ∷ es) (suc i) e a h = apart k es i e a.1 h

first_key : (es : List Kept) (i : ℕ) (e : Kept) → IsDistinct bytes_eq (keys_of es) → Some e ≡ slice_get es i → position_or_len (bytes_eq e.0) (keys_of es) ≡ i
first_key [] i e d h = absurd (none-some e (sym h))
first_key (x ∷ es) zero e d h =
    cond-false (not (bytes_eq e.0 x.0)) _ _ (ap not ((bytes_eq-Decides e.0 x.0).1 (ap (λ (y : Kept). y.0) (same_Some e x h))))
first_key (x ∷ es) (suc i) e d h =
    cond-true (not (bytes_eq e.0 x.0)) (1 + position_or_len (bytes_eq e.0) (keys_of es)) 0 (ap not (apart x.0 es i e (IsDistinct-head bytes_eq x.0 (keys_of es) d) h))
    ∙ omega (arith, first_key es i e (IsDistinct-tail bytes_eq x.0 (keys_of es) d) h)

-- where keys differ, one is the first that is like it
pub key_first : (es : List Kept) (i : ℕ) (e : Kept) → IsDistinct bytes_eq (keys_of es) → i < length es → Some e ≡ slice_get es i → Some i ≡ position (bytes_eq e.0) (keys_of es)
key_first es i e d l h =
    let is = first_key es i e d h in
    sym (ap (λ n. within n (length (keys_of es))) is ∙ cond-true (nat_lt i (length (keys_of es))) _ _ (lt-ltb i (length (keys_of es)) (omega (arith, l, length-map es (λ (e : Kept). e.0)))))

pub begin_kept : (es : List Kept) (i end : ℕ) (e : Kept) → Some e ≡ slice_get es i → e.1.from ≡ begin_at (begins_of es) i end
begin_kept [] i end e h = absurd (none-some e (sym h))
begin_kept (k ∷ es) zero end e h = ap (λ (x : Kept). x.1.from) (same_Some e k h)
begin_kept (k ∷ es) (suc i) end e h = begin_kept es i end e h

pub begin_none : (es : List Kept) (i end : ℕ) → None ≡ slice_get es i → end ≡ begin_at (begins_of es) i end
begin_none [] i end h = refl
begin_none (k ∷ es) zero end h = absurd (none-some k h)
begin_none (k ∷ es) (suc i) end h = begin_none es i end h

pub items_laid : (es : List Kept) (items : List Item) (i : ℕ) → i < length es
    → slice_range items (begin_at (begins_of es) i (length items)) (begin_at (begins_of es) (suc i) (length items)) ≡ items_at (definitions_of es items) i
items_laid [] items i h = absurd (omega arith)
items_laid (e ∷ es) items zero h = refl
items_laid (e ∷ es) items (suc i) h = items_laid es items i (omega arith)

pub name_kept : (es : List Kept) (items : List Item) (i : ℕ) (e : Kept) → Some e ≡ slice_get es i → e.0 ≡ name_at (definitions_of es items) i
name_kept [] items i e h = absurd (none-some e (sym h))
name_kept (k ∷ es) items zero e h = ap (λ (x : Kept). x.0) (same_Some e k h)
name_kept (k ∷ es) items (suc i) e h = name_kept es items i e h

pub place_kept : (es : List Kept) (items : List Item) (i : ℕ) (e : Kept) → Some e ≡ slice_get es i → e.1.place ≡ place_at (definitions_of es items) i
place_kept [] items i e h = absurd (none-some e (sym h))
place_kept (k ∷ es) items zero e h = ap (λ (x : Kept). x.1.place) (same_Some e k h)
place_kept (k ∷ es) items (suc i) e h = place_kept es items i e h

-- ---- one more definition

pub none_found : {X : Type 0} (o : Option X) → is_some o ≡ false → o ≡ None
none_found None h = refl
none_found (Some x) h = absurd (cc)

pub items_more : (ds : List Definition) (d : Definition) → items_count (ds ++ d ∷ []) ≡ items_count ds + length d.items
items_more [] d = omega arith
items_more (c ∷ ds) d = omega (arith, items_more ds d)

begins_more : (es : List Kept) (e : Kept) (end : ℕ) → e.1.from ≡ end → begins_of (es ++ e ∷ []) ≡ begins_of es ++ end ∷ []
begins_more es e end h = map-append (λ (k : Kept). k.1.from) es (e ∷ []) ∙ ap (λ (n : ℕ). begins_of es ++ n ∷ []) h

abbrev definition_at : Kept → List Item → ℕ → Definition
definition_at e items end = record { name = e.0; place = e.1.place; items = slice_range items e.1.from end }

pub one_laid : (es : List Kept) (e : Kept) (items : List Item) → e.1.from ≡ length items
    → definitions_of (es ++ e ∷ []) items ≡ definitions_of es items ++ record { name = e.0; place = e.1.place; items = [] } ∷ []
one_laid [] e items h =
    ap (λ (t : List Item). record { name = e.0; place = e.1.place; items = t } ∷ [])
    (ap (λ (n : ℕ). slice_range items n (length items)) h ∙ slice_none items)
one_laid (k ∷ es) e items h =
    let end = length items in
    ap (λ (n : ℕ). definition_at k items n ∷ definitions_of (es ++ e ∷ []) items)
    (ap (λ (bs : List ℕ). begin_at bs 0 end) (begins_more es e end h) ∙ begin_behind (begins_of es) end end)
    ∙ ap (λ (ds : List Definition). definition_at k items (begin_at (begins_of es) 0 end) ∷ ds) (one_laid es e items h)

-- where the last of the entries is the new one, they are laid as before
pub laid_more : (es new : List Kept) (e : Kept) (items : List Item) → new ≡ es ++ e ∷ [] → e.1.from ≡ length items → AreLaid es items → AreLaid new items
laid_more es new e items grown at h =
    let end = length items in
    let begins : begins_of new ≡ begins_of es ++ end ∷ [] = ap begins_of grown ∙ begins_more es e end at in (
      subst (λ (bs : List ℕ). Ascend bs end) (sym begins) (ascend_more (begins_of es) end end h.0 (omega arith)),
      ap (λ (k : List Kept). items_count (definitions_of k items)) grown ∙ ap items_count (one_laid es e items at)
          ∙ omega (arith, h.1, items_more (definitions_of es items) (record { name = e.0; place = e.1.place; items = [] })),
    )

-- ---- one more item

pub item_laid : (es : List Kept) (items : List Item) (item : Item) → Ascend (begins_of es) (length items)
    → definitions_of es (items ++ item ∷ []) ≡ with_item (definitions_of es items) item
item_laid [] items item h = refl
item_laid (e ∷ []) items item h =
    ap (λ (t : List Item). record { name = e.0; place = e.1.place; items = t } ∷ []) (slice_more items (item ∷ []) e.1.from h.0)
item_laid (e ∷ k ∷ es) items item h =
    ap (λ (t : List Item). record { name = e.0; place = e.1.place; items = t } ∷ definitions_of (k ∷ es) (items ++ item ∷ []))
    (slice_kept items (item ∷ []) e.1.from k.1.from h.0 (begin_within (begins_of (k ∷ es)) 0 (length items) h.1))
    ∙ ap (λ (ds : List Definition). definition_at e items k.1.from ∷ ds) (item_laid (k ∷ es) items item h.1)

pub items_one : (ds : List Definition) (item : Item) → 0 < length ds → items_count (with_item ds item) ≡ items_count ds + 1
items_one [] item h = absurd (omega arith)
items_one (d ∷ []) item h = omega (arith, length-append d.items (item ∷ []))
items_one (d ∷ e ∷ ds) item h = omega (arith, items_one (e ∷ ds) item (omega arith))

pub length_one : (ds : List Definition) (item : Item) → length (with_item ds item) ≡ length ds
length_one [] item = refl
length_one (d ∷ []) item = refl
length_one (d ∷ e ∷ ds) item = ap suc (length_one (e ∷ ds) item)

pub laid_on : (es : List Kept) (items new : List Item) (item : Item) → new ≡ items ++ item ∷ [] → 0 < length es → AreLaid es items → AreLaid es new
laid_on es items new item grown some h =
    let more : length new ≡ length items + 1 = omega (arith, ap (λ (t : List Item). length t) grown, length-append items (item ∷ [])) in (
      ascend_on (begins_of es) (length items) (length new) h.0 (omega (arith, more)),
      ap (λ (t : List Item). items_count (definitions_of es t)) grown ∙ ap items_count (item_laid es items item h.0)
          ∙ omega (arith, more, h.1, items_one (definitions_of es items) item (omega (arith, some, length_laid es items))),
    )
