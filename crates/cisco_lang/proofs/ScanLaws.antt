-- What is taken from the front of a text is what stands there, and all that stands there is taken: rows, items and lists.
use Rattle.std.proofs.Common.{◌≡◌, ℕ, ◌<◌, length, Bool, true, false, cond, List, [], ◌∷◌, ◌++◌, drop, flat_map, Option, None, Some, option_map, option_and_then, refl, ap, sym, subst, ◌∙◌, append_assoc, append-nil, arith, ◌||◌}
use Rattle.std.specs.List.{AllByRecursion}
use Rattle.std.proofs.lemmas.Bool.{cond-true}
use Rattle.std.proofs.lemmas.Grind.{flat_map-append}
use Rattle.std.proofs.lemmas.List.{length-append}
use Rattle.std.proofs.lemmas.List.Folds.{list_any-append}
use Rattle.std.proofs.lemmas.Option.{none-some, same_Some, some_pair_parts, option_and_then_some}
use Rattle.acl_packet.proofs.ChoiceLaws.{guarded}
use Rattle.acl_packet.specs.declared.addresses.Family.{Family}
use Rattle.acl_packet.specs.declared.packets.Packet.{Packet}
use Rattle.acl_packet.specs.declared.filtering.Outcome.{Outcome}
use Rattle.acl_text.specs.Cuts.{behind, cut_at}
use Rattle.acl_text.proofs.CutLaws.{behind-again, behind-found}
use Rattle.acl_text.proofs.ListLaws.{all_append}
use Rattle.acl_text.proofs.OptionStepLaws.{mapped}
use Rattle.acl_rows.specs.Rows.{Row, row, row_line, row_text, text_of_rows, words_in}
use Rattle.acl_rows.specs.RowSteps.{IsRow}
use Rattle.acl_rows.proofs.RowLaws.{line_there, words_there}
use Rattle.cisco_lang.specs.declared.documents.Item.{Item}
use Rattle.cisco_lang.specs.declared.documents.Item.TheVariants.{Remark, Entry as AnEntry}
use Rattle.cisco_lang.specs.declared.documents.Entry.{Entry}
use Rattle.cisco_lang.specs.declared.scanning.TakenList.{TakenList}
use Rattle.cisco_lang.specs.declared.scanning.Walked.{Walked}
use Rattle.cisco_lang.specs.Documents.{IsItem}
use Rattle.cisco_lang.specs.ReadingSteps.{item_in}
use Rattle.cisco_lang.specs.ScanSteps.{ItemsSoFar, ItemsTaken, TakesList, entry_part, item_behind, item_taken, list_of, or_entry, walk_end, walk_on, walked_by}
use Rattle.cisco_lang.specs.Texts.{end_rows, head_rows, item_rows, list_rows}
use Rattle.cisco_lang.specs.ValiditySteps.{is_item}
use Rattle.cisco_lang.specs.Walks.{decided_by, entry_holds, first_holding, has_entries, is_entry, walk}
use Rattle.cisco_lang.proofs.DocumentLaws.{item_again, item_words, one_row}
use Rattle.cisco_lang.proofs.SafeRows.{item_safe}
use Rattle.cisco_lang.proofs.ValidityLaws.{item_decides}

-- ---- rows

-- what a text has behind rows, by what is known of it
pub rows_found : (rows : List Row) (text rest : List ℕ) → text ≡ text_of_rows rows ++ rest → Some rest ≡ behind (text_of_rows rows) text
rows_found rows text rest e = sym (ap (behind (text_of_rows rows)) e ∙ behind-again (text_of_rows rows) rest)

pub none_unless : {A : Type 0} (o : Option A) → ((x : A) → o ≡ Some x → ⊥) → o ≡ None
none_unless None h = refl
none_unless (Some x) h = absurd (h x refl)

pub rows_missing : (rows : List Row) (text : List ℕ) → ((rest : List ℕ) → text ≡ text_of_rows rows ++ rest → ⊥) → None ≡ behind (text_of_rows rows) text
rows_missing rows text h =
    let o : Option (List ℕ) = behind (text_of_rows rows) text in
    sym (none_unless o (λ rest e. h rest (behind-found (text_of_rows rows) text rest e)))

pub rows_split : (xs ys : List Row) (text : List ℕ) → text_of_rows (xs ++ ys) ++ text ≡ text_of_rows xs ++ (text_of_rows ys ++ text)
rows_split xs ys text = ap (λ t. t ++ text) (flat_map-append row_text xs ys) ∙ append_assoc (text_of_rows xs) (text_of_rows ys) text

-- the first line of a text that begins with a row
pub line_again : (r : Row) (more : List ℕ) → IsRow r → cut_at 10 (text_of_rows (r ∷ []) ++ more) ≡ Some (row_line r, more)
line_again r more h = ap (λ t. cut_at 10 (t ++ more)) (append-nil (row_text r)) ∙ line_there r more h

-- rows have bytes
pub row_long : (r : Row) (rest : List ℕ) → length rest < length (text_of_rows (r ∷ []) ++ rest)
unfolding row_text
row_long r rest =
    let line : List ℕ = row_line r in
    let a = length-append ((line ++ 10 ∷ []) ++ []) rest in
    let b = ap length (append-nil (line ++ 10 ∷ [])) in
    let c = length-append line (10 ∷ []) in
    omega (arith, a, b, c)

-- ---- items

-- the item whose row a text begins with is taken
pub item_taken_again : (f : Family) (i : Item) (more : List ℕ) → IsItem f i → item_taken f (text_of_rows (item_rows f i) ++ more) ≡ Some (entry_part i, more)
unfolding item_taken
item_taken_again f i more h =
    let r : Row = row 1 (item_words f i) in
    let rows : List Row = item_rows f i in
    let text : List ℕ = text_of_rows rows ++ more in
    let safe : IsRow r = let P : List Row → Type 0 = AllByRecursion IsRow in (subst P (one_row f i) (item_safe f i h)).0 in
    let cut : cut_at 10 text ≡ Some (row_line r, more) = ap (λ rs. cut_at 10 (text_of_rows rs ++ more)) (one_row f i) ∙ line_again r more safe in
    let words : drop 1 (words_in (row_line r)) ≡ item_words f i = words_there (item_words f i) (record { start = safe.start; words = safe.words }) in
    ap (option_and_then (λ (c : List ℕ × List ℕ). item_behind f (item_in f (drop 1 (words_in c.0))) text)) cut
    ∙ ap (λ ws. item_behind f (item_in f ws) text) words ∙ ap (λ j. item_behind f j text) (item_again f i h)
    ∙ cond-true _ _ _ ((item_decides f i).1 h) ∙ ap (option_map (λ (rest : List ℕ). (entry_part i, rest))) (behind-again (text_of_rows rows) more)

-- what is taken is an item's row
pub record IsFound (f : Family) (text : List ℕ) (entry : Option Entry) (rest : List ℕ) (i : Item) : Type 0 where
  pub valid : IsItem f i
  pub part : entry_part i ≡ entry
  pub written : text ≡ text_of_rows (item_rows f i) ++ rest

behind_item : (f : Family) (i : Item) (text rest : List ℕ) (entry : Option Entry) → item_behind f i text ≡ Some (entry, rest) → IsFound f text entry rest i
behind_item f i text rest entry h =
    let front : List ℕ = text_of_rows (item_rows f i) in
    let g = guarded (is_item f i) _ (entry, rest) h in
    let m = mapped (λ (t : List ℕ). (entry_part i, t)) (behind front text) (entry, rest) g.1 in
    record {
      valid = (item_decides f i).0 g.0;
      part = ap (λ (p : Option Entry × List ℕ). p.0) m.2;
      written = behind-found front text m.0 m.1 ∙ ap (λ t. front ++ t) (ap (λ (p : Option Entry × List ℕ). p.1) m.2);
    }

pub item_found : (f : Family) (text rest : List ℕ) (entry : Option Entry) → item_taken f text ≡ Some (entry, rest) → (i : Item) × IsFound f text entry rest i
unfolding item_taken
item_found f text rest entry h =
    option_and_then_some (λ (c : List ℕ × List ℕ). item_behind f (item_in f (drop 1 (words_in c.0))) text) (cut_at 10 text) (entry, rest) h
    (λ c e k. let i : Item = item_in f (drop 1 (words_in c.0)) in (i, behind_item f i text rest entry k))

pub item_shorter : (f : Family) (text rest : List ℕ) (entry : Option Entry) → item_taken f text ≡ Some (entry, rest) → length rest < length text
item_shorter f text rest entry h =
    let found = item_found f text rest entry h in
    let e : text ≡ text_of_rows (row 1 (item_words f found.0) ∷ []) ++ rest = found.1.written ∙ ap (λ rs. text_of_rows rs ++ rest) (one_row f found.0) in
    let long = row_long (row 1 (item_words f found.0)) rest in
    let same = ap length e in
    omega (arith, long, same)

-- the row that ends a list is none of an item
first_same : (a b : ℕ) (s t : List ℕ) → a ∷ s ≡ b ∷ t → a ≡ b
first_same a b s t e = cc

exit_begins : (ws : List (List ℕ)) (more rest : List ℕ) → text_of_rows end_rows ++ more ≡ text_of_rows (row 1 ws ∷ []) ++ rest → ⊥
unfolding row_text
exit_begins ws more rest e = let n = first_same 101 32 _ _ e in omega (arith, n)

pub no_item_ends : (f : Family) (more : List ℕ) → item_taken f (text_of_rows end_rows ++ more) ≡ None
no_item_ends f more =
    let text : List ℕ = text_of_rows end_rows ++ more in
    none_unless (item_taken f text) (λ x h.
    let found = item_found f text x.1 x.0 h in
    exit_begins (item_words f found.0) more x.1 (found.1.written ∙ ap (λ rs. text_of_rows rs ++ x.1) (one_row f found.0)))

-- ---- all items

items_split : (f : Family) (i : Item) (is : List Item) (rest : List ℕ)
    → text_of_rows (flat_map (item_rows f) (i ∷ is)) ++ rest ≡ text_of_rows (item_rows f i) ++ (text_of_rows (flat_map (item_rows f) is) ++ rest)
items_split f i is rest = rows_split (item_rows f i) (flat_map (item_rows f) is) rest

-- behind all items that a text begins with stands the same, whatever they are
pub items_once : (f : Family) (is js : List Item) (a b : List ℕ) → AllByRecursion (IsItem f) is → AllByRecursion (IsItem f) js
    → item_taken f a ≡ None → item_taken f b ≡ None
    → text_of_rows (flat_map (item_rows f) is) ++ a ≡ text_of_rows (flat_map (item_rows f) js) ++ b → a ≡ b
items_once f [] [] a b h k n m e = e
items_once f [] (j ∷ js) a b h k n m e =
    let rest : List ℕ = text_of_rows (flat_map (item_rows f) js) ++ b in
    absurd (none-some (entry_part j, rest) (sym n ∙ ap (item_taken f) (e ∙ items_split f j js b) ∙ item_taken_again f j rest k.0))
items_once f (i ∷ is) [] a b h k n m e =
    let rest : List ℕ = text_of_rows (flat_map (item_rows f) is) ++ a in
    absurd (none-some (entry_part i, rest) (sym m ∙ ap (item_taken f) (sym e ∙ items_split f i is a) ∙ item_taken_again f i rest h.0))
items_once f (i ∷ is) (j ∷ js) a b h k n m e =
    let rest : List ℕ = text_of_rows (flat_map (item_rows f) is) ++ a in
    let other : List ℕ = text_of_rows (flat_map (item_rows f) js) ++ b in
    let same : text_of_rows (item_rows f i) ++ rest ≡ text_of_rows (item_rows f j) ++ other = sym (items_split f i is a) ∙ e ∙ items_split f j js b in
    let both = sym (item_taken_again f i rest h.0) ∙ ap (item_taken f) same ∙ item_taken_again f j other k.0 in
    items_once f is js a b h.1 k.1 n m (some_pair_parts (entry_part i) (entry_part j) rest other both).1

-- ---- the walk

first_more : (is : List Item) (e : Entry) (p : Packet) → or_entry (first_holding is p) e p ≡ first_holding (is ++ AnEntry e ∷ []) p
unfolding first_holding
first_more [] e p = refl
first_more (Remark text ∷ is) e p = first_more is e p
first_more (AnEntry d ∷ is) e p = either (entry_holds d p) (first_more is e p) where
  either : (b : Bool) → or_entry (first_holding is p) e p ≡ first_holding (is ++ AnEntry e ∷ []) p
      → or_entry (cond b (Some (decided_by d)) (first_holding is p)) e p ≡ cond b (Some (decided_by d)) (first_holding (is ++ AnEntry e ∷ []) p)
  either true h = refl
  either false h = h

first_remark : (is : List Item) (text : List ℕ) (p : Packet) → first_holding is p ≡ first_holding (is ++ Remark text ∷ []) p
unfolding first_holding
first_remark [] text p = refl
first_remark (Remark other ∷ is) text p = first_remark is text p
first_remark (AnEntry d ∷ is) text p = ap (cond (entry_holds d p) (Some (decided_by d))) (first_remark is text p)

or_true : (b : Bool) → true ≡ (b || (true || false))
or_true true = refl
or_true false = refl

or_false : (b : Bool) → b ≡ (b || (false || false))
or_false true = refl
or_false false = refl

abbrev pub with : Bool → Option Outcome → Walked
with b o = record { has_entries = b; first = o }

walked_more : (is : List Item) (i : Item) (p : Packet) → walk_on (walked_by is p) (entry_part i) p ≡ walked_by (is ++ i ∷ []) p
walked_more is (Remark text) p =
    let has = or_false (has_entries is) ∙ sym (list_any-append is_entry is (Remark text ∷ [])) in
    ap (λ b. with b (first_holding is p)) has ∙ ap (with (has_entries (is ++ Remark text ∷ []))) (first_remark is text p)
walked_more is (AnEntry e) p =
    let has = or_true (has_entries is) ∙ sym (list_any-append is_entry is (AnEntry e ∷ [])) in
    ap (λ b. with b (or_entry (first_holding is p) e p)) has ∙ ap (with (has_entries (is ++ AnEntry e ∷ []))) (first_more is e p)

pub nothing_so_far : (f : Family) (p : Packet) (text : List ℕ) → (is : List Item) × ItemsSoFar f p text text (with false None) is
unfolding first_holding
nothing_so_far f p text = ([], record { valid = tt; written = refl; known = refl })

-- one item more
pub so_far_more : (f : Family) (p : Packet) (text rest more : List ℕ) (w : Walked) (entry : Option Entry) (is : List Item)
    → ItemsSoFar f p text rest w is → item_taken f rest ≡ Some (entry, more)
    → (js : List Item) × ItemsSoFar f p text more (walk_on w entry p) js
so_far_more f p text rest more w entry is h k =
    let found = item_found f rest more entry k in
    let i = found.0 in
    let front : List ℕ = text_of_rows (flat_map (item_rows f) is) in
    let rows : flat_map (item_rows f) (is ++ i ∷ []) ≡ flat_map (item_rows f) is ++ item_rows f i =
    flat_map-append (item_rows f) is (i ∷ []) ∙ ap (λ rs. flat_map (item_rows f) is ++ rs) (append-nil (item_rows f i)) in (
      is ++ i ∷ [],
      record {
        valid = all_append (IsItem f) is (i ∷ []) h.valid (found.1.valid, tt);
        written = h.written ∙ ap (λ t. front ++ t) found.1.written ∙ sym (ap (λ rs. text_of_rows rs ++ more) rows ∙ rows_split (flat_map (item_rows f) is) (item_rows f i) more);
        known = ap (λ v. walk_on v entry p) h.known ∙ ap (λ e. walk_on (walked_by is p) e p) (sym found.1.part) ∙ walked_more is i p;
      },
    )

pub items_taken : (f : Family) (p : Packet) (text : List ℕ) (w : Walked) (taken : TakenList)
    → (is : List Item) × ItemsSoFar f p text taken.rest.now w is → taken.outcome ≡ walk_end f w p → item_taken f taken.rest.now ≡ None
    → (is : List Item) × ItemsTaken f p text taken is
unfolding walk
items_taken f p text w taken h o n = (
  h.0,
  record {
    valid = h.1.valid;
    written = h.1.written;
    decided = o ∙ ap (λ v. walk_end f v p) h.1.known;
    no_more = n;
  },
)

-- ---- lists

pub list_split : (f : Family) (name : List ℕ) (is : List Item) (more : List ℕ)
    → text_of_rows (list_rows (list_of f name is)) ++ more ≡ text_of_rows (head_rows f name) ++ (text_of_rows (flat_map (item_rows f) is) ++ (text_of_rows end_rows ++ more))
unfolding list_rows
list_split f name is more =
    rows_split (head_rows f name) (flat_map (item_rows f) is ++ end_rows) more ∙ ap (λ t. text_of_rows (head_rows f name) ++ t) (rows_split (flat_map (item_rows f) is) end_rows more)

pub no_head : (f : Family) (name : List ℕ) (p : Packet) (text : List ℕ) → None ≡ behind (text_of_rows (head_rows f name)) text → TakesList f name p text None
no_head f name p text n = record {
  some = tt;
  each = λ is more h e.
      let front : List ℕ = text_of_rows (head_rows f name) in
      let rest : List ℕ = text_of_rows (flat_map (item_rows f) is) ++ (text_of_rows end_rows ++ more) in
      none-some rest (n ∙ ap (behind front) (e ∙ list_split f name is more) ∙ behind-again front rest);
}

-- what stands behind the items of a list is the row that ends it
list_ends : (f : Family) (name : List ℕ) (p : Packet) (text begun more : List ℕ) (taken : TakenList) (is : List Item)
    → Some begun ≡ behind (text_of_rows (head_rows f name)) text → (js : List Item) × ItemsTaken f p begun taken js → AllByRecursion (IsItem f) is
    → text ≡ text_of_rows (list_rows (list_of f name is)) ++ more → behind (text_of_rows end_rows) taken.rest.now ≡ Some more
list_ends f name p text begun more taken is b t h e =
    let front : List ℕ = text_of_rows (head_rows f name) in
    let end : List ℕ = text_of_rows end_rows in
    let rest : List ℕ = text_of_rows (flat_map (item_rows f) is) ++ (end ++ more) in
    let same : begun ≡ rest = same_Some begun rest (b ∙ ap (behind front) (e ∙ list_split f name is more) ∙ behind-again front rest) in
    let ends = items_once f t.0 is taken.rest.now (end ++ more) t.1.valid h t.1.no_more (no_item_ends f more) (sym t.1.written ∙ same) in
    ap (behind end) ends ∙ behind-again end more

pub no_end : (f : Family) (name : List ℕ) (p : Packet) (text begun : List ℕ) (taken : TakenList)
    → Some begun ≡ behind (text_of_rows (head_rows f name)) text → (js : List Item) × ItemsTaken f p begun taken js
    → None ≡ behind (text_of_rows end_rows) taken.rest.now → TakesList f name p text None
no_end f name p text begun taken b t n = record {
  some = tt;
  each = λ is more h e. none-some more (n ∙ list_ends f name p text begun more taken is b t h e);
}

pub list_taken : (f : Family) (name : List ℕ) (p : Packet) (text begun : List ℕ) (items taken : TakenList)
    → Some begun ≡ behind (text_of_rows (head_rows f name)) text → (js : List Item) × ItemsTaken f p begun items js
    → Some taken.rest.now ≡ behind (text_of_rows end_rows) items.rest.now → taken.outcome ≡ items.outcome → TakesList f name p text (Some taken)
list_taken f name p text begun items taken b t n o = record {
  some = (
    t.0,
    record {
      valid = t.1.valid;
      written =
          let front : List ℕ = text_of_rows (head_rows f name) in
          let end : List ℕ = text_of_rows end_rows in
          let row : List ℕ = text_of_rows (flat_map (item_rows f) t.0) in
          behind-found front text begun (sym b) ∙ ap (λ x. front ++ x) (t.1.written ∙ ap (λ x. row ++ x) (behind-found end items.rest.now taken.rest.now (sym n)))
          ∙ sym (list_split f name t.0 taken.rest.now);
      decided = o ∙ t.1.decided;
    },
  );
  each = λ is more h e. same_Some taken.rest.now more (n ∙ list_ends f name p text begun more items is b t h e);
}
