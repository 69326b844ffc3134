-- What is written of items and sections is taken again from the front of a text, and nothing else is.
use Rattle.std.proofs.Common.{◌≡◌, ℕ, ◌+◌, ◌<◌, Bool, true, false, cond, List, [], ◌∷◌, ◌++◌, replicate, length, get_or, flat_map, codes, Option, None, Some, option_and_then, option_map, refl, ap, sym, subst, ◌∙◌, append_assoc, append-nil, arith, length-append}
use Rattle.std.specs.List.{AllByRecursion, join_with_byte}
use Rattle.std.specs.Option.{option_or}
use Rattle.std.proofs.lemmas.Bool.{false≢true}
use Rattle.std.proofs.lemmas.Grind.{flat_map-append}
use Rattle.std.proofs.lemmas.List.{append_cancel_left}
use Rattle.std.proofs.lemmas.List.Splits.{join_with_byte-slice_split}
use Rattle.std.proofs.lemmas.Option.{none-some, same_Some}
use Rattle.acl_packet.specs.declared.addresses.Families.{Families}
use Rattle.acl_packet.specs.declared.filtering.Outcome.{Outcome}
use Rattle.acl_packet.specs.declared.packets.Packet.{Packet}
use Rattle.acl_text.specs.Cuts.{behind, cut_at}
use Rattle.acl_text.proofs.CutLaws.{behind-again}
use Rattle.acl_text.proofs.ListLaws.{all_append}
use Rattle.acl_rows.specs.Rows.{row, row_text, text_of_rows, words_in}
use Rattle.acl_rows.specs.RowSteps.{AreRows, IsRow}
use Rattle.acl_rows.proofs.ListLaws.{joined_text}
use Rattle.acl_rows.proofs.RowLaws.{line_there, row_first, words_there}
use Rattle.nft_lang.specs.declared.documents.Item.{Item}
use Rattle.nft_lang.specs.declared.documents.Item.TheVariants.{Remark, Rule as ARule}
use Rattle.nft_lang.specs.declared.scanning.Taken.{Taken}
use Rattle.nft_lang.specs.Documents.{IsItem}
use Rattle.nft_lang.specs.ReadingSteps.{item_in, rule_in}
use Rattle.nft_lang.specs.ScanSteps.{ItemsTaken, item_text_in, first_item_in, item_text, TakesItem, items_text, TakesItems}
use Rattle.nft_lang.specs.StartSteps.{IsRefused}
use Rattle.nft_lang.specs.Texts.{end_rows, item_rows, rule_words}
use Rattle.nft_lang.specs.ValiditySteps.{is_item}
use Rattle.nft_lang.specs.Walks.{first_holding, rule_holds, decided_by}
use Rattle.nft_lang.proofs.DocumentLaws.{plain_parts}
use Rattle.nft_lang.proofs.RuleReadingLaws.{rule_again}
use Rattle.nft_lang.proofs.SafeRows.{item_safe, rule_begins}
use Rattle.nft_lang.proofs.ValidityLaws.{item_decides}

-- ---- items

abbrev item_words : Families → Item → List (List ℕ)
item_words families (Remark text) = codes "#" ∷ words_in text
item_words families (ARule r) = rule_words families r

item_row : (families : Families) (item : Item) → item_rows families item ≡ row 8 (item_words families item) ∷ []
unfolding item_rows
item_row families (Remark text) = refl
item_row families (ARule r) = refl

row_safe : (families : Families) (item : Item) → IsItem families item → IsRow (row 8 (item_words families item))
row_safe families item h = (subst AreRows (item_row families item) (item_safe families item h)).0

item_first : (families : Families) (item : Item) (rest : List ℕ)
    → item_text families item ++ rest ≡ row_text (row 8 (item_words families item)) ++ rest
item_first families item rest =
    ap (λ rows. text_of_rows rows ++ rest) (item_row families item) ∙ ap (λ t. t ++ rest) (append-nil (row_text (row 8 (item_words families item))))

-- an item begins with five spaces and more, a closing row with four
item_begins : (families : Families) (item : Item) (rest : List ℕ) → (more : List ℕ) × (item_text families item ++ rest ≡ replicate 5 32 ++ more)
unfolding row_text
item_begins families item rest =
    (((replicate 3 32 ++ join_with_byte 32 (item_words families item)) ++ 10 ∷ []) ++ rest, item_first families item rest)

pub no_item_closes : (families : Families) (item : Item) (rest more : List ℕ) → text_of_rows end_rows ++ more ≡ item_text families item ++ rest → ⊥
unfolding row_text
no_item_closes families item rest more e =
    let begun = item_begins families item rest in
    let fifth : 125 ≡ 32 = ap (λ t. get_or t 4 0) (e ∙ begun.1) in
    absurd (omega (arith, fifth))

pub rest_shorter : (families : Families) (item : Item) (text rest : List ℕ) → text ≡ item_text families item ++ rest → length rest < length text
unfolding row_text
rest_shorter families item text rest e =
    let line = join_with_byte 32 (item_words families item) in
    let whole : text ≡ (replicate 8 32 ++ line) ++ 10 ∷ rest = e ∙ item_first families item rest ∙ row_first (row 8 (item_words families item)) rest in
    let size : length text ≡ length (replicate 8 32 ++ line) + length (10 ∷ rest) = ap length whole ∙ length-append (replicate 8 32 ++ line) (10 ∷ rest) in
    omega (arith, size)

item_text_there : (families : Families) (item : Item) (rest : List ℕ) → IsItem families item
    → item_text_in (item_text families item ++ rest) ≡ Some (join_with_byte 32 (item_words families item))
unfolding item_text_in
item_text_there families item rest h =
    let line = row 8 (item_words families item) in
    ap (λ t. option_and_then (λ (cut : List ℕ × List ℕ). behind (replicate 8 32) cut.0) (cut_at 10 t)) (item_first families item rest)
    ∙ ap (option_and_then (λ (cut : List ℕ × List ℕ). behind (replicate 8 32) cut.0)) (line_there line rest (row_safe families item h))
    ∙ behind-again (replicate 8 32) (join_with_byte 32 (item_words families item))

words_again : (families : Families) (item : Item) → IsItem families item
    → words_in (join_with_byte 32 (item_words families item)) ≡ item_words families item
words_again families item h =
    let safe = row_safe families item h in words_there (item_words families item) (record { start = safe.start; words = safe.words })

item_again : (families : Families) (item : Item) → IsItem families item → item_in families (item_words families item) ≡ item
unfolding item_in
item_again families (Remark text) h = ap Remark (join_with_byte-slice_split 32 text)
item_again families (ARule r) h =
    let b = rule_begins families r in
    let parts = plain_parts b.first b.plain in
    ap (item_in families) b.is
    ∙ ap (λ t. cond t (Remark (join_with_byte 32 b.rest)) (ARule (rule_in families (b.first ∷ b.rest)))) parts.0
    ∙ ap (λ ws. ARule (rule_in families ws)) (sym b.is) ∙ ap ARule (rule_again families r h)

first_again : (families : Families) (item : Item) (rest : List ℕ) → IsItem families item
    → first_item_in families (item_text families item ++ rest) ≡ Some item
unfolding first_item_in
first_again families item rest h =
    ap (option_map (λ words. item_in families (words_in words))) (item_text_there families item rest h)
    ∙ ap (λ ws. Some (item_in families ws)) (words_again families item h) ∙ ap Some (item_again families item h)

-- the item that is read is the one that is written
read_is_written : (families : Families) (text more : List ℕ) (o : Option Item) (item : Item) → first_item_in families text ≡ o
    → IsItem families item → text ≡ item_text families item ++ more → o ≡ Some item
read_is_written families text more o item v h e = sym v ∙ ap (first_item_in families) e ∙ first_again families item more h

pub item_taken : (families : Families) (p : Packet) (text : List ℕ) (item : Item) (taken : Taken) → first_item_in families text ≡ Some item
    → is_item families item ≡ true → text ≡ item_text families item ++ taken.rest.now → taken.decided ≡ first_holding (item ∷ []) p
    → TakesItem families p text (Some taken)
item_taken families p text item taken v valid w d = record {
  some = (item, record { valid = (item_decides families item).0 valid; written_first = w; decided = d });
  each = λ other more h e.
      let same = same_Some item other (read_is_written families text more (Some item) other v h e) in
      append_cancel_left (item_text families other) taken.rest.now more (ap (λ x. item_text families x ++ taken.rest.now) (sym same) ∙ sym w ∙ e);
}

pub none_read : (families : Families) (p : Packet) (text : List ℕ) → first_item_in families text ≡ None → TakesItem families p text None
none_read families p text v = record {
  some = tt;
  each = λ other more h e. absurd (none-some other (read_is_written families text more None other v h e));
}

pub none_written : (families : Families) (p : Packet) (text : List ℕ) (item : Item) → first_item_in families text ≡ Some item
    → ((rest : List ℕ) → text ≡ item_text families item ++ rest → ⊥) → TakesItem families p text None
none_written families p text item v n = record {
  some = tt;
  each = λ other more h e.
      let same = same_Some item other (read_is_written families text more (Some item) other v h e) in
      absurd (n more (e ∙ ap (λ x. item_text families x ++ more) (sym same)));
}

pub none_valid : (families : Families) (p : Packet) (text : List ℕ) (item : Item) → first_item_in families text ≡ Some item
    → is_item families item ≡ false → TakesItem families p text None
none_valid families p text item v n = record {
  some = tt;
  each = λ other more h e.
      let same = same_Some item other (read_is_written families text more (Some item) other v h e) in
      absurd (false≢true (sym n ∙ ap (is_item families) same ∙ (item_decides families other).1 h));
}

pub none_refused : (families : Families) (p : Packet) (text : List ℕ) → IsRefused families text → TakesItem families p text None
none_refused families p text refused = record {
  some = tt;
  each = λ other more h e.
      let says = ap (first_item_in families) e ∙ first_again families other more h in
      absurd (false≢true (sym (refused other says) ∙ (item_decides families other).1 h));
}

-- ---- the items of a chain

first_of_both : (p : Packet) (items others : List Item) → first_holding (items ++ others) p ≡ option_or (first_holding items p) (first_holding others p)
unfolding first_holding
first_of_both p [] others = refl
first_of_both p (Remark text ∷ items) others = first_of_both p items others
first_of_both p (ARule r ∷ items) others = by_first (rule_holds r p) (first_of_both p items others) where
  by_first : (b : Bool) → first_holding (items ++ others) p ≡ option_or (first_holding items p) (first_holding others p)
      → cond b (Some (decided_by r)) (first_holding (items ++ others) p)
      ≡ option_or (cond b (Some (decided_by r)) (first_holding items p)) (first_holding others p)
  by_first true h = refl
  by_first false h = h

items_begin : (families : Families) (item : Item) (items : List Item) (more : List ℕ)
    → items_text families (item ∷ items) ++ more ≡ item_text families item ++ (items_text families items ++ more)
unfolding items_text
items_begin families item items more =
    let rows = flat_map (item_rows families) items ++ end_rows in
    ap (λ rs. text_of_rows rs ++ more) (append_assoc (item_rows families item) (flat_map (item_rows families) items) end_rows)
    ∙ ap (λ t. t ++ more) (flat_map-append row_text (item_rows families item) rows)
    ∙ append_assoc (item_text families item) (text_of_rows rows) more

items_end : (families : Families) (more : List ℕ) → items_text families [] ++ more ≡ text_of_rows end_rows ++ more
unfolding items_text
items_end families more = refl

items_closed : (families : Families) (items : List Item) (more : List ℕ)
    → text_of_rows (flat_map (item_rows families) items) ++ (text_of_rows end_rows ++ more) ≡ items_text families items ++ more
unfolding items_text
items_closed families items more =
    sym (append_assoc (text_of_rows (flat_map (item_rows families) items)) (text_of_rows end_rows) more)
    ∙ ap (λ t. t ++ more) (sym (flat_map-append row_text (flat_map (item_rows families) items) end_rows))

pub none_taken : (families : Families) (p : Packet) (text : List ℕ) → ItemsTaken families p text text None
unfolding first_holding
none_taken families p text = record { before = ([], tt, refl, refl); behind = λ items more h e. (items, h, e) }

pub one_taken : (families : Families) (p : Packet) (text rest : List ℕ) (decided : Option Outcome) (taken : Taken)
    → ItemsTaken families p text rest decided → TakesItem families p rest (Some taken)
    → ItemsTaken families p text taken.rest.now (option_or decided taken.decided)
one_taken families p text rest decided taken so_far next =
    let items = so_far.before.0 in
    let item = next.some.0 in
    let is = next.some.1 in
    let written = text_of_rows (flat_map (item_rows families) items) in
    let joined : written ++ item_text families item ≡ text_of_rows (flat_map (item_rows families) (items ++ item ∷ [])) =
    ap (λ rows. written ++ text_of_rows rows) (sym (append-nil (item_rows families item))) ∙ joined_text (item_rows families) items (item ∷ []) in
    record {
      before = (
        items ++ item ∷ [],
        all_append (IsItem families) items (item ∷ []) so_far.before.1 (is.valid, tt),
        so_far.before.2 ∙ ap (λ t. written ++ t) is.written_first ∙ sym (append_assoc written (item_text families item) taken.rest.now)
            ∙ ap (λ t. t ++ taken.rest.now) joined,
        ap (λ d. option_or d taken.decided) so_far.before.3 ∙ ap (option_or (first_holding items p)) is.decided
            ∙ sym (first_of_both p items (item ∷ [])),
      );
      behind = λ others more h e. let left = so_far.behind others more h e in left_of left.0 more left.1 left.2;
    }
  where
    left_of : (left : List Item) (more : List ℕ) → AllByRecursion (IsItem families) left → rest ≡ items_text families left ++ more
        → (others : List Item) × AllByRecursion (IsItem families) others × (taken.rest.now ≡ items_text families others ++ more)
    left_of [] more h e =
        absurd (no_item_closes families next.some.0 taken.rest.now more (sym (items_end families more) ∙ sym e ∙ next.some.1.written_first))
    left_of (item ∷ others) more h e =
        (others, h.1, next.each item (items_text families others ++ more) h.0 (e ∙ items_begin families item others more))

pub items_taken : (families : Families) (p : Packet) (text rest : List ℕ) (taken : Taken) → ItemsTaken families p text rest taken.decided
    → TakesItem families p rest None → rest ≡ text_of_rows end_rows ++ taken.rest.now → TakesItems families p text (Some taken)
items_taken families p text rest taken so_far last closed =
    let items = so_far.before.0 in
    let written = text_of_rows (flat_map (item_rows families) items) in
    record {
      some = (
        items,
        record {
          valid = so_far.before.1;
          written_first = so_far.before.2 ∙ ap (λ t. written ++ t) closed ∙ items_closed families items taken.rest.now;
          decided = so_far.before.3;
        },
      );
      each = λ others more h e. let left = so_far.behind others more h e in left_of left.0 more left.1 left.2;
    }
  where
    left_of : (left : List Item) (more : List ℕ) → AllByRecursion (IsItem families) left → rest ≡ items_text families left ++ more → taken.rest.now ≡ more
    left_of [] more h e = append_cancel_left (text_of_rows end_rows) taken.rest.now more (sym closed ∙ e ∙ items_end families more)
    left_of (item ∷ others) more h e =
        absurd (last.each item (items_text families others ++ more) h.0 (e ∙ items_begin families item others more))

pub not_closed : (families : Families) (p : Packet) (text rest : List ℕ) (decided : Option Outcome) → ItemsTaken families p text rest decided
    → TakesItem families p rest None → ((more : List ℕ) → rest ≡ text_of_rows end_rows ++ more → ⊥) → TakesItems families p text None
not_closed families p text rest decided so_far last unclosed = record {
  some = tt;
  each = λ others more h e. let left = so_far.behind others more h e in left_of left.0 more left.1 left.2;
}
  where
    left_of : (left : List Item) (more : List ℕ) → AllByRecursion (IsItem families) left → rest ≡ items_text families left ++ more → ⊥
    left_of [] more h e = unclosed more (e ∙ items_end families more)
    left_of (item ∷ others) more h e = last.each item (items_text families others ++ more) h.0 (e ∙ items_begin families item others more)
