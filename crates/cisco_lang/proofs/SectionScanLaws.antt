-- A section that is taken from the front of a text is the one that stands there: its names, its lists, and the whole.
use Rattle.std.proofs.Common.{◌≡◌, ℕ, length, true, cond, List, [], ◌∷◌, ◌++◌, flat_map, codes, Option, None, Some, option_map, option_and_then, refl, ap, sym, subst, ◌∙◌, append-nil, arith}
use Rattle.std.specs.Borrow.{Bor}
use Rattle.std.specs.List.{AllByRecursion}
use Rattle.std.specs.Option.{IsSomeAnd, option_to_list}
use Rattle.std.specs.Str.{bytes_eq}
use Rattle.std.proofs.lemmas.Bool.{cond-true}
use Rattle.std.proofs.lemmas.Grind.{flat_map-append}
use Rattle.std.proofs.lemmas.List.{length-append}
use Rattle.std.proofs.lemmas.Option.{none-some, same_Some, option_and_then_some}
use Rattle.std.proofs.lemmas.Slice.Eq.{bytes_eq-Decides}
use Rattle.acl_packet.proofs.ChoiceLaws.{guarded}
use Rattle.acl_packet.specs.declared.addresses.Family.{Family}
use Rattle.acl_packet.specs.declared.addresses.Family.TheVariants.{V4, V6}
use Rattle.acl_packet.specs.declared.addresses.Families.{Families}
use Rattle.acl_packet.specs.declared.addresses.Families.TheVariants.{Mixed}
use Rattle.acl_packet.specs.declared.packets.Packet.{Packet}
use Rattle.acl_packet.specs.declared.filtering.Outcome.{Outcome}
use Rattle.acl_packet.specs.Addresses.{covers}
use Rattle.acl_text.specs.Cuts.{behind, cut_at}
use Rattle.acl_text.specs.Names.{is_filter_name}
use Rattle.acl_text.proofs.CutLaws.{behind-again, behind-found}
use Rattle.acl_text.proofs.OptionStepLaws.{mapped}
use Rattle.acl_rows.specs.Rows.{Row, row, row_line, row_text, text_of_rows, words_in}
use Rattle.acl_rows.specs.RowSteps.{IsRow}
use Rattle.acl_rows.specs.FamilyWords.{families_in}
use Rattle.acl_rows.specs.Scans.{TakesSection}
use Rattle.acl_rows.specs.declared.scanning.TakenSection.{TakenSection}
use Rattle.acl_rows.proofs.WordLaws.{name_word}
use Rattle.cisco_lang.specs.declared.documents.AccessList.{AccessList}
use Rattle.cisco_lang.specs.declared.documents.Section.{Section}
use Rattle.cisco_lang.specs.declared.documents.Item.{Item}
use Rattle.cisco_lang.specs.declared.scanning.TakenList.{TakenList}
use Rattle.cisco_lang.specs.declared.scanning.TakenLists.{TakenLists}
use Rattle.cisco_lang.specs.AddressReading.{next_word}
use Rattle.cisco_lang.specs.Documents.{IsItem, IsList, IsSection, heads_of, list_names}
use Rattle.cisco_lang.specs.ScanSteps.{AreListsOf, TakesList, TakesLists, by_family, heading_behind, heading_taken, list_of, only, second_name, third_and_fourth, where_family}
use Rattle.cisco_lang.specs.Texts.{end_rows, families_word, head_words, item_rows, list_rows, section_row, section_rows}
use Rattle.cisco_lang.specs.Walks.{items_of, section_outcome, walk}
use Rattle.cisco_lang.proofs.DocumentLaws.{families_again}
use Rattle.cisco_lang.proofs.SafeRows.{head_safe, heading_safe, heads_safe}
use Rattle.cisco_lang.proofs.ValidityLaws.{head_of}
use Rattle.acl_rows.proofs.RowLaws.{words_there}
use Rattle.cisco_lang.proofs.ScanLaws.{line_again, list_split, row_long, rows_split}

-- ---- names

four_words : (line a b c d : List ℕ) → words_in line ≡ a ∷ b ∷ c ∷ d ∷ [] → third_and_fourth line ≡ (c, d)
unfolding third_and_fourth next_word
four_words line a b c d e =
    ap (λ (ws : List (List ℕ)). let third = next_word (next_word (next_word ws).1).1 in (third.0, (next_word third.1).0)) e

-- the last two words of a row of four
four_again : (a b c d : List ℕ) → IsRow (row 0 (a ∷ b ∷ c ∷ d ∷ [])) → third_and_fourth (row_line (row 0 (a ∷ b ∷ c ∷ d ∷ []))) ≡ (c, d)
four_again a b c d h = four_words (row_line (row 0 (a ∷ b ∷ c ∷ d ∷ []))) a b c d (words_there (a ∷ b ∷ c ∷ d ∷ []) (record { start = h.start; words = h.words }))

abbrev six : List ℕ → List ℕ
six name = codes "ipv6-" ++ name

second_again : (name more : List ℕ) → is_filter_name name ≡ true
    → second_name name (text_of_rows (row 0 (codes "no" ∷ head_words V6 (six name)) ∷ []) ++ more) ≡ Some (six name)
unfolding second_name
second_again name more h =
    let words : List (List ℕ) = codes "no" ∷ head_words V6 (six name) in
    let word = (heads_safe Mixed name (name_word name h)).1.0 in
    let safe : IsRow (row 0 words) = (head_safe V6 (six name) word).0 in
    let read : List ℕ → Option (List ℕ) = λ w. cond (bytes_eq w (six name)) (Some w) None in
    ap (option_and_then (λ (c : List ℕ × List ℕ). read (third_and_fourth c.0).1)) (line_again (row 0 words) more safe)
    ∙ ap (λ (p : List ℕ × List ℕ). read p.1) (four_again (codes "no") (codes "ipv6") (codes "access-list") (six name) safe)
    ∙ cond-true _ _ _ ((bytes_eq-Decides (six name) (six name)).1 refl)

second_found : (name text second : List ℕ) → Some second ≡ second_name name text → second ≡ six name
unfolding second_name
second_found name text second h =
    let read : List ℕ → Option (List ℕ) = λ w. cond (bytes_eq w (six name)) (Some w) None in
    option_and_then_some (λ (c : List ℕ × List ℕ). read (third_and_fourth c.0).1) (cut_at 10 text) second (sym h)
    (λ c e k.
    let word : List ℕ = (third_and_fourth c.0).1 in
    let g = guarded (bytes_eq word (six name)) (Some word) second k in
    sym (same_Some word second g.1) ∙ (bytes_eq-Decides word (six name)).0 g.0)

heading_again : (name : List ℕ) (fs : Families) (more : List ℕ) → is_filter_name name ≡ true
    → heading_taken (text_of_rows (section_row name fs ∷ []) ++ more) ≡ Some (name, fs, more)
unfolding heading_taken
heading_again name fs more h =
    let front : List ℕ = text_of_rows (section_row name fs ∷ []) in
    let text : List ℕ = front ++ more in
    let safe = heading_safe name fs (name_word name h) in
    let read : List ℕ × List ℕ → Option (List ℕ × Families × List ℕ) = λ p. heading_behind p.0 (families_in p.1) text in
    ap (option_and_then (λ (c : List ℕ × List ℕ). read (third_and_fourth c.0))) (line_again (section_row name fs) more safe)
    ∙ ap read (four_again (codes "!") (codes "cisco") name (families_word fs) safe)
    ∙ ap (λ f. heading_behind name f text) (families_again fs) ∙ cond-true _ _ _ h
    ∙ ap (option_map (λ (rest : List ℕ). (name, fs, rest))) (behind-again front more)

pub record IsHeaded (name : List ℕ) (fs : Families) (text rest : List ℕ) : Type 0 where
  pub named : is_filter_name name ≡ true
  pub written : text ≡ text_of_rows (section_row name fs ∷ []) ++ rest

behind_heading : (name other : List ℕ) (fs gs : Families) (text rest : List ℕ) → heading_behind other gs text ≡ Some (name, fs, rest) → IsHeaded name fs text rest
behind_heading name other fs gs text rest h =
    let front : List ℕ = text_of_rows (section_row other gs ∷ []) in
    let g = guarded (is_filter_name other) _ (name, fs, rest) h in
    let m = mapped (λ (t : List ℕ). (other, gs, t)) (behind front text) (name, fs, rest) g.1 in
    let n : other ≡ name = ap (λ (x : List ℕ × Families × List ℕ). x.0) m.2 in
    let f : gs ≡ fs = ap (λ (x : List ℕ × Families × List ℕ). x.1) m.2 in
    let r : m.0 ≡ rest = ap (λ (x : List ℕ × Families × List ℕ). x.2) m.2 in
    record {
      named = ap is_filter_name (sym n) ∙ g.0;
      written = behind-found front text m.0 m.1 ∙ ap (λ t. front ++ t) r ∙ ap (λ x. text_of_rows (section_row x gs ∷ []) ++ rest) n
          ∙ ap (λ x. text_of_rows (section_row name x ∷ []) ++ rest) f;
    }

heading_found : (name : List ℕ) (fs : Families) (text rest : List ℕ) → Some (name, fs, rest) ≡ heading_taken text → IsHeaded name fs text rest
unfolding heading_taken
heading_found name fs text rest h =
    let read : List ℕ × List ℕ → Option (List ℕ × Families × List ℕ) = λ p. heading_behind p.0 (families_in p.1) text in
    option_and_then_some (λ (c : List ℕ × List ℕ). read (third_and_fourth c.0)) (cut_at 10 text) (name, fs, rest) (sym h)
    (λ c e k. behind_heading name (third_and_fourth c.0).0 fs (families_in (third_and_fourth c.0).1) text rest k)

-- ---- the lists of a section

record IsListOf (f : Family) (name : List ℕ) (l : AccessList) : Type 0 where
  same : l ≡ list_of f name l.items
  valid : AllByRecursion (IsItem f) l.items

list_is : (f : Family) (name : List ℕ) (l : AccessList) → head_of l ≡ (f, name) → IsList l → IsListOf f name l
list_is f name l e h =
    let family : l.family ≡ f = ap (λ (p : Family × List ℕ). p.0) e in
    let named : l.name ≡ name = ap (λ (p : Family × List ℕ). p.1) e in
    let P : Family → Type 0 = λ g. AllByRecursion (IsItem g) l.items in
    record { same = ap (λ g. list_of g l.name l.items) family ∙ ap (λ n. list_of f n l.items) named; valid = subst P family h }

heads_only : (f : Family) (name : List ℕ) → heads_of (only f) name ≡ (f, name) ∷ []
heads_only V4 name = refl
heads_only V6 name = refl

record IsOneList (f : Family) (name : List ℕ) (lists : List AccessList) (items : List Item) : Type 0 where
  same : lists ≡ list_of f name items ∷ []
  valid : AllByRecursion (IsItem f) items

one_list : (f : Family) (name : List ℕ) (lists : List AccessList) → AreListsOf (only f) name lists → (items : List Item) × IsOneList f name lists items
one_list f name [] h = let e = h.heads ∙ heads_only f name in absurd cc
one_list f name (l ∷ []) h =
    let e = h.heads ∙ heads_only f name in
    let head : head_of l ≡ (f, name) = cc in
    let is = list_is f name l head h.valid.0 in
    (l.items, record { same = ap (λ x. x ∷ []) is.same; valid = is.valid })
one_list f name (l ∷ m ∷ lists) h = let e = h.heads ∙ heads_only f name in absurd cc

record AreTwoLists (name : List ℕ) (lists : List AccessList) (items others : List Item) : Type 0 where
  same : lists ≡ list_of V4 name items ∷ list_of V6 (six name) others ∷ []
  first : AllByRecursion (IsItem V4) items
  second : AllByRecursion (IsItem V6) others

two_lists : (name : List ℕ) (lists : List AccessList) → AreListsOf Mixed name lists → (items : List Item) × ((others : List Item) × AreTwoLists name lists items others)
two_lists name [] h = let e = h.heads in absurd cc
two_lists name (l ∷ []) h = let e = h.heads in absurd cc
two_lists name (l ∷ m ∷ []) h =
    let e = h.heads in
    let head : head_of l ≡ (V4, name) = cc in
    let other : head_of m ≡ (V6, six name) = cc in
    let first = list_is V4 name l head h.valid.0 in
    let second = list_is V6 (six name) m other h.valid.1.0 in (
      l.items,
      (
        m.items,
        record {
          same = ap (λ x. x ∷ m ∷ []) first.same ∙ ap (λ x. list_of V4 name l.items ∷ x ∷ []) second.same;
          first = first.valid;
          second = second.valid;
        },
      ),
    )
two_lists name (l ∷ m ∷ n ∷ lists) h = let e = h.heads in absurd cc

-- ---- one list

one_split : (l : AccessList) (text : List ℕ) → text_of_rows (flat_map list_rows (l ∷ [])) ++ text ≡ text_of_rows (list_rows l) ++ text
one_split l text = ap (λ rs. text_of_rows rs ++ text) (append-nil (list_rows l))

pub one_none : (f : Family) (name : List ℕ) (p : Packet) (text : List ℕ) → TakesList f name p text None → TakesLists (only f) name p text None
one_none f name p text h = record {
  some = tt;
  each = λ lists more n v e.
      let one = one_list f name lists v in
      h.each one.0 more one.1.valid (e ∙ ap (λ ls. text_of_rows (flat_map list_rows ls) ++ more) one.1.same ∙ one_split (list_of f name one.0) more);
}

one_outcome : (f g : Family) (name : List ℕ) (items : List Item) (p : Packet)
    → where_family f g (walk f items p) ≡ cond (covers (only f) g) (Some (walk g (items_of g (list_of f name items ∷ [])) p)) None
unfolding items_of
one_outcome V4 V4 name items p = refl
one_outcome V4 V6 name items p = refl
one_outcome V6 V4 name items p = refl
one_outcome V6 V6 name items p = refl

one_valid : (f : Family) (name : List ℕ) (items : List Item) → AllByRecursion (IsItem f) items → AreListsOf (only f) name (list_of f name items ∷ [])
one_valid f name items h = record { heads = sym (heads_only f name); valid = (h, tt) }

pub one_taken : (f : Family) (name : List ℕ) (p : Packet) (text : List ℕ) (list : TakenList) (o : Option Outcome) → TakesList f name p text (Some list)
    → o ≡ where_family f p.family list.outcome → TakesLists (only f) name p text (Some (record { second = None; outcome = o; rest = list.rest }))
unfolding section_outcome
one_taken f name p text list o h w = record {
  some =
      let items = h.some.0 in
      let l = h.some.1 in (
        list_of f name items ∷ [],
        record {
          valid = one_valid f name items l.valid;
          written = l.written ∙ sym (one_split (list_of f name items) list.rest.now);
          named = refl;
          decided = w ∙ ap (where_family f p.family) l.decided ∙ one_outcome f p.family name items p;
        },
      );
  each = λ lists more n v e.
      let one = one_list f name lists v in
      h.each one.0 more one.1.valid (e ∙ ap (λ ls. text_of_rows (flat_map list_rows ls) ++ more) one.1.same ∙ one_split (list_of f name one.0) more);
}

-- ---- a list of each family

two_split : (k l : AccessList) (text : List ℕ) → text_of_rows (flat_map list_rows (k ∷ l ∷ [])) ++ text ≡ text_of_rows (list_rows k) ++ (text_of_rows (list_rows l) ++ text)
two_split k l text =
    rows_split (list_rows k) (list_rows l ++ []) text ∙ ap (λ t. text_of_rows (list_rows k) ++ t) (one_split l text)

-- the text of the second list of a mixed section, and more
abbrev second_text : List ℕ → List Item → List ℕ → List ℕ
second_text name items more = text_of_rows (list_rows (list_of V6 (six name) items)) ++ more

record IsBehind (name more : List ℕ) (first : Option TakenList) (others : List Item) : Type 0 where
  valid : AllByRecursion (IsItem V6) others
  rest : IsSomeAnd first (λ t. t.rest.now ≡ second_text name others more)

-- behind the first of two lists that a text begins with stands the second
behind_first : (name : List ℕ) (p : Packet) (text more : List ℕ) (lists : List AccessList) (first : Option TakenList) → TakesList V4 name p text first
    → AreListsOf Mixed name lists → text ≡ text_of_rows (flat_map list_rows lists) ++ more → (others : List Item) × IsBehind name more first others
behind_first name p text more lists first h v e =
    let t = two_lists name lists v in
    let two = t.1.1 in
    let written = e ∙ ap (λ ls. text_of_rows (flat_map list_rows ls) ++ more) two.same ∙ two_split (list_of V4 name t.0) (list_of V6 (six name) t.1.0) more in
    (t.1.0, record { valid = two.second; rest = h.each t.0 (second_text name t.1.0 more) two.first written })

pub no_first : (name : List ℕ) (p : Packet) (text : List ℕ) → TakesList V4 name p text None → TakesLists Mixed name p text None
no_first name p text h = record {
  some = tt;
  each = λ lists more n v e. (behind_first name p text more lists None h v e).1.rest;
}

-- the name of a list stands in its first row
second_of : (name : List ℕ) (items : List Item) (more : List ℕ) → is_filter_name name ≡ true
    → second_name name (second_text name items more) ≡ Some (six name)
second_of name items more h =
    let r : Row = row 0 (codes "no" ∷ head_words V6 (six name)) in
    let s : Row = row 0 (head_words V6 (six name)) in
    let rest : List ℕ = text_of_rows (flat_map (item_rows V6) items) ++ (text_of_rows end_rows ++ more) in
    ap (second_name name) (list_split V6 (six name) items more ∙ rows_split (r ∷ []) (s ∷ []) rest) ∙ second_again name (text_of_rows (s ∷ []) ++ rest) h

pub no_second_name : (name : List ℕ) (p : Packet) (text : List ℕ) (first : TakenList) → TakesList V4 name p text (Some first)
    → None ≡ second_name name first.rest.now → TakesLists Mixed name p text None
no_second_name name p text first h m = record {
  some = tt;
  each = λ lists more n v e.
      let other = behind_first name p text more lists (Some first) h v e in
      none-some (six name) (m ∙ ap (second_name name) other.1.rest ∙ second_of name other.0 more n);
}

pub no_second : (name : List ℕ) (p : Packet) (text second : List ℕ) (first : TakenList) → TakesList V4 name p text (Some first)
    → Some second ≡ second_name name first.rest.now → TakesList V6 second p first.rest.now None → TakesLists Mixed name p text None
no_second name p text second first h m k = record {
  some = tt;
  each = λ lists more n v e.
      let other = behind_first name p text more lists (Some first) h v e in
      let P : List ℕ → Type 0 = λ w. TakesList V6 w p first.rest.now None in
      (subst P (second_found name first.rest.now second m) k).each other.0 more other.1.valid other.1.rest;
}

two_outcome : (g : Family) (name other : List ℕ) (items others : List Item) (p : Packet)
    → Some (by_family g (walk V4 items p) (walk V6 others p)) ≡ cond (covers Mixed g) (Some (walk g (items_of g (list_of V4 name items ∷ list_of V6 other others ∷ [])) p)) None
unfolding items_of
two_outcome V4 name other items others p = refl
two_outcome V6 name other items others p = refl

pub two_taken : (name : List ℕ) (p : Packet) (text : List ℕ) (second : Bor (List ℕ)) (first other : TakenList) (o : Outcome)
    → TakesList V4 name p text (Some first) → Some second.now ≡ second_name name first.rest.now → TakesList V6 second.now p first.rest.now (Some other)
    → o ≡ by_family p.family first.outcome other.outcome
    → TakesLists Mixed name p text (Some (record { second = Some second; outcome = Some o; rest = other.rest }))
unfolding section_outcome
two_taken name p text second first other o h m k w =
    let named : second.now ≡ six name = second_found name first.rest.now second.now m in
    let P : List ℕ → Type 0 = λ n. TakesList V6 n p first.rest.now (Some other) in
    let l : TakesList V6 (six name) p first.rest.now (Some other) = subst P named k in
    let items = h.some.0 in
    let others = l.some.0 in
    let a = h.some.1 in
    let b = l.some.1 in
    let front : List ℕ = text_of_rows (list_rows (list_of V4 name items)) in
    record {
      some = (
        list_of V4 name items ∷ list_of V6 (six name) others ∷ [],
        record {
          valid = record { heads = refl; valid = (a.valid, (b.valid, tt)) };
          written = a.written ∙ ap (λ t. front ++ t) b.written ∙ sym (two_split (list_of V4 name items) (list_of V6 (six name) others) other.rest.now);
          named = ap (λ n. name ∷ n ∷ []) named;
          decided = ap Some (w ∙ ap (λ x. by_family p.family x other.outcome) a.decided ∙ ap (by_family p.family (walk V4 items p)) b.decided)
              ∙ two_outcome p.family name (six name) items others p;
        },
      );
      each = λ lists more n v e.
          let next = behind_first name p text more lists (Some first) h v e in
          l.each next.0 more next.1.valid next.1.rest;
    }

-- ---- sections

abbrev pub Takes : List ℕ → Packet → List (List ℕ) → List (List ℕ) → Option TakenSection → Type 0
Takes text p before after taken = TakesSection IsSection list_names section_rows section_outcome text p before after taken

section_split : (s : Section) (others : List Section)
    → text_of_rows (flat_map section_rows (s ∷ others))
    ≡ text_of_rows (section_row s.name s.families ∷ []) ++ (text_of_rows (flat_map list_rows s.lists) ++ text_of_rows (flat_map section_rows others))
unfolding section_rows
section_split s others =
    let more : List ℕ = text_of_rows (flat_map section_rows others) in
    flat_map-append row_text (section_rows s) (flat_map section_rows others) ∙ rows_split (section_row s.name s.families ∷ []) (flat_map list_rows s.lists) more

headed : (s : Section) (others : List Section) (text : List ℕ) → IsSection s → text ≡ text_of_rows (flat_map section_rows (s ∷ others))
    → heading_taken text ≡ Some (s.name, s.families, text_of_rows (flat_map list_rows s.lists) ++ text_of_rows (flat_map section_rows others))
headed s others text h e =
    ap heading_taken (e ∙ section_split s others)
    ∙ heading_again s.name s.families (text_of_rows (flat_map list_rows s.lists) ++ text_of_rows (flat_map section_rows others)) h.named

pub no_heading : (p : Packet) (text : List ℕ) (names : List (List ℕ)) → None ≡ heading_taken text → Takes text p names names None
no_heading p text names n = record {
  some = tt;
  none = refl;
  each = λ s others h k e.
      none-some (s.name, s.families, text_of_rows (flat_map list_rows s.lists) ++ text_of_rows (flat_map section_rows others)) (n ∙ headed s others text h e);
}

-- the lists of the section that the text begins with are taken behind its heading
lists_there : (name : List ℕ) (fs : Families) (p : Packet) (text rest : List ℕ) (taken : Option TakenLists) (s : Section) (others : List Section)
    → Some (name, fs, rest) ≡ heading_taken text → TakesLists fs name p rest taken → IsSection s → text ≡ text_of_rows (flat_map section_rows (s ∷ others))
    → IsSomeAnd taken (λ t. t.rest.now ≡ text_of_rows (flat_map section_rows others))
lists_there name fs p text rest taken s others m t h e =
    let more : List ℕ = text_of_rows (flat_map section_rows others) in
    let behind : List ℕ = text_of_rows (flat_map list_rows s.lists) ++ more in
    let same : (name, fs, rest) ≡ (s.name, s.families, behind) = same_Some {A = List ℕ × Families × List ℕ} (name, fs, rest) (s.name, s.families, behind) (m ∙ headed s others text h e) in
    let P : List ℕ × Families × List ℕ → Type 0 = λ x. TakesLists x.1 x.0 p x.2 taken in
    (subst P same t).each s.lists more h.named (record { heads = h.heads; valid = h.lists }) refl

pub no_lists : (name : List ℕ) (fs : Families) (p : Packet) (text rest : List ℕ) (names : List (List ℕ))
    → Some (name, fs, rest) ≡ heading_taken text → TakesLists fs name p rest None → Takes text p names names None
no_lists name fs p text rest names m t = record {
  some = tt;
  none = refl;
  each = λ s others h k e. lists_there name fs p text rest None s others m t h e;
}

pub section_taken : (name : List ℕ) (fs : Families) (p : Packet) (text rest : List ℕ) (before after : List (List ℕ)) (lists : TakenLists)
    → Some (name, fs, rest) ≡ heading_taken text → TakesLists fs name p rest (Some lists)
    → after ≡ before ++ name ∷ option_to_list (option_map (λ n. n.now) lists.second)
    → Takes text p before after (Some (record { outcome = lists.outcome; rest = lists.rest }))
unfolding section_rows
section_taken name fs p text rest before after lists m t n =
    let found = heading_found name fs text rest m in
    let ls = t.some.0 in
    let l = t.some.1 in
    let row : Row = section_row name fs in
    let front : List ℕ = text_of_rows (row ∷ []) in
    let body : List ℕ = text_of_rows (flat_map list_rows ls) in
    let written : text ≡ front ++ (body ++ lists.rest.now) = found.written ∙ ap (λ x. front ++ x) l.written in
    let long = row_long row (body ++ lists.rest.now) in
    let parts = length-append body lists.rest.now in
    let whole = ap length written in
    record {
      some = (
        record { name = name; families = fs; lists = ls },
        record {
          valid = record { named = found.named; heads = l.valid.heads; lists = l.valid.valid };
          written = written ∙ sym (rows_split (row ∷ []) (flat_map list_rows ls) lists.rest.now);
          named = n ∙ ap (λ x. before ++ x) l.named;
          decided = l.decided;
          shorter = omega (arith, long, parts, whole);
        },
      );
      none = tt;
      each = λ s others h k e. lists_there name fs p text rest (Some lists) s others m t h e;
    }
