-- What is written of a document is read again.
use Rattle.std.proofs.Common.{◌≡◌, ℕ, Bool, true, false, List, [], ◌∷◌, ◌++◌, map, flat_map, codes, refl, ap, ◌∙◌, append-nil}
use Rattle.std.specs.List.{fold, AllByRecursion}
use Rattle.std.proofs.lemmas.List.Splits.{join_with_byte-slice_split}
use Rattle.std.proofs.lemmas.List.Sums.{fold-append}
use Rattle.acl_packet.specs.declared.addresses.Family.{Family}
use Rattle.acl_packet.specs.declared.addresses.Family.TheVariants.{V4, V6}
use Rattle.acl_packet.specs.declared.addresses.Families.{Families}
use Rattle.acl_packet.specs.declared.addresses.Families.TheVariants.{Inet, Inet6, Mixed}
use Rattle.acl_rows.specs.Rows.{Row, row, words_in}
use Rattle.acl_rows.specs.RowSteps.{row_in, document_in}
use Rattle.acl_rows.proofs.RowLaws.{fold-again, fold-members}
use Rattle.acl_rows.specs.RuleParts.{log_words}
use Rattle.acl_rows.specs.FamilyWords.{families_in}
use Rattle.cisco_lang.specs.declared.documents.Section.{Section}
use Rattle.cisco_lang.specs.declared.documents.AccessList.{AccessList}
use Rattle.cisco_lang.specs.declared.documents.Item.{Item}
use Rattle.cisco_lang.specs.declared.documents.Item.TheVariants.{Remark, Entry as AnEntry}
use Rattle.cisco_lang.specs.declared.lists_drafts.ListsDraft.{ListsDraft}
use Rattle.cisco_lang.specs.Documents.{IsItem, IsList, heads_of, IsSection}
use Rattle.cisco_lang.specs.Texts.{action_word, proto_word, end_words, icmp_words, flags_words, entry_words, item_rows, head_rows, end_rows, list_rows, families_word, section_rows, text_of}
use Rattle.cisco_lang.specs.ReadingSteps.{no_list, no_section, no_draft, entry_in, item_in, is_last, end_section, end_list, take_four, take_outer, take_inner, take_row}
use Rattle.cisco_lang.proofs.ValidityLaws.{head_of}
use Rattle.cisco_lang.proofs.EntryReadingLaws.{entry_again}
use Rattle.cisco_lang.proofs.SafeRows.{sections_safe}

abbrev at : List Section → Section → AccessList → ListsDraft
at ss s l = record { sections = ss; section = s; list = l }

abbrev read : ListsDraft → List Row → ListsDraft
read d rows = fold take_row d rows

then : (d m e : ListsDraft) (xs ys : List Row) → read d xs ≡ m → read m ys ≡ e → read d (xs ++ ys) ≡ e
then d m e xs ys h k = fold-append take_row d xs ys ∙ ap (λ s. read s ys) h ∙ k

-- ---- items

abbrev with_item : AccessList → Item → AccessList
with_item l i = record l { items = l.items ++ i ∷ [] }

-- the row of an entry does not begin as that of a remark
no_remark : (f : Family) (b : Bool) (words : List (List ℕ)) → item_in f (action_word b ∷ words) ≡ AnEntry (entry_in f (action_word b ∷ words))
unfolding item_in
no_remark f true words = refl
no_remark f false words = refl

abbrev pub item_words : Family → Item → List (List ℕ)
item_words f (Remark text) = codes "remark" ∷ words_in text
item_words f (AnEntry e) = entry_words f e

pub one_row : (f : Family) (i : Item) → item_rows f i ≡ row 1 (item_words f i) ∷ []
unfolding item_rows
one_row f (Remark text) = refl
one_row f (AnEntry e) = refl

pub item_again : (f : Family) (i : Item) → IsItem f i → item_in f (item_words f i) ≡ i
unfolding item_in entry_words
item_again f (Remark text) h = ap Remark (join_with_byte-slice_split 32 text)
item_again f (AnEntry e) h =
    let rest : List (List ℕ) = proto_word f e.proto ∷ (end_words f e.src e.sport
    ++ (end_words f e.dst e.dport ++ (icmp_words e.itype e.icode ++ (flags_words e.flags ++ log_words e.log)))) in
    no_remark f e.permit rest ∙ ap AnEntry (entry_again f e h)

item_read : (ss : List Section) (s : Section) (l : AccessList) (i : Item) → IsItem l.family i
    → read (at ss s l) (item_rows l.family i) ≡ at ss s (with_item l i)
unfolding take_row take_inner
item_read ss s l i h = ap (read (at ss s l)) (one_row l.family i) ∙ ap (λ j. at ss s (with_item l j)) (item_again l.family i h)

items_read : (ss : List Section) (s : Section) (l : AccessList) (items : List Item) → AllByRecursion (IsItem l.family) items
    → read (at ss s l) (flat_map (item_rows l.family) items) ≡ at ss s (record l { items = l.items ++ items })
items_read ss s l items h =
    fold-members take_row (item_rows l.family) (λ is. at ss s (record l { items = is })) (IsItem l.family)
    (λ is i k. item_read ss s (record l { items = is }) i k) l.items items h

-- ---- lists

head_read : (ss : List Section) (s : Section) (k : AccessList) (f : Family) (name : List ℕ)
    → read (at ss s k) (head_rows f name) ≡ at ss s (record { family = f; name = name; items = [] })
unfolding take_row take_outer take_four
head_read ss s k V4 name = refl
head_read ss s k V6 name = refl

list_read : (ss : List Section) (s : Section) (k l : AccessList) → IsList l → read (at ss s k) (list_rows l) ≡ end_list (at ss s l)
unfolding list_rows take_row take_outer
list_read ss s k l h =
    let empty : AccessList = record { family = l.family; name = l.name; items = [] } in
    let items = flat_map (item_rows l.family) l.items in
    then (at ss s k) (at ss s empty) (end_list (at ss s l)) (head_rows l.family l.name) (items ++ end_rows) (head_read ss s k l.family l.name)
    (then (at ss s empty) (at ss s l) (end_list (at ss s l)) items end_rows (items_read ss s empty l.items h) refl)

-- ---- sections

abbrev so_far : List ℕ → Families → List AccessList → Section
so_far name fs ls = record { name = name; families = fs; lists = ls }

lists_read : (ss : List Section) (name : List ℕ) (fs : Families) (k : AccessList) (ls : List AccessList) → map head_of ls ≡ heads_of fs name
    → AllByRecursion IsList ls → read (at ss (so_far name fs []) k) (flat_map list_rows ls) ≡ at (ss ++ so_far name fs ls ∷ []) no_section no_list
unfolding end_list
lists_read ss name Inet k [] e h = absurd cc
lists_read ss name Inet6 k [] e h = absurd cc
lists_read ss name Mixed k [] e h = absurd cc
lists_read ss name Inet k (l ∷ []) e h = ap (read (at ss (so_far name Inet []) k)) (append-nil (list_rows l)) ∙ list_read ss (so_far name Inet []) k l h.0
lists_read ss name Inet6 k (l ∷ []) e h = ap (read (at ss (so_far name Inet6 []) k)) (append-nil (list_rows l)) ∙ list_read ss (so_far name Inet6 []) k l h.0
lists_read ss name Mixed k (l ∷ []) e h = absurd cc
lists_read ss name Inet k (l ∷ m ∷ ls) e h = absurd cc
lists_read ss name Inet6 k (l ∷ m ∷ ls) e h = absurd cc
lists_read ss name Mixed k (l ∷ m ∷ []) e h =
    let start = at ss (so_far name Mixed []) k in
    let middle = at ss (so_far name Mixed (l ∷ [])) no_list in
    let end = at (ss ++ so_far name Mixed (l ∷ m ∷ []) ∷ []) no_section no_list in
    let first : head_of l ≡ (V4, name) = cc in
    let second : head_of m ≡ (V6, codes "ipv6-" ++ name) = cc in
    let four = ap (λ (h : Family × List ℕ). h.0) first in
    let six = ap (λ (h : Family × List ℕ). h.0) second in
    then start middle end (list_rows l) (list_rows m ++ []) (list_read ss (so_far name Mixed []) k l h.0 ∙ ap (λ f. end_section (is_last Mixed f) middle) four)
    (ap (read middle) (append-nil (list_rows m)) ∙ list_read ss (so_far name Mixed (l ∷ [])) no_list m h.1.0 ∙ ap (λ f. end_section (is_last Mixed f) (at ss (so_far name Mixed (l ∷ m ∷ [])) no_list)) six)
lists_read ss name Mixed k (l ∷ m ∷ n ∷ ls) e h = absurd cc

pub families_again : (fs : Families) → families_in (families_word fs) ≡ fs
unfolding families_in
families_again Inet = refl
families_again Inet6 = refl
families_again Mixed = refl

section_read : (ss : List Section) (t : Section) (k : AccessList) (s : Section) → IsSection s
    → read (at ss t k) (section_rows s) ≡ at (ss ++ s ∷ []) no_section no_list
unfolding section_rows take_row take_outer take_four
section_read ss t k s h =
    ap (λ fs. read (at ss (so_far s.name fs []) k) (flat_map list_rows s.lists)) (families_again s.families)
    ∙ lists_read ss s.name s.families k s.lists h.heads h.lists

sections_read : (ss doc : List Section) → AllByRecursion IsSection doc
    → read (at ss no_section no_list) (flat_map section_rows doc) ≡ at (ss ++ doc) no_section no_list
sections_read ss doc h =
    fold-members take_row section_rows (λ t. at t no_section no_list) IsSection (λ t s k. section_read t no_section no_list s k) ss doc h

-- ---- documents

empty_row : (d : ListsDraft) → take_row d (row_in []) ≡ d
unfolding row_in take_row take_outer
empty_row d = refl

pub document_again : (doc : List Section) → AllByRecursion IsSection doc
    → document_in take_row no_draft (λ d. d.sections) (text_of doc) ≡ doc
document_again doc h =
    let end = at doc no_section no_list in
    ap (λ d. d.sections) (fold-again take_row no_draft end (flat_map section_rows doc) (sections_safe doc h) (sections_read [] doc h) (empty_row end))
