-- What is written of a document is read again.
use Rattle.std.proofs.Common.{◌≡◌, ℕ, suc, ◌-◌, ◌^◌, ◌<◌, Bool, true, false, cond, not, ◌==◌, ℤ, pos, negsuc, List, [], ◌∷◌, ◌++◌, flat_map, codes, None, Some, option_map, option_and_then, unwrap_or, refl, ap, sym, ◌∙◌, arith}
use Rattle.std.specs.Fmt.{decimal, signed_decimal}
use Rattle.std.specs.List.{fold, AllByRecursion, join_with_byte}
use Rattle.std.specs.Option.{option_map_or}
use Rattle.std.specs.Str.{bytes_eq}
use Rattle.std.proofs.lemmas.Bool.{and_parts, or_parts, ltb-true, ne_eqb, false≢true}
use Rattle.std.proofs.lemmas.List.Splits.{join_with_byte-slice_split}
use Rattle.std.proofs.lemmas.List.Sums.{fold-append}
use Rattle.acl_packet.specs.declared.addresses.Families.{Families}
use Rattle.acl_packet.specs.declared.addresses.Families.TheVariants.{Inet, Inet6, Mixed}
use Rattle.acl_packet.specs.declared.filtering.Hook.{Hook}
use Rattle.acl_packet.specs.declared.filtering.Hook.TheVariants.{Input, Output, Forward}
use Rattle.acl_packet.specs.Decimals.{number_in}
use Rattle.acl_packet.proofs.DecimalLaws.{number-again}
use Rattle.acl_text.specs.Cuts.{has_byte}
use Rattle.acl_text.specs.SignedNumbers.{negative, below_zero_in, from_zero_in, signed_in}
use Rattle.acl_text.proofs.CutLaws.{behind-again}
use Rattle.acl_text.proofs.DigitLaws.{decimal-lacks}
use Rattle.acl_rows.specs.Rows.{Row}
use Rattle.acl_rows.specs.RowSteps.{row_in, document_in}
use Rattle.acl_rows.proofs.RowLaws.{fold-again, fold-members}
use Rattle.acl_rows.specs.FamilyWords.{families_in}
use Rattle.nft_lang.specs.declared.documents.Section.{Section}
use Rattle.nft_lang.specs.declared.documents.Item.{Item}
use Rattle.nft_lang.specs.declared.documents.Item.TheVariants.{Remark, Rule as ARule}
use Rattle.nft_lang.specs.declared.tables_drafts.TablesDraft.{TablesDraft}
use Rattle.nft_lang.specs.Documents.{IsItem, IsSection, fits_i32, table_name}
use Rattle.nft_lang.specs.Texts.{hook_word, families_word, default_word, priority_word, rule_words, item_rows, head_rows, end_rows, section_rows, text_of}
use Rattle.acl_rows.specs.RowSteps.{few_in}
use Rattle.nft_lang.specs.ReadingSteps.{no_section, no_draft, hook_in, table_in, priority_in, rule_in, item_in, with_item, take_four, take_outer, take_chain, take_inner, take_row}
use Rattle.nft_lang.proofs.RuleReadingLaws.{rule_again, up_to_there}
use Rattle.nft_lang.proofs.SafeRows.{plain_word, BeginsRule, rule_begins, signed_lacks, sections_safe}

abbrev at : List Section → Section → TablesDraft
at ss s = record { sections = ss; section = s }

abbrev read : TablesDraft → List Row → TablesDraft
read d rows = fold take_row d rows

then : (d m e : TablesDraft) (xs ys : List Row) → read d xs ≡ m → read m ys ≡ e → read d (xs ++ ys) ≡ e
then d m e xs ys h k = fold-append take_row d xs ys ∙ ap (λ s. read s ys) h ∙ k

-- ---- items

abbrev more : Section → Item → Section
more s i = record s { items = s.items ++ i ∷ [] }

not_true : (a : Bool) → not a ≡ true → a ≡ false
not_true true h = absurd (false≢true h)
not_true false h = refl

pub plain_parts : (w : List ℕ) → plain_word w ≡ true → (bytes_eq w (codes "#") ≡ false) × (bytes_eq w (codes "type") ≡ false)
plain_parts [] h = absurd (false≢true h)
plain_parts (b ∷ bs) h =
    let p = and_parts (not (bytes_eq (b ∷ bs) (codes "#"))) (not (bytes_eq (b ∷ bs) (codes "type"))) h in
    (not_true (bytes_eq (b ∷ bs) (codes "#")) p.0, not_true (bytes_eq (b ∷ bs) (codes "type")) p.1)

-- a row that begins as a rule is taken as a rule
rule_taken : (d : TablesDraft) (words : List (List ℕ)) → BeginsRule words → take_inner d words ≡ with_item d (ARule (rule_in d.section.families words))
unfolding take_inner item_in
rule_taken d words h =
    let w = h.first in
    let ws = h.rest in
    let parts = plain_parts w h.plain in
    ap (take_inner d) h.is ∙ ap (λ b. cond b (take_chain d (few_in (w ∷ ws))) (with_item d (item_in d.section.families (w ∷ ws)))) parts.1
    ∙ ap (λ b. with_item d (cond b (Remark (join_with_byte 32 ws)) (ARule (rule_in d.section.families (w ∷ ws))))) parts.0
    ∙ ap (λ v. with_item d (ARule (rule_in d.section.families v))) (sym h.is)

item_read : (ss : List Section) (s : Section) (i : Item) → IsItem s.families i → read (at ss s) (item_rows s.families i) ≡ at ss (more s i)
unfolding item_rows take_row take_inner item_in
item_read ss s (Remark text) h = ap (λ t. at ss (more s (Remark t))) (join_with_byte-slice_split 32 text)
item_read ss s (ARule r) h =
    rule_taken (at ss s) (rule_words s.families r) (rule_begins s.families r) ∙ ap (λ x. at ss (more s (ARule x))) (rule_again s.families r h)

items_read : (ss : List Section) (s : Section) (items : List Item) → AllByRecursion (IsItem s.families) items
    → read (at ss s) (flat_map (item_rows s.families) items) ≡ at ss (record s { items = s.items ++ items })
items_read ss s items h =
    fold-members take_row (item_rows s.families) (λ is. at ss (record s { items = is })) (IsItem s.families)
    (λ is i k. item_read ss (record s { items = is }) i k) s.items items h

-- ---- heads

pub hook_again : (h : Hook) → hook_in (hook_word h) ≡ h
unfolding hook_in
hook_again Input = refl
hook_again Output = refl
hook_again Forward = refl

pub families_again : (fs : Families) → families_in (families_word fs) ≡ fs
unfolding families_in
families_again Inet = refl
families_again Inet6 = refl
families_again Mixed = refl

pub default_again : (b : Bool) → bytes_eq (default_word b) (codes "accept;") ≡ b
default_again true = refl
default_again false = refl

pub number_again : (n : ℕ) → n < 2 ^ 32 → table_in (table_name n) ≡ n
unfolding table_in
number_again n h =
    ap (λ o. option_map_or {U = ℕ} (λ digits. unwrap_or (number_in (2 ^ 32 - 1) digits) 0) o 0) (behind-again (codes "aclgen_") (decimal n))
    ∙ ap (λ o. unwrap_or o 0) (number-again (2 ^ 32 - 1) n (omega (arith, h)) (omega (arith, h)))

from_digits : (below above : ℕ) (w : List ℕ) → has_byte 45 w ≡ false → signed_in below above w ≡ from_zero_in above w
unfolding number_in
from_digits below above [] h = refl
from_digits below above (b ∷ bs) h =
    let first = (or_parts (b == 45) (has_byte 45 bs) h).0 in
    ap (λ t. cond t (below_zero_in below bs) (from_zero_in above (b ∷ bs))) first

signed_again : (p : ℤ) → fits_i32 p ≡ true → signed_in (2 ^ 31) (2 ^ 31 - 1) (signed_decimal p) ≡ Some p
signed_again (pos n) h =
    let small = ltb-true n (2 ^ 31) h in
    from_digits (2 ^ 31) (2 ^ 31 - 1) (decimal n) (decimal-lacks 45 n (omega (arith, small)) refl)
    ∙ ap (option_map (λ m. pos m)) (number-again (2 ^ 31 - 1) n (omega (arith, small)) (omega (arith, small)))
signed_again (negsuc n) h =
    let small = ltb-true n (2 ^ 31) h in
    let same : suc n - 1 ≡ n = omega arith in
    ap (option_and_then negative) (number-again (2 ^ 31) (suc n) (omega (arith, small)) (omega (arith, small)))
    ∙ ap (λ b. cond b None (Some (negsuc (suc n - 1)))) (ne_eqb (suc n) 0 (λ e. absurd (omega arith))) ∙ ap (λ m. Some (negsuc m)) same

pub priority_again : (p : ℤ) → fits_i32 p ≡ true → priority_in (priority_word p) ≡ p
unfolding priority_in
priority_again p h =
    ap (λ w. unwrap_or (signed_in (2 ^ 31) (2 ^ 31 - 1) w) (pos 0)) (up_to_there 59 (signed_decimal p) (signed_lacks 59 p h refl refl))
    ∙ ap (λ o. unwrap_or o (pos 0)) (signed_again p h)

abbrev section : Hook → Families → ℕ → ℤ → Bool → Section
section hook families number priority accept =
    record { hook = hook; families = families; number = number; priority = priority; accept = accept; items = [] }

head_read : (ss : List Section) (t : Section) (h : Hook) (fs : Families) (n : ℕ) (p : ℤ) (b : Bool) → n < 2 ^ 32 → fits_i32 p ≡ true
    → read (at ss t) (head_rows h fs n p b) ≡ at ss (section h fs n p b)
unfolding head_rows take_row take_outer take_four take_inner take_chain
head_read ss t h fs n p b small fits =
    ap (λ x. at ss (section x (families_in (families_word fs)) (table_in (table_name n)) (priority_in (priority_word p)) (bytes_eq (default_word b) (codes "accept;")))) (hook_again h)
    ∙ ap (λ x. at ss (section h x (table_in (table_name n)) (priority_in (priority_word p)) (bytes_eq (default_word b) (codes "accept;")))) (families_again fs)
    ∙ ap (λ x. at ss (section h fs x (priority_in (priority_word p)) (bytes_eq (default_word b) (codes "accept;")))) (number_again n small)
    ∙ ap (λ x. at ss (section h fs n x (bytes_eq (default_word b) (codes "accept;")))) (priority_again p fits)
    ∙ ap (λ x. at ss (section h fs n p x)) (default_again b)

-- ---- sections

end_read : (ss : List Section) (s : Section) → read (at ss s) end_rows ≡ at (ss ++ s ∷ []) no_section
unfolding take_row take_outer
end_read ss s = refl

section_read : (ss : List Section) (t s : Section) → IsSection s → read (at ss t) (section_rows s) ≡ at (ss ++ s ∷ []) no_section
unfolding section_rows
section_read ss t s h =
    let empty : Section = record s { items = [] } in
    let head = head_rows s.hook s.families s.number s.priority s.accept in
    let items = flat_map (item_rows s.families) s.items in
    let end = at (ss ++ s ∷ []) no_section in
    then (at ss t) (at ss empty) end head (items ++ end_rows) (head_read ss t s.hook s.families s.number s.priority s.accept h.number h.priority)
    (then (at ss empty) (at ss s) end items end_rows (items_read ss empty s.items h.items) (end_read ss s))

sections_read : (ss doc : List Section) → AllByRecursion IsSection doc → read (at ss no_section) (flat_map section_rows doc) ≡ at (ss ++ doc) no_section
sections_read ss doc h = fold-members take_row section_rows (λ t. at t no_section) IsSection (λ t s k. section_read t no_section s k) ss doc h

-- ---- documents

empty_row : (d : TablesDraft) → take_row d (row_in []) ≡ d
unfolding row_in take_row take_outer
empty_row d = refl

pub document_again : (doc : List Section) → AllByRecursion IsSection doc
    → document_in take_row no_draft (λ d. d.sections) (text_of doc) ≡ doc
document_again doc h =
    let end = at doc no_section in
    ap (λ d. d.sections) (fold-again take_row no_draft end (flat_map section_rows doc) (sections_safe doc h) (sections_read [] doc h) (empty_row end))
