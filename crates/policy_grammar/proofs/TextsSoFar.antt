-- What the reader of a policy has kept at each step is what a text so far means, and the words of that text are those
-- that were read.
use Rattle.std.proofs.Common.{◌≡◌, ℕ, ◌+◌, ◌<◌, ◌≤◌, true, false, List, [], ◌∷◌, ◌++◌, map, flat_map, length, refl, ap, sym, subst, ◌∙◌, append_assoc, append-nil, codes, arith}
use Rattle.std.specs.List.{AllByRecursion, list_any}
use Rattle.std.specs.Str.{bytes_eq}
use Rattle.std.proofs.lemmas.Grind.{flat_map-append}
use Rattle.acl_text.specs.declared.faults.Place.{Place}
use Rattle.acl_text.specs.Names.{is_name}
use Rattle.acl_words.specs.declared.forms.Form.TheVariants as forms
use Rattle.acl_words.specs.Tokens.{Token}
use Rattle.acl_words.specs.Words.{word}
use Rattle.acl_policy.specs.RawTerms.{RawTerm}
use Rattle.acl_words.specs.declared.word_lists.Word.{Word}
use Rattle.acl_policy.specs.ReadingParts.{Part}
use Rattle.acl_policy.specs.ReadingParts.{Start, Header, InHeader, HeaderEnd, Term, Named, InTerm, TermEnd}
use Rattle.acl_policy.specs.ReadingParts.{PolicyState}
use Rattle.acl_policy.specs.Conditions.{Each, StandsBehind, NameIsNew, targets_of, terms_of}
use Rattle.acl_policy.specs.Policies.{start}
use Rattle.policy_grammar.specs.TargetTexts.{plain}
use Rattle.policy_grammar.specs.TermTexts.{Item, values_at, ItemStands, items_words, term_meant, TermStands}
use Rattle.policy_grammar.specs.PolicyTexts.{HeaderItem, header_item_words, header_item_targets, HeaderItemStands, BlockText, block_words, block_meant, BlockStands, text_words, blocks_meant}
use Rattle.policy_grammar.proofs.ItemLaws.{draft_from, DayFits}

pub each_push : {A : Type 0} (R : List A → A → Type 0) (before xs : List A) (x : A) → Each R before xs → R (before ++ xs) x
    → Each R before (xs ++ x ∷ [])
each_push R before [] x h k = (subst (λ b. R b x) (append-nil before) k, tt)
each_push R before (y ∷ ys) x h k =
    (h.0, each_push R (before ++ y ∷ []) ys x h.1 (subst (λ b. R b x) (sym (append_assoc before (y ∷ []) ys)) k))

pub all_push : {A : Type 0} (P : A → Type 0) (xs : List A) (x : A) → AllByRecursion P xs → P x → AllByRecursion P (xs ++ x ∷ [])
all_push P [] x h p = (p, tt)
all_push P (y ∷ ys) x h p = (h.0, all_push P ys x h.1 p)

pub map_push : {A B : Type 0} (f : A → B) (xs : List A) (x : A) → map f (xs ++ x ∷ []) ≡ map f xs ++ f x ∷ []
map_push f [] x = refl
map_push f (y ∷ ys) x = ap (λ zs. f y ∷ zs) (map_push f ys x)

pub flat_push : {A B : Type 0} (f : A → List B) (xs : List A) (x : A) → flat_map f (xs ++ x ∷ []) ≡ flat_map f xs ++ f x
flat_push f xs x = flat_map-append f xs (x ∷ []) ∙ ap (λ ys. flat_map f xs ++ ys) (append-nil (f x))

pub flat_step : {A B : Type 0} (f : A → List B) (xs : List A) (x : A) (front : List B)
    → front ++ flat_map f (xs ++ x ∷ []) ≡ (front ++ flat_map f xs) ++ f x
flat_step f xs x front = ap (λ ys. front ++ ys) (flat_push f xs x) ∙ sym (append_assoc front (flat_map f xs) (f x))

-- What is kept of a block that is open: its header has ended, and it has these terms so far.
pub record BlockOpen (s : PolicyState) (b : BlockText) : Type 0 where
  pub items_stand : AllByRecursion HeaderItemStands b.items
  pub targets_are : s.targets ≡ (block_meant b).targets
  pub some_target : 0 < length s.targets
  pub terms_are : s.terms ≡ map term_meant b.terms
  pub terms_stand : AllByRecursion TermStands b.terms
  pub names_differ : Each NameIsNew [] (map term_meant b.terms)

-- The words of a text so far, by the part where the reader stands.
pub record AtStart (s : PolicyState) (bs : List BlockText) (ws : List Token) : Type 0 where
  pub none_yet : bs ≡ []
  pub words_are : ws ≡ []
  pub no_targets : s.targets ≡ []
  pub no_terms : s.terms ≡ []

pub record AtHeader (s : PolicyState) (bs : List BlockText) (ws : List Token) : Type 0 where
  pub place : Place
  pub words_are : ws ≡ text_words bs ++ plain place (codes "header") ∷ []
  pub no_targets : s.targets ≡ []
  pub no_terms : s.terms ≡ []

pub record AtHeaderItems (s : PolicyState) (bs : List BlockText) (ws : List Token) : Type 0 where
  pub place : Place
  pub begin : Place
  pub items : List HeaderItem
  pub items_stand : AllByRecursion HeaderItemStands items
  pub targets_are : s.targets ≡ flat_map header_item_targets items
  pub no_terms : s.terms ≡ []
  pub words_are : ws ≡ text_words bs ++
      (plain place (codes "header") ∷ word begin forms.Begin (codes "{") ∷ flat_map header_item_words items)

pub record AtHeaderEnd (s : PolicyState) (bs : List BlockText) (ws : List Token) : Type 0 where
  pub block : BlockText
  pub is_open : BlockOpen s block
  pub words_are : ws ≡ text_words bs ++ block_words block

pub record AtTerm (s : PolicyState) (bs : List BlockText) (ws : List Token) : Type 0 where
  pub block : BlockText
  pub place : Place
  pub is_open : BlockOpen s block
  pub words_are : ws ≡ (text_words bs ++ block_words block) ++ plain place (codes "term") ∷ []

pub record AtName (s : PolicyState) (bs : List BlockText) (ws : List Token) : Type 0 where
  pub block : BlockText
  pub place : Place
  pub name : Word
  pub is_open : BlockOpen s block
  pub name_is : is_name name.text ≡ true
  pub name_is_new : list_any (λ (t : RawTerm). bytes_eq t.name.text name.text) s.terms ≡ false
  pub draft_is : s.draft ≡ draft_from name (values_at [])
  pub words_are : ws ≡ (text_words bs ++ block_words block) ++ (plain place (codes "term") ∷ plain name.place name.text ∷ [])

pub record AtItems (s : PolicyState) (bs : List BlockText) (ws : List Token) : Type 0 where
  pub block : BlockText
  pub place : Place
  pub name : Word
  pub begin : Place
  pub items : List Item
  pub is_open : BlockOpen s block
  pub name_is : is_name name.text ≡ true
  pub name_is_new : list_any (λ (t : RawTerm). bytes_eq t.name.text name.text) s.terms ≡ false
  pub items_stand : Each ItemStands [] items
  pub days_fit : DayFits (values_at items)
  pub draft_is : s.draft ≡ draft_from name (values_at items)
  pub words_are : ws ≡ (text_words bs ++ block_words block) ++
      (plain place (codes "term") ∷ plain name.place name.text ∷ word begin forms.Begin (codes "{") ∷ items_words items)

pub record AtTermEnd (s : PolicyState) (bs : List BlockText) (ws : List Token) : Type 0 where
  pub block : BlockText
  pub is_open : BlockOpen s block
  pub some_term : 0 < length block.terms
  pub words_are : ws ≡ text_words bs ++ block_words block

abbrev pub OpenAt : Part → PolicyState → List BlockText → List Token → Type 0
OpenAt Start s bs ws = AtStart s bs ws
OpenAt Header s bs ws = AtHeader s bs ws
OpenAt InHeader s bs ws = AtHeaderItems s bs ws
OpenAt HeaderEnd s bs ws = AtHeaderEnd s bs ws
OpenAt Term s bs ws = AtTerm s bs ws
OpenAt Named s bs ws = AtName s bs ws
OpenAt InTerm s bs ws = AtItems s bs ws
OpenAt TermEnd s bs ws = AtTermEnd s bs ws

-- A term that is open is counted too.
abbrev pub open_terms : Part → ℕ
open_terms Named = 1
open_terms InTerm = 1
open_terms _ = 0

-- What is kept of the blocks that have ended, and of all targets and terms.
pub record BlocksKept (s : PolicyState) (bs : List BlockText) : Type 0 where
  pub blocks_are : s.blocks ≡ blocks_meant bs
  pub blocks_stand : AllByRecursion BlockStands bs
  pub earlier_is : s.earlier ≡ targets_of (blocks_meant bs) ++ s.targets
  pub all_stand : Each StandsBehind [] s.earlier
  pub few_targets : length s.earlier ≤ 64
  pub few_terms : s.term_count ≤ 1024

-- The words are those of a text so far, which means what the reader has kept.
pub record ReadsAt (p : Part) (s : PolicyState) (ws : List Token) : Type 0 where
  pub blocks : List BlockText
  pub kept : BlocksKept s blocks
  pub counted : length (terms_of (blocks_meant blocks)) + length s.terms + open_terms p ≤ s.term_count
  pub is_open : OpenAt p s blocks ws

abbrev pub Reads : List Token → PolicyState → Type 0
Reads ws s = ReadsAt s.part s ws

pub start_reads : Reads [] start
start_reads = record {
  blocks = [];
  kept = record {
    blocks_are = refl;
    blocks_stand = tt;
    earlier_is = refl;
    all_stand = tt;
    few_targets =
        omega arith;
    few_terms = omega arith;
  };
  counted = omega arith;
  is_open = record { none_yet = refl; words_are = refl; no_targets = refl; no_terms = refl };
}
