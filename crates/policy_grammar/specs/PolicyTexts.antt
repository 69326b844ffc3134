-- Policies as they are written, and what they mean. A policy is one or more blocks, and a block is
--
--   header { item .. } term ..
--
-- with one or more terms. An item of a header is a remark, `comment::` with strings, or a target line.
use Rattle.std.specs.Prelude.{◌≡◌, ◌<◌, ◌≤◌, true, List, [], ◌∷◌, ◌++◌, map, flat_map, length, codes}
use Rattle.std.specs.List.{AllByRecursion, list_all}
use Rattle.acl_text.specs.declared.faults.Place.{Place}
use Rattle.acl_words.specs.declared.forms.Form.TheVariants as forms
use Rattle.acl_words.specs.Tokens.{Token}
use Rattle.acl_words.specs.Words.{word}
use Rattle.acl_target.specs.declared.targets.Target.{Target}
use Rattle.acl_policy.specs.declared.blocks.Block.{Block}
use Rattle.acl_policy.specs.declared.blocks.Policy.{Policy}
use Rattle.acl_policy.specs.declared.values.Takes.TheVariants as takes
use Rattle.acl_policy.specs.Conditions.{Each, StandsBehind, NameIsNew, targets_of, terms_of}
use Rattle.acl_policy.specs.Values.{is_value}
use Rattle.policy_grammar.specs.TargetTexts.{plain, TargetText, target_words, target_meant, LineStands}
use Rattle.policy_grammar.specs.TermTexts.{TermText, term_words, term_meant, TermStands}

-- An item of a header. A remark has a string at least, and means nothing.
pub data HeaderItem : Type 0 where
  Remark : Place → Token → List Token → HeaderItem
  Line : TargetText → HeaderItem

abbrev pub header_item_words : HeaderItem → List Token
header_item_words (Remark place first more) = word place forms.Keyword (codes "comment::") ∷ first ∷ more
header_item_words (Line t) = target_words t

abbrev pub header_item_targets : HeaderItem → List Target
header_item_targets (Remark place first more) = []
header_item_targets (Line t) = target_meant t ∷ []

abbrev pub HeaderItemStands : HeaderItem → Type 0
HeaderItemStands (Remark place first more) = list_all (is_value takes.String) (first ∷ more) ≡ true
HeaderItemStands (Line t) = LineStands t.line

-- A block: the places of `header` and of its braces, the header's items, and the terms.
pub record BlockText : Type 0 where
  pub place : Place
  pub begin : Place
  pub items : List HeaderItem
  pub end : Place
  pub terms : List TermText

abbrev pub header_words : BlockText → List Token
header_words b =
    plain b.place (codes "header") ∷ word b.begin forms.Begin (codes "{")
    ∷ flat_map header_item_words b.items ++ word b.end forms.End (codes "}") ∷ []

abbrev pub block_words : BlockText → List Token
block_words b = header_words b ++ flat_map term_words b.terms

abbrev pub block_meant : BlockText → Block
block_meant b = record {
  targets = flat_map header_item_targets b.items;
  terms = map term_meant b.terms;
}

-- A block has a target and a term, and its terms differ in name.
pub record BlockStands (b : BlockText) : Type 0 where
  pub items_stand : AllByRecursion HeaderItemStands b.items
  pub some_target : 0 < length (block_meant b).targets
  pub terms_stand : AllByRecursion TermStands b.terms
  pub some_term : 0 < length b.terms
  pub names_differ : Each NameIsNew [] (map term_meant b.terms)

abbrev pub text_words : List BlockText → List Token
text_words blocks = flat_map block_words blocks

abbrev pub blocks_meant : List BlockText → List Block
blocks_meant blocks = map block_meant blocks

abbrev pub text_meant : List BlockText → Policy
text_meant blocks = record { blocks = blocks_meant blocks }

-- When a text stands: each target line has its number among those of its platform, and clashes with none before it,
-- of any block; and there are no more of them and of terms than the limits.
pub record TextStands (blocks : List BlockText) : Type 0 where
  pub some_block : 0 < length blocks
  pub blocks_stand : AllByRecursion BlockStands blocks
  pub targets_stand : Each StandsBehind [] (targets_of (blocks_meant blocks))
  pub few_targets : length (targets_of (blocks_meant blocks)) ≤ 64
  pub few_terms : length (terms_of (blocks_meant blocks)) ≤ 1024
