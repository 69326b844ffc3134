-- Texts that can be written in lines. The words of comments and of owners are free, so that a string among them may have
-- a `"`, which no string in a line has; all other words of a text that stands can be printed.
use Rattle.std.specs.Prelude.{◌≡◌, ◌<◌, List, ◌∷◌, length, Ok}
use Rattle.std.specs.List.{AllByRecursion}
use Rattle.acl_text.specs.declared.file_lines.Line.{Line}
use Rattle.acl_words.specs.LineTexts.{HasNoFeed}
use Rattle.acl_words.specs.Tokens.{Token}
use Rattle.acl_words.specs.Words.{words_of}
use Rattle.acl_policy.specs.declared.blocks.Policy.{Policy}
use Rattle.acl_policy.specs.declared.keywords.Keyword.{Keyword}
use Rattle.acl_policy.specs.declared.keywords.Keyword.TheVariants as keywords
use Rattle.acl_policy.specs.Conditions.{terms_of, IsPolicy}
use Rattle.acl_policy.specs.Policies.{policy_of}
use Rattle.policy_grammar.specs.TermTexts.{Item, item_values, TermText}
use Rattle.policy_grammar.specs.PolicyTexts.{HeaderItem, BlockText, text_words, TextStands}
use Rattle.policy_grammar.specs.PrintedWords.{TextIs, IsQuotedText}

abbrev pub CanBePrinted : List Token → Type 0
CanBePrinted ws = AllByRecursion (λ w. TextIs w.form w.text) ws

abbrev pub FreeWordsCanBePrinted : Keyword → List Token → Type 0
FreeWordsCanBePrinted keywords.Comment ws = CanBePrinted ws
FreeWordsCanBePrinted keywords.Owner ws = CanBePrinted ws
FreeWordsCanBePrinted _ ws = Unit {0}

abbrev pub ItemIsWritable : Item → Type 0
ItemIsWritable i = FreeWordsCanBePrinted i.key (item_values i)

abbrev pub TermIsWritable : TermText → Type 0
TermIsWritable t = AllByRecursion ItemIsWritable t.items

abbrev pub HeaderItemIsWritable : HeaderItem → Type 0
HeaderItemIsWritable (HeaderItem.Remark place first more) = CanBePrinted (first ∷ more)
HeaderItemIsWritable (HeaderItem.Line t) = Unit {0}

pub record BlockIsWritable (b : BlockText) : Type 0 where
  pub items_are : AllByRecursion HeaderItemIsWritable b.items
  pub terms_are : AllByRecursion TermIsWritable b.terms

-- A line ends where a line feed stands, so it has none. A string that has one goes on in the next line.
abbrev pub AreLines : List Line → Type 0
AreLines lines = AllByRecursion (λ l. HasNoFeed l.text) lines

-- Lines that have just the words of the text.
pub record HasLines (text : List BlockText) : Type 0 where
  pub lines : List Line
  pub are_lines : AreLines lines
  pub words_are : words_of lines ≡ text_words text

abbrev pub WritableTextsHaveLines : Type 0
WritableTextsHaveLines = (text : List BlockText) → TextStands text → AllByRecursion BlockIsWritable text
    → HasLines text

-- Lines from which the policy is read.
pub record IsReadFromLines (p : Policy) : Type 0 where
  pub lines : List Line
  pub are_lines : AreLines lines
  pub is_read : policy_of (words_of lines) ≡ Ok p

-- Each policy that has a block, fits, and has no `"` in a comment is read from some lines.
abbrev pub FittingPoliciesAreReadFromLines : Type 0
FittingPoliciesAreReadFromLines = (p : Policy) → 0 < length p.blocks → IsPolicy p
    → AllByRecursion (λ t. IsQuotedText t.comments) (terms_of p.blocks) → IsReadFromLines p
