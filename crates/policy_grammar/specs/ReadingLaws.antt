-- What the reader of policies makes of the page: it reads the words of each text that stands as what the text means, and
-- what it reads are the words of such a text.
use Rattle.std.specs.Prelude.{◌≡◌, ◌↔◌, List, [], ◌++◌, Bool, true, false, Ok, Err, codes}
use Rattle.std.specs.List.{AllByRecursion}
use Rattle.acl_text.specs.declared.faults.Code.{Code}
use Rattle.acl_text.specs.declared.faults.Code.TheVariants.{Missing, TargetLine, FilterTwice, TooMany}
use Rattle.acl_text.specs.declared.faults.Place.{Place}
use Rattle.acl_text.specs.declared.faults.Slip.{Slip}
use Rattle.acl_text.specs.declared.file_lines.Line.{Line}
use Rattle.acl_words.specs.declared.forms.Form.TheVariants as forms
use Rattle.acl_words.specs.Tokens.{Token}
use Rattle.acl_words.specs.Words.{words_of}
use Rattle.acl_policy.specs.declared.blocks.Policy.{Policy}
use Rattle.acl_policy.specs.ReadingParts.{NamedTarget}
use Rattle.acl_policy.specs.Policies.{behind_all, policy_of, values_of}
use Rattle.acl_policy.specs.Targets.{target_line}
use Rattle.policy_grammar.specs.TargetTexts.{LineText, line_values, line_meant, LineStands}
use Rattle.policy_grammar.specs.PolicyTexts.{BlockText, text_words, text_meant, TextStands}

-- Where the word that names a line's target stands.
abbrev pub name_place : LineText → Place
name_place (LineText.CiscoLine name family) = name.place
name_place (LineText.JuniperLine name family) = name.place
name_place (LineText.IptablesLine place chain cs) = place
name_place (LineText.NftablesLine from families place hook cs) = place

-- What is read of a line, before its number is known.
abbrev pub line_named : Place → LineText → NamedTarget
line_named place l = record { target = line_meant place 0 l; place = name_place l }

-- The words are a line that stands, and this is what is read of it.
pub record IsLine (place : Place) (ws : List Token) (n : NamedTarget) : Type 0 where
  pub platform : Place
  pub line : LineText
  pub stands : LineStands line
  pub words_are : ws ≡ line_values platform line
  pub means : n ≡ line_named place line

-- Target lines that stand are read as what they mean, whatever the order of their words, and nothing else is read.
abbrev pub JustTargetLinesAreRead : Type 0
JustTargetLinesAreRead = (keyword : Token) (ws : List Token) (n : NamedTarget)
    → (target_line keyword ws ≡ Ok n) ↔ IsLine keyword.place ws n

-- Each text that stands is read as what it means, whatever the order of its items, and wherever its words stand.
abbrev pub TextsAreRead : Type 0
TextsAreRead = (text : List BlockText) → TextStands text → policy_of (text_words text) ≡ Ok (text_meant text)

-- So words mean one policy at most.
abbrev pub WordsMeanOnePolicy : Type 0
WordsMeanOnePolicy = (a b : List BlockText) → TextStands a → TextStands b → text_words a ≡ text_words b
    → text_meant a ≡ text_meant b

-- The words are those of a text that stands and means the policy.
pub record HasText (ws : List Token) (p : Policy) : Type 0 where
  pub text : List BlockText
  pub stands : TextStands text
  pub words_are : ws ≡ text_words text
  pub means : p ≡ text_meant text

-- What is read from lines is just what the texts mean that have the words of the lines.
abbrev pub JustTextsAreRead : Type 0
JustTextsAreRead = (lines : List Line) (p : Policy) → (policy_of (words_of lines) ≡ Ok p) ↔ HasText (words_of lines) p

-- A brace that is a word has the text of its form.
pub record IsBraceText (w : Token) : Type 0 where
  pub begin_is : w.form ≡ forms.Begin → w.text ≡ codes "{"
  pub end_is : w.form ≡ forms.End → w.text ≡ codes "}"

-- The same of any words whose braces are `{` and `}`, as those of lines are.
abbrev pub JustTextsAreReadOfWords : Type 0
JustTextsAreReadOfWords = (ws : List Token) (p : Policy) → AllByRecursion IsBraceText ws
    → (policy_of ws ≡ Ok p) ↔ HasText ws p

-- A slip at a word stays, whatever stands behind it where that begins with a keyword or a brace.
abbrev pub SlipsStay : Type 0
SlipsStay = (ws more : List Token) (e : Slip) → values_of more ≡ [] → behind_all ws ≡ Err e
    → policy_of (ws ++ more) ≡ Err e

-- The slips that may be found at the end of a keyword: more values may mend them.
abbrev pub may_be_mended : Code → Bool
may_be_mended Missing = true
may_be_mended TargetLine = true
may_be_mended FilterTwice = true
may_be_mended TooMany = true
may_be_mended _ = false

-- Any other slip stays, whatever stands behind it.
abbrev pub OtherSlipsStay : Type 0
OtherSlipsStay = (ws more : List Token) (e : Slip) → behind_all ws ≡ Err e → may_be_mended e.code ≡ false
    → policy_of (ws ++ more) ≡ Err e
