-- A word of a policy: where it stands, how it is meant, and its bytes.
use Rattle.std.specs.Prelude.{ℕ, List}
use Rattle.acl_text.specs.declared.faults.Place.{Place}
use Rattle.acl_words.specs.LineTexts.{HasNoFeed}
use Rattle.acl_words.specs.declared.forms.Form.{Form}
use Rattle.acl_words.specs.declared.forms.Form.TheVariants.{Plain}

pub record Token : Type 0 where
  pub place : Place
  pub form : Form
  pub text : List ℕ

-- A word that is no string, keyword or brace has no line feed.
abbrev pub IsRun : Form → List ℕ → Type 0
IsRun Plain text = HasNoFeed text
IsRun form text = Unit {0}
