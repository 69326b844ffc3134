-- Slips at words.
use Rattle.acl_text.specs.declared.faults.Code.{Code}
use Rattle.acl_text.specs.declared.faults.Code.TheVariants as codes_of
use Rattle.acl_text.specs.declared.faults.Place.{Place}
use Rattle.acl_text.specs.declared.faults.Slip.{Slip}
use Rattle.acl_text.specs.Refusals.{slip}
use Rattle.acl_words.specs.declared.forms.Form.{Form}
use Rattle.acl_words.specs.declared.forms.Form.TheVariants.{Bad, Unclosed}
use Rattle.acl_words.specs.Tokens.{Token}

-- Line 0 of file 0, which is the policy: the start, where no word stands.
abbrev pub start_place : Place
start_place = record { file = 0; line = 0 }

abbrev pub slip_of : Code → Token → Slip
slip_of code w = slip code w.place w.text

-- A word with a byte that no word may have, and a string without an end, are slips by themselves, whatever
-- was wanted there.
abbrev pub code_for : Form → Code → Code
code_for Bad code = codes_of.BadByte
code_for Unclosed code = codes_of.Syntax
code_for form code = code

-- The slip at a word that is not taken.
abbrev pub slip_for : Code → Token → Slip
slip_for code w = slip_of (code_for w.form code) w
