-- Where the parts of a policy stand in its text.
use Rattle.std.specs.Prelude.{◌≡◌, ◌⊎◌, List}
use Rattle.std.specs.List.{All}
use Rattle.acl_text.specs.declared.faults.Place.{Place}
use Rattle.acl_text.specs.declared.file_lines.Line.{Line}
use Rattle.acl_words.specs.Places.{IsLinePlace}
use Rattle.acl_policy.specs.declared.keywords.Keyword.{Keyword}
use Rattle.acl_policy.specs.RawTerms.{RawTerm}
use Rattle.acl_words.specs.declared.word_lists.Word.{Word}
use Rattle.acl_policy.specs.declared.blocks.Block.{Block}
use Rattle.acl_policy.specs.declared.blocks.Policy.{Policy}
use Rattle.acl_policy.specs.Terms.{list_at}
use Rattle.acl_policy.specs.Slips.{start_place}

-- The words stand at such places.
abbrev pub WordsStand : (Place → Type 0) → List Word → Type 0
WordsStand At ws = All (λ w. At w.place) ws

pub record TermStands (At : Place → Type 0) (t : RawTerm) : Type 0 where
  pub name_stands : At t.name.place
  pub action_stands : At t.action.place
  pub lists_stand : (key : Keyword) → WordsStand At (list_at t key)

pub record BlockStands (At : Place → Type 0) (b : Block) : Type 0 where
  pub targets_stand : All (λ t. At t.place) b.targets
  pub terms_stand : All (TermStands At) b.terms

-- Each target and each word of the policy has the place of one of the lines.
abbrev pub PolicyStands : List Line → Policy → Type 0
PolicyStands lines p = All (BlockStands (IsLinePlace lines)) p.blocks

-- A slip has the place of one of the lines, or the start.
abbrev pub IsSlipPlace : List Line → Place → Type 0
IsSlipPlace lines place = (place ≡ start_place) ⊎ IsLinePlace lines place
