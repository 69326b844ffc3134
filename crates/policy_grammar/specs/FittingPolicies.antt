-- The policies that texts mean: just those that fit.
use Rattle.std.specs.Prelude.{◌≡◌, ◌<◌, ◌↔◌, List, length}
use Rattle.acl_policy.specs.declared.blocks.Policy.{Policy}
use Rattle.acl_policy.specs.Conditions.{IsPolicy}
use Rattle.policy_grammar.specs.PolicyTexts.{BlockText, text_meant, TextStands}

-- A text that stands means the policy.
pub record IsMeantByText (p : Policy) : Type 0 where
  pub text : List BlockText
  pub stands : TextStands text
  pub means : p ≡ text_meant text

-- The policies that texts mean are those that have a block and fit.
abbrev pub JustFittingPoliciesAreMeant : Type 0
JustFittingPoliciesAreMeant = (p : Policy) → ((0 < length p.blocks) × IsPolicy p) ↔ IsMeantByText p
