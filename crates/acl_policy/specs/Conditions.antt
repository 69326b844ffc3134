-- What a policy that is read fulfils: each word is one that its keyword takes, each target is such as its line
-- gives it, no two targets clash, the numbers of a platform's targets and the names of a block's terms differ,
-- and there are no more targets and terms than the limits.
use Rattle.std.specs.Prelude.{◌≡◌, ◌≢◌, ◌+◌, ◌<◌, ◌≤◌, true, false, List, [], ◌∷◌, ◌++◌, length, flat_map}
use Rattle.std.specs.List.{All, AllPairs, list_any, count_by}
use Rattle.std.specs.Str.{bytes_eq}
use Rattle.acl_text.specs.Names.{is_name}
use Rattle.acl_policy.specs.RawTerms.{RawTerm}
use Rattle.acl_target.specs.declared.targets.Target.{Target}
use Rattle.acl_policy.specs.declared.blocks.Block.{Block}
use Rattle.acl_policy.specs.declared.blocks.Policy.{Policy}
use Rattle.acl_policy.specs.declared.keywords.Keyword.{Keyword}
use Rattle.acl_target.specs.Clashes.{clash, same_kind}
use Rattle.acl_target.specs.TargetData.{IsTarget}
use Rattle.acl_policy.specs.Keywords.{entry}
use Rattle.acl_policy.specs.Terms.{list_at}
use Rattle.acl_policy.specs.Values.{is_action, text_fits}

-- Each word is one that its keyword takes.
abbrev pub WordsFit : RawTerm → Type 0
WordsFit t =
    (key : Keyword) → All (λ w. text_fits (entry key).takes w.text ≡ true) (list_at t key)

pub record IsRawTerm (t : RawTerm) : Type 0 where
  pub name_is : is_name t.name.text ≡ true
  pub action_is : is_action t.action.text ≡ true
  pub words_fit : WordsFit t

-- Each item of a list stands so to those before it.
abbrev pub Each : {A : Type 0} → (List A → A → Type 0) → List A → List A → Type 0
Each R before [] = Unit {0}
Each R before (x ∷ xs) = R before x × Each R (before ++ x ∷ []) xs

-- A target clashes with none before it, and its number counts those of its platform.
pub record StandsBehind (before : List Target) (t : Target) : Type 0 where
  pub clashes_not : list_any (λ e. clash e t) before ≡ false
  pub number_is : t.number ≡ count_by (λ e. same_kind e.kind t.kind) before + 1

-- Two targets of a platform differ in number.
abbrev pub NumbersDiffer : List Target → Type 0
NumbersDiffer targets = AllPairs (λ a b. a.kind ≡ b.kind → a.number ≢ b.number) targets

abbrev pub NameIsNew : List RawTerm → RawTerm → Type 0
NameIsNew before t = list_any (λ e. bytes_eq e.name.text t.name.text) before ≡ false

pub record IsBlock (b : Block) : Type 0 where
  pub some_target : 0 < length b.targets
  pub targets_are : All IsTarget b.targets
  pub some_term : 0 < length b.terms
  pub terms_are : All IsRawTerm b.terms
  pub names_differ : Each NameIsNew [] b.terms

abbrev pub targets_of : List Block → List Target
targets_of blocks = flat_map (λ b. b.targets) blocks

abbrev pub terms_of : List Block → List RawTerm
terms_of blocks = flat_map (λ b. b.terms) blocks

-- A policy has at most 64 targets and 1,024 terms.
pub record IsPolicy (p : Policy) : Type 0 where
  pub blocks_are : All IsBlock p.blocks
  pub targets_stand : Each StandsBehind [] (targets_of p.blocks)
  pub numbers_differ : NumbersDiffer (targets_of p.blocks)
  pub few_targets : length (targets_of p.blocks) ≤ 64
  pub few_terms : length (terms_of p.blocks) ≤ 1024
