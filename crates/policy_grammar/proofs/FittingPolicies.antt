-- A policy that fits is what a text that stands means.
use Rattle.std.proofs.Common.{◌≡◌, ◌<◌, ◌≤◌, List, [], ◌∷◌, map, flat_map, length, Ok, refl, ap, sym, subst, arith}
use Rattle.std.specs.List.{AllByRecursion}
use Rattle.std.proofs.lemmas.List.{length-map}
use Rattle.std.proofs.lemmas.List.Elements.{recursion_from_All}
use Rattle.acl_target.specs.declared.targets.Target.{Target}
use Rattle.acl_target.specs.TargetData.{IsTarget}
use Rattle.acl_policy.specs.declared.blocks.Block.{Block}
use Rattle.acl_policy.specs.declared.blocks.Policy.{Policy}
use Rattle.acl_policy.specs.RawTerms.{RawTerm}
use Rattle.acl_policy.specs.Conditions.{Each, StandsBehind, NameIsNew, IsRawTerm, IsBlock, targets_of, terms_of, IsPolicy}
use Rattle.acl_policy.specs.Slips.{start_place}
use Rattle.policy_grammar.specs.TermTexts.{term_meant, TermStands}
use Rattle.policy_grammar.specs.PolicyTexts.{HeaderItem, header_item_targets, HeaderItemStands, BlockText, block_meant, BlockStands, text_words, blocks_meant, text_meant, TextStands}
use Rattle.policy_grammar.specs.FittingPolicies.{JustFittingPoliciesAreMeant}
use Rattle.acl_policy.proofs.PolicyFit.{read_fits}
use Rattle.policy_grammar.proofs.BlockLaws.{text_read}
use Rattle.policy_grammar.proofs.FittingTargets.{target_for, target_stands, target_means}
use Rattle.policy_grammar.proofs.FittingTerms.{term_for, term_stands, term_means}

abbrev pub item_for : Target → HeaderItem
item_for t = HeaderItem.Line (target_for t)

abbrev pub block_for : Block → BlockText
block_for b = record {
  place = start_place;
  begin = start_place;
  items = map item_for b.targets;
  end = start_place;
  terms = map term_for b.terms;
}

targets_again : (ts : List Target) → AllByRecursion IsTarget ts → flat_map header_item_targets (map item_for ts) ≡ ts
targets_again [] h = refl
targets_again (t ∷ ts) h = λ i. target_means t h.0.platform i ∷ targets_again ts h.1 i

targets_stand : (ts : List Target) → AllByRecursion IsTarget ts → AllByRecursion HeaderItemStands (map item_for ts)
targets_stand [] h = tt
targets_stand (t ∷ ts) h = (target_stands t h.0.platform, targets_stand ts h.1)

terms_again : (ts : List RawTerm) → map term_meant (map term_for ts) ≡ ts
terms_again [] = refl
terms_again (t ∷ ts) = λ i. term_means t i ∷ terms_again ts i

terms_stand : (ts : List RawTerm) → AllByRecursion IsRawTerm ts → AllByRecursion TermStands (map term_for ts)
terms_stand [] h = tt
terms_stand (t ∷ ts) h = (term_stands t h.0, terms_stand ts h.1)

block_again : (b : Block) → IsBlock b → block_meant (block_for b) ≡ b
block_again b h = λ i. record {
  targets = targets_again b.targets (recursion_from_All IsTarget b.targets h.targets_are) i;
  terms = terms_again b.terms i;
}

block_stands : (b : Block) → IsBlock b → BlockStands (block_for b)
block_stands b h = record {
  items_stand = targets_stand b.targets (recursion_from_All IsTarget b.targets h.targets_are);
  some_target = subst (λ (x : Block). 0 < length x.targets) (sym (block_again b h)) h.some_target;
  terms_stand = terms_stand b.terms (recursion_from_All IsRawTerm b.terms h.terms_are);
  some_term = omega (arith, h.some_term, length-map b.terms term_for);
  names_differ = subst (Each NameIsNew []) (sym (terms_again b.terms)) h.names_differ;
}

blocks_again : (bs : List Block) → AllByRecursion IsBlock bs → blocks_meant (map block_for bs) ≡ bs
blocks_again [] h = refl
blocks_again (b ∷ bs) h = λ i. block_again b h.0 i ∷ blocks_again bs h.1 i

blocks_stand : (bs : List Block) → AllByRecursion IsBlock bs → AllByRecursion BlockStands (map block_for bs)
blocks_stand [] h = tt
blocks_stand (b ∷ bs) h = (block_stands b h.0, blocks_stand bs h.1)

blocks_same : (p : Policy) → IsPolicy p → p.blocks ≡ blocks_meant (map block_for p.blocks)
blocks_same p h = sym (blocks_again p.blocks (recursion_from_All IsBlock p.blocks h.blocks_are))

pub text_stands : (p : Policy) → 0 < length p.blocks → IsPolicy p → TextStands (map block_for p.blocks)
text_stands p some h =
    let same : p.blocks ≡ blocks_meant (map block_for p.blocks) = blocks_same p h in
    record {
      some_block = omega (arith, some, length-map p.blocks block_for);
      blocks_stand = blocks_stand p.blocks (recursion_from_All IsBlock p.blocks h.blocks_are);
      targets_stand = subst (λ bs. Each StandsBehind [] (targets_of bs)) same h.targets_stand;
      few_targets = subst (λ bs. length (targets_of bs) ≤ 64) same h.few_targets;
      few_terms = subst (λ bs. length (terms_of bs) ≤ 1024) same h.few_terms;
    }

pub text_means : (p : Policy) → IsPolicy p → p ≡ text_meant (map block_for p.blocks)
text_means p h = ap (λ bs. record { blocks = bs }) (blocks_same p h)

-- What a text means fits, since it is read.
meant_fits : (text : List BlockText) → TextStands text → IsPolicy (text_meant text)
meant_fits text h = read_fits (Ok (text_meant text)) (text_words text) (text_read text h)

pub just_fitting_meant : JustFittingPoliciesAreMeant
just_fitting_meant p = (
  λ h. record { text = map block_for p.blocks; stands = text_stands p h.0 h.1; means = text_means p h.1 },
  λ m. (
    subst (λ (q : Policy). 0 < length q.blocks) (sym m.means) (omega (arith, m.stands.some_block, length-map m.text block_meant)),
    subst IsPolicy (sym m.means) (meant_fits m.text m.stands),
  ),
)
