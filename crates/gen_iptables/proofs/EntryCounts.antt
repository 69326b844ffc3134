-- How many entries a section has.
use Rattle.std.proofs.Common.{◌≡◌, ℕ, ◌+◌, ◌*◌, min, Bool, true, false, cond, List, [], ◌∷◌, length, map, flat_map, sum_by, refl, ap, ◌∙◌, arith}
use Rattle.std.proofs.lemmas.List.{length-append}
use Rattle.std.proofs.lemmas.List.Sums.{sum_by-cons}
use Rattle.acl_text.specs.Output.{COUNT_END}
use Rattle.acl_platform.specs.declared.rules.Rule.{Rule}
use Rattle.acl_platform.specs.Choices.{pairs}
use Rattle.acl_platform.proofs.PairLaws.{length-pairs, product-min}
use Rattle.ipt_lang.specs.declared.documents.Act.TheVariants.{Log, Decide}
use Rattle.gen_iptables.specs.CountSteps.{act_count, combination_count, rule_count}
use Rattle.gen_iptables.specs.Groups.{group_choices}
use Rattle.gen_iptables.specs.Sections.{backs, chain_of, chain_rule, chain_size, combinations, fronts, ChainParts, rules_for}

-- ---- a chain

acts-by : (r : Rule) (c : ChainParts) (b : Bool)
    → length (map (chain_rule r c) (cond b (Log ∷ Decide r.verdict ∷ []) (Decide r.verdict ∷ []))) ≡ act_count b
acts-by r c true = refl
acts-by r c false = refl

times : (n a : ℕ) → a + n * a ≡ (n + 1) * a
times n a = omega arith

rules-counted : (r : Rule) (cs : List ChainParts) → length (flat_map (rules_for r) cs) ≡ length cs * act_count r.log
rules-counted r [] = omega arith
rules-counted r (c ∷ cs) =
    let a = act_count r.log in
    let size : length cs + 1 ≡ length (c ∷ cs) = omega arith in
    length-append (rules_for r c) (flat_map (rules_for r) cs) ∙ ap (λ n. n + length (flat_map (rules_for r) cs)) (acts-by r c r.log)
    ∙ ap (λ n. a + n) (rules-counted r cs) ∙ times (length cs) a ∙ ap (λ n. n * a) size

combinations-counted : (r : Rule) → length (combinations r) ≡ combination_count r
combinations-counted r =
    let sports = group_choices r.sports in
    let dports = group_choices r.dports in
    length-pairs (fronts r) (pairs sports (pairs dports (backs r)))
    ∙ ap (λ n. length (fronts r) * n) (length-pairs sports (pairs dports (backs r))
    ∙ ap (λ n. length sports * n) (length-pairs dports (backs r)))

chain-counted : (r : Rule) → chain_size (chain_of r) ≡ rule_count r
chain-counted r =
    ap (λ n. n + 1) (rules-counted r (combinations r) ∙ ap (λ n. n * act_count r.log) (combinations-counted r))

pub all-counted : (rules : List Rule) → sum_by chain_size (map chain_of rules) ≡ sum_by rule_count rules
all-counted [] = refl
all-counted (r ∷ rules) =
    let here = sum_by-cons chain_size (chain_of r) (map chain_of rules) in
    let chain = chain-counted r in
    let all = sum_by-cons rule_count r rules in
    let rest = all-counted rules in
    omega (arith, here, chain, all, rest)

-- ---- counts that stand still at their end

-- a product of two counts that stand still at their end
pub product : (a b : ℕ) {x y z : ℕ} → x ≡ min a COUNT_END → y ≡ min b COUNT_END → z ≡ min (x * y) COUNT_END → z ≡ min (a * b) COUNT_END
product a b {y = y} e f h =
    h ∙ ap (λ n. min (n * y) COUNT_END) e ∙ ap (λ n. min (min a COUNT_END * n) COUNT_END) f ∙ product-min a b COUNT_END

pub one-more : (n here more : ℕ) → here ≡ min n COUNT_END → more ≡ min (here + 1) COUNT_END → more ≡ min (n + 1) COUNT_END
one-more n here more size plus = omega (arith, size, plus)

pub act-min : (log : Bool) → act_count log ≡ min (act_count log) COUNT_END
act-min true = omega arith
act-min false = omega arith
