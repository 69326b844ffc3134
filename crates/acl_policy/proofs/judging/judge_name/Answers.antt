use Rattle.std.proofs.Common.{List, ℕ, ap, sym, ◌∙◌, rules}
use Rattle.std.specs.List.{list_any}
use Rattle.std.specs.Str.{bytes_eq}
use Rattle.acl_policy.specs.RawTerms.{RawTerm}
use Rattle.acl_policy.proofs.NameLaws.{name_taken}
use Rattle.acl_policy.proofs.judging.judge_name.Goals as goal

pub returns : goal.returns
returns c =
    let terms = c.args.state.now.terms in
    let named = ap (λ (text : List ℕ). list_any (λ (t : RawTerm). bytes_eq t.name.text text) terms) (sym c.text.ensures.exact) in
    name_taken c.args.state.now c.begin_term.new.state c.args.word.now c.draft_of.result (search rules)
    (named ∙ sym c.have_name.ensures ∙ c.if-have_name.false)
    (search rules) (search rules) c.begin_term.ensures
