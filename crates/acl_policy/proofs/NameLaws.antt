-- A word that is taken as the name of a term.
use Rattle.std.proofs.Common.{◌≡◌, ◌+◌, true, false, not, Ok, nat_le, ap, sym, ◌∙◌}
use Rattle.std.specs.List.{list_any}
use Rattle.std.specs.Str.{bytes_eq}
use Rattle.std.proofs.lemmas.Bool.{cond-false}
use Rattle.acl_words.specs.Tokens.{Token}
use Rattle.acl_policy.specs.RawTerms.{RawTerm}
use Rattle.acl_policy.specs.declared.states.Part.TheVariants.{Named}
use Rattle.acl_policy.specs.declared.states.PolicyState.{PolicyState}
use Rattle.acl_policy.specs.declared.term_drafts.TermDraft.{TermDraft}
use Rattle.acl_policy.specs.declared.values.Takes.TheVariants as takes
use Rattle.acl_policy.specs.Policies.{behind_name, most_terms}
use Rattle.acl_policy.specs.Terms.{draft_of}
use Rattle.acl_policy.specs.Values.{is_value, word_of}

pub name_taken : (s t : PolicyState) (w : Token) (d : TermDraft) → is_value takes.Name w ≡ true
    → list_any (λ (r : RawTerm). bytes_eq r.name.text w.text) s.terms ≡ false
    → nat_le most_terms s.term_count ≡ false → d ≡ draft_of (word_of w)
    → t ≡ record s { draft = d; term_count = s.term_count + 1; part = Named }
    → behind_name s w ≡ Ok t
unfolding behind_name
name_taken s t w d value new few is e =
    cond-false (not (is_value takes.Name w)) _ _ (ap not value)
    ∙ cond-false (list_any (λ (r : RawTerm). bytes_eq r.name.text w.text) s.terms) _ _ new
    ∙ cond-false (nat_le most_terms s.term_count) _ _ few
    ∙ ap (λ (x : PolicyState). Ok x) (ap (λ (x : TermDraft). record s { draft = x; term_count = s.term_count + 1; part = Named }) (sym is) ∙ sym e)
