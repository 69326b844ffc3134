-- The laws of reading, from what each step makes of the page.
use Rattle.std.proofs.Common.{◌≡◌, IfOk, Ok, refl, ap, sym, subst, ◌∙◌}
use Rattle.acl_words.specs.Words.{words_of}
use Rattle.acl_policy.specs.Policies.{policy_of}
use Rattle.acl_policy.specs.Targets.{target_line}
use Rattle.policy_grammar.specs.PolicyTexts.{text_meant}
use Rattle.policy_grammar.specs.ReadingLaws.{IsLine, JustTargetLinesAreRead, WordsMeanOnePolicy, HasText, JustTextsAreRead, JustTextsAreReadOfWords}
use Rattle.policy_grammar.proofs.TargetLineLaws.{line_reads, line_read_is}
use Rattle.policy_grammar.proofs.BlockLaws.{text_read}
use Rattle.policy_grammar.proofs.BraceLaws.{braces_are}
use Rattle.policy_grammar.proofs.ConverseLaws.{read_has_text}

pub just_lines_read : JustTargetLinesAreRead
just_lines_read keyword ws n = (
  λ e. subst (λ r. IfOk r (IsLine keyword.place ws)) e (line_read_is keyword ws),
  λ h. ap (target_line keyword) h.words_are ∙ line_reads keyword h.platform h.line h.stands ∙ ap Ok (sym h.means),
)

pub one_policy : WordsMeanOnePolicy
one_policy a b h k e =
    subst (λ r. IfOk r (λ p. text_meant a ≡ p)) (sym (text_read a h) ∙ ap policy_of e ∙ text_read b k) refl

pub just_texts_read_of_words : JustTextsAreReadOfWords
just_texts_read_of_words ws p braces = (
  λ e. subst (λ r. IfOk r (HasText ws)) e (read_has_text ws braces),
  λ h. ap policy_of h.words_are ∙ text_read h.text h.stands ∙ ap Ok (sym h.means),
)

pub just_texts_read : JustTextsAreRead
just_texts_read lines p = just_texts_read_of_words (words_of lines) p (braces_are lines)
