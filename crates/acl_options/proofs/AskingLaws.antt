-- The options of some words, and what the words ask for, are the same.
use Rattle.std.proofs.Common.{◌≡◌, ◌∙◌, ℕ, Bool, true, false, List, codes, Option, None, Some, option_and_then, option_map, Result, IfOk, refl, ap, sym, subst}
use Rattle.std.specs.Prelude.{IfSome, IfNone, IsSomeAnd, IsTrue, ◌↔◌}
use Rattle.std.proofs.lemmas.Slice.Eq.{bytes_eq-Decides}
use Rattle.std.proofs.lemmas.Bool.{false≢true}
use Rattle.std.proofs.lemmas.Option.{none-some, option_and_then_some, same_Some}
use Rattle.std.proofs.lemmas.Result.{IfOk-weaker}
use Rattle.clap.specs.Words.{Row, matches_of}
use Rattle.acl_packet.specs.Decimals.{number_in}
use Rattle.acl_packet.proofs.DecimalLaws.{number-in, number-is}
use Rattle.acl_host.specs.declared.days.Day.{Day}
use Rattle.acl_options.specs.CodeViews.{options_view}
use Rattle.acl_options.specs.declared.options.Options.{Options as CodeOptions}
use Rattle.acl_options.specs.Commands.{IsTakenBy}
use Rattle.acl_options.specs.CommandLines.{AsksFor, IsFlag, IsWeeks, Options, command, value_of}
use Rattle.acl_options.specs.ComputableCommands.{date_in, definitions_in, policy_in}
use Rattle.acl_options.specs.ComputableOptions.{is_true_text, options_in, options_of, output_in, shade_check_in, weeks_in}
use Rattle.acl_options.proofs.CommandLaws.{date-named, file-in, folder-in, in-file, in-folder, named-date, read-of-taken, taken-and-read}

-- ---- one value

weeks-named : (text : Option (List ℕ)) (n : ℕ) → option_and_then (number_in 520) text ≡ Some n → IsSomeAnd text (IsWeeks n)
weeks-named None n e = absurd (none-some n e)
weeks-named (Some text) n e = number-is 520 n text e

named-weeks : (text : Option (List ℕ)) (n : ℕ) → IsSomeAnd text (IsWeeks n) → option_and_then (number_in 520) text ≡ Some n
named-weeks None n w = absurd w
named-weeks (Some text) n w = number-in 520 n text w.0 w.1

flag-set : (text : Option (List ℕ)) → IsFlag (is_true_text text) text
flag-set None = (λ t. absurd (false≢true t), λ e. absurd (none-some (codes "true") e))
flag-set (Some text) =
    let is = bytes_eq-Decides text (codes "true") in
    (λ t. ap Some (is.0 t), λ e. is.1 (same_Some text (codes "true") e))

-- two tests of one fact are the same
same-test : (a b : Bool) (P : Type 0) → (IsTrue a ↔ P) → (IsTrue b ↔ P) → a ≡ b
same-test true true P p q = refl
same-test true false P p q = absurd (false≢true (q.1 (p.0 refl)))
same-test false true P p q = absurd (false≢true (p.1 (q.0 refl)))
same-test false false P p q = refl

set-flag : (text : Option (List ℕ)) (is_set : Bool) → IsFlag is_set text → is_true_text text ≡ is_set
set-flag text is_set f = same-test (is_true_text text) is_set (text ≡ Some (codes "true")) (flag-set text) f

-- ---- the whole

abbrev rows_of_words : List (List ℕ) → List Row
rows_of_words words = matches_of command words

asked-parts : (words : List (List ℕ)) (policy definitions output : List ℕ) (date : Option Day) (exp_info : ℕ) → IsTakenBy command words
    → policy_in (rows_of_words words) ≡ Some policy → definitions_in (rows_of_words words) ≡ Some definitions
    → output_in (rows_of_words words) ≡ Some output → date_in (rows_of_words words) ≡ Some date → weeks_in (rows_of_words words) ≡ Some exp_info
    → AsksFor words (record { policy = policy; definitions = definitions; output = output; date = date; exp_info = exp_info; shade_check = shade_check_in (rows_of_words words) })
asked-parts words policy definitions output date exp_info taken p d o t w =
    let file = file-in (value_of words (codes "policy_file")) policy p in
    let folder = folder-in (value_of words (codes "definitions_directory")) definitions d in
    let target = folder-in (value_of words (codes "output_directory")) output o in
    record {
      taken = taken;
      policy = file.0;
      policy_stands = file.1;
      definitions = folder.0;
      definitions_stands = folder.1;
      output = target.0;
      output_stands = target.1;
      date = date-named (value_of words (codes "date")) date t;
      exp_info = weeks-named (value_of words (codes "exp_info")) exp_info w;
      shade_check = flag-set (value_of words (codes "shade_check"));
    }

pub asked : (words : List (List ℕ)) (o : Options) → options_of words ≡ Some o → AsksFor words o
unfolding options_of options_in
asked words o e =
    let rows = rows_of_words words in
    let g = read-of-taken command options_in words o e in
    option_and_then_some _ (policy_in rows) o g.1 (λ policy p e1.
    option_and_then_some _ (definitions_in rows) o e1 (λ definitions d e2.
    option_and_then_some _ (output_in rows) o e2 (λ output f e3.
    option_and_then_some _ (date_in rows) o e3 (λ date t e4.
    option_and_then_some _ (weeks_in rows) o e4 (λ weeks w e5.
    subst (AsksFor words) (same_Some _ o e5) (asked-parts words policy definitions output date weeks g.0 p d f t w))))))

pub answered : (words : List (List ℕ)) (o : Options) → AsksFor words o → options_of words ≡ Some o
unfolding options_of options_in
answered words o a =
    taken-and-read command options_in words a.taken ∙ rw (
      in-file (value_of words (codes "policy_file")) o.policy a.policy a.policy_stands,
      in-folder (value_of words (codes "definitions_directory")) o.definitions a.definitions a.definitions_stands,
      in-folder (value_of words (codes "output_directory")) o.output a.output a.output_stands,
      named-date (value_of words (codes "date")) o.date a.date,
      named-weeks (value_of words (codes "exp_info")) o.exp_info a.exp_info,
      set-flag (value_of words (codes "shade_check")) o.shade_check a.shade_check,
    ) refl

pub one_list : (words : List (List ℕ)) (a b : Options) → AsksFor words a → AsksFor words b → a ≡ b
one_list words a b p q = same_Some a b (sym (answered words a p) ∙ answered words b q)

-- ---- over what a reader gives

abbrev Exact : List (List ℕ) → Option CodeOptions → Type 0
Exact words r = option_map options_view r ≡ options_of words

options-some : (words : List (List ℕ)) (r : Option CodeOptions) → Exact words r → IfSome r (λ o. AsksFor words (options_view o))
options-some words None e = tt
options-some words (Some o) e = asked words (options_view o) (sym e)

options-none : (words : List (List ℕ)) (r : Option CodeOptions) → Exact words r → IfNone r ((o : Options) → AsksFor words o → ⊥)
options-none words None e = λ o a. none-some o (e ∙ answered words o a)
options-none words (Some o) e = tt

pub given-some : {E : Type 0} (words : List (List ℕ)) (r : Result (Option CodeOptions) E) → IfOk r (Exact words)
    → IfOk r (λ o. IfSome o (λ x. AsksFor words (options_view x)))
given-some words r = IfOk-weaker r _ _ (options-some words)

pub given-none : {E : Type 0} (words : List (List ℕ)) (r : Result (Option CodeOptions) E) → IfOk r (Exact words)
    → IfOk r (λ o. IfNone o ((x : Options) → AsksFor words x → ⊥))
given-none words r = IfOk-weaker r _ _ (options-none words)
