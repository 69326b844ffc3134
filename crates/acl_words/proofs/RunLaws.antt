-- A part of a run has no line feed.
use Rattle.std.proofs.Common.{◌≡◌, ℕ, true, List, [], ◌∷◌, Option, None, Some, option_map, inl, inr, refl, sym}
use Rattle.std.specs.List.{list_all}
use Rattle.std.proofs.lemmas.Bool.{and_from}
use Rattle.std.proofs.lemmas.Option.{none-some}
use Rattle.acl_packet.proofs.ChoiceLaws.{chosen}
use Rattle.acl_text.proofs.CutLaws.{has-not}
use Rattle.acl_words.specs.LineTexts.{HasNoFeed}
use Rattle.acl_words.specs.declared.forms.Form.{Form}
use Rattle.acl_words.specs.declared.forms.Form.TheVariants.{Plain, Keyword, Begin, End, Quoted, Unclosed, Bad}
use Rattle.acl_words.specs.Bytes.{first_bad, is_printed}
use Rattle.acl_words.specs.Tokens.{IsRun}

all_printed : (bs : List ℕ) → first_bad bs ≡ None → list_all is_printed bs ≡ true
all_printed [] e = refl
all_printed (b ∷ bs) e =
    elim (chosen (is_printed b) (first_bad bs) (Some b) None e) [
      | inl h ↦ and_from (is_printed b) (list_all is_printed bs) h.0 (all_printed bs h.1)
      | inr h ↦ absurd (none-some b (sym h.1))
    ]

unmapped : (o : Option ℕ) → None ≡ option_map (λ b. b ∷ []) o → o ≡ None
unmapped None e = refl
unmapped (Some b) e = absurd (none-some (b ∷ []) e)

run_is : (form : Form) (text : List ℕ) → HasNoFeed text → IsRun form text
run_is Plain text h = h
run_is Keyword text h = tt
run_is Begin text h = tt
run_is End text h = tt
run_is Quoted text h = tt
run_is Unclosed text h = tt
run_is Bad text h = tt

pub printed_is_run : (form : Form) (text : List ℕ) → None ≡ option_map (λ b. b ∷ []) (first_bad text)
    → IsRun form text
printed_is_run form text e =
    run_is form text (has-not is_printed 10 text (all_printed text (unmapped (first_bad text) e)) refl)
