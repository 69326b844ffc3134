-- The terms of a filter, taken one by one.
use Rattle.std.proofs.Common.{◌≡◌, ℕ, Bool, true, false, cond, List, [], ◌∷◌, ◌++◌, get_or, flat_map, Option, None, Some, refl, ap, sym, subst, ◌∙◌, append_assoc, append-nil, arith}
use Rattle.std.specs.Borrow.{Bor}
use Rattle.std.specs.List.{AllByRecursion, IsDistinct}
use Rattle.std.specs.Str.{bytes_eq}
use Rattle.std.proofs.lemmas.Grind.{flat_map-append}
use Rattle.std.proofs.lemmas.List.{append_cancel_left}
use Rattle.acl_packet.specs.declared.addresses.Family.{Family}
use Rattle.acl_packet.specs.declared.filtering.Outcome.{Outcome}
use Rattle.acl_packet.specs.declared.packets.Packet.{Packet}
use Rattle.acl_text.specs.Cuts.{views}
use Rattle.acl_text.proofs.ListLaws.{all_append}
use Rattle.acl_rows.specs.Rows.{row_text, text_of_rows}
use Rattle.acl_rows.specs.RuleParts.{is_empty}
use Rattle.acl_rows.proofs.ListLaws.{joined_text}
use Rattle.junos_lang.specs.declared.documents.JTerm.{JTerm}
use Rattle.junos_lang.specs.declared.term_taking.TakenTerm.{TakenTerm}
use Rattle.junos_lang.specs.declared.terms_taking.TakenTerms.{TakenTerms}
use Rattle.junos_lang.specs.Documents.{IsTerm, term_names}
use Rattle.junos_lang.specs.ScanSteps.{EndsBody, HasTaken, HasWalked, TakesBody, TakesTerm, decided_or, decided_with, end_text, terms_text}
use Rattle.junos_lang.specs.Texts.{term_rows}
use Rattle.junos_lang.specs.Walks.{decided_by, term_holds, walk}
use Rattle.junos_lang.proofs.TermTakingLaws.{term_begins}

-- ---- texts

first_text : (f : Family) (t : JTerm) (ts : List JTerm) (rest : List ℕ) → terms_text f (t ∷ ts) ++ rest ≡ text_of_rows (term_rows f t) ++ (terms_text f ts ++ rest)
first_text f t ts rest =
    ap (λ x. x ++ rest) (flat_map-append row_text (term_rows f t) (flat_map (term_rows f) ts)) ∙ append_assoc (text_of_rows (term_rows f t)) (terms_text f ts) rest

last_text : (f : Family) (ts : List JTerm) (t : JTerm) (rest : List ℕ) → terms_text f (ts ++ t ∷ []) ++ rest ≡ terms_text f ts ++ (text_of_rows (term_rows f t) ++ rest)
last_text f ts t rest =
    ap (λ x. x ++ rest) (sym (joined_text (term_rows f) ts (t ∷ []))) ∙ append_assoc (terms_text f ts) (terms_text f (t ∷ [])) rest
    ∙ ap (λ rows. terms_text f ts ++ (text_of_rows rows ++ rest)) (append-nil (term_rows f t))

-- what ends a filter is indented less than a term
end_is_no_term : (f : Family) (t : JTerm) (rest more : List ℕ) → end_text ++ more ≡ text_of_rows (term_rows f t) ++ rest → ⊥
unfolding row_text
end_is_no_term f t rest more e =
    let ninth : 125 ≡ 32 = ap (λ x. get_or x 8 0) (e ∙ ap (λ x. x ++ rest) (term_begins f t).1) in
    omega (arith, ninth)

-- ---- terms that were taken

pub nothing_taken : (f : Family) (text : List ℕ) (p : Packet) (names : List (List ℕ)) → names ≡ [] → HasTaken f text p names None text
nothing_taken f text p names n = ([], record { valid = tt; written = refl; named = n; walked = λ others. refl; first = λ all more h e. (all, h, refl, e) })

pub one_view_more : (texts : List (Bor (List ℕ))) (t : Bor (List ℕ)) → views (texts ++ t ∷ []) ≡ views texts ++ t.now ∷ []
one_view_more [] t = refl
one_view_more (x ∷ texts) t = ap (λ xs. x.now ∷ xs) (one_view_more texts t)

one_name_more : (ts : List JTerm) (t : JTerm) → term_names ts ++ t.name ∷ [] ≡ term_names (ts ++ t ∷ [])
one_name_more [] t = refl
one_name_more (u ∷ ts) t = ap (λ names. u.name ∷ names) (one_name_more ts t)

chosen_or : (b : Bool) (o w : Outcome) → cond b o w ≡ decided_or (cond b (Some o) None) w
chosen_or true o w = refl
chosen_or false o w = refl

one_walked : (decided : Option Outcome) (t : JTerm) (others : List JTerm) (p : Packet)
    → decided_or decided (walk (t ∷ others) p) ≡ decided_or (decided_with decided t p) (walk others p)
unfolding walk
one_walked None t others p = chosen_or (term_holds t p) (decided_by t) (walk others p)
one_walked (Some o) t others p = refl

walked_further : (ts : List JTerm) (p : Packet) (decided : Option Outcome) (t : JTerm) → HasWalked ts p decided → HasWalked (ts ++ t ∷ []) p (decided_with decided t p)
walked_further ts p decided t h = λ others.
    ap (λ us. walk us p) (append_assoc ts (t ∷ []) others) ∙ h (t ∷ others) ∙ one_walked decided t others p

abbrev Left : Family → List JTerm → List JTerm → List ℕ → List ℕ → Type 0
Left f all taken rest more =
    (others : List JTerm) × AllByRecursion (IsTerm f) others × (all ≡ taken ++ others) × (rest ≡ terms_text f others ++ (end_text ++ more))

one_less_left : (f : Family) (all taken : List JTerm) (rest more : List ℕ) (u : TakenTerm) → TakesTerm f rest (Some u)
    → (others : List JTerm) → AllByRecursion (IsTerm f) others → all ≡ taken ++ others → rest ≡ terms_text f others ++ (end_text ++ more)
    → Left f all (taken ++ u.term ∷ []) u.rest.now more
one_less_left f all taken rest more u h [] k a e = absurd (end_is_no_term f u.term u.rest.now more (sym e ∙ h.some.written))
one_less_left f all taken rest more u h (t ∷ others) k a e =
    let behind : List ℕ = terms_text f others ++ (end_text ++ more) in
    let found = h.each t behind k.0 (e ∙ first_text f t others (end_text ++ more)) in
    (others, k.1, a ∙ sym (append_assoc taken (t ∷ []) others) ∙ ap (λ v. (taken ++ v ∷ []) ++ others) (sym found.0), found.1)

pub one_more_taken : (f : Family) (text : List ℕ) (p : Packet) (names : List (List ℕ)) (decided : Option Outcome) (rest : List ℕ) (u : TakenTerm)
    → HasTaken f text p names decided rest → TakesTerm f rest (Some u)
    → HasTaken f text p (names ++ u.name.now ∷ []) (decided_with decided u.term p) u.rest.now
one_more_taken f text p names decided rest u h k =
    let ts = h.0 in
    let t = u.term in (
      ts ++ t ∷ [],
      record {
        valid = all_append (IsTerm f) ts (t ∷ []) h.1.valid (k.some.valid, tt);
        written = h.1.written ∙ ap (λ x. terms_text f ts ++ x) k.some.written ∙ sym (last_text f ts t u.rest.now);
        named = ap (λ x. x ++ u.name.now ∷ []) h.1.named ∙ ap (λ x. term_names ts ++ x ∷ []) k.some.named ∙ one_name_more ts t;
        walked = walked_further ts p decided t h.1.walked;
        first = λ all more v e.
            let q = h.1.first all more v e in
            one_less_left f all ts rest more u k q.0 q.1 q.2 q.3;
      },
    )

-- ---- the end of the filter

empty_names : (ts : List JTerm) → is_empty (term_names ts) ≡ is_empty ts
empty_names [] = refl
empty_names (t ∷ ts) = refl

-- where no term is left, all were taken
all_taken : (f : Family) (all taken : List JTerm) (rest more : List ℕ) → TakesTerm f rest None
    → (others : List JTerm) → AllByRecursion (IsTerm f) others → all ≡ taken ++ others → rest ≡ terms_text f others ++ (end_text ++ more)
    → (all ≡ taken) × (rest ≡ end_text ++ more)
all_taken f all taken rest more h [] k a e = (a ∙ append-nil taken, e)
all_taken f all taken rest more h (t ∷ others) k a e =
    absurd (h.each t (terms_text f others ++ (end_text ++ more)) k.0 (e ∙ first_text f t others (end_text ++ more)))

walked_all : (ts : List JTerm) (p : Packet) (decided : Option Outcome) → HasWalked ts p decided → decided_or decided (walk [] p) ≡ walk ts p
walked_all ts p decided h = sym (h []) ∙ ap (λ us. walk us p) (append-nil ts)

pub body_taken : (f : Family) (text : List ℕ) (p : Packet) (names : List (List ℕ)) (decided : Option Outcome) (rest : List ℕ) (taken : Option TakenTerms)
    → HasTaken f text p names decided rest → TakesTerm f rest None → EndsBody names decided rest taken → TakesBody f text p taken
unfolding walk
body_taken f text p names decided rest None h n ends = record {
  some = tt;
  each = λ ts more v e.
      let q = h.1.first ts more v.valid e in
      let all = all_taken f ts h.0 rest more n q.0 q.1 q.2 q.3 in
      let same : term_names ts ≡ names = ap term_names all.0 ∙ sym h.1.named in
      absurd (ends.none (ap is_empty (sym same) ∙ empty_names ts ∙ v.some) (subst (IsDistinct bytes_eq) same v.differ) more all.1);
}
body_taken f text p names decided rest (Some t) h n ends = record {
  some = (
    h.0,
    record {
      valid = record {
        some = sym (empty_names h.0) ∙ ap is_empty (sym h.1.named) ∙ ends.some.0;
        valid = h.1.valid;
        differ = subst (IsDistinct bytes_eq) h.1.named ends.some.1;
      };
      written = h.1.written ∙ ap (λ x. terms_text f h.0 ++ x) ends.some.2;
      decided = ends.some.3 ∙ walked_all h.0 p decided h.1.walked;
    },
  );
  each = λ ts more v e.
      let q = h.1.first ts more v.valid e in
      let all = all_taken f ts h.0 rest more n q.0 q.1 q.2 q.3 in
      append_cancel_left end_text t.rest.now more (sym ends.some.2 ∙ all.1);
}
