-- A filter, taken from the front of a text.
use Rattle.std.proofs.Common.{◌≡◌, ℕ, ◌+◌, ◌<◌, Bool, true, false, cond, List, [], ◌∷◌, ◌++◌, length, flat_map, codes, Option, None, Some, refl, ap, sym, subst, ◌∙◌, append_assoc, length-append, arith}
use Rattle.std.specs.List.{AllByRecursion}
use Rattle.std.specs.Str.{bytes_eq}
use Rattle.std.proofs.lemmas.Grind.{flat_map-append}
use Rattle.std.proofs.lemmas.List.{append_cancel_left}
use Rattle.std.proofs.lemmas.Option.{none-some, same_Some}
use Rattle.acl_packet.specs.declared.addresses.Family.{Family}
use Rattle.acl_packet.specs.declared.addresses.Family.TheVariants.{V4, V6}
use Rattle.acl_packet.specs.declared.packets.Packet.{Packet}
use Rattle.acl_packet.specs.Addresses.{same_family}
use Rattle.acl_text.specs.Cuts.{behind, cut_at, has_byte}
use Rattle.acl_text.specs.Names.{is_filter_name}
use Rattle.acl_text.specs.OptionSteps.{◌>>=◌}
use Rattle.acl_text.proofs.CutLaws.{behind-again, cut-again, cut-found, has-append}
use Rattle.acl_text.proofs.OptionStepLaws.{bound, same_bytes}
use Rattle.acl_rows.specs.declared.scanning.TakenSection.{TakenSection}
use Rattle.acl_rows.specs.Rows.{row, row_text, text_of_rows}
use Rattle.acl_rows.specs.Scans.{TakesSection}
use Rattle.acl_rows.proofs.WordLaws.{name_word}
use Rattle.junos_lang.specs.declared.documents.Section.{Section}
use Rattle.junos_lang.specs.declared.filter_taking.FilterHead.{FilterHead}
use Rattle.junos_lang.specs.declared.filter_taking.TakenFilter.{TakenFilter}
use Rattle.junos_lang.specs.declared.terms_taking.TakenTerms.{TakenTerms}
use Rattle.junos_lang.specs.Documents.{IsSection, IsTerm, family_word, filter_names, name_of}
use Rattle.junos_lang.specs.ReadingSteps.{note_in}
use Rattle.junos_lang.specs.ScanSteps.{AreTerms, TakesBody, TakesFilter, end_text, head_in, head_parts, known_family_in, section_name_in, terms_text}
use Rattle.junos_lang.specs.Texts.{end_rows, head_rows, section_rows, term_rows}
use Rattle.junos_lang.specs.Walks.{section_outcome}
use Rattle.junos_lang.proofs.DocumentLaws.{without_end}

-- ---- the text of a section

abbrev head_text : Family → List ℕ → List ℕ
head_text f name = text_of_rows (head_rows (family_word f) name)

section_text : (s : Section) (rest : List ℕ) → text_of_rows (section_rows s) ++ rest ≡ head_text s.family s.name ++ (terms_text s.family s.terms ++ (end_text ++ rest))
unfolding section_rows
section_text s rest =
    let terms = flat_map (term_rows s.family) s.terms in
    ap (λ t. t ++ rest) (flat_map-append row_text (head_rows (family_word s.family) s.name) (terms ++ end_rows)
    ∙ ap (λ t. head_text s.family s.name ++ t) (flat_map-append row_text terms end_rows))
    ∙ append_assoc (head_text s.family s.name) (text_of_rows terms ++ end_text) rest
    ∙ ap (λ t. head_text s.family s.name ++ t) (append_assoc (text_of_rows terms) end_text rest)

-- ---- its first row

family_no_feed : (f : Family) → has_byte 10 (family_word f) ≡ false
family_no_feed V4 = refl
family_no_feed V6 = refl

family_known : (f : Family) → known_family_in (family_word f) ≡ Some f
unfolding known_family_in
family_known V4 = refl
family_known V6 = refl

first_row : (f : Family) (name : List ℕ) (rest : List ℕ) → (more : List ℕ) × (head_text f name ++ rest ≡ codes "/* juniper " ++ (((name ++ 32 ∷ family_word f) ++ codes " */") ++ 10 ∷ more))
unfolding head_rows row_text
first_row f name rest =
    let word = family_word f in
    let line : List ℕ = name ++ 32 ∷ (word ++ codes " */") in
    let inner = row 0 (codes "firewall" ∷ codes "{" ∷ []) ∷ row 4 (codes "family" ∷ word ∷ codes "{" ∷ [])
    ∷ row 8 (codes "replace:" ∷ codes "filter" ∷ name ∷ codes "{" ∷ []) ∷ [] in
    let others : List ℕ = text_of_rows inner in (
      others ++ rest,
      ap (λ t. codes "/* juniper " ++ t)
          (append_assoc (line ++ 10 ∷ []) others rest ∙ append_assoc line (10 ∷ []) (others ++ rest)
          ∙ ap (λ t. t ++ 10 ∷ (others ++ rest)) (sym (append_assoc name (32 ∷ word) (codes " */")))),
    )

head_again : (f : Family) (name rest : List ℕ) → is_filter_name name ≡ true → head_in (head_text f name ++ rest) ≡ Some (f, name, name ++ 32 ∷ family_word f)
unfolding head_in section_name_in
head_again f name rest h =
    let word = family_word f in
    let full : List ℕ = name ++ 32 ∷ word in
    let line : List ℕ = full ++ codes " */" in
    let r = first_row f name rest in
    let safe = name_word name h in
    let no_feed : has_byte 10 line ≡ false = has-append 10 full (codes " */") (has-append 10 name (32 ∷ word) safe.no_feed (family_no_feed f)) refl in
    let named : List ℕ → Option (Family × List ℕ × List ℕ) = λ n. cut_at 32 n >>= (λ p. known_family_in p.1 >>= (λ g. Some (g, p.0, n))) in
    let lined : List ℕ → Option (List ℕ) = λ t. cut_at 10 t >>= (λ p. Some (note_in p.0)) in
    ap (λ t. (behind (codes "/* juniper ") t >>= lined) >>= named) r.1
    ∙ ap (λ o. (o >>= lined) >>= named) (behind-again (codes "/* juniper ") (line ++ 10 ∷ r.0))
    ∙ ap (λ o. (o >>= (λ p. Some (note_in p.0))) >>= named) (cut-again 10 line r.0 no_feed)
    ∙ ap named (without_end full)
    ∙ ap (λ o. o >>= (λ p. known_family_in p.1 >>= (λ g. Some (g, p.0, full)))) (cut-again 32 name word safe.no_space)
    ∙ ap (λ o. o >>= (λ g. Some (g, name, full))) (family_known f)

known_word : (w : List ℕ) (f : Family) → known_family_in w ≡ Some f → w ≡ family_word f
unfolding known_family_in
known_word w f h = first (bytes_eq w (codes "inet")) refl h where
  second : (t : Bool) → bytes_eq w (codes "inet6") ≡ t → cond t (Some V6) None ≡ Some f → w ≡ family_word f
  second true e k = same_bytes w (codes "inet6") e ∙ ap family_word (same_Some V6 f k)
  second false e k = absurd (none-some f k)

  first : (t : Bool) → bytes_eq w (codes "inet") ≡ t → cond t (Some V4) (cond (bytes_eq w (codes "inet6")) (Some V6) None) ≡ Some f → w ≡ family_word f
  first true e k = same_bytes w (codes "inet") e ∙ ap family_word (same_Some V4 f k)
  first false e k = second (bytes_eq w (codes "inet6")) refl k

pub head_found : (text : List ℕ) (h : FilterHead) → Some (head_parts h) ≡ head_in text → h.name.now ≡ h.filter.now ++ 32 ∷ family_word h.family
unfolding head_in
head_found text h e =
    let all = head_parts h in
    let named : List ℕ → Option (Family × List ℕ × List ℕ) = λ n. cut_at 32 n >>= (λ p. known_family_in p.1 >>= (λ g. Some (g, p.0, n))) in
    let full = bound (section_name_in text) named all (sym e) in
    let cut = bound (cut_at 32 full.0) (λ p. known_family_in p.1 >>= (λ g. Some (g, p.0, full.0))) all full.2 in
    let family = bound (known_family_in cut.0.1) (λ g. Some (g, cut.0.0, full.0)) all cut.2 in
    let same : (family.0, cut.0.0, full.0) ≡ all = same_Some (family.0, cut.0.0, full.0) all family.2 in
    let word : cut.0.1 ≡ family_word h.family = known_word cut.0.1 family.0 family.1 ∙ ap (λ x. family_word x.0) same in
    sym (ap (λ x. x.2) same) ∙ (cut-found 32 full.0 cut.0.0 cut.0.1 cut.1).0 ∙ ap (λ w. cut.0.0 ++ 32 ∷ w) word
    ∙ ap (λ x. x.1 ++ 32 ∷ family_word h.family) same

-- ---- the filter

section_head : (text : List ℕ) (h : FilterHead) (s : Section) (rest : List ℕ) → Some (head_parts h) ≡ head_in text → IsSection s
    → text ≡ text_of_rows (section_rows s) ++ rest → (h.family ≡ s.family) × (h.filter.now ≡ s.name)
section_head text h s rest e v w =
    let body : List ℕ = terms_text s.family s.terms ++ (end_text ++ rest) in
    let parts : Family × List ℕ × List ℕ = (s.family, s.name, name_of s) in
    let same : head_parts h ≡ parts = same_Some (head_parts h) parts (e ∙ ap head_in (w ∙ section_text s rest) ∙ head_again s.family s.name body v.named) in
    (ap (λ x. x.0) same, ap (λ x. x.1) same)

-- the text, by what its first row says
by_head : (text : List ℕ) (h : FilterHead) (s : Section) (rest : List ℕ) → (h.family ≡ s.family) × (h.filter.now ≡ s.name)
    → text ≡ text_of_rows (section_rows s) ++ rest → text ≡ head_text h.family h.filter.now ++ (terms_text h.family s.terms ++ (end_text ++ rest))
by_head text h s rest q w =
    w ∙ section_text s rest ∙ ap (λ f. head_text f s.name ++ (terms_text f s.terms ++ (end_text ++ rest))) (sym q.0)
    ∙ ap (λ n. head_text h.family n ++ (terms_text h.family s.terms ++ (end_text ++ rest))) (sym q.1)

terms_by_head : (h : FilterHead) (s : Section) → h.family ≡ s.family → IsSection s → AreTerms h.family s.terms
terms_by_head h s q v = record {
  some = v.has_terms;
  valid = subst (λ f. AllByRecursion (IsTerm f) s.terms) (sym q) v.terms;
  differ = v.terms_differ;
}

pub no_head : (text : List ℕ) (p : Packet) → head_in text ≡ None → TakesFilter text p None
no_head text p n = record {
  some = tt;
  each = λ s rest v w.
      none-some (s.family, s.name, name_of s)
      (sym n ∙ ap head_in (w ∙ section_text s rest) ∙ head_again s.family s.name (terms_text s.family s.terms ++ (end_text ++ rest)) v.named);
}

pub no_body : (text : List ℕ) (p : Packet) (h : FilterHead) → Some (head_parts h) ≡ head_in text
    → (is_filter_name h.filter.now ≡ true → (body : List ℕ) → text ≡ head_text h.family h.filter.now ++ body → ⊥) → TakesFilter text p None
no_body text p h e none = record {
  some = tt;
  each = λ s rest v w.
      let q = section_head text h s rest e v w in
      none (ap is_filter_name q.1 ∙ v.named) (terms_text h.family s.terms ++ (end_text ++ rest)) (by_head text h s rest q w);
}

body_by_head : (text : List ℕ) (h : FilterHead) (body : List ℕ) (s : Section) (rest : List ℕ) → text ≡ head_text h.family h.filter.now ++ body
    → (h.family ≡ s.family) × (h.filter.now ≡ s.name) → text ≡ text_of_rows (section_rows s) ++ rest → body ≡ terms_text h.family s.terms ++ (end_text ++ rest)
body_by_head text h body s rest b q w =
    append_cancel_left (head_text h.family h.filter.now) body (terms_text h.family s.terms ++ (end_text ++ rest)) (sym b ∙ by_head text h s rest q w)

pub no_terms : (text : List ℕ) (p : Packet) (h : FilterHead) (body : List ℕ) → Some (head_parts h) ≡ head_in text
    → text ≡ head_text h.family h.filter.now ++ body → TakesBody h.family body p None → TakesFilter text p None
no_terms text p h body e b k = record {
  some = tt;
  each = λ s rest v w.
      let q = section_head text h s rest e v w in
      k.each s.terms rest (terms_by_head h s q.0 v) (body_by_head text h body s rest b q w);
}

pub filter_taken : (text : List ℕ) (p : Packet) (h : FilterHead) (body : List ℕ) (t : TakenTerms) (u : TakenFilter) → Some (head_parts h) ≡ head_in text
    → is_filter_name h.filter.now ≡ true → text ≡ head_text h.family h.filter.now ++ body → TakesBody h.family body p (Some t)
    → u.name.now ≡ h.name.now → u.outcome ≡ cond (same_family h.family p.family) (Some t.outcome) None → u.rest.now ≡ t.rest.now → TakesFilter text p (Some u)
filter_taken text p h body t u e n b k name outcome rest =
    let s : Section = record { family = h.family; name = h.filter.now; terms = k.some.0 } in
    let taken = k.some.1 in
    record {
      some = (
        s,
        record {
          valid = record { named = n; has_terms = taken.valid.some; terms = taken.valid.valid; terms_differ = taken.valid.differ };
          written = b ∙ ap (λ x. head_text h.family h.filter.now ++ x) (taken.written ∙ ap (λ x. terms_text h.family k.some.0 ++ (end_text ++ x)) (sym rest))
              ∙ sym (section_text s u.rest.now);
          named = name ∙ head_found text h e;
          decided = outcome ∙ ap (λ o. cond (same_family h.family p.family) (Some o) None) taken.decided;
        },
      );
      each = λ s' more v w.
          let q = section_head text h s' more e v w in
          rest ∙ k.each s'.terms more (terms_by_head h s' q.0 v) (body_by_head text h body s' more b q w);
    }

-- ---- sections

section_begins : (s : Section) → (more : List ℕ) × (text_of_rows (section_rows s) ≡ 47 ∷ more)
unfolding section_rows head_rows row_text
section_begins s = (_, refl)

section_shortens : (s : Section) (text rest : List ℕ) → text ≡ text_of_rows (section_rows s) ++ rest → length rest < length text
section_shortens s text rest e =
    let b = section_begins s in
    let front : length (text_of_rows (section_rows s)) ≡ 1 + length b.0 = ap length b.1 ∙ length-append (47 ∷ []) b.0 in
    let whole : length text ≡ length (text_of_rows (section_rows s)) + length rest = ap length e ∙ length-append (text_of_rows (section_rows s)) rest in
    omega (arith, front, whole)

sections_text : (s : Section) (others : List Section)
    → text_of_rows (flat_map section_rows (s ∷ others)) ≡ text_of_rows (section_rows s) ++ text_of_rows (flat_map section_rows others)
sections_text s others = flat_map-append row_text (section_rows s) (flat_map section_rows others)

pub section_taken : (text : List ℕ) (p : Packet) (before after : List (List ℕ)) (u : TakenFilter) (t : TakenSection) → TakesFilter text p (Some u)
    → after ≡ before ++ u.name.now ∷ [] → t.outcome ≡ u.outcome → t.rest.now ≡ u.rest.now
    → TakesSection IsSection filter_names section_rows section_outcome text p before after (Some t)
section_taken text p before after u t k name outcome rest =
    let s = k.some.0 in
    let taken = k.some.1 in
    let written : text ≡ text_of_rows (section_rows s) ++ t.rest.now = taken.written ∙ ap (λ x. text_of_rows (section_rows s) ++ x) (sym rest) in
    record {
      some = (
        s,
        record {
          valid = taken.valid;
          written = written;
          named = name ∙ ap (λ x. before ++ x ∷ []) taken.named;
          decided = outcome ∙ taken.decided;
          shorter = section_shortens s text t.rest.now written;
        },
      );
      none = tt;
      each = λ s' others v all e. rest ∙ k.each s' (text_of_rows (flat_map section_rows others)) v (e ∙ sections_text s' others);
    }
