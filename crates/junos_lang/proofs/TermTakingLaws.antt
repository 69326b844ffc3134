-- A term is read again from its text, whatever stands behind it.
use Rattle.std.proofs.Common.{◌≡◌, ℕ, ◌+◌, ◌<◌, Bool, true, false, cond, ◌&&◌, nat_le, List, [], ◌∷◌, ◌++◌, length, map, codes, Option, None, Some, IfSome, is_some, option_map, refl, ap, sym, subst, ◌∙◌, append_assoc, length-append, arith}
use Rattle.std.specs.Fmt.{decimal}
use Rattle.std.specs.List.{AllByRecursion, fold, join_with_byte}
use Rattle.std.specs.Option.{IsSomeAnd}
use Rattle.std.proofs.lemmas.Grind.{flat_map-append}
use Rattle.std.proofs.lemmas.Bool.{false≢true}
use Rattle.std.proofs.lemmas.Option.{none-some}
use Rattle.acl_packet.specs.declared.addresses.Family.{Family}
use Rattle.acl_packet.specs.declared.addresses.Prefix.{Prefix}
use Rattle.acl_packet.specs.declared.filtering.Verdict.{Verdict}
use Rattle.acl_packet.specs.declared.filtering.Verdict.TheVariants.{Accept}
use Rattle.acl_text.specs.Cuts.{behind}
use Rattle.acl_text.proofs.CutLaws.{behind-again}
use Rattle.acl_text.proofs.ListLaws.{all_append}
use Rattle.acl_rows.specs.Rows.{Row, row, row_text, text_of_rows, words_in}
use Rattle.acl_rows.specs.RowSteps.{rows_in}
use Rattle.acl_rows.specs.declared.rule_parts.End.{End}
use Rattle.acl_rows.specs.declared.rule_parts.End.TheVariants.{Source, Destination}
use Rattle.acl_rows.proofs.RowLaws.{rows_before, split_some}
use Rattle.junos_lang.specs.declared.conditions.Condition.{Condition}
use Rattle.junos_lang.specs.declared.conditions.Condition.TheVariants.{SourcePort, DestinationPort, IcmpType, IcmpCode}
use Rattle.junos_lang.specs.declared.documents.JTerm.{JTerm}
use Rattle.junos_lang.specs.declared.documents.JTest.{JTest}
use Rattle.junos_lang.specs.declared.documents.Section.{Section}
use Rattle.junos_lang.specs.declared.filters_drafts.FiltersDraft.{FiltersDraft}
use Rattle.junos_lang.specs.declared.term_taking.TakenTerm.{TakenTerm}
use Rattle.junos_lang.specs.Documents.{IsTerm}
use Rattle.junos_lang.specs.ReadingSteps.{no_section, no_term, take_head, take_row}
use Rattle.junos_lang.specs.ScanSteps.{HasTerm, IsTermTaken, TakesTerm, draft_of, ends_term, is_short, read_term, term_in}
use Rattle.junos_lang.specs.Texts.{address_rows, closing, condition_rows, from_rows, list_row, list_rows, note_row, note_rows, prefix_row, protocol_of, range_word, syslog_rows, term_row, term_rows, test_rows, then_rows}
use Rattle.junos_lang.proofs.DocumentLaws.{conditions_read, fitting_verdict, from_read, note_read, then_read}
use Rattle.junos_lang.proofs.SafeRows.{term_safe}

-- ---- rows within a term

abbrev Goes : Row → Type 0
Goes r = ends_term r ≡ false

deep : (n : ℕ) (words : List (List ℕ)) → nat_le n 12 ≡ false → Goes (row n words)
unfolding ends_term
deep n words h = ap (λ b. b && is_short words) h

prefixes_go : (ps : List Prefix) → AllByRecursion Goes (map prefix_row ps)
prefixes_go [] = tt
prefixes_go (p ∷ ps) = (deep 24 (prefix_row p).words refl, prefixes_go ps)

closing_goes : (n : ℕ) → nat_le n 12 ≡ false → AllByRecursion Goes (closing n ∷ [])
closing_goes n h = (deep n (codes "}" ∷ []) h, tt)

addresses_go : (end : End) (ps : List Prefix) → AllByRecursion Goes (address_rows end ps)
unfolding address_rows
addresses_go end [] = tt
addresses_go end (p ∷ ps) = (deep 20 _ refl, all_append Goes (map prefix_row (p ∷ ps)) (closing 20 ∷ []) (prefixes_go (p ∷ ps)) (closing_goes 20 refl))

list_goes : (c : Condition) (values : List (List ℕ)) → AllByRecursion Goes (list_rows c values)
unfolding list_rows list_row
list_goes c [] = tt
list_goes c (v ∷ values) = (deep 20 _ refl, tt)

test_goes : (o : Option JTest) → AllByRecursion Goes (test_rows o)
unfolding test_rows
test_goes None = tt
test_goes (Some test) = (deep 20 _ refl, tt)

conditions_go : (f : Family) (t : JTerm) → AllByRecursion Goes (condition_rows f t)
unfolding condition_rows
conditions_go f t =
    all_append Goes (address_rows Source t.src) _ (addresses_go Source t.src)
    (all_append Goes (address_rows Destination t.dst) _ (addresses_go Destination t.dst)
    (all_append Goes (list_rows (protocol_of f) (map decimal t.protos)) _ (list_goes (protocol_of f) (map decimal t.protos))
    (all_append Goes (list_rows SourcePort (map range_word t.sports)) _ (list_goes SourcePort (map range_word t.sports))
    (all_append Goes (list_rows DestinationPort (map range_word t.dports)) _ (list_goes DestinationPort (map range_word t.dports))
    (all_append Goes (list_rows IcmpType (map decimal t.itypes)) _ (list_goes IcmpType (map decimal t.itypes))
    (all_append Goes (list_rows IcmpCode (map decimal t.icodes)) (test_rows t.test) (list_goes IcmpCode (map decimal t.icodes)) (test_goes t.test)))))))

from_goes : (rows : List Row) → AllByRecursion Goes rows → AllByRecursion Goes (from_rows rows)
unfolding from_rows
from_goes [] h = tt
from_goes (r ∷ rows) h = (deep 16 _ refl, all_append Goes (r ∷ rows) (closing 16 ∷ []) h (closing_goes 16 refl))

syslog_goes : (b : Bool) → AllByRecursion Goes (syslog_rows b)
syslog_goes true = (deep 20 _ refl, tt)
syslog_goes false = tt

then_goes : (b : Bool) (v : Verdict) → AllByRecursion Goes (then_rows b v)
unfolding then_rows
then_goes b v = (deep 16 _ refl, all_append Goes (syslog_rows b) _ (syslog_goes b) (deep 20 _ refl, closing_goes 16 refl))

note_goes : (o : Option (List ℕ)) → AllByRecursion Goes (note_rows o)
unfolding note_row ends_term
note_goes None = tt
note_goes (Some text) = (ap (λ ws. is_short (codes "/*" ∷ (ws ++ codes "*/" ∷ []))) (split_some text).2, tt)

head_goes : (name : List ℕ) → AllByRecursion Goes (term_row name ∷ [])
unfolding ends_term
head_goes name = (refl, tt)

-- ---- one term

passed : (d : FiltersDraft) (xs ys : List Row) → AllByRecursion Goes xs → read_term d (xs ++ ys) ≡ read_term (fold take_row d xs) ys
passed d [] ys h = refl
passed d (x ∷ xs) ys h = ap (λ b. cond b d (read_term (take_row d x) (xs ++ ys))) h.0 ∙ passed (take_row d x) xs ys h.1

past : (d e : FiltersDraft) (xs ys more : List Row) → AllByRecursion Goes xs → fold take_row d xs ≡ e
    → read_term d ((xs ++ ys) ++ more) ≡ read_term e (ys ++ more)
past d e xs ys more h k =
    ap (read_term d) (append_assoc xs ys more) ∙ passed d xs (ys ++ more) h ∙ ap (λ s. read_term s (ys ++ more)) k

abbrev of : Family → JTerm → FiltersDraft
of f t = record (draft_of f) { term = t }

term_rows_again : (f : Family) (t : JTerm) (more : List Row) → IsTerm f t → read_term (draft_of f) (term_rows f t ++ more) ≡ of f t
unfolding term_rows take_row take_head ends_term
term_rows_again f t more h =
    let s : Section = record no_section { family = f } in
    let noted : JTerm = record no_term { note = t.note } in
    let named : JTerm = record noted { name = t.name } in
    let held : JTerm = record t { syslog = false; verdict = Accept } in
    let from = from_rows (condition_rows f t) in
    let actions = then_rows t.syslog t.verdict in
    let last = closing 12 ∷ [] in
    past (of f no_term) (of f noted) (note_rows t.note) (term_row t.name ∷ (from ++ (actions ++ last))) more (note_goes t.note) (note_read [] s t.note)
    ∙ past (of f noted) (of f named) (term_row t.name ∷ []) (from ++ (actions ++ last)) more (head_goes t.name) refl
    ∙ past (of f named) (of f held) from (actions ++ last) more (from_goes (condition_rows f t) (conditions_go f t))
    (from_read [] s named held (condition_rows f t) (conditions_read [] s t t.note t.name h))
    ∙ past (of f held) (of f t) actions last more (then_goes t.syslog t.verdict) (then_read [] s held t.protos t.syslog t.verdict refl (fitting_verdict f t h))

pub term_again : (f : Family) (t : JTerm) (more : List ℕ) → IsTerm f t → term_in f (text_of_rows (term_rows f t) ++ more) ≡ t
unfolding term_in
term_again f t more h =
    ap (λ rows. (read_term (draft_of f) rows).term) (rows_before (term_rows f t) more (term_safe f t h))
    ∙ ap (λ d. d.term) (term_rows_again f t (rows_in more) h)

-- ---- the front of a term's text

noted_begins : (o : Option (List ℕ)) (name : List ℕ) (rows : List Row)
    → (more : List ℕ) × (text_of_rows (note_rows o ++ (term_row name ∷ rows)) ≡ codes "            " ++ more)
unfolding row_text note_row
noted_begins None name rows = ((join_with_byte 32 (term_row name).words ++ 10 ∷ []) ++ text_of_rows rows, refl)
noted_begins (Some text) name rows =
    ((join_with_byte 32 (codes "/*" ∷ (words_in text ++ codes "*/" ∷ [])) ++ 10 ∷ []) ++ text_of_rows (term_row name ∷ rows), refl)

-- it is indented
pub term_begins : (f : Family) (t : JTerm) → (more : List ℕ) × (text_of_rows (term_rows f t) ≡ codes "            " ++ more)
unfolding term_rows
term_begins f t = noted_begins t.note t.name (from_rows (condition_rows f t) ++ (then_rows t.syslog t.verdict ++ closing 12 ∷ []))

moved : (a b c d e : List ℕ) → (((a ++ b) ++ c) ++ d) ++ e ≡ a ++ (((b ++ c) ++ d) ++ e)
moved a b c d e = simp append_assoc

named_there : (o : Option (List ℕ)) (name : List ℕ) (rows : List Row) (rest : List ℕ)
    → (more : List ℕ) × (text_of_rows (note_rows o ++ (term_row name ∷ rows)) ++ rest ≡ text_of_rows (note_rows o) ++ (codes "            term " ++ (name ++ more)))
unfolding row_text
named_there o name rows rest =
    let note : List ℕ = text_of_rows (note_rows o) in
    let end : List ℕ = codes " {" in
    let others : List ℕ = text_of_rows rows in (
      ((end ++ 10 ∷ []) ++ others) ++ rest,
      ap (λ t. t ++ rest) (flat_map-append row_text (note_rows o) (term_row name ∷ rows))
          ∙ append_assoc note (text_of_rows (term_row name ∷ rows)) rest
          ∙ ap (λ t. note ++ (codes "            term " ++ t)) (moved name end (10 ∷ []) others rest),
    )

-- its name stands behind its note
pub name_there : (f : Family) (t : JTerm) (rest : List ℕ)
    → (more : List ℕ) × (text_of_rows (term_rows f t) ++ rest ≡ text_of_rows (note_rows t.note) ++ (codes "            term " ++ (t.name ++ more)))
unfolding term_rows
name_there f t rest = named_there t.note t.name (from_rows (condition_rows f t) ++ (then_rows t.syslog t.verdict ++ closing 12 ∷ [])) rest

pub term_shortens : (f : Family) (t : JTerm) (text rest : List ℕ) → text ≡ text_of_rows (term_rows f t) ++ rest → length rest < length text
term_shortens f t text rest e =
    let b = term_begins f t in
    let front : length (text_of_rows (term_rows f t)) ≡ 12 + length b.0 = ap length b.1 ∙ length-append (codes "            ") b.0 in
    let whole : length text ≡ length (text_of_rows (term_rows f t)) + length rest = ap length e ∙ length-append (text_of_rows (term_rows f t)) rest in
    omega (arith, front, whole)

pub none_mapped : {A B : Type 0} (f : A → B) (o : Option A) (x : Option B) → is_some o ≡ false → option_map f o ≡ x → x ≡ None
none_mapped f None x h e = sym e
none_mapped f (Some a) x h e = absurd (false≢true (sym h))

-- a text that is not indented begins with no term
pub none_taken : (f : Family) (text : List ℕ) → behind (codes "            ") text ≡ None → TakesTerm f text None
none_taken f text n = record {
  some = tt;
  each = λ t rest h e.
      let b = term_begins f t in
      let more : List ℕ = b.0 ++ rest in
      let found : behind (codes "            ") text ≡ Some more =
      ap (behind (codes "            ")) (e ∙ ap (λ x. x ++ rest) b.1 ∙ append_assoc (codes "            ") b.0 rest) ∙ behind-again (codes "            ") more in
      none-some more (sym n ∙ found);
}

pub term_taken : (f : Family) (text : List ℕ) (read : JTerm) (taken : Option TakenTerm) → read ≡ term_in f text → IfSome taken (IsTermTaken f text)
    → ((rest : List ℕ) → IsTerm f read → HasTerm f text read rest → IsSomeAnd taken (λ u. (u.term ≡ read) × (u.rest.now ≡ rest))) → TakesTerm f text taken
term_taken f text read taken e some each = record {
  some = some;
  each = λ t rest h w.
      let same : read ≡ t = e ∙ ap (term_in f) w ∙ term_again f t rest h in
      let Each : JTerm → Type 0 = λ u. (more : List ℕ) → IsTerm f u → HasTerm f text u more → IsSomeAnd taken (λ v. (v.term ≡ u) × (v.rest.now ≡ more)) in
      subst Each same each rest h w;
}
