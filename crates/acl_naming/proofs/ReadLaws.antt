-- Lines and words of a naming file, one after the other.
use Rattle.std.proofs.Common.{◌≡◌, ℕ, Bool, true, false, not, ◌&&◌, ◌||◌, ◌==◌, List, [], ◌∷◌, ◌++◌, None, Some, Err, refl, ap, sym, ◌∙◌}
use Rattle.std.proofs.Math.Bool.{or-false}
use Rattle.std.proofs.lemmas.Bool.{and_parts, cond-true, cond-false, true_from_ne_false, or_right}
use Rattle.std.proofs.lemmas.Option.{none-some}
use Rattle.std.specs.List.{list_all}
use Rattle.std.specs.Option.{option_map_or}
use Rattle.acl_text.specs.declared.faults.Code.TheVariants as codes
use Rattle.acl_text.specs.declared.faults.Place.{Place}
use Rattle.acl_text.specs.declared.faults.Slip.{Slip}
use Rattle.acl_text.specs.declared.faults.Refusal.{Refusal}
use Rattle.acl_text.specs.declared.faults.Refusal.TheVariants as refusals
use Rattle.acl_text.specs.Answers.{Stops, slip_told}
use Rattle.acl_text.specs.Cursors.{is_white, words_of}
use Rattle.acl_text.specs.Cuts.{cut_at, has_byte}
use Rattle.acl_text.proofs.CutLaws.{cut-found, cut-none, has-append, has-not, none-cut}
use Rattle.acl_text.specs.Refusals.{IsRefusalBy, slip}
use Rattle.acl_naming.specs.declared.item_words.NamingKind.{NamingKind}
use Rattle.acl_naming.specs.Definitions.{Definition}
use Rattle.acl_naming.specs.LineSteps.{IsNamed, IsPlainDefinition, is_plain}
use Rattle.acl_naming.specs.NamingFiles.{TableOrSlip, bad_byte, in_front_of, is_bad, line_added, opens, split_added, trimmed, with_definition, with_items, without_comment, without_end}

-- ---- white space at the end

pub end_white : (xs : List ℕ) (b : ℕ) → is_white b ≡ true → without_end (xs ++ b ∷ []) ≡ without_end xs
end_white [] b h = cond-true (is_white b) _ _ h
end_white (x ∷ xs) b h = ap (in_front_of x) (end_white xs b h)

kept_more : (x : ℕ) (ys : List ℕ) (y : ℕ) → in_front_of x (ys ++ y ∷ []) ≡ x ∷ (ys ++ y ∷ [])
kept_more x [] y = refl
kept_more x (z ∷ ys) y = refl

pub end_black : (xs : List ℕ) (b : ℕ) → is_white b ≡ false → without_end (xs ++ b ∷ []) ≡ xs ++ b ∷ []
end_black [] b h = cond-false (is_white b) _ _ h
end_black (x ∷ xs) b h = ap (in_front_of x) (end_black xs b h) ∙ kept_more x xs b

-- ---- refusals

-- the slip is the expected one
pub refuses_slip : (s : Slip) (r : Refusal) (e : TableOrSlip) → IsRefusalBy s r → e ≡ Err s → Stops slip_told r e
refuses_slip s (refusals.Slip t) e h f = f ∙ ap Err (sym h)
refuses_slip s refusals.Memory e h f = tt

-- ---- whether a definition stands above

pub cut_opens : (is_open : Bool) (text : List ℕ) (p : List ℕ × List ℕ) → Some p ≡ cut_at 61 text → true ≡ opens is_open text
cut_opens is_open text p e =
    sym (or_right is_open (has_byte 61 text) (true_from_ne_false (has_byte 61 text) (λ h. none-some p (sym (cut-none 61 text h) ∙ sym e))))

pub uncut_opens : (is_open : Bool) (text : List ℕ) → None ≡ cut_at 61 text → is_open ≡ opens is_open text
uncut_opens is_open text e = sym (or-false is_open) ∙ ap (λ b. is_open || b) (sym (none-cut 61 text (sym e)))

-- ---- plain lines

not_true : (b : Bool) → not b ≡ true → b ≡ false
not_true true h = sym h
not_true false h = refl

good_bytes : (line : List ℕ) → list_all is_plain line ≡ true → bad_byte line ≡ None
good_bytes [] h = refl
good_bytes (b ∷ bs) h =
    let p = and_parts (is_plain b) (list_all is_plain bs) h in
    let q = and_parts (not (is_bad b) && not (b == 35)) (not (b == 61)) p.0 in
    let good = and_parts (not (is_bad b)) (not (b == 35)) q.0 in
    cond-false (is_bad b) _ _ (not_true (is_bad b) good.0) ∙ good_bytes bs p.1

-- a plain line is its own text before its comment, and has items alone
no_comment : (line : List ℕ) → list_all is_plain line ≡ true → without_comment line ≡ line
no_comment line h = ap (λ o. option_map_or {U = List ℕ} (λ (p : List ℕ × List ℕ). p.0) o line) (cut-none 35 line (has-not is_plain 35 line h refl))

pub plain_added : (kind : NamingKind) (place : Place) (is_open : Bool) (ds : List Definition) (line : List ℕ) → list_all is_plain line ≡ true
    → line_added kind place is_open ds (without_comment line) ≡ with_items kind place is_open ds (words_of line)
plain_added kind place is_open ds line h =
    ap (line_added kind place is_open ds) (no_comment line h)
    ∙ ap (λ o. option_map_or {U = TableOrSlip} (λ (b : ℕ). Err (slip codes.BadByte place (b ∷ []))) o (split_added kind place is_open ds line)) (good_bytes line h)
    ∙ ap (λ o. option_map_or {U = TableOrSlip} (λ (p : List ℕ × List ℕ). with_definition kind place ds (trimmed p.0) p.1) o (with_items kind place is_open ds (words_of line))) (cut-none 61 line (has-not is_plain 61 line h refl))

pub plain_opens : (is_open : Bool) (line : List ℕ) → list_all is_plain line ≡ true → opens is_open (without_comment line) ≡ is_open
plain_opens is_open line h =
    ap (opens is_open) (no_comment line h) ∙ ap (λ b. is_open || b) (has-not is_plain 61 line h refl) ∙ or-false is_open

-- ---- plain definitions

good_joined : (name rest : List ℕ) → list_all is_plain name ≡ true → list_all is_plain rest ≡ true → bad_byte (name ++ 61 ∷ rest) ≡ None
good_joined [] rest h k = good_bytes rest k
good_joined (b ∷ bs) rest h k =
    let p = and_parts (is_plain b) (list_all is_plain bs) h in
    let q = and_parts (not (is_bad b) && not (b == 35)) (not (b == 61)) p.0 in
    let good = and_parts (not (is_bad b)) (not (b == 35)) q.0 in
    cond-false (is_bad b) _ _ (not_true (is_bad b) good.0) ∙ good_joined bs rest p.1 k

no_comment_there : (line name rest : List ℕ) → IsPlainDefinition line name rest → without_comment line ≡ line
no_comment_there line name rest d =
    let same = (cut-found 61 line name rest (sym d.cut)).0 in
    let lacks : has_byte 35 line ≡ false = ap (has_byte 35) same
    ∙ has-append 35 name (61 ∷ rest) (has-not is_plain 35 name d.name_plain refl) (has-not is_plain 35 rest d.rest_plain refl) in
    ap (λ o. option_map_or {U = List ℕ} (λ (p : List ℕ × List ℕ). p.0) o line) (cut-none 35 line lacks)

-- a plain definition is its name and its items
defined_added : (kind : NamingKind) (place : Place) (is_open : Bool) (ds : List Definition) (line name rest : List ℕ) → IsPlainDefinition line name rest
    → line_added kind place is_open ds (without_comment line) ≡ with_definition kind place ds (trimmed name) rest
defined_added kind place is_open ds line name rest d =
    ap (line_added kind place is_open ds) (no_comment_there line name rest d)
    ∙ ap (λ o. option_map_or {U = TableOrSlip} (λ (b : ℕ). Err (slip codes.BadByte place (b ∷ []))) o (split_added kind place is_open ds line))
    (ap bad_byte (cut-found 61 line name rest (sym d.cut)).0 ∙ good_joined name rest d.name_plain d.rest_plain)
    ∙ ap (λ o. option_map_or {U = TableOrSlip} (λ (p : List ℕ × List ℕ). with_definition kind place ds (trimmed p.0) p.1) o (with_items kind place is_open ds (words_of line))) (sym d.cut)

defined_opens : (is_open : Bool) (line name rest : List ℕ) → IsPlainDefinition line name rest → true ≡ opens is_open (without_comment line)
defined_opens is_open line name rest d =
    cut_opens is_open line (name, rest) d.cut ∙ ap (opens is_open) (sym (no_comment_there line name rest d))

pub named_added : (kind : NamingKind) (place : Place) (is_open : Bool) (ds : List Definition) (line name items : List ℕ) → IsNamed line name items
    → line_added kind place is_open ds (without_comment line) ≡ with_definition kind place ds name items
named_added kind place is_open ds line name items d =
    defined_added kind place is_open ds line d.front items d.plain ∙ ap (λ n. with_definition kind place ds n items) d.own

pub named_opens : (is_open : Bool) (line name items : List ℕ) → IsNamed line name items → true ≡ opens is_open (without_comment line)
named_opens is_open line name items d = defined_opens is_open line d.front items d.plain
