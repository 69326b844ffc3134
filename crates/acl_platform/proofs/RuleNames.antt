-- Names of rules are names and free texts, and so are notes.
use Rattle.std.proofs.Common.{◌≡◌, ℕ, ◌≤◌, Bool, true, false, ◌&&◌, ◌||◌, ◌==◌, not, nat_le, List, [], ◌∷◌, ◌++◌, inl, inr, length, refl, ap, sym, subst, ◌∙◌}
use Rattle.std.specs.List.{list_all, AllByRecursion}
use Rattle.std.proofs.lemmas.Bool.{and_from, and_parts, eqb-true, false≢true, or_left}
use Rattle.acl_text.specs.Names.{is_name, is_name_byte, is_safe_byte, is_safe_text, single_spaced}
use Rattle.acl_text.specs.Notes.{is_note}
use Rattle.acl_rows.proofs.DecisionLaws.{le_decides}
use Rattle.acl_platform.specs.Remarks.{notes}
use Rattle.acl_platform.specs.SoundFilters.{IsOneOf, IsRuleName, address_suffixes, port_suffixes, protocol_suffixes}

not_space : (b : ℕ) → is_name_byte b ≡ true → (b == 32) ≡ false
not_space b e = by_test (b == 32) refl
  where
    by_test : (t : Bool) → (b == 32) ≡ t → (b == 32) ≡ false
    by_test true f = absurd (false≢true (ap is_name_byte (sym (eqb-true b 32 f)) ∙ e))
    by_test false f = f

safe_byte : (b : ℕ) → is_name_byte b ≡ true → is_safe_byte b ≡ true
safe_byte b e = or_left (is_name_byte b || (b == 46 || b == 44)) (b == 58 || b == 32) (or_left (is_name_byte b) (b == 46 || b == 44) e)

safe_bytes : (bs : List ℕ) → list_all is_name_byte bs ≡ true → list_all is_safe_byte bs ≡ true
safe_bytes [] e = refl
safe_bytes (b ∷ bs) e =
    let h = and_parts (is_name_byte b) (list_all is_name_byte bs) e in
    and_from (is_safe_byte b) (list_all is_safe_byte bs) (safe_byte b h.0) (safe_bytes bs h.1)

no_clash : (after here : Bool) → here ≡ false → not (after && here) ≡ true
no_clash true true e = absurd (false≢true (sym e))
no_clash true false e = refl
no_clash false here e = refl

spaced : (bs : List ℕ) → list_all is_name_byte bs ≡ true → single_spaced false bs ≡ true
spaced [] e = refl
spaced (b ∷ bs) e =
    let h = and_parts (is_name_byte b) (list_all is_name_byte bs) e in
    ap (λ t. single_spaced t bs) (not_space b h.0) ∙ spaced bs h.1

bytes-safe : (b : ℕ) (bs : List ℕ) → length (b ∷ bs) ≤ 128 → list_all is_name_byte (b ∷ bs) ≡ true → is_safe_text (b ∷ bs) ≡ true
bytes-safe b bs short e =
    let bytes = and_parts (is_name_byte b) (list_all is_name_byte bs) e in
    let here = not_space b bytes.0 in
    and_from (nat_le (length (b ∷ bs)) 128) (list_all is_safe_byte (b ∷ bs) && single_spaced true (b ∷ bs)) ((le_decides (length (b ∷ bs)) 128).1 short)
    (and_from (list_all is_safe_byte (b ∷ bs)) (single_spaced true (b ∷ bs)) (safe_bytes (b ∷ bs) e)
    (and_from (not (true && b == 32)) (single_spaced (b == 32) bs) (no_clash true (b == 32) here)
    (ap (λ t. single_spaced t bs) here ∙ spaced bs bytes.1)))

all-bytes : (xs ys : List ℕ) → list_all is_name_byte xs ≡ true → list_all is_name_byte ys ≡ true → list_all is_name_byte (xs ++ ys) ≡ true
all-bytes [] ys h k = k
all-bytes (x ∷ xs) ys h k =
    let p = and_parts (is_name_byte x) (list_all is_name_byte xs) h in
    and_from (is_name_byte x) (list_all is_name_byte (xs ++ ys)) p.0 (all-bytes xs ys p.1 k)

suffixed : (term suffix name : List ℕ) → is_name term ≡ true → list_all is_name_byte suffix ≡ true → name ≡ term ++ suffix → length name ≤ 128
    → is_name name ≡ true
suffixed [] suffix name is h e short = absurd (false≢true is)
suffixed (b ∷ bs) suffix name is h e short =
    let parts = and_parts (nat_le (length (b ∷ bs)) 128) (list_all is_name_byte (b ∷ bs)) is in
    let size = ap length e in
    subst (λ (n : List ℕ). is_name n ≡ true) (sym e)
    (and_from (nat_le (length (b ∷ (bs ++ suffix))) 128) (list_all is_name_byte (b ∷ (bs ++ suffix)))
    ((le_decides (length (b ∷ (bs ++ suffix))) 128).1 (subst (λ n. n ≤ 128) size short)) (all-bytes (b ∷ bs) suffix parts.1 h))

one-named : (text : List ℕ) (texts : List (List ℕ)) → AllByRecursion (λ t. list_all is_name_byte t ≡ true) texts → IsOneOf text texts
    → list_all is_name_byte text ≡ true
one-named text [] h is = absurd is
one-named text (t ∷ ts) h (inl e) = ap (list_all is_name_byte) e ∙ h.0
one-named text (t ∷ ts) h (inr is) = one-named text ts h.1 is

-- a rule's name that is not too long is a name
pub rule-name : (name : List ℕ) → IsRuleName name → length name ≤ 128 → is_name name ≡ true
rule-name name (term, address, port, protocol, is, a, p, q, e) short =
    suffixed term (address ++ (port ++ protocol)) name is
    (all-bytes address (port ++ protocol) (one-named address address_suffixes (refl, (refl, (refl, tt))) a)
    (all-bytes port protocol (one-named port port_suffixes (refl, (refl, (refl, tt))) p)
    (one-named protocol protocol_suffixes (refl, (refl, (refl, tt))) q))) e short

pub name-safe : (name : List ℕ) → is_name name ≡ true → is_safe_text name ≡ true
name-safe [] is = absurd (false≢true is)
name-safe (b ∷ bs) is =
    let parts = and_parts (nat_le (length (b ∷ bs)) 128) (list_all is_name_byte (b ∷ bs)) is in
    bytes-safe b bs ((le_decides (length (b ∷ bs)) 128).0 parts.0) parts.1

pub notes-safe : (note : List ℕ) → is_note note ≡ true → AllByRecursion (λ text. is_safe_text text ≡ true) (notes note)
notes-safe [] h = tt
notes-safe (b ∷ bs) h = (h, tt)
