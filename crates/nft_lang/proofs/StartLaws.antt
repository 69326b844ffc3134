-- The starts that are read of a rule's words alone are those of the rule, and where two are the same it is not valid.
use Rattle.std.proofs.Common.{◌≡◌, ℕ, zero, suc, ◌+◌, ◌-◌, ◌<◌, Bool, true, false, cond, not, ◌||◌, ◌&&◌, nat_eq, nat_le, nat_lt, List, [], ◌∷◌, ◌++◌, length, map, take, drop, codes, Option, None, Some, IfNone, option_map, refl, ap, sym, ◌∙◌, arith}
use Rattle.std.specs.Cmp.{unsigned_tied}
use Rattle.std.specs.List.{fold, join_with_byte, list_all, list_any}
use Rattle.std.specs.Option.{option_map_or}
use Rattle.std.specs.Ordering.{eq_by_cmp, nat_cmp}
use Rattle.std.specs.Str.{bytes_eq}
use Rattle.std.proofs.lemmas.Bool.{and_parts, or_parts, or_from, false≢true}
use Rattle.std.proofs.lemmas.Bool.Decides.{nat_tests}
use Rattle.std.proofs.lemmas.Nat.{pow_pos}
use Rattle.std.proofs.lemmas.Option.{same_Some}
use Rattle.acl_packet.specs.declared.addresses.Families.{Families}
use Rattle.acl_packet.specs.declared.addresses.Prefix.{Prefix}
use Rattle.acl_packet.specs.Addresses.{covers, first_family, size_of, width_of}
use Rattle.acl_packet.specs.Decimals.{number_in}
use Rattle.acl_text.specs.AddressTexts.{spelled_prefix_in}
use Rattle.acl_text.specs.PortRanges.{ports_in}
use Rattle.acl_rows.specs.ApartSteps.{are_apart}
use Rattle.acl_rows.specs.PrefixCheckSteps.{is_addresses}
use Rattle.acl_rows.specs.RowSteps.{begins_with}
use Rattle.acl_rows.specs.Rows.{words_in}
use Rattle.acl_rows.specs.RuleParts.{number_fits}
use Rattle.acl_rows.specs.declared.rule_parts.End.{End}
use Rattle.acl_rows.specs.declared.rule_parts.End.TheVariants.{Source, Destination}
use Rattle.acl_rows.proofs.ApartLaws.{apart_like}
use Rattle.nft_lang.specs.declared.documents.Item.TheVariants.{Remark, Rule as ARule}
use Rattle.nft_lang.specs.declared.documents.Rule.{Rule}
use Rattle.nft_lang.specs.declared.rule_drafts.Next.{Next}
use Rattle.nft_lang.specs.declared.rule_drafts.Next.TheVariants.{Keyword, PacketFamily, Protocol, Addresses, Ports, Types, Codes}
use Rattle.nft_lang.specs.declared.rule_drafts.RuleDraft.{RuleDraft}
use Rattle.nft_lang.specs.declared.start_drafts.StartDraft.{StartDraft}
use Rattle.nft_lang.specs.Documents.{parts_fit, prefixes_overlap}
use Rattle.nft_lang.specs.ReadingSteps.{draft, in_set, item_in, next_in, no_rule, rule_in, take_address, take_as, take_code, take_ports, take_type, take_word, up_to, with_address, with_code, with_ports, with_test, with_type, with_verdict}
use Rattle.nft_lang.specs.ScanSteps.{first_item_in, item_text_in}
use Rattle.nft_lang.specs.StartSteps.{IsRefused, address_step, are_distinct_starts, has_distinct_starts, most_starts, next_behind, start_step, starts_in, step_as, with_address_start, with_next, with_start}
use Rattle.nft_lang.specs.ValiditySteps.{are_addresses, has_addresses, has_icmp, has_ports, has_sets, is_item, is_rule}

-- ---- the same words, read twice

abbrev first_starts : List Prefix → List ℕ
first_starts ps = take most_starts (map (λ p. p.first) ps)

abbrev seen : Next → Rule → StartDraft
seen next r = record { family = r.family; next = next; src = first_starts r.src; dst = first_starts r.dst }

abbrev seen_of : RuleDraft → StartDraft
seen_of d = seen d.next d.rule

if_seen : (b : Bool) (next : Next) (r s : Rule) (d : StartDraft) → seen next r ≡ d → seen next s ≡ d → seen next (cond b r s) ≡ d
if_seen true next r s d h k = h
if_seen false next r s d h k = k

test_unseen : (w : List ℕ) (next : Next) (r : Rule) → seen next (with_test w r) ≡ seen next r
unfolding with_test
test_unseen w next r =
    if_seen (bytes_eq w (codes "(syn")) next _ _ (seen next r) refl
    (if_seen (bytes_eq w (codes "rst")) next _ _ (seen next r) refl
    (if_seen (bytes_eq w (codes "state")) next _ _ (seen next r) refl (if_seen (bytes_eq w (codes "log")) next _ _ (seen next r) refl refl)))

verdict_unseen : (w : List ℕ) (next : Next) (r : Rule) → seen next (with_verdict w r) ≡ seen next r
unfolding with_verdict
verdict_unseen w next r =
    if_seen (bytes_eq w (codes "accept")) next _ _ (seen next r) refl
    (if_seen (bytes_eq w (codes "drop")) next _ _ (seen next r) refl
    (if_seen (bytes_eq w (codes "reject")) next _ _ (seen next r) refl (if_seen (bytes_eq w (codes "reset")) next _ _ (seen next r) refl refl)))

-- one more start behind those that are looked at
lt_next : (m n : ℕ) → nat_lt m n ≡ nat_lt (suc m) (suc n)
lt_next m n = grind (arith, nat_tests)

some_room : (n : ℕ) → nat_lt 0 (suc n) ≡ true
some_room n = grind (arith, nat_tests)

take_none : (n : ℕ) → take {A = ℕ} n [] ≡ []
take_none zero = refl
take_none (suc n) = refl

if_behind : (b : Bool) (x y : ℕ) (xs : List ℕ) → y ∷ cond b (xs ++ x ∷ []) xs ≡ cond b (y ∷ (xs ++ x ∷ [])) (y ∷ xs)
if_behind true x y xs = refl
if_behind false x y xs = refl

one_more : (n : ℕ) (xs : List ℕ) (x : ℕ) → take n (xs ++ x ∷ []) ≡ cond (nat_lt (length (take n xs)) n) (take n xs ++ x ∷ []) (take n xs)
one_more zero [] x = refl
one_more zero (y ∷ xs) x = refl
one_more (suc n) [] x = ap (λ ys. x ∷ ys) (take_none n) ∙ ap (λ b. cond b (x ∷ []) []) (sym (some_room n))
one_more (suc n) (y ∷ xs) x =
    ap (λ ys. y ∷ ys) (one_more n xs x) ∙ if_behind (nat_lt (length (take n xs)) n) x y (take n xs)
    ∙ ap (λ b. cond b (y ∷ (take n xs ++ x ∷ [])) (y ∷ take n xs)) (lt_next (length (take n xs)) n)

map_more : (ps : List Prefix) (p : Prefix) → map (λ q. q.first) (ps ++ p ∷ []) ≡ map (λ q. q.first) ps ++ p.first ∷ []
map_more [] p = refl
map_more (q ∷ ps) p = ap (λ xs. q.first ∷ xs) (map_more ps p)

start_more : (ps : List Prefix) (p : Prefix) → with_start (first_starts ps) p.first ≡ first_starts (ps ++ p ∷ [])
unfolding with_start
start_more ps p =
    sym (one_more most_starts (map (λ q. q.first) ps) p.first) ∙ ap (take most_starts) (sym (map_more ps p))

address_seen : (r : Rule) (end : End) (w : List ℕ) → address_step (seen (Addresses end) r) end w ≡ seen_of (take_address r end w)
unfolding address_step take_address
address_seen r end w = by_prefix end (spelled_prefix_in r.family (up_to 44 w)) where
  by_prefix : (end : End) (o : Option Prefix)
      → option_map_or {U = StartDraft} (λ p. with_next (Addresses end) (with_address_start end p (seen (Addresses end) r))) o
      (with_next (in_set (Addresses end) w) (seen (Addresses end) r))
      ≡ seen_of (option_map_or {U = RuleDraft} (λ p. draft (with_address end p r) (Addresses end)) o (draft r (in_set (Addresses end) w)))
  by_prefix Source (Some p) = ap (λ xs. record { family = r.family; next = Addresses Source; src = xs; dst = first_starts r.dst }) (start_more r.src p)
  by_prefix Destination (Some p) = ap (λ xs. record { family = r.family; next = Addresses Destination; src = first_starts r.src; dst = xs }) (start_more r.dst p)
  by_prefix end None = refl

ports_seen : (r : Rule) (end : End) (w : List ℕ) → step_as (seen (Ports end) r) (Ports end) w ≡ seen_of (take_ports r end w)
unfolding step_as take_ports
ports_seen r end w = by_ports end (ports_in 45 (up_to 44 w)) where
  by_ports : (end : End) (o : Option (ℕ × ℕ))
      → with_next (next_behind o (Ports end) w) (seen (Ports end) r)
      ≡ seen_of (option_map_or {U = RuleDraft} (λ ports. draft (with_ports end ports r) (Ports end)) o (draft r (in_set (Ports end) w)))
  by_ports Source (Some ports) = refl
  by_ports Destination (Some ports) = refl
  by_ports end None = refl

type_seen : (r : Rule) (w : List ℕ) → step_as (seen Types r) Types w ≡ seen_of (take_type r w)
unfolding step_as take_type
type_seen r w = by_number (number_in 254 (up_to 44 w)) where
  by_number : (o : Option ℕ) → with_next (next_behind o Types w) (seen Types r)
      ≡ seen_of (option_map_or {U = RuleDraft} (λ n. draft (with_type n r) Types) o (draft r (in_set Types w)))
  by_number (Some n) = refl
  by_number None = refl

code_seen : (r : Rule) (w : List ℕ) → step_as (seen Codes r) Codes w ≡ seen_of (take_code r w)
unfolding step_as take_code
code_seen r w = by_number (number_in 255 (up_to 44 w)) where
  by_number : (o : Option ℕ) → with_next (next_behind o Codes w) (seen Codes r)
      ≡ seen_of (option_map_or {U = RuleDraft} (λ n. draft (with_code n r) Codes) o (draft r (in_set Codes w)))
  by_number (Some n) = refl
  by_number None = refl

word_seen : (r : Rule) (next : Next) (w : List ℕ) → step_as (seen next r) next w ≡ seen_of (take_as r next w)
unfolding step_as take_as
word_seen r Keyword w = sym (verdict_unseen w (next_in w) (with_test w r) ∙ test_unseen w (next_in w) r)
word_seen r PacketFamily w = refl
word_seen r Protocol w = refl
word_seen r (Addresses end) w = address_seen r end w
word_seen r (Ports end) w = ports_seen r end w
word_seen r Types w = type_seen r w
word_seen r Codes w = code_seen r w

words_seen : (d : RuleDraft) (words : List (List ℕ)) → fold start_step (seen_of d) words ≡ seen_of (fold take_word d words)
words_seen d [] = refl
words_seen d (w ∷ words) = ap (λ s. fold start_step s words) (word_seen d.rule d.next w) ∙ words_seen (take_word d w) words

starts_seen : (families : Families) (words : List (List ℕ))
    → starts_in families words ≡ seen_of (fold take_word (draft (no_rule (first_family families)) Keyword) words)
unfolding starts_in most_starts
starts_seen families words = words_seen (draft (no_rule (first_family families)) Keyword) words

-- ---- prefixes that are apart begin apart

fewer_apart : {A : Type 0} (clash : A → A → Bool) (n : ℕ) (x : A) (xs : List A) → list_any (λ y. clash x y) xs ≡ false
    → list_any (λ y. clash x y) (take n xs) ≡ false
fewer_apart clash zero x xs h = refl
fewer_apart clash (suc n) x [] h = refl
fewer_apart clash (suc n) x (y ∷ xs) h =
    let p = or_parts (clash x y) (list_any (λ z. clash x z) xs) h in
    or_from (clash x y) (list_any (λ z. clash x z) (take n xs)) p.0 (fewer_apart clash n x xs p.1)

pub not_false : (a : Bool) → not a ≡ true → a ≡ false
not_false true h = absurd (false≢true h)
not_false false h = refl

front_apart : {A : Type 0} (clash : A → A → Bool) (n : ℕ) (xs : List A) → are_apart clash xs ≡ true → are_apart clash (take n xs) ≡ true
unfolding are_apart
front_apart clash zero xs h = refl
front_apart clash (suc n) [] h = refl
front_apart clash (suc n) (x ∷ xs) h =
    let p = and_parts (not (list_any (λ y. clash x y) xs)) (are_apart clash xs) h in
    ap (λ b. not b && are_apart clash (take n xs)) (fewer_apart clash n x xs (not_false (list_any (λ y. clash x y) xs) p.0))
    ∙ front_apart clash n xs p.1

none_alike : {A : Type 0} (clash same : A → A → Bool) → ((x y : A) → clash x y ≡ false → same x y ≡ false)
    → (x : A) (xs : List A) → list_any (λ y. clash x y) xs ≡ false → list_any (λ y. same x y) xs ≡ false
none_alike clash same less x [] h = refl
none_alike clash same less x (y ∷ xs) h =
    let p = or_parts (clash x y) (list_any (λ z. clash x z) xs) h in
    or_from (same x y) (list_any (λ z. same x z) xs) (less x y p.0) (none_alike clash same less x xs p.1)

less_apart : {A : Type 0} (clash same : A → A → Bool) → ((x y : A) → clash x y ≡ false → same x y ≡ false)
    → (xs : List A) → are_apart clash xs ≡ true → are_apart same xs ≡ true
unfolding are_apart
less_apart clash same less [] h = refl
less_apart clash same less (x ∷ xs) h =
    let p = and_parts (not (list_any (λ y. clash x y) xs)) (are_apart clash xs) h in
    ap (λ b. not b && are_apart same xs) (none_alike clash same less x xs (not_false (list_any (λ y. clash x y) xs) p.0))
    ∙ less_apart clash same less xs p.1

starts_differ : (p q s t : ℕ) → 0 < s → ((nat_le p q && nat_lt q (p + s)) || (nat_le q p && nat_lt p (q + t))) ≡ false → nat_eq p q ≡ false
starts_differ p q s t some h = grind (arith, nat_tests)

begin_apart : (p q : Prefix) → prefixes_overlap p q ≡ false → eq_by_cmp nat_cmp p.first q.first ≡ false
begin_apart p q h =
    unsigned_tied p.first q.first ∙ starts_differ p.first q.first (size_of p) (size_of q) (pow_pos (width_of p.family - p.len)) h

starts_apart : (ps : List Prefix) → are_apart prefixes_overlap ps ≡ true → are_distinct_starts (first_starts ps) ≡ true
starts_apart ps h =
    front_apart (eq_by_cmp nat_cmp) most_starts (map (λ p. p.first) ps)
    (sym (apart_like (λ p. p.first) (λ p q. eq_by_cmp nat_cmp p.first q.first) (eq_by_cmp nat_cmp) (λ p q. refl) ps)
    ∙ less_apart prefixes_overlap (λ p q. eq_by_cmp nat_cmp p.first q.first) begin_apart ps h)

-- ---- what is seen not to be valid

distinct_of_rule : (families : Families) (words : List (List ℕ)) → are_apart prefixes_overlap (rule_in families words).src ≡ true
    → are_apart prefixes_overlap (rule_in families words).dst ≡ true → has_distinct_starts (starts_in families words) ≡ true
unfolding rule_in
distinct_of_rule families words h k =
    let d = fold take_word (draft (no_rule (first_family families)) Keyword) words in
    ap (λ s. are_distinct_starts s.src && are_distinct_starts s.dst) (starts_seen families words)
    ∙ ap (λ b. b && are_distinct_starts (first_starts d.rule.dst)) (starts_apart d.rule.src h) ∙ starts_apart d.rule.dst k

valid_apart : (families : Families) (r : Rule) → is_rule families r ≡ true
    → (are_apart prefixes_overlap r.src ≡ true) × (are_apart prefixes_overlap r.dst ≡ true)
valid_apart families r h =
    let whole = and_parts (covers families r.family && number_fits 1 255 r.proto) (has_sets r && parts_fit r) h in
    let sets = and_parts (has_sets r) (parts_fit r) whole.1 in
    let addresses = and_parts (has_addresses r) (has_ports r && has_icmp r) sets.0 in
    let ends = and_parts (are_addresses r.family r.src) (are_addresses r.family r.dst) addresses.0 in (
      (and_parts (list_all (is_addresses r.family) r.src) (are_apart prefixes_overlap r.src) ends.0).1,
      (and_parts (list_all (is_addresses r.family) r.dst) (are_apart prefixes_overlap r.dst) ends.1).1,
    )

false_where : (b c : Bool) → (b ≡ true → c ≡ true) → c ≡ false → b ≡ false
false_where true c h e = absurd (false≢true (sym e ∙ h refl))
false_where false c h e = refl

pub twins_refused : (families : Families) (words : List (List ℕ)) → begins_with (codes "#") words ≡ false
    → has_distinct_starts (starts_in families words) ≡ false → is_item families (item_in families words) ≡ false
unfolding item_in
twins_refused families words no_remark twins =
    let r = rule_in families words in
    ap (λ b. is_item families (cond b (Remark (join_with_byte 32 (drop 1 words))) (ARule r))) no_remark
    ∙ false_where (is_rule families r) (has_distinct_starts (starts_in families words))
    (λ h. let ends = valid_apart families r h in distinct_of_rule families words ends.0 ends.1) twins

words_refused : (families : Families) (text words : List ℕ) → item_text_in text ≡ Some words
    → is_item families (item_in families (words_in words)) ≡ false → IsRefused families text
unfolding first_item_in
words_refused families text words e h item says =
    let same = same_Some (item_in families (words_in words)) item
    (sym (ap (option_map (λ ws. item_in families (words_in ws))) e) ∙ says) in
    ap (is_item families) (sym same) ∙ h

pub still_refused : {A : Type 0} (o : Option A) (families : Families) (text line : List ℕ) (words : List (List ℕ)) → item_text_in text ≡ Some line
    → words ≡ words_in line → IfNone o (is_item families (item_in families words) ≡ false) → IfNone o (IsRefused families text)
still_refused (Some rooms) families text line words e same h = tt
still_refused None families text line words e same h =
    words_refused families text line e (ap (λ ws. is_item families (item_in families ws)) (sym same) ∙ h)
