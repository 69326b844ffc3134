-- Slips: one that is found at a word stays, whatever stands behind it.
use Rattle.std.proofs.Common.{◌≡◌, Bool, true, false, nat_le, if◌then◌else◌, List, [], ◌∷◌, ◌++◌, length, Option, None, Some, Result, Ok, Err, IfErr, refl, ap, sym, subst, ◌∙◌, codes}
use Rattle.std.specs.Str.{bytes_eq}
use Rattle.std.specs.List.{list_any}
use Rattle.acl_packet.specs.declared.addresses.Families.{Families}
use Rattle.acl_packet.specs.declared.addresses.Families.TheVariants.{Inet}
use Rattle.acl_text.specs.declared.faults.Code.TheVariants as codes_of
use Rattle.acl_text.specs.declared.faults.Slip.{Slip}
use Rattle.acl_text.specs.Steps.{◌>>=◌}
use Rattle.acl_words.specs.declared.forms.Form.{Form}
use Rattle.acl_words.specs.declared.forms.Form.TheVariants as forms
use Rattle.acl_words.specs.Tokens.{Token}
use Rattle.acl_target.specs.declared.targets.Kind.{Kind}
use Rattle.acl_target.specs.declared.targets.Kind.TheVariants.{Cisco, Juniper, Iptables, Nftables}
use Rattle.acl_target.specs.Clashes.{clash}
use Rattle.acl_policy.specs.ReadingParts.{TargetChoices}
use Rattle.acl_policy.specs.ReadingParts.{Part}
use Rattle.acl_policy.specs.ReadingParts.{InHeader, InTerm}
use Rattle.acl_policy.specs.ReadingParts.{PolicyState}
use Rattle.acl_policy.specs.ReadingParts.{TermDraft, KeywordRow}
use Rattle.acl_policy.specs.declared.values.Takes.{Takes}
use Rattle.acl_policy.specs.declared.values.Takes.TheVariants as takes
use Rattle.acl_policy.specs.Policies.{start, with_number, with_target, behind_target, behind_header_keyword, behind_word, behind_words, behind_keyword, behind_begin, behind_end, behind_mark, is_mark, values_of, behind_marks, behind_all, last_place, end_of, policy_of}
use Rattle.acl_text.specs.Refusals.{slip}
use Rattle.acl_policy.specs.Slips.{start_place, slip_of}
use Rattle.acl_policy.specs.Targets.{is_word, or_slip, family_word, chain_word, hook_word, name_word, no_choices, choice, choices_from, last_family, device_line, device_target, named_target, iptables_target, iptables_line, nftables_target, hooked_line, nftables_line, target_line}
use Rattle.acl_policy.specs.Keywords.{row_named}
use Rattle.acl_policy.specs.Terms.{with_values, has_stood, item_checked, item_behind, row_behind, draft_behind}
use Rattle.acl_policy.specs.Values.{is_value, all_values, some_values, one_value}
use Rattle.policy_grammar.specs.ReadingLaws.{may_be_mended}
use Rattle.policy_grammar.proofs.Outcomes.{bind_assoc, bind_same}

-- The words up to a place, and those behind it.
words_on : (s : PolicyState) (xs ys : List Token) → behind_words s (xs ++ ys) ≡ (behind_words s xs >>= λ t. behind_words t ys)
words_on s [] ys = refl
words_on s (x ∷ xs) ys =
    bind_same (behind_word s.part s x) (λ t. behind_words t (xs ++ ys)) (λ t. behind_words t xs >>= λ u. behind_words u ys)
    (λ t. words_on t xs ys)
    ∙ sym (bind_assoc (behind_word s.part s x) (λ t. behind_words t xs) (λ t. behind_words t ys))

-- Behind a mark, or before one.
values_kept : (ws more : List Token) → values_of more ≡ [] → values_of (ws ++ more) ≡ values_of ws
values_kept [] more h = h
values_kept (w ∷ ws) more h = ap (λ xs. if is_mark w.form then [] else w ∷ xs) (values_kept ws more h)

marks_on : (s : PolicyState) (ws more : List Token) → values_of more ≡ []
    → behind_marks s (ws ++ more) ≡ (behind_marks s ws >>= λ t. behind_marks t more)
marks_on s [] more h = refl
marks_on s (w ∷ ws) more h = by_mark (is_mark w.form) (λ t. marks_on t ws more h)
  where
    by_mark : (b : Bool) → ((t : PolicyState) → behind_marks t (ws ++ more) ≡ (behind_marks t ws >>= λ u. behind_marks u more))
        → (if b then (behind_mark w.form s w (values_of (ws ++ more)) >>= λ t. behind_marks t (ws ++ more)) else behind_marks s
        (ws ++ more))
        ≡ ((if b then (behind_mark w.form s w
        (values_of ws) >>= λ t. behind_marks t ws) else behind_marks s ws) >>= λ u. behind_marks u more)
    by_mark true go =
        ap (λ xs. behind_mark w.form s w xs >>= λ t. behind_marks t (ws ++ more)) (values_kept ws more h)
        ∙ bind_same (behind_mark w.form s w (values_of ws)) (λ t. behind_marks t (ws ++ more))
        (λ t. behind_marks t ws >>= λ u. behind_marks u more) go
        ∙ sym (bind_assoc (behind_mark w.form s w (values_of ws)) (λ t. behind_marks t ws) (λ u. behind_marks u more))
    by_mark false go = go s

all_on : (ws more : List Token) → values_of more ≡ [] → behind_all (ws ++ more) ≡ (behind_all ws >>= λ t. behind_marks t more)
all_on ws more h =
    ap (λ xs. behind_words start xs >>= λ s. behind_marks s (ws ++ more)) (values_kept ws more h)
    ∙ bind_same (behind_words start (values_of ws)) (λ s. behind_marks s (ws ++ more))
    (λ s. behind_marks s ws >>= λ t. behind_marks t more) (λ s. marks_on s ws more h)
    ∙ sym (bind_assoc (behind_words start (values_of ws)) (λ s. behind_marks s ws) (λ t. behind_marks t more))

refused : (ws : List Token) (e : Slip) → behind_all ws ≡ Err e → policy_of ws ≡ Err e
unfolding policy_of
refused ws e h = ap (λ r. r >>= λ s. end_of s.part s (last_place start_place ws)) h

pub slips_stay : (ws more : List Token) (e : Slip) → values_of more ≡ [] → behind_all ws ≡ Err e → policy_of (ws ++ more) ≡ Err e
slips_stay ws more e m h = refused (ws ++ more) e (all_on ws more m ∙ ap (λ r. r >>= λ t. behind_marks t more) h)

-- A slip of the first stays in the second, unless more values may mend it.
abbrev Stays : {A : Type 0} → Result A Slip → Result A Slip → Type 0
Stays x y = (e : Slip) → x ≡ Err e → may_be_mended e.code ≡ false → y ≡ Err e

same : {A : Type 0} (x : Result A Slip) → Stays x x
same x e h k = h

if_stays : {A : Type 0} (c : Bool) (x y x' y' : Result A Slip) → Stays x x' → Stays y y'
    → Stays (if c then x else y) (if c then x' else y')
if_stays true x y x' y' h k = h
if_stays false x y x' y' h k = k

then_stays : {A B : Type 0} (x : Result A Slip) (f g : A → Result B Slip) → ((a : A) → Stays (f a) (g a))
    → Stays (x >>= f) (x >>= g)
then_stays (Ok a) f g h = h a
then_stays (Err d) f g h = λ e p k. p

-- A value is no slip.
no_slip : {A : Type 0} {P : Type 0} (a : A) (e : Slip) (x : Result A Slip) → x ≡ Ok a → x ≡ Err e → P
no_slip a e x h k = cc

not_both : {P : Type 0} (b : Bool) → b ≡ true → b ≡ false → P
not_both b h k = cc

-- Steps whose slips may all be mended.
abbrev Mends : {A B : Type 0} → (A → Result B Slip) → Type 0
Mends {A} f = (a : A) (e : Slip) → f a ≡ Err e → may_be_mended e.code ≡ true

never : {A B : Type 0} (f : A → B) → Mends {A = A} {B = B} (λ a. Ok (f a))
never f a e p = no_slip (f a) e (Ok (f a)) refl p

one_slip : {A : Type 0} (x : Result A Slip) (d e : Slip) → x ≡ Err d → x ≡ Err e → d ≡ e
one_slip x d e h k = subst (λ r. IfErr r (λ q. d ≡ q)) (sym h ∙ k) refl

first_stays : {A B : Type 0} (x y : Result A Slip) (f g : A → Result B Slip) → Stays x y → Mends f → Stays (x >>= f) (y >>= g)
first_stays (Ok a) y f g h c = λ e p k. not_both (may_be_mended e.code) (c a e p) k
first_stays (Err d) y f g h c = λ e p k.
    let same : d ≡ e = one_slip (Err d >>= f) d e refl p in
    ap (λ r. r >>= g) (h e (ap Err same) k)

mended_stays : {A : Type 0} (d : Slip) (x y : Result A Slip) → x ≡ Err d → may_be_mended d.code ≡ true → Stays x y
mended_stays d x y h m = λ e p k.
    not_both (may_be_mended e.code) (ap (λ z. may_be_mended z.code) (sym (one_slip x d e h p)) ∙ m) k

more_stays : {A : Type 0} (x : Result A Slip) (g : A → Result A Slip) → Stays x (x >>= g)
more_stays x g = λ e p k. ap (λ r. r >>= g) p

-- Values.
all_stay : (kind : Takes) (xs ys : List Token) → Stays (all_values kind xs) (all_values kind (xs ++ ys))
all_stay kind [] ys = λ e p k. no_slip tt e (all_values kind []) refl p
all_stay kind (x ∷ xs) ys = if_stays (is_value kind x) _ _ _ _ (all_stay kind xs ys) (same _)

some_stay : (kind : Takes) (k : Token) (xs ys : List Token) → Stays (some_values kind k xs) (some_values kind k (xs ++ ys))
some_stay kind k [] ys = mended_stays (slip_of codes_of.Missing k) _ _ refl refl
some_stay kind k (x ∷ xs) ys = all_stay kind (x ∷ xs) ys

one_stays : (kind : Takes) (k : Token) (xs ys : List Token) → Stays (one_value kind k xs) (one_value kind k (xs ++ ys))
one_stays kind k [] ys = mended_stays (slip_of codes_of.Missing k) _ _ refl refl
one_stays kind k (w ∷ []) [] = same _
one_stays kind k (w ∷ []) (v ∷ ys) =
    if_stays (is_value kind w) _ _ _ _ (λ e p q. no_slip tt e (Ok tt) refl p) (same _)
one_stays kind k (w ∷ v ∷ ws) ys = same _

-- Keywords of terms.
item_stays : (r : KeywordRow) (d : TermDraft) (k : Token) (xs ys : List Token)
    → Stays (item_checked r d k xs) (item_checked r d k (xs ++ ys))
item_stays r d k xs ys = if_stays r.once _ _ _ _
    (if_stays (has_stood d r.keyword) _ _ _ _ (same _) (one_stays r.takes k xs ys))
    (some_stay r.takes k xs ys)

row_stays : (o : Option KeywordRow) (d : TermDraft) (k : Token) (xs ys : List Token)
    → Stays (row_behind o d k xs) (row_behind o d k (xs ++ ys))
unfolding item_behind
row_stays None d k xs ys = same _
row_stays (Some r) d k xs ys = first_stays (item_checked r d k xs) (item_checked r d k (xs ++ ys)) _ _ (item_stays r d k xs ys)
    (never (λ _. with_values d r.keyword xs))

draft_stays : (d : TermDraft) (k : Token) (xs ys : List Token) → Stays (draft_behind d k xs) (draft_behind d k (xs ++ ys))
unfolding draft_behind
draft_stays d k xs ys = row_stays (row_named k.text) d k xs ys

-- Target lines.
family_stays : (kind : Kind) (xs ys : List Token) → Stays (last_family kind xs) (last_family kind (xs ++ ys))
family_stays kind [] ys = λ e p k. no_slip Inet e (last_family kind []) refl p
family_stays kind (w ∷ []) [] = same _
family_stays kind (w ∷ []) (v ∷ ys) = more_stays (or_slip w (family_word kind w)) _
family_stays kind (w ∷ v ∷ ws) ys = same _

device_stays : (kind : Kind) (k p : Token) (xs ys : List Token) → Stays (device_line kind k p xs) (device_line kind k p (xs ++ ys))
device_stays kind k p [] ys = mended_stays (slip_of codes_of.TargetLine p) _ _ refl refl
device_stays kind k p (n ∷ xs) ys = if_stays (name_word n) _ _ _ _
    (first_stays (last_family kind xs) _ _ _ (family_stays kind xs ys) (never (λ f. named_target n (device_target k n kind f))))
    (same _)

choices_stay : (kind : Kind) (c : TargetChoices) (xs ys : List Token) → Stays (choices_from kind c xs) (choices_from kind c (xs ++ ys))
choices_stay kind c [] ys = λ e p k. no_slip c e (choices_from kind c []) refl p
choices_stay kind c (x ∷ xs) ys = then_stays (or_slip x (choice kind c x)) _ _ (λ d. choices_stay kind d xs ys)

iptables_stays : (k p : Token) (xs ys : List Token) → Stays (iptables_line k p xs) (iptables_line k p (xs ++ ys))
iptables_stays k p [] ys = mended_stays (slip_of codes_of.TargetLine p) _ _ refl refl
iptables_stays k p (n ∷ xs) ys = then_stays (or_slip n (chain_word n)) _ _
    (λ hook. first_stays (choices_from Iptables no_choices xs) _ _ _ (choices_stay Iptables no_choices xs ys)
    (never (λ c. named_target n (iptables_target k n hook c))))

hooked_stays : (k p : Token) (f : Families) (xs ys : List Token) → Stays (hooked_line k p f xs) (hooked_line k p f (xs ++ ys))
hooked_stays k p f [] ys = mended_stays (slip_of codes_of.TargetLine p) _ _ refl refl
hooked_stays k p f (n ∷ xs) ys = then_stays (or_slip n (hook_word n)) _ _
    (λ hook. first_stays (choices_from Nftables no_choices xs) _ _ _ (choices_stay Nftables no_choices xs ys)
    (never (λ c. named_target n (nftables_target k n f hook c))))

nftables_stays : (k p : Token) (xs ys : List Token) → Stays (nftables_line k p xs) (nftables_line k p (xs ++ ys))
nftables_stays k p [] ys = mended_stays (slip_of codes_of.TargetLine p) _ _ refl refl
nftables_stays k p (w ∷ xs) ys = then_stays (or_slip w (family_word Nftables w)) _ _ (λ f. hooked_stays k p f xs ys)

line_stays : (k : Token) (xs ys : List Token) → Stays (target_line k xs) (target_line k (xs ++ ys))
unfolding target_line
line_stays k [] ys = mended_stays (slip_of codes_of.Missing k) _ _ refl refl
line_stays k (p ∷ xs) ys =
    if_stays (is_word p (codes "cisco")) _ _ _ _ (device_stays Cisco k p xs ys)
    (if_stays (is_word p (codes "juniper")) _ _ _ _ (device_stays Juniper k p xs ys)
    (if_stays (is_word p (codes "iptables")) _ _ _ _ (iptables_stays k p xs ys)
    (if_stays (is_word p (codes "nftables")) _ _ _ _ (nftables_stays k p xs ys) (same _))))

-- A clash and a target too many may be mended: a further word may make the line another one.
target_mends : (s : PolicyState) (k : Token) → Mends (behind_target s k)
unfolding behind_target
target_mends s k n e p = by_tests (list_any (λ x. clash x n.target) s.earlier) (nat_le 64 (length s.earlier)) p
  where
    next : PolicyState
    next = with_target s (with_number s.earlier n.target)

    by_tests : (b c : Bool)
        → (if b then Err (slip codes_of.FilterTwice n.place n.target.name) else if c then Err
        (slip_of codes_of.TooMany k) else Ok next) ≡ Err e
        → may_be_mended e.code ≡ true
    by_tests true c p = ap (λ z. may_be_mended z.code)
        (sym (one_slip {A = PolicyState} _ (slip codes_of.FilterTwice n.place n.target.name) e refl p))
    by_tests false true p = ap (λ z. may_be_mended z.code) (sym (one_slip {A = PolicyState} _ (slip_of codes_of.TooMany k) e refl p))
    by_tests false false p = no_slip next e _ refl p

header_stays : (s : PolicyState) (k : Token) (xs ys : List Token)
    → Stays (behind_header_keyword s k xs) (behind_header_keyword s k (xs ++ ys))
unfolding behind_header_keyword
header_stays s k xs ys =
    if_stays (bytes_eq k.text (codes "comment::")) _ _ _ _
    (first_stays (some_values takes.String k xs) _ _ _ (some_stay takes.String k xs ys) (never (λ _. s)))
    (if_stays (bytes_eq k.text (codes "target::")) _ _ _ _
    (first_stays (target_line k xs) _ _ _ (line_stays k xs ys) (target_mends s k)) (same _))

keyword_stays : (p : Part) (s : PolicyState) (k : Token) (xs ys : List Token)
    → Stays (behind_keyword p s k xs) (behind_keyword p s k (xs ++ ys))
unfolding behind_keyword
keyword_stays InHeader s k xs ys = header_stays s k xs ys
keyword_stays InTerm s k xs ys =
    first_stays (draft_behind s.draft k xs) _ _ _ (draft_stays s.draft k xs ys) (never (λ d. record s { draft = d }))
keyword_stays _ s k xs ys = same _

-- Words, braces and all.
run_stays : (s : PolicyState) (xs ys : List Token) → Stays (behind_words s xs) (behind_words s (xs ++ ys))
run_stays s xs ys = λ e p k. words_on s xs ys ∙ ap (λ r. r >>= λ t. behind_words t ys) p

end_stays : (s : PolicyState) (m : Token) (xs ys : List Token)
    → Stays (behind_end s.part s m >>= λ t. behind_words t xs) (behind_end s.part s m >>= λ t. behind_words t (xs ++ ys))
end_stays s m xs ys = then_stays (behind_end s.part s m) _ _ (λ t. run_stays t xs ys)

mark_stays : (f : Form) (s : PolicyState) (m : Token) (xs ys : List Token) → Stays (behind_mark f s m xs) (behind_mark f s m (xs ++ ys))
unfolding behind_mark
mark_stays forms.Keyword s m xs ys = keyword_stays s.part s m xs ys
mark_stays forms.Begin s m xs ys = then_stays (behind_begin s.part s m) _ _ (λ t. run_stays t xs ys)
mark_stays _ s m xs ys = end_stays s m xs ys

abbrev has_mark : List Token → Bool
has_mark [] = false
has_mark (w ∷ ws) = if is_mark w.form then true else has_mark ws

values_cut : (ws more : List Token) → has_mark ws ≡ true → values_of (ws ++ more) ≡ values_of ws
values_cut [] more h = not_both false h refl
values_cut (w ∷ ws) more h = by_mark (is_mark w.form) h (values_cut ws more)
  where
    by_mark : (b : Bool) → (if b then true else has_mark ws) ≡ true → (has_mark ws ≡ true → values_of (ws ++ more) ≡ values_of ws)
        → (if b then [] else w ∷ values_of (ws ++ more)) ≡ (if b then [] else w ∷ values_of ws)
    by_mark true h go = refl
    by_mark false h go = ap (λ xs. w ∷ xs) (go h)

values_run : (ws more : List Token) → has_mark ws ≡ false → values_of (ws ++ more) ≡ values_of ws ++ values_of more
values_run [] more h = refl
values_run (w ∷ ws) more h = by_mark (is_mark w.form) h (values_run ws more)
  where
    by_mark : (b : Bool) → (if b then true else has_mark ws) ≡ false
        → (has_mark ws ≡ false → values_of (ws ++ more) ≡ values_of ws ++ values_of more)
        → (if b then [] else w ∷ values_of (ws ++ more)) ≡ (if b then [] else w ∷ values_of ws) ++ values_of more
    by_mark true h go = not_both true refl h
    by_mark false h go = ap (λ xs. w ∷ xs) (go h)

marks_none : (s : PolicyState) (ws : List Token) → has_mark ws ≡ false → behind_marks s ws ≡ Ok s
marks_none s [] h = refl
marks_none s (w ∷ ws) h = by_mark (is_mark w.form) h (marks_none s ws)
  where
    by_mark : (b : Bool) → (if b then true else has_mark ws) ≡ false → (has_mark ws ≡ false → behind_marks s ws ≡ Ok s)
        → (if b then (behind_mark w.form s w (values_of ws) >>= λ t. behind_marks t ws) else behind_marks s ws) ≡ Ok s
    by_mark true h go = not_both true refl h
    by_mark false h go = go h

none_mends : (ws : List Token) → has_mark ws ≡ false → Mends (λ (s : PolicyState). behind_marks s ws)
none_mends ws h s e p = no_slip s e (behind_marks s ws) (marks_none s ws h) p

-- A step at the values before the first mark, and the marks behind it.
values_stay : (step : List Token → Result PolicyState Slip) (ws more : List Token)
    → ((xs ys : List Token) → Stays (step xs) (step (xs ++ ys)))
    → ((t : PolicyState) → Stays (behind_marks t ws) (behind_marks t (ws ++ more)))
    → Stays (step (values_of ws) >>= λ t. behind_marks t ws) (step (values_of (ws ++ more)) >>= λ t. behind_marks t (ws ++ more))
values_stay step ws more here behind = by_rest (has_mark ws) refl
  where
    StayAt : List Token → Type 0
    StayAt xs = Stays (step (values_of ws) >>= λ t. behind_marks t ws) (step xs >>= λ t. behind_marks t (ws ++ more))

    by_rest : (b : Bool) → has_mark ws ≡ b → StayAt (values_of (ws ++ more))
    by_rest true h = subst StayAt (sym (values_cut ws more h)) (then_stays (step (values_of ws)) _ _ behind)
    by_rest false h = subst StayAt (sym (values_run ws more h))
        (first_stays (step (values_of ws)) (step (values_of ws ++ values_of more)) (λ t. behind_marks t ws) _
        (here (values_of ws) (values_of more)) (none_mends ws h))

marks_stay : (s : PolicyState) (ws more : List Token) → Stays (behind_marks s ws) (behind_marks s (ws ++ more))
marks_stay s [] more = λ e p k. no_slip s e (behind_marks s []) refl p
marks_stay s (w ∷ ws) more =
    if_stays (is_mark w.form) _ _ _ _
    (values_stay (behind_mark w.form s w) ws more (mark_stays w.form s w) (λ t. marks_stay t ws more)) (marks_stay s ws more)

whole_stays : (ws more : List Token) → Stays (behind_all ws) (behind_all (ws ++ more))
whole_stays ws more = values_stay (behind_words start) ws more (run_stays start) (λ s. marks_stay s ws more)

pub other_slips_stay : (ws more : List Token) (e : Slip) → behind_all ws ≡ Err e → may_be_mended e.code ≡ false
    → policy_of (ws ++ more) ≡ Err e
other_slips_stay ws more e h k = refused (ws ++ more) e (whole_stays ws more e h k)
