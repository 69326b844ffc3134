-- A clause may be judged in parts: its first words, where they are many, and then what is still open with the further
-- ones.
use Rattle.std.proofs.Common.{◌≡◌, ◌∙◌, ℕ, ℤ, ◌+◌, ◌<◌, ◌≤◌, Bool, true, false, if◌then◌else◌, nat_le, List, [], ◌∷◌, ◌++◌, length, map, Option, None, Some, is_some, IfSome, option_and_then, Result, Ok, Err, refl, sym, subst, ap, arith, codes, append_assoc}
use Rattle.std.specs.List.{list_any}
use Rattle.std.specs.Str.{bytes_eq}
use Rattle.std.proofs.lemmas.List.{map-append}
use Rattle.acl_packet.specs.declared.addresses.Families.{Families}
use Rattle.acl_text.specs.declared.faults.Code.TheVariants as codes_of
use Rattle.acl_text.specs.declared.faults.Slip.{Slip}
use Rattle.acl_text.specs.Steps.{◌>>=◌}
use Rattle.acl_words.specs.declared.forms.Form.{Form}
use Rattle.acl_words.specs.declared.forms.Form.TheVariants as forms
use Rattle.acl_words.specs.Tokens.{Token}
use Rattle.acl_target.specs.declared.targets.Kind.{Kind}
use Rattle.acl_target.specs.declared.targets.Kind.TheVariants.{Cisco, Juniper, Iptables, Nftables}
use Rattle.acl_target.specs.Clashes.{clash}
use Rattle.acl_policy.specs.declared.choices.TargetChoices.{TargetChoices}
use Rattle.acl_policy.specs.declared.keywords.Keyword.{Keyword}
use Rattle.acl_policy.specs.declared.keywords.Keyword.TheVariants as keywords
use Rattle.acl_policy.specs.declared.keywords.KeywordRow.{KeywordRow}
use Rattle.acl_words.specs.declared.word_lists.Word.{Word}
use Rattle.acl_policy.specs.declared.states.Part.{Part}
use Rattle.acl_policy.specs.declared.states.Part.TheVariants.{Start, Header, InHeader, HeaderEnd, Term, Named, InTerm, TermEnd}
use Rattle.acl_policy.specs.declared.states.PolicyState.{PolicyState}
use Rattle.acl_policy.specs.declared.target_lines.NamedTarget.{NamedTarget}
use Rattle.acl_policy.specs.declared.term_drafts.TermDraft.{TermDraft}
use Rattle.acl_policy.specs.declared.values.Takes.{Takes}
use Rattle.acl_policy.specs.declared.values.Takes.TheVariants as takes
use Rattle.acl_policy.specs.JudgingSteps.{behind_open, if_keyword, still_open}
use Rattle.acl_policy.specs.Policies.{most_targets, with_number, with_target, behind_target, behind_header_keyword, behind_word, behind_words, behind_keyword, behind_begin, behind_end, behind_mark}
use Rattle.acl_text.specs.Refusals.{slip}
use Rattle.acl_policy.specs.Slips.{slip_of, slip_for}
use Rattle.acl_policy.specs.Targets.{is_word, or_slip, single_family, family_word, chain_word, hook_word, name_word, priority_word, no_choices, unless_some, with_policy, with_mark, with_families, with_priority, iptables_choice, nftables_choice, choice, choices_from, last_family, device_line, iptables_line, hooked_line, nftables_line, target_line}
use Rattle.acl_policy.specs.Keywords.{entry, row_of, row_named}
use Rattle.acl_policy.specs.Terms.{with_comment, with_comments, list_at, with_list, with_values, has_stood, item_behind, row_behind, draft_behind}
use Rattle.acl_policy.specs.Values.{is_value, word_of, all_values, some_values, one_value}
use Rattle.acl_policy.proofs.KeywordLaws.{named_row}
use Rattle.acl_policy.proofs.Outcomes.{Has, bind_has, if_has, some_if, then_has}

-- A judging of words that may be cut: what the first ones leave is judged with the further ones.
pub record IsCut {T : Type 0} (f : T → List Token → Result T Slip) (vs more : List Token) : Type 0 where
  pub at : (t : T) → f t (vs ++ more) ≡ (f t vs >>= λ u. f u more)

cut_bind : {A B : Type 0} (x : Result A Slip) (f g : A → Result B Slip) (h : B → Result B Slip)
    → ((a : A) → f a ≡ (g a >>= h)) → (x >>= f) ≡ ((x >>= g) >>= h)
cut_bind (Ok a) f g h e = e a
cut_bind (Err s) f g h e = refl

pub words_in_parts : (vs more : List Token) (s : PolicyState) → behind_words s (vs ++ more) ≡ (behind_words s vs >>= λ t. behind_words t more)
words_in_parts [] more s = refl
words_in_parts (v ∷ vs) more s = cut_bind (behind_word s.part s v) _ _ _ (λ t. words_in_parts vs more t)

first_checked : {A B : Type 0} (c : Bool) (x : Result B Slip) (y : Result A Slip) (e : Slip) (f : A → Result B Slip)
    → x ≡ (y >>= f) → (if c then x else Err e) ≡ ((if c then y else Err e) >>= f)
first_checked true x y e f h = h
first_checked false x y e f h = refl

-- The values of a keyword.
all_in_parts : (kind : Takes) (vs more : List Token)
    → all_values kind (vs ++ more) ≡ (all_values kind vs >>= λ _. all_values kind more)
all_in_parts kind [] more = refl
all_in_parts kind (v ∷ vs) more = first_checked (is_value kind v) _ _ (slip_for codes_of.Value v) _ (all_in_parts kind vs more)

some_in_parts : (kind : Takes) (k v w : Token) (vs more : List Token)
    → some_values kind k (v ∷ vs ++ w ∷ more) ≡ (some_values kind k (v ∷ vs) >>= λ _. some_values kind k (w ∷ more))
some_in_parts kind k v w vs more = all_in_parts kind (v ∷ vs) (w ∷ more)

lists_joined : (before : List Word) (vs more : List Token)
    → before ++ map word_of (vs ++ more) ≡ (before ++ map word_of vs) ++ map word_of more
lists_joined before vs more =
    ap (λ ws. before ++ ws) (map-append word_of vs more) ∙ sym (append_assoc before (map word_of vs) (map word_of more))

values_joined : {T : Type 0} (x y z : Result (Unit {0}) Slip) (all first : T) (rest : T → T)
    → z ≡ (x >>= λ _. y) → all ≡ rest first
    → (z >>= λ _. Ok all) ≡ ((x >>= λ _. Ok first) >>= λ t. (y >>= λ _. Ok (rest t)))
values_joined (Ok u) (Ok v) z all first rest e h = subst (λ r. (r >>= λ _. Ok all) ≡ Ok (rest first)) (sym e) (ap (λ t. Ok t) h)
values_joined (Ok u) (Err s) z all first rest e h = subst (λ r. (r >>= λ _. Ok all) ≡ Err s) (sym e) refl
values_joined (Err s) y z all first rest e h = subst (λ r. (r >>= λ _. Ok all) ≡ Err s) (sym e) refl

comments_joined : (d : TermDraft) (vs more : List Token) → with_comments d (vs ++ more) ≡ with_comments (with_comments d vs) more
comments_joined d [] more = refl
comments_joined d (v ∷ vs) more = comments_joined (with_comment d v.text) vs more

-- The values of a keyword that may stand again.
values_in_parts : (d : TermDraft) (key : Keyword) (vs more : List Token) → (entry key).once ≡ false
    → with_values d key (vs ++ more) ≡ with_values (with_values d key vs) key more
values_in_parts d keywords.Comment vs more h = comments_joined d vs more
values_in_parts d keywords.Owner vs more h = cc
values_in_parts d keywords.Action vs more h = cc
values_in_parts d keywords.Logging vs more h = cc
values_in_parts d keywords.Expiration vs more h = cc
values_in_parts d key vs more h =
    ap (λ xs. record d { term = with_list d.term key xs }) (lists_joined (list_at d.term key) vs more)

-- A judging of a part of what is read is cut where that of the part is.
cut_part : {T U : Type 0} (f : U → List Token → Result U Slip) (part : T → U) (put : T → U → T) (vs more : List Token)
    → ((t : T) (u : U) → part (put t u) ≡ u) → ((t : T) (u v : U) → put (put t u) v ≡ put t v)
    → IsCut f vs more → IsCut (λ t ws. f (part t) ws >>= λ u. Ok (put t u)) vs more
cut_part {T} {U} f part put vs more gets puts cut = record {
  at = λ t.
      subst (λ r. (r >>= λ u. Ok (put t u)) ≡ ((f (part t) vs >>= λ u. Ok (put t u)) >>= rest)) (sym (cut.at (part t)))
      (first t (f (part t) vs));
}
  where
    rest : T → Result T Slip
    rest s = f (part s) more >>= λ u. Ok (put s u)

    last : (t : T) (u : U) (r : Result U Slip) → (r >>= λ v. Ok (put t v)) ≡ (r >>= λ v. Ok (put (put t u) v))
    last t u (Ok v) = ap (λ s. Ok s) (sym (puts t u v))
    last t u (Err e) = refl

    first : (t : T) (r : Result U Slip) → ((r >>= λ u. f u more) >>= λ v. Ok (put t v)) ≡ ((r >>= λ u. Ok (put t u)) >>= rest)
    first t (Err e) = refl
    first t (Ok u) = last t u (f u more) ∙ ap (λ (x : U). f x more >>= λ v. Ok (put (put t u) v)) (sym (gets t u))

cut_if : {T : Type 0} (c : Bool) (f g : T → List Token → Result T Slip) (vs more : List Token)
    → IsCut f vs more → IsCut g vs more → IsCut (λ t ws. if c then f t ws else g t ws) vs more
cut_if true f g vs more a b = record { at = a.at }
cut_if false f g vs more a b = record { at = b.at }

-- A slip that comes whatever words follow.
abbrev IsSlip : {A : Type 0} → Result A Slip → Type 0
IsSlip (Ok a) = ⊥
IsSlip (Err e) = Unit {0}

record Stays {A : Type 0} (f : List Token → Result A Slip) (vs more : List Token) : Type 0 where
  pub is_slip : IsSlip (f vs)
  pub same : f (vs ++ more) ≡ f vs

slip_ends : {A : Type 0} (x y : Result A Slip) (h : A → Result A Slip) → IsSlip x → y ≡ x → y ≡ (x >>= h)
slip_ends (Ok a) y h s same = absurd s
slip_ends (Err e) y h s same = same

cut_stays : {T : Type 0} (f : T → List Token → Result T Slip) (vs more : List Token)
    → ((t : T) → Stays (f t) vs more) → IsCut f vs more
cut_stays f vs more stays = record { at = λ t. slip_ends (f t vs) (f t (vs ++ more)) (λ u. f u more) (stays t).is_slip (stays t).same }

stays_slip : {A : Type 0} (e : Slip) (vs more : List Token) → Stays {A = A} (λ _. Err e) vs more
stays_slip e vs more = record { is_slip = tt; same = refl }

stays_if : {A : Type 0} (c : Bool) (f g : List Token → Result A Slip) (vs more : List Token)
    → Stays f vs more → Stays g vs more → Stays (λ ws. if c then f ws else g ws) vs more
stays_if true f g vs more a b = record { is_slip = a.is_slip; same = a.same }
stays_if false f g vs more a b = record { is_slip = b.is_slip; same = b.same }

stays_behind : {A B : Type 0} (x : Result A Slip) (f : A → List Token → Result B Slip) (vs more : List Token)
    → ((a : A) → Stays (f a) vs more) → Stays (λ ws. x >>= λ a. f a ws) vs more
stays_behind (Ok a) f vs more h = record { is_slip = (h a).is_slip; same = (h a).same }
stays_behind (Err e) f vs more h = record { is_slip = tt; same = refl }

still_slip : {A B : Type 0} (x : Result A Slip) (g : A → Result B Slip) → IsSlip x → IsSlip (x >>= g)
still_slip (Ok a) g h = absurd h
still_slip (Err e) g h = tt

stays_before : {A B : Type 0} (f : List Token → Result A Slip) (g : A → Result B Slip) (vs more : List Token)
    → Stays f vs more → Stays (λ ws. f ws >>= g) vs more
stays_before f g vs more h = record { is_slip = still_slip (f vs) g h.is_slip; same = ap (λ x. x >>= g) h.same }

slip_same : {A B : Type 0} (x y : Result A Slip) (g h : A → Result B Slip) → IsSlip x → y ≡ x → (y >>= g) ≡ (x >>= h)
slip_same (Ok a) y g h s e = absurd s
slip_same (Err q) y g h s e = ap (λ z. z >>= g) e

stays_then : {A B : Type 0} (f : List Token → Result A Slip) (g : List Token → A → Result B Slip) (vs more : List Token)
    → Stays f vs more → Stays (λ ws. f ws >>= g ws) vs more
stays_then f g vs more h = record {
  is_slip = still_slip (f vs) (g vs) h.is_slip;
  same = slip_same (f vs) (f (vs ++ more)) (g (vs ++ more)) (g vs) h.is_slip h.same;
}

stays_head : {A : Type 0} (f : List Token → Result A Slip) (v : Token) (vs more : List Token)
    → Stays (λ ws. f (v ∷ ws)) vs more → Stays f (v ∷ vs) more
stays_head f v vs more h = record { is_slip = h.is_slip; same = h.same }

-- A keyword of one value does not take two.
one_stays : (kind : Takes) (k v w : Token) (vs more : List Token) → Stays (one_value kind k) (v ∷ w ∷ vs) more
one_stays kind k v w vs more = record { is_slip = either (is_value kind v); same = refl }
  where
    either : (c : Bool) → IsSlip {A = Unit {0}} (if c then Err (slip_for codes_of.Value w) else Err (slip_for codes_of.Value v))
    either true = tt
    either false = tt

any_result : {A : Type 0} (x : Result A Slip) → Has (λ _. Unit {0}) (λ _. Unit {0}) x
any_result (Ok a) = tt
any_result (Err e) = tt

anything : {A : Type 0} (o : Option A) → IfSome o (λ _. Unit {0})
anything None = tt
anything (Some a) = tt

-- Each word of a target line that stands in any order takes one of four places.
abbrev vacant : Bool → ℕ
vacant true = 0
vacant false = 1

abbrev room : TargetChoices → ℕ
room c = vacant (is_some c.accept) + vacant c.marked + vacant (is_some c.families) + vacant (is_some c.priority)

abbrev Fewer : TargetChoices → TargetChoices → Type 0
Fewer c d = room d < room c

policy_fewer : (c : TargetChoices) (accept : Bool) → IfSome (with_policy c accept) (Fewer c)
policy_fewer c accept = by_cases c.accept refl
  where
    by_cases : (o : Option Bool) → c.accept ≡ o → IfSome (unless_some o (record c { accept = Some accept })) (Fewer c)
    by_cases (Some a) e = tt
    by_cases None e = omega (arith, ap (λ o. vacant (is_some o)) e)

mark_fewer : (c : TargetChoices) → IfSome (with_mark c) (Fewer c)
mark_fewer c = some_if (Fewer c) c.marked None (Some (record c { marked = true })) (λ e. tt)
    (λ e. omega (arith, ap vacant e))

families_fewer : (c : TargetChoices) (families : Families) → IfSome (with_families c families) (Fewer c)
families_fewer c families = by_cases c.families refl
  where
    by_cases : (o : Option Families) → c.families ≡ o → IfSome (unless_some o (record c { families = Some families })) (Fewer c)
    by_cases (Some a) e = tt
    by_cases None e = omega (arith, ap (λ o. vacant (is_some o)) e)

priority_fewer : (c : TargetChoices) (priority : ℤ) → IfSome (with_priority c priority) (Fewer c)
priority_fewer c priority = by_cases c.priority refl
  where
    by_cases : (o : Option ℤ) → c.priority ≡ o → IfSome (unless_some o (record c { priority = Some priority })) (Fewer c)
    by_cases (Some a) e = tt
    by_cases None e = omega (arith, ap (λ o. vacant (is_some o)) e)

family_fewer : (c : TargetChoices) (w : Token) → IfSome (option_and_then (with_families c) (single_family w)) (Fewer c)
family_fewer c w = then_has (λ _. Unit {0}) (Fewer c) (with_families c) (single_family w) (anything (single_family w))
    (λ f _. families_fewer c f)

number_fewer : (c : TargetChoices) (w : Token) → IfSome (option_and_then (with_priority c) (priority_word w)) (Fewer c)
number_fewer c w = then_has (λ _. Unit {0}) (Fewer c) (with_priority c) (priority_word w) (anything (priority_word w))
    (λ p _. priority_fewer c p)

iptables_fewer : (c : TargetChoices) (w : Token) → IfSome (iptables_choice c w) (Fewer c)
unfolding iptables_choice
iptables_fewer c w = some_if (Fewer c) (is_word w (codes "ACCEPT")) _ _ (λ _. policy_fewer c true)
    (λ _. some_if (Fewer c) (is_word w (codes "DROP")) _ _ (λ _. policy_fewer c false)
    (λ _. some_if (Fewer c) (is_word w (codes "nostate")) _ _ (λ _. mark_fewer c) (λ _. family_fewer c w)))

nftables_fewer : (c : TargetChoices) (w : Token) → IfSome (nftables_choice c w) (Fewer c)
unfolding nftables_choice
nftables_fewer c w = some_if (Fewer c) (is_word w (codes "ACCEPT")) _ _ (λ _. policy_fewer c true)
    (λ _. some_if (Fewer c) (is_word w (codes "DROP")) _ _ (λ _. policy_fewer c false)
    (λ _. some_if (Fewer c) (is_word w (codes "noverbose")) _ _ (λ _. mark_fewer c) (λ _. number_fewer c w)))

choice_fewer : (kind : Kind) (c : TargetChoices) (w : Token) → IfSome (choice kind c w) (Fewer c)
choice_fewer Iptables c w = iptables_fewer c w
choice_fewer Cisco c w = nftables_fewer c w
choice_fewer Juniper c w = nftables_fewer c w
choice_fewer Nftables c w = nftables_fewer c w

chosen_stays : (kind : Kind) (c : TargetChoices) (v : Token) (o : Option TargetChoices) (vs more : List Token) → IfSome o (Fewer c)
    → ((d : TargetChoices) → Fewer c d → Stays (choices_from kind d) vs more)
    → Stays (λ ws. or_slip v o >>= λ d. choices_from kind d ws) vs more
chosen_stays kind c v None vs more less h = record { is_slip = tt; same = refl }
chosen_stays kind c v (Some d) vs more less h = record { is_slip = (h d less).is_slip; same = (h d less).same }

choices_stay : (kind : Kind) (c : TargetChoices) (vs more : List Token) → room c < length vs → Stays (choices_from kind c) vs more
choices_stay kind c [] more h = absurd (omega (arith, h))
choices_stay kind c (v ∷ vs) more h = stays_head (choices_from kind c) v vs more
    (chosen_stays kind c v (choice kind c v) vs more (choice_fewer kind c v)
    (λ d less. choices_stay kind d vs more (omega (arith, h, less))))

ends_in_slip : {A : Type 0} (x : Result A Slip) (e : Slip) → IsSlip {A = Families} (x >>= λ _. Err e)
ends_in_slip (Ok a) e = tt
ends_in_slip (Err s) e = tt

family_stays : (kind : Kind) (w v : Token) (vs more : List Token) → Stays (last_family kind) (w ∷ v ∷ vs) more
family_stays kind w v vs more =
    record { is_slip = ends_in_slip (or_slip w (family_word kind w)) (slip_for codes_of.TargetLine v); same = refl }

device_stays : (kind : Kind) (k p n w v : Token) (vs more : List Token) → Stays (device_line kind k p) (n ∷ w ∷ v ∷ vs) more
device_stays kind k p n w v vs more = stays_head (device_line kind k p) n (w ∷ v ∷ vs) more
    (stays_if (name_word n) _ _ (w ∷ v ∷ vs) more
    (stays_before (last_family kind) _ (w ∷ v ∷ vs) more (family_stays kind w v vs more))
    (stays_slip (slip_for codes_of.TargetLine n) (w ∷ v ∷ vs) more))

iptables_stays : (k p n : Token) (vs more : List Token) → 4 < length vs → Stays (iptables_line k p) (n ∷ vs) more
iptables_stays k p n vs more h = stays_head (iptables_line k p) n vs more
    (stays_behind (or_slip n (chain_word n)) _ vs more
    (λ hook. stays_before (choices_from Iptables no_choices) _ vs more (choices_stay Iptables no_choices vs more h)))

hooked_stays : (k p : Token) (families : Families) (n : Token) (vs more : List Token) → 4 < length vs
    → Stays (hooked_line k p families) (n ∷ vs) more
hooked_stays k p families n vs more h = stays_head (hooked_line k p families) n vs more
    (stays_behind (or_slip n (hook_word n)) _ vs more
    (λ hook. stays_before (choices_from Nftables no_choices) _ vs more (choices_stay Nftables no_choices vs more h)))

nftables_stays : (k p w n : Token) (vs more : List Token) → 4 < length vs → Stays (nftables_line k p) (w ∷ n ∷ vs) more
nftables_stays k p w n vs more h = stays_head (nftables_line k p) w (n ∷ vs) more
    (stays_behind (or_slip w (family_word Nftables w)) (λ families. hooked_line k p families) (n ∷ vs) more
    (λ families. hooked_stays k p families n vs more h))

target_stays : (k p w n v : Token) (vs more : List Token) → 4 ≤ length vs → Stays (target_line k) (p ∷ w ∷ n ∷ v ∷ vs) more
unfolding target_line
target_stays k p w n v vs more h = stays_head (target_line k) p (w ∷ n ∷ v ∷ vs) more
    (stays_if (is_word p (codes "cisco")) _ _ _ more (device_stays Cisco k p w n v vs more)
    (stays_if (is_word p (codes "juniper")) _ _ _ more (device_stays Juniper k p w n v vs more)
    (stays_if (is_word p (codes "iptables")) _ _ _ more (iptables_stays k p w (n ∷ v ∷ vs) more (omega (arith, h)))
    (stays_if (is_word p (codes "nftables")) _ _ _ more (nftables_stays k p w n (v ∷ vs) more (omega (arith, h)))
    (stays_slip (slip_for codes_of.TargetLine p) _ more)))))

-- The keywords of a term.
module _ (k a b m : Token) (rest others : List Token) where
  abbrev some : List Token
  some = a ∷ b ∷ rest

  abbrev further : List Token
  further = m ∷ others

  slip_cut : {T : Type 0} (e : Slip) → IsCut {T = T} (λ t ws. Err e) some further
  slip_cut e = record { at = λ t. refl }

  once_stays : (r : KeywordRow) (d : TermDraft)
      → Stays (λ ws. if has_stood d r.keyword then Err (slip_of codes_of.Repeated k) else one_value r.takes k ws) some further
  once_stays r d = stays_if (has_stood d r.keyword) _ _ some further (stays_slip (slip_of codes_of.Repeated k) some further)
      (one_stays r.takes k a b rest further)

  item_by : (r : KeywordRow) (c : Bool) → (c ≡ false → (entry r.keyword).once ≡ false)
      → IsCut (λ (d : TermDraft) ws. (if c
      then (if has_stood d r.keyword then Err (slip_of codes_of.Repeated k) else one_value r.takes k ws)
      else some_values r.takes k ws) >>= λ _. Ok (with_values d r.keyword ws)) some further
  item_by r true h = cut_stays _ some further (λ d. stays_then _ (λ ws _. Ok (with_values d r.keyword ws)) some further (once_stays r d))
  item_by r false h = record {
    at = λ d. values_joined (some_values r.takes k some) (some_values r.takes k further) _ _ _
        (λ t. with_values t r.keyword further) (some_in_parts r.takes k a m (b ∷ rest) others)
        (values_in_parts d r.keyword some further (h refl));
  }

  row_cut : (o : Option KeywordRow) → IfSome o (λ r. r ≡ row_of r.keyword) → IsCut (λ d ws. row_behind o d k ws) some further
  unfolding item_behind
  row_cut None h = slip_cut (slip_of codes_of.Keyword k)
  row_cut (Some r) h = item_by r r.once (λ e. ap (λ (x : KeywordRow). x.once) (sym h) ∙ e)

  draft_cut : IsCut (λ d ws. draft_behind d k ws) some further
  unfolding draft_behind
  draft_cut = row_cut (row_named k.text) (named_row k.text)

  -- Those of a header.
  target_line_stays : (c : List Token) → 6 ≤ length c → Stays (target_line k) (a ∷ b ∷ c) further
  target_line_stays [] h = absurd (omega (arith, h))
  target_line_stays (c ∷ []) h = absurd (omega (arith, h))
  target_line_stays (c ∷ d ∷ others) h = target_stays k a b c d others further (omega (arith, h))

  header_cut : 6 ≤ length rest → IsCut (λ s ws. behind_header_keyword s k ws) some further
  unfolding behind_header_keyword
  header_cut h = cut_if (bytes_eq k.text (codes "comment::")) _ _ some further
      (record {
        at = λ s. values_joined (some_values takes.String k some) (some_values takes.String k further) _ _ _
            (λ t. t) (some_in_parts takes.String k a m (b ∷ rest) others) refl;
      })
      (cut_if (bytes_eq k.text (codes "target::")) _ _ some further
      (cut_stays _ some further (λ s. stays_before (target_line k) (λ n. behind_target s k n) some further (target_line_stays rest h)))
      (slip_cut (slip_of codes_of.Keyword k)))

  term_keyword_cut : IsCut {T = PolicyState} (λ s ws. draft_behind s.draft k ws >>= λ d. Ok (record s { draft = d })) some further
  term_keyword_cut = cut_part (λ d ws. draft_behind d k ws) (λ s. s.draft) (λ s d. record s { draft = d }) some further
      (λ s d. refl) (λ s d e. refl) draft_cut

  -- A keyword leaves the part as it is.
  abbrev LeavesPart : Part → Result PolicyState Slip → Type 0
  LeavesPart p x = Has (λ _. Unit {0}) (λ (t : PolicyState). t.part ≡ p) x

  target_leaves : (s : PolicyState) (n : NamedTarget) → LeavesPart s.part (behind_target s k n)
  unfolding behind_target
  target_leaves s n = if_has (λ _. Unit {0}) (λ (t : PolicyState). t.part ≡ s.part)
      (list_any (λ e. clash e n.target) s.earlier) (Err (slip codes_of.FilterTwice n.place n.target.name))
      (if nat_le most_targets (length s.earlier) then Err (slip_of codes_of.TooMany k)
      else Ok (with_target s (with_number s.earlier n.target))) (λ _. tt)
      (λ _. if_has (λ _. Unit {0}) (λ (t : PolicyState). t.part ≡ s.part) (nat_le most_targets (length s.earlier))
      (Err (slip_of codes_of.TooMany k)) (Ok (with_target s (with_number s.earlier n.target))) (λ _. tt) (λ _. refl))

  header_leaves : (s : PolicyState) (ws : List Token) → LeavesPart s.part (behind_header_keyword s k ws)
  unfolding behind_header_keyword
  header_leaves s ws = if_has (λ _. Unit {0}) (λ (t : PolicyState). t.part ≡ s.part) (bytes_eq k.text (codes "comment::"))
      (some_values takes.String k ws >>= λ _. Ok s)
      (if bytes_eq k.text (codes "target::") then (target_line k ws >>= λ n. behind_target s k n) else Err (slip_of codes_of.Keyword k))
      (λ _. bind_has (λ _. Unit {0}) (λ _. Unit {0}) (λ (t : PolicyState). t.part ≡ s.part) (some_values takes.String k ws) (λ _. Ok s)
      (any_result (some_values takes.String k ws)) (λ _ _. refl))
      (λ _. if_has (λ _. Unit {0}) (λ (t : PolicyState). t.part ≡ s.part) (bytes_eq k.text (codes "target::"))
      (target_line k ws >>= λ n. behind_target s k n) (Err (slip_of codes_of.Keyword k))
      (λ _. bind_has (λ _. Unit {0}) (λ _. Unit {0}) (λ (t : PolicyState). t.part ≡ s.part) (target_line k ws) (λ n. behind_target s k n)
      (any_result (target_line k ws)) (λ n _. target_leaves s n)) (λ _. tt))

  term_leaves : (s : PolicyState) (x : Result TermDraft Slip) → LeavesPart s.part (x >>= λ d. Ok (record s { draft = d }))
  term_leaves s (Ok d) = refl
  term_leaves s (Err e) = tt

  goes_on_there : (p : Part) (x : Result PolicyState Slip) → LeavesPart p x
      → (x >>= λ t. behind_keyword p t k further) ≡ (x >>= λ t. behind_keyword t.part t k further)
  goes_on_there p (Ok t) h = ap (λ q. behind_keyword q t k further) (sym h)
  goes_on_there p (Err e) h = refl

  keyword_in_parts : (p : Part) (s : PolicyState) → s.part ≡ p → 6 ≤ length rest → behind_keyword p s k (some ++ further)
      ≡ (behind_keyword p s k some >>= λ t. behind_keyword t.part t k further)
  unfolding behind_keyword
  keyword_in_parts InHeader s e h = (header_cut h).at s
      ∙ goes_on_there InHeader (behind_header_keyword s k some) (subst (λ q. LeavesPart q (behind_header_keyword s k some)) e (header_leaves s some))
  keyword_in_parts InTerm s e h = term_keyword_cut.at s
      ∙ goes_on_there InTerm (draft_behind s.draft k some >>= λ d. Ok (record s { draft = d }))
      (subst (λ q. LeavesPart q (draft_behind s.draft k some >>= λ d. Ok (record s { draft = d }))) e (term_leaves s (draft_behind s.draft k some)))
  keyword_in_parts Start s e h = refl
  keyword_in_parts Header s e h = refl
  keyword_in_parts HeaderEnd s e h = refl
  keyword_in_parts Term s e h = refl
  keyword_in_parts Named s e h = refl
  keyword_in_parts TermEnd s e h = refl

  mark_in_parts : (form : Form) (s : PolicyState) → k.form ≡ form → 6 ≤ length rest → behind_mark form s k (some ++ further)
      ≡ (behind_mark form s k some >>= λ t. behind_open (if_keyword form k) t further)
  unfolding behind_mark
  mark_in_parts forms.Keyword s e h = keyword_in_parts s.part s refl h
      ∙ ap (λ q. behind_keyword s.part s k some >>= λ t. behind_mark q t k further) (sym e)
  mark_in_parts forms.Begin s e h = cut_bind (behind_begin s.part s k) _ _ _ (λ t. words_in_parts some further t)
  mark_in_parts forms.End s e h = cut_bind (behind_end s.part s k) _ _ _ (λ t. words_in_parts some further t)
  mark_in_parts forms.Plain s e h = cut_bind (behind_end s.part s k) _ _ _ (λ t. words_in_parts some further t)
  mark_in_parts forms.Quoted s e h = cut_bind (behind_end s.part s k) _ _ _ (λ t. words_in_parts some further t)
  mark_in_parts forms.Unclosed s e h = cut_bind (behind_end s.part s k) _ _ _ (λ t. words_in_parts some further t)
  mark_in_parts forms.Bad s e h = cut_bind (behind_end s.part s k) _ _ _ (λ t. words_in_parts some further t)

-- Eight words and more may be judged before the others are.
pub open_in_parts : (mark : Option Token) (s : PolicyState) (vs : List Token) (w : Token) (ws : List Token) → 8 ≤ length vs
    → behind_open mark s (vs ++ w ∷ ws) ≡ (behind_open mark s vs >>= λ t. behind_open (still_open mark) t (w ∷ ws))
open_in_parts None s vs w ws h = words_in_parts vs (w ∷ ws) s
open_in_parts (Some k) s [] w ws h = absurd (omega (arith, h))
open_in_parts (Some k) s (a ∷ []) w ws h = absurd (omega (arith, h))
open_in_parts (Some k) s (a ∷ b ∷ vs) w ws h = mark_in_parts k a b w vs ws k.form s refl (omega (arith, h))
