-- Target lines: each line of the page is read as what it means, and what is read is a line of the page.
use Rattle.std.proofs.Common.{◌≡◌, ℕ, ℤ, Bool, true, false, ◌||◌, if◌then◌else◌, List, [], ◌∷◌, ◌++◌, map, Option, None, Some, option_and_then, Result, Ok, Err, IfOk, IfSome, refl, ap, sym, subst, ◌∙◌, append_assoc, append-nil, codes}
use Rattle.std.specs.List.{list_any}
use Rattle.std.specs.Option.{option_or}
use Rattle.std.specs.Str.{bytes_eq}
use Rattle.std.proofs.lemmas.Option.{none-some}
use Rattle.std.proofs.lemmas.Slice.Eq.{bytes_eq-Decides}
use Rattle.acl_packet.specs.Decimals.{number_in, digits_in}
use Rattle.acl_packet.specs.declared.addresses.Families.{Families}
use Rattle.acl_packet.specs.declared.addresses.Families.TheVariants.{Inet, Inet6, Mixed}
use Rattle.acl_packet.specs.declared.filtering.Hook.{Hook}
use Rattle.acl_packet.specs.declared.filtering.Hook.TheVariants as hooks
use Rattle.acl_text.specs.declared.faults.Place.{Place}
use Rattle.acl_text.specs.declared.faults.Slip.{Slip}
use Rattle.acl_text.specs.Names.{is_filter_name}
use Rattle.acl_text.specs.SignedNumbers.{IsSignedWord, signed_in}
use Rattle.acl_text.specs.Steps.{◌>>=◌}
use Rattle.acl_text.proofs.SignedLaws.{signed-again, signed_some}
use Rattle.acl_words.specs.declared.forms.Form.{Form}
use Rattle.acl_words.specs.declared.forms.Form.TheVariants as forms
use Rattle.acl_words.specs.Tokens.{Token}
use Rattle.acl_words.specs.Words.{word}
use Rattle.acl_target.specs.declared.targets.Ending.{Ending}
use Rattle.acl_target.specs.declared.targets.Ending.TheVariants as endings
use Rattle.acl_target.specs.declared.targets.Kind.{Kind}
use Rattle.acl_target.specs.declared.targets.Kind.TheVariants.{Cisco, Juniper, Iptables, Nftables}
use Rattle.acl_target.specs.Clashes.{is_mixed}
use Rattle.acl_target.specs.TargetData.{chain_text, hook_text}
use Rattle.acl_target.specs.TargetTexts.{families_text}
use Rattle.acl_policy.specs.ReadingParts.{TargetChoices}
use Rattle.acl_policy.specs.Conditions.{Each}
use Rattle.acl_policy.specs.Targets.{is_word, or_slip, single_family, family_word, chain_word, hook_word, name_word, priority_word, no_choices, unless_some, with_policy, with_mark, with_families, with_priority, iptables_choice, nftables_choice, choice, choices_from, last_family, device_line, device_target, named_target, default_ending, iptables_target, iptables_line, nftables_target, hooked_line, nftables_line, target_line}
use Rattle.acl_policy.specs.Values.{is_plain}
use Rattle.policy_grammar.specs.TargetTexts.{plain, Choice, choice_text, policy_said, family_said, priority_said, is_nostate, is_noverbose, said, SaysNew, IsIptablesWord, IsNftablesWord, LineText, family_words, choice_words, line_values, family_meant, ending_meant, chain_meant, hook_meant, LineStands}
use Rattle.policy_grammar.specs.ReadingLaws.{line_named, IsLine}
use Rattle.policy_grammar.proofs.Outcomes.{bind_ok, if_ok, weaker_ok, some_if, then_has, weaker_some, and_left, and_right, if_true, if_false}
use Rattle.policy_grammar.proofs.Units.{no_marks}

-- What words say with one more word. Where it says something, none before it did.
abbrev SaysFirst : {A : Type 0} → (Choice → Option A) → List Choice → Choice → Type 0
SaysFirst says before c = IfSome (says c) (λ _. said says before ≡ None)

says_first : (before : List Choice) (c : Choice) → SaysNew before c
    → SaysFirst policy_said before c × SaysFirst family_said before c × SaysFirst priority_said before c
says_first before Choice.AcceptWord n = (n, tt, tt)
says_first before Choice.DropWord n = (n, tt, tt)
says_first before Choice.NostateWord n = (tt, tt, tt)
says_first before Choice.NoverboseWord n = (tt, tt, tt)
says_first before Choice.InetWord n = (tt, n, tt)
says_first before Choice.Inet6Word n = (tt, n, tt)
says_first before (Choice.PriorityWord text z) n = (tt, tt, n)

or_none : {A : Type 0} (o : Option A) → option_or o None ≡ o
or_none None = refl
or_none (Some x) = refl

or_assoc : {A : Type 0} (o p q : Option A) → option_or o (option_or p q) ≡ option_or (option_or o p) q
or_assoc None p q = refl
or_assoc (Some x) p q = refl

or_swapped : {A : Type 0} (o p : Option A) → IfSome p (λ _. o ≡ None) → option_or p o ≡ option_or o p
or_swapped o None h = sym (or_none o)
or_swapped o (Some x) h = sym (ap (λ q. option_or q (Some x)) h)

said_behind : {A : Type 0} (says : Choice → Option A) (before : List Choice) (c : Choice)
    → said says (before ++ c ∷ []) ≡ option_or (said says before) (says c)
said_behind says [] c = or_none (says c)
said_behind says (b ∷ bs) c =
    ap (option_or (says b)) (said_behind says bs c) ∙ or_assoc (says b) (said says bs) (says c)

said_more : {A : Type 0} (says : Choice → Option A) (before : List Choice) (c : Choice) → SaysFirst says before c
    → option_or (says c) (said says before) ≡ said says (before ++ c ∷ [])
said_more says before c h = or_swapped (said says before) (says c) h ∙ sym (said_behind says before c)

any_more : (p : Choice → Bool) (before : List Choice) (c : Choice) → (p c || list_any p before) ≡ list_any p (before ++ c ∷ [])
any_more p [] c = refl
any_more p (b ∷ bs) c = swapped (p c) (p b) (list_any p bs) ∙ ap (λ x. p b || x) (any_more p bs c)
  where
    swapped : (x y z : Bool) → (x || (y || z)) ≡ (y || (x || z))
    swapped true true z = refl
    swapped true false z = refl
    swapped false y z = refl

-- The words of a platform, and its mark among them.
abbrev IsWordOf : Kind → Choice → Type 0
IsWordOf Iptables = IsIptablesWord
IsWordOf _ = IsNftablesWord

abbrev is_mark_of : Kind → Choice → Bool
is_mark_of Iptables = is_nostate
is_mark_of _ = is_noverbose

abbrev is_some_mark : Choice → Bool
is_some_mark c = is_nostate c || is_noverbose c

own_mark : (kind : Kind) (c : Choice) → IsWordOf kind c → is_some_mark c ≡ is_mark_of kind c
own_mark Iptables Choice.NoverboseWord h = absurd h
own_mark Iptables _ h = refl
own_mark _ Choice.NostateWord h = absurd h
own_mark _ _ h = refl

-- What the reader keeps of the words so far, and with one more of them.
abbrev chosen : Kind → List Choice → TargetChoices
chosen kind cs = record {
  accept = said policy_said cs;
  marked = list_any (is_mark_of kind) cs;
  families = said family_said cs;
  priority = said priority_said cs;
}

abbrev with_word : Choice → TargetChoices → TargetChoices
with_word c x = record {
  accept = option_or (policy_said c) x.accept;
  marked = is_some_mark c || x.marked;
  families = option_or (family_said c) x.families;
  priority = option_or (priority_said c) x.priority;
}

word_kept : (kind : Kind) (before : List Choice) (c : Choice) → IsWordOf kind c → SaysNew before c
    → with_word c (chosen kind before) ≡ chosen kind (before ++ c ∷ [])
word_kept kind before c h n = λ i. record {
  accept = said_more policy_said before c (says_first before c n).0 i;
  marked = (ap (λ b. b || list_any (is_mark_of kind) before) (own_mark kind c h) ∙ any_more (is_mark_of kind) before c) i;
  families = said_more family_said before c (says_first before c n).1 i;
  priority = said_more priority_said before c (says_first before c n).2 i;
}

-- A word is taken where nothing that it says was said before.
free_word : {A : Type 0} (kind : Kind) (before : List Choice) (c : Choice) (o : Option A) → IsWordOf kind c → SaysNew before c
    → o ≡ None → unless_some o (with_word c (chosen kind before)) ≡ Some (chosen kind (before ++ c ∷ []))
free_word kind before c o h n e =
    ap (λ p. unless_some p (with_word c (chosen kind before))) e ∙ ap Some (word_kept kind before c h n)

free_mark : (kind : Kind) (before : List Choice) (c : Choice) → IsWordOf kind c → SaysNew before c
    → list_any (is_mark_of kind) before ≡ false
    → (if list_any (is_mark_of kind) before then None else Some (with_word c (chosen kind before)))
    ≡ Some (chosen kind (before ++ c ∷ []))
free_mark kind before c h n e =
    if_false (list_any (is_mark_of kind) before) None _ e ∙ ap Some (word_kept kind before c h n)

iptables_step : (before : List Choice) (place : Place) (c : Choice) → IsIptablesWord c → SaysNew before c
    → iptables_choice (chosen Iptables before) (plain place (choice_text c)) ≡ Some (chosen Iptables (before ++ c ∷ []))
unfolding iptables_choice
iptables_step before place Choice.AcceptWord h n = free_word Iptables before Choice.AcceptWord (said policy_said before) h n n
iptables_step before place Choice.DropWord h n = free_word Iptables before Choice.DropWord (said policy_said before) h n n
iptables_step before place Choice.NostateWord h n = free_mark Iptables before Choice.NostateWord h n n
iptables_step before place Choice.InetWord h n = free_word Iptables before Choice.InetWord (said family_said before) h n n
iptables_step before place Choice.Inet6Word h n = free_word Iptables before Choice.Inet6Word (said family_said before) h n n
iptables_step before place _ h n = absurd h

-- A number is none of the other words.
no_number_accept : signed_in 32768 32767 (codes "ACCEPT") ≡ None
unfolding number_in digits_in
no_number_accept = refl

no_number_drop : signed_in 32768 32767 (codes "DROP") ≡ None
unfolding number_in digits_in
no_number_drop = refl

no_number_noverbose : signed_in 32768 32767 (codes "noverbose") ≡ None
unfolding number_in digits_in
no_number_noverbose = refl

other_text : (text word : List ℕ) (z : ℤ) → signed_in 32768 32767 text ≡ Some z → signed_in 32768 32767 word ≡ None
    → bytes_eq text word ≡ false
other_text text word z h n = go (bytes_eq text word) refl
  where
    go : (b : Bool) → bytes_eq text word ≡ b → b ≡ false
    go false e = refl
    go true e = absurd (none-some z (sym n ∙ ap (signed_in 32768 32767) (sym ((bytes_eq-Decides text word).0 e)) ∙ h))

nftables_step : (before : List Choice) (place : Place) (c : Choice) → IsNftablesWord c → SaysNew before c
    → nftables_choice (chosen Nftables before) (plain place (choice_text c)) ≡ Some (chosen Nftables (before ++ c ∷ []))
unfolding nftables_choice
nftables_step before place Choice.AcceptWord h n = free_word Nftables before Choice.AcceptWord (said policy_said before) h n n
nftables_step before place Choice.DropWord h n = free_word Nftables before Choice.DropWord (said policy_said before) h n n
nftables_step before place Choice.NoverboseWord h n = free_mark Nftables before Choice.NoverboseWord h n n
nftables_step before place (Choice.PriorityWord text z) h n =
    let z_is : signed_in 32768 32767 text ≡ Some z = signed-again 32768 32767 text z h in
    if_false (bytes_eq text (codes "ACCEPT")) _ _ (other_text text (codes "ACCEPT") z z_is no_number_accept)
    ∙ if_false (bytes_eq text (codes "DROP")) _ _ (other_text text (codes "DROP") z z_is no_number_drop)
    ∙ if_false (bytes_eq text (codes "noverbose")) _ _ (other_text text (codes "noverbose") z z_is no_number_noverbose)
    ∙ ap (option_and_then (with_priority (chosen Nftables before))) z_is
    ∙ free_word Nftables before (Choice.PriorityWord text z) (said priority_said before) h n n
nftables_step before place _ h n = absurd h

choices_read : (kind : Kind) → ((before : List Choice) (place : Place) (c : Choice) → IsWordOf kind c → SaysNew before c
    → choice kind (chosen kind before) (plain place (choice_text c)) ≡ Some (chosen kind (before ++ c ∷ [])))
    → (before : List Choice) (cs : List (Place × Choice)) → Each (λ b c. IsWordOf kind c × SaysNew b c) before (map (λ c. c.1) cs)
    → choices_from kind (chosen kind before) (choice_words cs) ≡ Ok (chosen kind (before ++ map (λ c. c.1) cs))
choices_read kind step before [] h = ap (λ xs. Ok (chosen kind xs)) (sym (append-nil before))
choices_read kind step before (c ∷ cs) h =
    ap (λ o. or_slip (plain c.0 (choice_text c.1)) o >>= λ d. choices_from kind d (choice_words cs))
    (step before c.0 c.1 h.0.0 h.0.1)
    ∙ choices_read kind step (before ++ c.1 ∷ []) cs h.1
    ∙ ap (λ xs. Ok (chosen kind xs)) (append_assoc before (c.1 ∷ []) (map (λ c. c.1) cs))

-- A family that the platform has a word for.
abbrev HasWord : Kind → Families → Type 0
HasWord Cisco f = Unit {0}
HasWord Nftables f = Unit {0}
HasWord _ f = is_mixed f ≡ false

family_read : (kind : Kind) (p : Place) (f : Families) → HasWord kind f
    → or_slip (plain p (families_text kind f)) (family_word kind (plain p (families_text kind f))) ≡ Ok f
family_read Cisco p Inet h = refl
family_read Cisco p Inet6 h = refl
family_read Cisco p Mixed h = refl
family_read Nftables p Inet h = refl
family_read Nftables p Inet6 h = refl
family_read Nftables p Mixed h = refl
family_read _ p Inet h = refl
family_read _ p Inet6 h = refl
family_read _ p Mixed h = cc

last_family_read : (kind : Kind) (o : Option (Place × Families)) → HasWord kind (family_meant o)
    → last_family kind (family_words kind o) ≡ Ok (family_meant o)
last_family_read kind None h = refl
last_family_read kind (Some f) h = family_read kind f.0 f.1 h

chain_read : (p : Place) (chain : Hook) → or_slip (plain p (chain_text chain)) (chain_word (plain p (chain_text chain))) ≡ Ok chain
chain_read p hooks.Input = refl
chain_read p hooks.Output = refl
chain_read p hooks.Forward = refl

hook_read : (p : Place) (hook : Hook) → or_slip (plain p (hook_text hook)) (hook_word (plain p (hook_text hook))) ≡ Ok hook
hook_read p hooks.Input = refl
hook_read p hooks.Output = refl
hook_read p hooks.Forward = refl

same_ending : (without : Ending) (o : Option Bool) → default_ending without o ≡ ending_meant without o
same_ending without None = refl
same_ending without (Some true) = refl
same_ending without (Some false) = refl

iptables_same : (k : Token) (place : Place) (chain : Hook) (cs : List Choice)
    → named_target (plain place (chain_text chain)) (iptables_target k (plain place (chain_text chain)) chain (chosen Iptables cs))
    ≡ record { target = chain_meant k.place 0 chain cs; place = place }
iptables_same k place chain cs = λ i. record {
  target = record (chain_meant k.place 0 chain cs) { ending = same_ending endings.Left (said policy_said cs) i };
  place = place;
}

nftables_same : (k : Token) (place : Place) (families : Families) (hook : Hook) (cs : List Choice)
    → named_target (plain place (hook_text hook))
    (nftables_target k (plain place (hook_text hook)) families hook (chosen Nftables cs))
    ≡ record { target = hook_meant k.place 0 families hook cs; place = place }
nftables_same k place families hook cs = λ i. record {
  target = record (hook_meant k.place 0 families hook cs) { ending = same_ending endings.Deny (said policy_said cs) i };
  place = place;
}

pub line_reads : (k : Token) (platform : Place) (l : LineText) → LineStands l
    → target_line k (line_values platform l) ≡ Ok (line_named k.place l)
unfolding target_line
line_reads k platform (LineText.CiscoLine name family) h =
    let n : Token = plain name.place name.text in
    if_true (is_filter_name name.text) _ _ h
    ∙ ap (λ r. r >>= λ f. Ok (named_target n (device_target k n Cisco f))) (last_family_read Cisco family tt)
line_reads k platform (LineText.JuniperLine name family) h =
    let n : Token = plain name.place name.text in
    if_true (is_filter_name name.text) _ _ h.0
    ∙ ap (λ r. r >>= λ f. Ok (named_target n (device_target k n Juniper f))) (last_family_read Juniper family h.1)
line_reads k platform (LineText.IptablesLine place chain cs) h =
    let n : Token = plain place (chain_text chain) in
    ap (λ r. r >>= λ hook. (choices_from Iptables no_choices (choice_words cs) >>= λ c. Ok
    (named_target n (iptables_target k n hook c)))) (chain_read place chain)
    ∙ ap (λ r. r >>= λ c. Ok (named_target n (iptables_target k n chain c))) (choices_read Iptables iptables_step [] cs h)
    ∙ ap Ok (iptables_same k place chain (map (λ c. c.1) cs))
line_reads k platform (LineText.NftablesLine from families place hook cs) h =
    let p : Token = plain platform (codes "nftables") in
    let n : Token = plain place (hook_text hook) in
    ap (λ r. r >>= λ f. hooked_line k p f (n ∷ choice_words cs)) (family_read Nftables from families tt)
    ∙ ap (λ r. r >>= λ at. (choices_from Nftables no_choices (choice_words cs) >>= λ c. Ok
    (named_target n (nftables_target k n families at c)))) (hook_read place hook)
    ∙ ap (λ r. r >>= λ c. Ok (named_target n (nftables_target k n families hook c))) (choices_read Nftables nftables_step [] cs h)
    ∙ ap Ok (nftables_same k place families hook (map (λ c. c.1) cs))

-- The converse: a word that is taken is one of the page's.
is_plain_form : (f : Form) → is_plain f ≡ true → f ≡ forms.Plain
is_plain_form forms.Plain h = refl
is_plain_form _ h = cc

pub plain_is : (w : Token) → is_plain w.form ≡ true → w ≡ plain w.place w.text
plain_is w h = λ i. record { place = w.place; form = is_plain_form w.form h i; text = w.text }

pub word_is : (w : Token) (text : List ℕ) → is_word w text ≡ true → w ≡ plain w.place text
word_is w text h =
    let f : w.form ≡ forms.Plain = is_plain_form w.form (and_left (is_plain w.form) (bytes_eq w.text text) h) in
    let t : w.text ≡ text = (bytes_eq-Decides w.text text).0 (and_right (is_plain w.form) (bytes_eq w.text text) h) in
    λ i. record { place = w.place; form = f i; text = t i }

or_ok : {A : Type 0} (P : A → Type 0) (w : Token) (o : Option A) → IfSome o P → IfOk (or_slip w o) P
or_ok P w None h = tt
or_ok P w (Some x) h = h

free_some : {A B : Type 0} (Q : B → Type 0) (o : Option A) (x : B) → (o ≡ None → Q x) → IfSome (unless_some o x) Q
free_some Q None x h = h refl
free_some Q (Some y) x h = tt

-- A word for a family.
abbrev WordFamily : Kind → Token → Families → Type 0
WordFamily kind w f = (w ≡ plain w.place (families_text kind f)) × HasWord kind f

three_words : {A : Type 0} (text_of : A → List ℕ) (Q : A → Type 0) (w : Token) (a b c : A)
    → ((x : A) → w ≡ plain w.place (text_of x) → Q x)
    → IfSome (if is_word w (text_of a) then Some a else if is_word w (text_of b) then Some b else if is_word w (text_of c)
    then Some c else None) Q
three_words text_of Q w a b c h =
    some_if Q (is_word w (text_of a)) _ _ (λ e. h a (word_is w (text_of a) e))
    (λ _. some_if Q (is_word w (text_of b)) _ _ (λ e. h b (word_is w (text_of b) e))
    (λ _. some_if Q (is_word w (text_of c)) _ _ (λ e. h c (word_is w (text_of c) e)) (λ _. tt)))

word_family : (kind : Kind) (w : Token) → IfSome (family_word kind w) (WordFamily kind w)
word_family Cisco w = three_words (families_text Cisco) (WordFamily Cisco w) w Inet Inet6 Mixed (λ _ e. (e, tt))
word_family Nftables w = three_words (families_text Nftables) (WordFamily Nftables w) w Inet Inet6 Mixed (λ _ e. (e, tt))
word_family kind w =
    some_if (WordFamily kind w) (is_word w (codes "inet")) _ _ (λ e. (word_is w (codes "inet") e, refl))
    (λ _. some_if (WordFamily kind w) (is_word w (codes "inet6")) _ _ (λ e. (word_is w (codes "inet6") e, refl)) (λ _. tt))

-- The word is a choice of the page, and d is what is kept with it.
record IsChoice (kind : Kind) (before : List Choice) (w : Token) (d : TargetChoices) : Type 0 where
  pub says : Choice
  pub word_is : w ≡ plain w.place (choice_text says)
  pub takes : IsWordOf kind says
  pub new : SaysNew before says
  pub keeps : d ≡ chosen kind (before ++ says ∷ [])

is_choice : (kind : Kind) (before : List Choice) (w : Token) (c : Choice) → w ≡ plain w.place (choice_text c) → IsWordOf kind c
    → SaysNew before c → IsChoice kind before w (with_word c (chosen kind before))
is_choice kind before w c e h n =
    record { says = c; word_is = e; takes = h; new = n; keeps = word_kept kind before c h n }

-- Both platforms have `ACCEPT`, `DROP` and a mark, and then words of their own.
shared_chose : (kind : Kind) (before : List Choice) (w : Token) (mark : Choice) (others : Option TargetChoices)
    → IsWordOf kind Choice.AcceptWord → IsWordOf kind Choice.DropWord
    → (w ≡ plain w.place (choice_text mark) → list_any (is_mark_of kind) before ≡ false
    → IsChoice kind before w (record (chosen kind before) { marked = true }))
    → IfSome others (IsChoice kind before w)
    → IfSome (if is_word w (codes "ACCEPT") then with_policy (chosen kind before) true
    else if is_word w (codes "DROP") then with_policy (chosen kind before) false
    else if is_word w (choice_text mark) then with_mark (chosen kind before) else others) (IsChoice kind before w)
shared_chose kind before w mark others accept drop marked h =
    let Q : TargetChoices → Type 0 = IsChoice kind before w in
    some_if Q (is_word w (codes "ACCEPT")) _ _
    (λ e. free_some Q (said policy_said before) _
    (is_choice kind before w Choice.AcceptWord (word_is w (codes "ACCEPT") e) accept))
    (λ _. some_if Q (is_word w (codes "DROP")) _ _
    (λ e. free_some Q (said policy_said before) _ (is_choice kind before w Choice.DropWord (word_is w (codes "DROP") e) drop))
    (λ _. some_if Q (is_word w (choice_text mark)) _ _
    (λ e. some_if Q (list_any (is_mark_of kind) before) _ _ (λ _. tt) (marked (word_is w (choice_text mark) e)))
    (λ _. h)))

family_chose : (before : List Choice) (w : Token) (f : Families) → WordFamily Iptables w f
    → IfSome (with_families (chosen Iptables before) f) (IsChoice Iptables before w)
family_chose before w Inet e =
    free_some (IsChoice Iptables before w) (said family_said before) _ (is_choice Iptables before w Choice.InetWord e.0 tt)
family_chose before w Inet6 e =
    free_some (IsChoice Iptables before w) (said family_said before) _ (is_choice Iptables before w Choice.Inet6Word e.0 tt)
family_chose before w Mixed e = cc

iptables_chose : (before : List Choice) (w : Token)
    → IfSome (iptables_choice (chosen Iptables before) w) (IsChoice Iptables before w)
unfolding iptables_choice
iptables_chose before w =
    shared_chose Iptables before w Choice.NostateWord _ tt tt (λ e. is_choice Iptables before w Choice.NostateWord e tt)
    (then_has (WordFamily Iptables w) (IsChoice Iptables before w) (with_families (chosen Iptables before)) (single_family w)
    (word_family Iptables w) (family_chose before w))

abbrev WordPriority : Token → ℤ → Type 0
WordPriority w z = (w ≡ plain w.place w.text) × IsSignedWord 32768 32767 w.text z

priority_is : (w : Token) → IfSome (priority_word w) (WordPriority w)
priority_is w = some_if (WordPriority w) (is_plain w.form) _ _
    (λ e. weaker_some (IsSignedWord 32768 32767 w.text) (WordPriority w) (signed_in 32768 32767 w.text)
    (signed_some 32768 32767 w.text (signed_in 32768 32767 w.text) refl) (λ z h. (plain_is w e, h)))
    (λ _. tt)

nftables_chose : (before : List Choice) (w : Token)
    → IfSome (nftables_choice (chosen Nftables before) w) (IsChoice Nftables before w)
unfolding nftables_choice
nftables_chose before w =
    shared_chose Nftables before w Choice.NoverboseWord _ tt tt (λ e. is_choice Nftables before w Choice.NoverboseWord e tt)
    (then_has (WordPriority w) (IsChoice Nftables before w) (with_priority (chosen Nftables before)) (priority_word w) (priority_is w)
    (λ z e. free_some (IsChoice Nftables before w) (said priority_said before) _
    (is_choice Nftables before w (Choice.PriorityWord w.text z) e.0 e.1)))

-- The words are choices of the page.
record AreChoices (kind : Kind) (before : List Choice) (ws : List Token) (d : TargetChoices) : Type 0 where
  pub choices : List (Place × Choice)
  pub stand : Each (λ b c. IsWordOf kind c × SaysNew b c) before (map (λ c. c.1) choices)
  pub words_are : ws ≡ choice_words choices
  pub keeps : d ≡ chosen kind (before ++ map (λ c. c.1) choices)

more_choices : (kind : Kind) (before : List Choice) (w : Token) (ws : List Token) (d e : TargetChoices)
    → (c : IsChoice kind before w d) → AreChoices kind (before ++ c.says ∷ []) ws e → AreChoices kind before (w ∷ ws) e
more_choices kind before w ws d e c m = record {
  choices = (w.place, c.says) ∷ m.choices;
  stand = ((c.takes, c.new), m.stand);
  words_are = λ i. c.word_is i ∷ m.words_are i;
  keeps = m.keeps ∙ ap (chosen kind) (append_assoc before (c.says ∷ []) (map (λ x. x.1) m.choices));
}

choices_are : (kind : Kind)
    → ((before : List Choice) (w : Token) → IfSome (choice kind (chosen kind before) w) (IsChoice kind before w))
    → (before : List Choice) (ws : List Token) → IfOk (choices_from kind (chosen kind before) ws) (AreChoices kind before ws)
choices_are kind chose before [] =
    record { choices = []; stand = tt; words_are = refl; keeps = ap (chosen kind) (sym (append-nil before)) }
choices_are kind chose before (w ∷ ws) =
    bind_ok (IsChoice kind before w) (AreChoices kind before (w ∷ ws)) (or_slip w (choice kind (chosen kind before) w))
    (λ d. choices_from kind d ws)
    (or_ok (IsChoice kind before w) w (choice kind (chosen kind before) w) (chose before w))
    (λ d c. weaker_ok (AreChoices kind (before ++ c.says ∷ []) ws) (AreChoices kind before (w ∷ ws)) (choices_from kind d ws)
    (subst (λ x. IfOk (choices_from kind x ws) (AreChoices kind (before ++ c.says ∷ []) ws)) (sym c.keeps)
    (choices_are kind chose (before ++ c.says ∷ []) ws))
    (λ e m. more_choices kind before w ws d e c m))

-- A family that a line of the platform may have.
record IsFamily (kind : Kind) (ws : List Token) (f : Families) : Type 0 where
  pub family : Option (Place × Families)
  pub has_word : HasWord kind (family_meant family)
  pub words_are : ws ≡ family_words kind family
  pub means : f ≡ family_meant family

inet_has_word : (kind : Kind) → HasWord kind Inet
inet_has_word Cisco = tt
inet_has_word Nftables = tt
inet_has_word _ = refl

not_more : (Q : Families → Type 0) (x : Result Families Slip) (e : Slip) → IfOk (x >>= λ _. Err e) Q
not_more Q (Ok f) e = tt
not_more Q (Err g) e = tt

families_are : (kind : Kind) (ws : List Token) → IfOk (last_family kind ws) (IsFamily kind ws)
families_are kind [] = record { family = None; has_word = inet_has_word kind; words_are = refl; means = refl }
families_are kind (w ∷ []) = or_ok (IsFamily kind (w ∷ [])) w (family_word kind w)
    (weaker_some (WordFamily kind w) (IsFamily kind (w ∷ [])) (family_word kind w) (word_family kind w)
    (λ f e. record { family = Some (w.place, f); has_word = e.1; words_are = λ i. e.0 i ∷ []; means = refl }))
families_are kind (w ∷ v ∷ ws) = not_more (IsFamily kind (w ∷ v ∷ ws)) (or_slip w (family_word kind w)) _

name_is : (n : Token) → name_word n ≡ true → (n ≡ plain n.place n.text) × (is_filter_name n.text ≡ true)
name_is n h = (
  plain_is n (and_left (is_plain n.form) (is_filter_name n.text) h),
  and_right (is_plain n.form)
      (is_filter_name n.text) h,
)

-- The words of a device's line are a name and a family.
device_line_is : (kind : Kind) (k p : Token) (ws : List Token)
    → ((n : Token) (family : Option (Place × Families)) → is_filter_name n.text ≡ true → HasWord kind (family_meant family)
    → n ≡ plain n.place n.text
    → IsLine k.place (p ∷ n ∷ family_words kind family) (named_target n (device_target k n kind (family_meant family))))
    → IfOk (device_line kind k p ws) (IsLine k.place (p ∷ ws))
device_line_is kind k p [] h = tt
device_line_is kind k p (n ∷ ws) h = if_ok (IsLine k.place (p ∷ n ∷ ws)) (name_word n) _ _
    (λ c. bind_ok (IsFamily kind ws) (IsLine k.place (p ∷ n ∷ ws)) (last_family kind ws) _ (families_are kind ws)
    (λ f m. subst (λ (x : List Token × Families). IsLine k.place (p ∷ n ∷ x.0) (named_target n (device_target k n kind x.1)))
    (sym (λ i. (m.words_are i, m.means i))) (h n m.family (name_is n c).1 m.has_word (name_is n c).0)))
    (λ _. tt)

cisco_line : (k p : Token) (ws : List Token) → p ≡ plain p.place (codes "cisco")
    → IfOk (device_line Cisco k p ws) (IsLine k.place (p ∷ ws))
cisco_line k p ws e = device_line_is Cisco k p ws (λ n family name_is _ word_is. record {
  platform = p.place;
  line = LineText.CiscoLine (record { place = n.place; text = n.text }) family;
  stands = name_is;
  words_are = λ i. e i ∷ word_is i ∷ family_words Cisco family;
  means = refl;
})

juniper_line : (k p : Token) (ws : List Token) → p ≡ plain p.place (codes "juniper")
    → IfOk (device_line Juniper k p ws) (IsLine k.place (p ∷ ws))
juniper_line k p ws e = device_line_is Juniper k p ws (λ n family name_is has_word word_is. record {
  platform = p.place;
  line = LineText.JuniperLine (record { place = n.place; text = n.text }) family;
  stands = (name_is, has_word);
  words_are = λ i. e i ∷ word_is i ∷ family_words Juniper family;
  means = refl;
})

chain_is : (w : Token) → IfSome (chain_word w) (λ chain. w ≡ plain w.place (chain_text chain))
chain_is w = three_words chain_text (λ chain. w ≡ plain w.place (chain_text chain)) w hooks.Input hooks.Output hooks.Forward
    (λ _ e. e)

hook_is : (w : Token) → IfSome (hook_word w) (λ hook. w ≡ plain w.place (hook_text hook))
hook_is w = three_words hook_text (λ hook. w ≡ plain w.place (hook_text hook)) w hooks.Input hooks.Output hooks.Forward
    (λ _ e. e)

iptables_line_is : (k p : Token) (ws : List Token) → p ≡ plain p.place (codes "iptables")
    → IfOk (iptables_line k p ws) (IsLine k.place (p ∷ ws))
iptables_line_is k p [] e = tt
iptables_line_is k p (n ∷ ws) e =
    bind_ok (λ chain. n ≡ plain n.place (chain_text chain)) (IsLine k.place (p ∷ n ∷ ws)) (or_slip n (chain_word n)) _
    (or_ok (λ chain. n ≡ plain n.place (chain_text chain)) n (chain_word n) (chain_is n))
    (λ chain h. bind_ok (AreChoices Iptables [] ws) (IsLine k.place (p ∷ n ∷ ws))
    (choices_from Iptables no_choices ws) _ (choices_are Iptables iptables_chose [] ws)
    (λ c m. record {
      platform = p.place;
      line = LineText.IptablesLine n.place chain m.choices;
      stands = m.stand;
      words_are = λ i. e i ∷ h i ∷ m.words_are i;
      means =
          (λ i. named_target (h i) (iptables_target k (h i) chain (m.keeps i)))
          ∙ iptables_same k n.place chain (map (λ c. c.1) m.choices);
    }))

hooked_line_is : (k p w : Token) (families : Families) (ws : List Token) → p ≡ plain p.place (codes "nftables")
    → w ≡ plain w.place (families_text Nftables families) → IfOk (hooked_line k p families ws) (IsLine k.place (p ∷ w ∷ ws))
hooked_line_is k p w families [] e f = tt
hooked_line_is k p w families (n ∷ ws) e f =
    bind_ok (λ hook. n ≡ plain n.place (hook_text hook)) (IsLine k.place (p ∷ w ∷ n ∷ ws)) (or_slip n (hook_word n)) _
    (or_ok (λ hook. n ≡ plain n.place (hook_text hook)) n (hook_word n) (hook_is n))
    (λ hook h. bind_ok (AreChoices Nftables [] ws) (IsLine k.place (p ∷ w ∷ n ∷ ws))
    (choices_from Nftables no_choices ws) _ (choices_are Nftables nftables_chose [] ws)
    (λ c m. record {
      platform = p.place;
      line = LineText.NftablesLine w.place families n.place hook m.choices;
      stands = m.stand;
      words_are = λ i. e i ∷ f i ∷ h i ∷ m.words_are i;
      means =
          (λ i. named_target (h i) (nftables_target k (h i) families hook (m.keeps i)))
          ∙ nftables_same k n.place families hook (map (λ c. c.1) m.choices);
    }))

nftables_line_is : (k p : Token) (ws : List Token) → p ≡ plain p.place (codes "nftables")
    → IfOk (nftables_line k p ws) (IsLine k.place (p ∷ ws))
nftables_line_is k p [] e = tt
nftables_line_is k p (w ∷ ws) e =
    bind_ok (WordFamily Nftables w) (IsLine k.place (p ∷ w ∷ ws)) (or_slip w (family_word Nftables w)) _
    (or_ok (WordFamily Nftables w) w (family_word Nftables w) (word_family Nftables w))
    (λ families f. hooked_line_is k p w families ws e f.0)

pub line_read_is : (k : Token) (ws : List Token) → IfOk (target_line k ws) (IsLine k.place ws)
unfolding target_line
line_read_is k [] = tt
line_read_is k (p ∷ ws) =
    if_ok (IsLine k.place (p ∷ ws)) (is_word p (codes "cisco")) _ _ (λ c. cisco_line k p ws (word_is p (codes "cisco") c))
    (λ _. if_ok (IsLine k.place (p ∷ ws)) (is_word p (codes "juniper")) _ _
    (λ c. juniper_line k p ws (word_is p (codes "juniper") c))
    (λ _. if_ok (IsLine k.place (p ∷ ws)) (is_word p (codes "iptables")) _ _
    (λ c. iptables_line_is k p ws (word_is p (codes "iptables") c))
    (λ _. if_ok (IsLine k.place (p ∷ ws)) (is_word p (codes "nftables")) _ _
    (λ c. nftables_line_is k p ws (word_is p (codes "nftables") c)) (λ _. tt))))

-- The words of a line are no keywords and no braces.
family_unmarked : (kind : Kind) (o : Option (Place × Families)) → no_marks (family_words kind o) ≡ true
family_unmarked kind None = refl
family_unmarked kind (Some f) = refl

choices_unmarked : (cs : List (Place × Choice)) → no_marks (choice_words cs) ≡ true
choices_unmarked [] = refl
choices_unmarked (c ∷ cs) = choices_unmarked cs

pub line_unmarked : (platform : Place) (l : LineText) → no_marks (line_values platform l) ≡ true
line_unmarked platform (LineText.CiscoLine name family) = family_unmarked Cisco family
line_unmarked platform (LineText.JuniperLine name family) = family_unmarked Juniper family
line_unmarked platform (LineText.IptablesLine place chain cs) = choices_unmarked cs
line_unmarked platform (LineText.NftablesLine from families place hook cs) = choices_unmarked cs
