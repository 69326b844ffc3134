-- A target that is read is such as its line gives it, and stands where the line does.
use Rattle.std.proofs.Common.{◌≡◌, ℕ, ℤ, pos, negsuc, Bool, true, false, List, [], ◌∷◌, Option, None, Some, IfSome, unwrap_or, refl, codes, arith}
use Rattle.std.specs.Str.{bytes_eq}
use Rattle.std.proofs.lemmas.Int.{ints}
use Rattle.std.proofs.lemmas.Slice.Eq.{bytes_eq-Decides}
use Rattle.acl_packet.specs.declared.addresses.Families.{Families}
use Rattle.acl_packet.specs.declared.addresses.Families.TheVariants.{Inet}
use Rattle.acl_text.specs.declared.faults.Place.{Place}
use Rattle.acl_text.specs.Names.{is_filter_name}
use Rattle.acl_text.specs.SignedNumbers.{IsSignedWord, signed_in}
use Rattle.acl_text.proofs.SignedLaws.{signed_some}
use Rattle.acl_words.specs.Tokens.{Token}
use Rattle.acl_policy.specs.declared.choices.TargetChoices.{TargetChoices}
use Rattle.acl_target.specs.declared.targets.Ending.TheVariants as endings
use Rattle.acl_target.specs.declared.targets.Kind.{Kind}
use Rattle.acl_target.specs.declared.targets.Kind.TheVariants.{Cisco, Juniper, Iptables, Nftables}
use Rattle.acl_target.specs.declared.targets.Target.{Target}
use Rattle.acl_policy.specs.declared.target_lines.NamedTarget.{NamedTarget}
use Rattle.acl_target.specs.Clashes.{is_mixed}
use Rattle.acl_target.specs.TargetData.{IsPriority, FitsPlatform, chain_text, hook_text, is_verdict, is_neighbours}
use Rattle.acl_policy.specs.Targets.{is_word, or_slip, single_family, family_word, chain_word, hook_word, name_word, priority_word, no_choices, unless_some, with_policy, with_mark, with_families, with_priority, iptables_choice, nftables_choice, choice, choices_from, last_family, device_line, default_ending, iptables_line, hooked_line, nftables_line, target_line}
use Rattle.acl_policy.specs.Values.{is_plain}
use Rattle.acl_text.specs.declared.faults.Code.TheVariants as codes_of
use Rattle.acl_policy.proofs.Outcomes.{Has, ToldAt, answered_for, bind_has, if_has, some_if, then_has, and_right}
use Rattle.acl_policy.proofs.TermFit.{Stand}

abbrev NotMixed : Families → Type 0
NotMixed f = is_mixed f ≡ false

one_family : (w : Token) → IfSome (single_family w) NotMixed
one_family w = some_if NotMixed (is_word w (codes "inet")) _ _ (λ _. refl) (λ _. some_if NotMixed (is_word w (codes "inet6")) _ _ (λ _. refl) (λ _. tt))

is_the_text : (w : Token) (text : List ℕ) → is_word w text ≡ true → w.text ≡ text
is_the_text w text h = (bytes_eq-Decides w.text text).0 (and_right (is_plain w.form) (bytes_eq w.text text) h)

chain_named : (w : Token) → IfSome (chain_word w) (λ hook. w.text ≡ chain_text hook)
chain_named w = some_if (λ hook. w.text ≡ chain_text hook) (is_word w (codes "INPUT")) _ _ (λ c. is_the_text w (codes "INPUT") c)
    (λ _. some_if (λ hook. w.text ≡ chain_text hook) (is_word w (codes "OUTPUT")) _ _ (λ c. is_the_text w (codes "OUTPUT") c)
    (λ _. some_if (λ hook. w.text ≡ chain_text hook) (is_word w (codes "FORWARD")) _ _ (λ c. is_the_text w (codes "FORWARD") c) (λ _. tt)))

hook_named : (w : Token) → IfSome (hook_word w) (λ hook. w.text ≡ hook_text hook)
hook_named w = some_if (λ hook. w.text ≡ hook_text hook) (is_word w (codes "input")) _ _ (λ c. is_the_text w (codes "input") c)
    (λ _. some_if (λ hook. w.text ≡ hook_text hook) (is_word w (codes "output")) _ _ (λ c. is_the_text w (codes "output") c)
    (λ _. some_if (λ hook. w.text ≡ hook_text hook) (is_word w (codes "forward")) _ _ (λ c. is_the_text w (codes "forward") c) (λ _. tt)))

-- Priorities are within their limits.
in_limits : (word : List ℕ) (z : ℤ) → IsSignedWord 32768 32767 word z → IsPriority z
in_limits word (pos n) h = (omega (arith, ints), omega (arith, ints, h.1))
in_limits word (negsuc n) h = (omega (arith, ints, h.3), omega (arith, ints))

limited : (word : List ℕ) (o : Option ℤ) → IfSome o (λ z. IsSignedWord 32768 32767 word z) → IfSome o IsPriority
limited word None h = tt
limited word (Some z) h = in_limits word z h

priority_good : (w : Token) → IfSome (priority_word w) IsPriority
priority_good w = some_if IsPriority (is_plain w.form) _ _
    (λ _. limited w.text (signed_in 32768 32767 w.text) (signed_some 32768 32767 w.text (signed_in 32768 32767 w.text) refl))
    (λ _. tt)

record Chosen (c : TargetChoices) : Type 0 where
  pub families_fit : IfSome c.families NotMixed
  pub priority_fits : IfSome c.priority IsPriority

unless_has : {A B : Type 0} (Q : B → Type 0) (o : Option A) (x : B) → Q x → IfSome (unless_some o x) Q
unless_has Q None x h = h
unless_has Q (Some y) x h = tt

policy_chosen : (c : TargetChoices) (accept : Bool) → Chosen c → IfSome (with_policy c accept) Chosen
policy_chosen c accept h = unless_has Chosen c.accept (record c { accept = Some accept }) (record { families_fit = h.families_fit; priority_fits = h.priority_fits })

mark_chosen : (c : TargetChoices) → Chosen c → IfSome (with_mark c) Chosen
mark_chosen c h = some_if Chosen c.marked _ _ (λ _. tt) (λ _. record { families_fit = h.families_fit; priority_fits = h.priority_fits })

iptables_chosen : (c : TargetChoices) (w : Token) → Chosen c → IfSome (iptables_choice c w) Chosen
unfolding iptables_choice
iptables_chosen c w h = some_if Chosen (is_word w (codes "ACCEPT")) _ _ (λ _. policy_chosen c true h)
    (λ _. some_if Chosen (is_word w (codes "DROP")) _ _ (λ _. policy_chosen c false h)
    (λ _. some_if Chosen (is_word w (codes "nostate")) _ _ (λ _. mark_chosen c h)
    (λ _. then_has NotMixed Chosen (with_families c) (single_family w) (one_family w)
    (λ f g. unless_has Chosen c.families (record c { families = Some f }) (record { families_fit = g; priority_fits = h.priority_fits })))))

nftables_chosen : (c : TargetChoices) (w : Token) → Chosen c → IfSome (nftables_choice c w) Chosen
unfolding nftables_choice
nftables_chosen c w h = some_if Chosen (is_word w (codes "ACCEPT")) _ _ (λ _. policy_chosen c true h)
    (λ _. some_if Chosen (is_word w (codes "DROP")) _ _ (λ _. policy_chosen c false h)
    (λ _. some_if Chosen (is_word w (codes "noverbose")) _ _ (λ _. mark_chosen c h)
    (λ _. then_has IsPriority Chosen (with_priority c) (priority_word w) (priority_good w)
    (λ z g. unless_has Chosen c.priority (record c { priority = Some z }) (record { families_fit = h.families_fit; priority_fits = g })))))

choice_good : (kind : Kind) (c : TargetChoices) (w : Token) → Chosen c → IfSome (choice kind c w) Chosen
choice_good Iptables c w h = iptables_chosen c w h
choice_good Cisco c w h = nftables_chosen c w h
choice_good Juniper c w h = nftables_chosen c w h
choice_good Nftables c w h = nftables_chosen c w h

none_chosen : Chosen no_choices
none_chosen = record { families_fit = tt; priority_fits = tt }

default_family : (o : Option Families) → IfSome o NotMixed → NotMixed (unwrap_or o Inet)
default_family None h = refl
default_family (Some f) h = h

default_priority : (o : Option ℤ) → IfSome o IsPriority → IsPriority (unwrap_or o (pos 0))
default_priority None h = (omega (arith, ints), omega (arith, ints))
default_priority (Some z) h = h

left_ending : (o : Option Bool) → is_neighbours (default_ending endings.Left o) ≡ false
left_ending None = refl
left_ending (Some true) = refl
left_ending (Some false) = refl

deny_ending : (o : Option Bool) → is_verdict (default_ending endings.Deny o) ≡ true
deny_ending None = refl
deny_ending (Some true) = refl
deny_ending (Some false) = refl

-- A target that fits its platform; its line and its name stand at such places.
pub record IsNamed (At : Place → Type 0) (n : NamedTarget) : Type 0 where
  pub fits : FitsPlatform n.target.kind n.target
  pub line_stands : At n.target.place
  pub name_stands : At n.place

module _ (At : Place → Type 0) where
  or_has : {A : Type 0} (P : A → Type 0) (w : Token) (o : Option A) → At w.place → IfSome o P → Has (ToldAt At) P (or_slip w o)
  or_has P w (Some x) a h = h
  or_has P w None a h = (a, answered_for w.form codes_of.TargetLine tt)

  juniper_family : (ws : List Token) → Stand At ws → Has (ToldAt At) NotMixed (last_family Juniper ws)
  juniper_family [] s = refl
  juniper_family (w ∷ []) s = or_has NotMixed w (single_family w) s.0 (one_family w)
  juniper_family (w ∷ v ∷ ws) s = bind_has (ToldAt At) NotMixed NotMixed (or_slip w (single_family w)) _
      (or_has NotMixed w (single_family w) s.0 (one_family w)) (λ _ _. (s.1.0, answered_for v.form codes_of.TargetLine tt))

  any_some : {A : Type 0} (o : Option A) → IfSome o (λ _. Unit {0})
  any_some None = tt
  any_some (Some x) = tt

  cisco_family : (ws : List Token) → Stand At ws → Has (ToldAt At) (λ _. Unit {0}) (last_family Cisco ws)
  cisco_family [] s = tt
  cisco_family (w ∷ []) s = or_has (λ _. Unit {0}) w (family_word Cisco w) s.0 (any_some (family_word Cisco w))
  cisco_family (w ∷ v ∷ ws) s = bind_has (ToldAt At) (λ _. Unit {0}) (λ _. Unit {0}) (or_slip w (family_word Cisco w)) _
      (or_has (λ _. Unit {0}) w (family_word Cisco w) s.0 (any_some (family_word Cisco w))) (λ _ _. (s.1.0, answered_for v.form codes_of.TargetLine tt))

  cisco_good : (k p : Token) (ws : List Token) → At k.place → At p.place → Stand At ws
      → Has (ToldAt At) (IsNamed At) (device_line Cisco k p ws)
  cisco_good k p [] a b s = (b, tt)
  cisco_good k p (n ∷ ws) a b s = if_has (ToldAt At) (IsNamed At) (name_word n) _ _
      (λ c. bind_has (ToldAt At) (λ _. Unit {0}) (IsNamed At) (last_family Cisco ws) _ (cisco_family ws s.1)
      (λ f _. record {
        fits = record { name_is = and_right (is_plain n.form) (is_filter_name n.text) c; hook_is = refl; stateless = refl; ending_is = refl; priority_is = refl; verbose_is = refl };
        line_stands = a;
        name_stands = s.0;
      }))
      (λ _. (s.0, answered_for n.form codes_of.TargetLine tt))

  juniper_good : (k p : Token) (ws : List Token) → At k.place → At p.place → Stand At ws
      → Has (ToldAt At) (IsNamed At) (device_line Juniper k p ws)
  juniper_good k p [] a b s = (b, tt)
  juniper_good k p (n ∷ ws) a b s = if_has (ToldAt At) (IsNamed At) (name_word n) _ _
      (λ c. bind_has (ToldAt At) NotMixed (IsNamed At) (last_family Juniper ws) _ (juniper_family ws s.1)
      (λ f h. record {
        fits = (record { name_is = and_right (is_plain n.form) (is_filter_name n.text) c; hook_is = refl; stateless = refl; ending_is = refl; priority_is = refl; verbose_is = refl }, h);
        line_stands = a;
        name_stands = s.0;
      }))
      (λ _. (s.0, answered_for n.form codes_of.TargetLine tt))

  chosen_good : (kind : Kind) (c : TargetChoices) (ws : List Token) → Chosen c → Stand At ws → Has (ToldAt At) Chosen (choices_from kind c ws)
  chosen_good kind c [] h s = h
  chosen_good kind c (w ∷ ws) h s = bind_has (ToldAt At) Chosen Chosen (or_slip w (choice kind c w)) _
      (or_has Chosen w (choice kind c w) s.0 (choice_good kind c w h)) (λ d g. chosen_good kind d ws g s.1)

  iptables_good : (k p : Token) (ws : List Token) → At k.place → At p.place → Stand At ws
      → Has (ToldAt At) (IsNamed At) (iptables_line k p ws)
  iptables_good k p [] a b s = (b, tt)
  iptables_good k p (n ∷ ws) a b s = bind_has (ToldAt At) (λ hook. n.text ≡ chain_text hook) (IsNamed At) (or_slip n (chain_word n)) _
      (or_has (λ hook. n.text ≡ chain_text hook) n (chain_word n) s.0 (chain_named n))
      (λ hook e. bind_has (ToldAt At) Chosen (IsNamed At) (choices_from Iptables no_choices ws) _ (chosen_good Iptables no_choices ws none_chosen s.1)
      (λ c h. record {
        fits = record { name_is = e; one_family = default_family c.families h.families_fit; ending_is = left_ending c.accept; priority_is = refl; verbose_is = refl };
        line_stands = a;
        name_stands = s.0;
      }))

  hooked_good : (k p : Token) (families : Families) (ws : List Token) → At k.place → At p.place → Stand At ws
      → Has (ToldAt At) (IsNamed At) (hooked_line k p families ws)
  hooked_good k p families [] a b s = (b, tt)
  hooked_good k p families (n ∷ ws) a b s = bind_has (ToldAt At) (λ hook. n.text ≡ hook_text hook) (IsNamed At) (or_slip n (hook_word n)) _
      (or_has (λ hook. n.text ≡ hook_text hook) n (hook_word n) s.0 (hook_named n))
      (λ hook e. bind_has (ToldAt At) Chosen (IsNamed At) (choices_from Nftables no_choices ws) _ (chosen_good Nftables no_choices ws none_chosen s.1)
      (λ c h. record {
        fits = record { name_is = e; stateful_is = refl; ending_is = deny_ending c.accept; priority_is = default_priority c.priority h.priority_fits };
        line_stands = a;
        name_stands = s.0;
      }))

  nftables_good : (k p : Token) (ws : List Token) → At k.place → At p.place → Stand At ws
      → Has (ToldAt At) (IsNamed At) (nftables_line k p ws)
  nftables_good k p [] a b s = (b, tt)
  nftables_good k p (w ∷ ws) a b s = bind_has (ToldAt At) (λ _. Unit {0}) (IsNamed At) (or_slip w (family_word Nftables w)) _
      (or_has (λ _. Unit {0}) w (family_word Nftables w) s.0 (any_some (family_word Nftables w)))
      (λ families _. hooked_good k p families ws a b s.1)

  pub line_good : (k : Token) (ws : List Token) → At k.place → Stand At ws → Has (ToldAt At) (IsNamed At) (target_line k ws)
  unfolding target_line
  line_good k [] a s = (a, tt)
  line_good k (p ∷ ws) a s = if_has (ToldAt At) (IsNamed At) (is_word p (codes "cisco")) _ _ (λ _. cisco_good k p ws a s.0 s.1)
      (λ _. if_has (ToldAt At) (IsNamed At) (is_word p (codes "juniper")) _ _ (λ _. juniper_good k p ws a s.0 s.1)
      (λ _. if_has (ToldAt At) (IsNamed At) (is_word p (codes "iptables")) _ _ (λ _. iptables_good k p ws a s.0 s.1)
      (λ _. if_has (ToldAt At) (IsNamed At) (is_word p (codes "nftables")) _ _ (λ _. nftables_good k p ws a s.0 s.1)
      (λ _. (s.0, answered_for p.form codes_of.TargetLine tt)))))

pub renumbered : (kind : Kind) (t : Target) (m : ℕ) → FitsPlatform kind t → FitsPlatform kind (record t { number = m })
renumbered Cisco t m h = record { name_is = h.name_is; hook_is = h.hook_is; stateless = h.stateless; ending_is = h.ending_is; priority_is = h.priority_is; verbose_is = h.verbose_is }
renumbered Juniper t m h = (record { name_is = h.0.name_is; hook_is = h.0.hook_is; stateless = h.0.stateless; ending_is = h.0.ending_is; priority_is = h.0.priority_is; verbose_is = h.0.verbose_is }, h.1)
renumbered Iptables t m h = record { name_is = h.name_is; one_family = h.one_family; ending_is = h.ending_is; priority_is = h.priority_is; verbose_is = h.verbose_is }
renumbered Nftables t m h = record { name_is = h.name_is; stateful_is = h.stateful_is; ending_is = h.ending_is; priority_is = h.priority_is }
