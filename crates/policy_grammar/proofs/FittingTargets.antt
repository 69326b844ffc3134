-- A target that fits its platform is what a target line means.
use Rattle.std.proofs.Common.{◌≡◌, ℕ, ◌+◌, ◌-◌, ◌==◌, Bool, true, false, ℤ, pos, negsuc, List, [], ◌∷◌, ◌++◌, None, Some, decimal, option_map, option_and_then, refl, ap, sym, subst, ◌∙◌, arith}
use Rattle.std.specs.Char.{is_ascii_digit}
use Rattle.std.specs.Str.{all_ascii_digits}
use Rattle.std.proofs.lemmas.Bool.{ne_eqb}
use Rattle.std.proofs.lemmas.Bool.Decides.{nat_tests}
use Rattle.std.proofs.lemmas.Int.{ints}
use Rattle.acl_packet.specs.Decimals.{IsNumber, number_in}
use Rattle.acl_packet.proofs.DecimalLaws.{number-is, number-again}
use Rattle.acl_packet.specs.declared.addresses.Families.{Families}
use Rattle.acl_packet.specs.declared.addresses.Families.TheVariants.{Inet6, Mixed}
use Rattle.acl_packet.specs.declared.filtering.Hook.TheVariants as hooks
use Rattle.acl_text.specs.declared.faults.Place.{Place}
use Rattle.acl_text.specs.SignedNumbers.{IsSignedWord, negative, below_zero_in, from_zero_in, signed_in}
use Rattle.acl_text.proofs.SignedLaws.{signed_some}
use Rattle.acl_target.specs.declared.targets.Ending.{Ending}
use Rattle.acl_target.specs.declared.targets.Ending.TheVariants as endings
use Rattle.acl_target.specs.declared.targets.Kind.{Kind}
use Rattle.acl_target.specs.declared.targets.Kind.TheVariants.{Cisco, Juniper, Iptables, Nftables}
use Rattle.acl_target.specs.declared.targets.Target.{Target}
use Rattle.acl_target.specs.Clashes.{is_mixed}
use Rattle.acl_target.specs.TargetData.{IsDevice, chain_text, hook_text, is_verdict, is_neighbours, IsPriority, FitsPlatform}
use Rattle.policy_grammar.specs.TargetTexts.{Choice, LineText, TargetText, line_meant, target_meant, LineStands}
use Rattle.policy_grammar.proofs.Outcomes.{and_left, if_false}

-- The text of a number.
abbrev signed_text : ℤ → List ℕ
signed_text (pos n) = decimal n
signed_text (negsuc n) = 45 ∷ decimal (n + 1)

no_dash : (b : ℕ) → is_ascii_digit b ≡ true → (b == 45) ≡ false
no_dash b h = grind (arith, nat_tests)

digit_first : (above b n : ℕ) (bs : List ℕ) → number_in above (b ∷ bs) ≡ Some n → (b == 45) ≡ false
digit_first above b n bs e = no_dash b (and_left (is_ascii_digit b) (all_ascii_digits bs) (number-is above n (b ∷ bs) e).0.digits)

from_zero_read : (below above n : ℕ) (word : List ℕ) → number_in above word ≡ Some n → signed_in below above word ≡ Some (pos n)
from_zero_read below above n [] e = absurd (no_word (number-is above n [] e).0)
  where
    no_word : IsNumber [] n → ⊥
    no_word h = omega (arith, h.nonempty)
from_zero_read below above n (b ∷ bs) e =
    if_false (b == 45) (below_zero_in below bs) (from_zero_in above (b ∷ bs)) (digit_first above b n bs e)
    ∙ ap (option_map (λ m. pos m)) e

negative_one : (n : ℕ) → negative (n + 1) ≡ Some (negsuc n)
negative_one n =
    let same : n + 1 - 1 ≡ n = omega arith in
    if_false (n + 1 == 0) None (Some (negsuc (n + 1 - 1))) (ne_eqb (n + 1) 0 (λ e. absurd (omega arith)))
    ∙ ap (λ k. Some (negsuc k)) same

signed_read : (z : ℤ) → IsPriority z → signed_in 32768 32767 (signed_text z) ≡ Some z
signed_read (pos n) h = from_zero_read 32768 32767 n (decimal n)
    (number-again 32767 n (omega (arith, ints, h.1)) (omega (arith, ints, h.1)))
signed_read (negsuc n) h =
    ap (option_and_then negative) (number-again 32768 (n + 1) (omega (arith, ints, h.0)) (omega (arith, ints, h.0)))
    ∙ negative_one n

-- The words of a target's choices.
abbrev default_words : Place → Ending → List (Place × Choice)
default_words place endings.Accept = (place, Choice.AcceptWord) ∷ []
default_words place endings.Deny = (place, Choice.DropWord) ∷ []
default_words place _ = []

abbrev state_words : Place → Bool → List (Place × Choice)
state_words place true = []
state_words place false = (place, Choice.NostateWord) ∷ []

abbrev chain_family : Place → Families → List (Place × Choice)
chain_family place Inet6 = (place, Choice.Inet6Word) ∷ []
chain_family place _ = (place, Choice.InetWord) ∷ []

abbrev comment_words : Place → Bool → List (Place × Choice)
comment_words place true = []
comment_words place false = (place, Choice.NoverboseWord) ∷ []

abbrev line_for : Kind → Target → LineText
line_for Cisco t = LineText.CiscoLine (record { place = t.place; text = t.name }) (Some (t.place, t.families))
line_for Juniper t = LineText.JuniperLine (record { place = t.place; text = t.name }) (Some (t.place, t.families))
line_for Iptables t = LineText.IptablesLine t.place t.hook
    (default_words t.place t.ending ++ (state_words t.place t.stateful ++ chain_family t.place t.families))
line_for Nftables t = LineText.NftablesLine t.place t.families t.place t.hook
    (default_words t.place t.ending ++
    ((t.place, Choice.PriorityWord (signed_text t.priority) t.priority) ∷ comment_words t.place t.verbose))

abbrev pub target_for : Target → TargetText
target_for t = record { place = t.place; platform = t.place; line = line_for t.kind t; number = t.number }

-- The line's words stand, and mean the target.
record TargetFits (kind : Kind) (t : Target) : Type 0 where
  stands : LineStands (line_for kind t)
  means : line_meant t.place t.number (line_for kind t) ≡ t

device_fits : (kind : Kind) (ending : Ending) (t : Target) → t.kind ≡ kind → IsDevice ending t
    → record t { kind = kind; hook = hooks.Input; stateful = false; ending = ending; priority = pos 0; verbose = true } ≡ t
device_fits kind ending t e h = λ i. record t {
  kind = sym e i;
  hook = sym h.hook_is i;
  stateful = sym h.stateless i;
  ending = sym h.ending_is i;
  priority = sym h.priority_is i;
  verbose = sym h.verbose_is i;
}

-- A target of iptables, and one of nftables, by what its words say.
abbrev chain_of : Target → Ending → Bool → Families → Target
chain_of t ending stateful families = record t {
  kind = Iptables;
  name = chain_text t.hook;
  families = families;
  stateful = stateful;
  ending = ending;
  priority = pos 0;
  verbose = true;
}

chain_fits : (t : Target) (ending : Ending) (stateful : Bool) (families : Families) → is_neighbours ending ≡ false
    → is_mixed families ≡ false → TargetFits Iptables (chain_of t ending stateful families)
chain_fits t endings.Neighbours _ _ h k = cc
chain_fits t _ _ Mixed h k = cc
chain_fits t endings.Left true _ h k = record { stands = ((tt, refl), tt); means = refl }
chain_fits t endings.Left false _ h k = record { stands = ((tt, refl), ((tt, refl), tt)); means = refl }
chain_fits t _ true _ h k = record { stands = ((tt, refl), ((tt, refl), tt)); means = refl }
chain_fits t _ false _ h k = record { stands = ((tt, refl), ((tt, refl), ((tt, refl), tt))); means = refl }

abbrev hook_of : Target → Ending → ℤ → Bool → Target
hook_of t ending z verbose = record t {
  kind = Nftables;
  name = hook_text t.hook;
  stateful = true;
  ending = ending;
  priority = z;
  verbose = verbose;
}

hook_fits : (t : Target) (ending : Ending) (z : ℤ) (verbose : Bool) → is_verdict ending ≡ true
    → IsSignedWord 32768 32767 (signed_text z) z → TargetFits Nftables (hook_of t ending z verbose)
hook_fits t endings.Left z _ h r = cc
hook_fits t endings.Neighbours z _ h r = cc
hook_fits t _ z true h r = record { stands = ((tt, refl), ((r, refl), tt)); means = refl }
hook_fits t _ z false h r = record { stands = ((tt, refl), ((r, refl), ((tt, refl), tt))); means = refl }

by_platform : (kind : Kind) (t : Target) → t.kind ≡ kind → FitsPlatform kind t → TargetFits kind t
by_platform Cisco t e h = record { stands = h.name_is; means = device_fits Cisco endings.Neighbours t e h }
by_platform Juniper t e h = record { stands = (h.0.name_is, h.1); means = device_fits Juniper endings.Deny t e h.0 }
by_platform Iptables t e h = subst (TargetFits Iptables)
    (λ i. record t {
      kind = sym e i;
      name = sym h.name_is i;
      priority = sym h.priority_is i;
      verbose = sym h.verbose_is i;
    })
    (chain_fits t t.ending t.stateful t.families h.ending_is h.one_family)
by_platform Nftables t e h = subst (TargetFits Nftables)
    (λ i. record t { kind = sym e i; name = sym h.name_is i; stateful = sym h.stateful_is i })
    (hook_fits t t.ending t.priority t.verbose h.ending_is
    (signed_some 32768 32767 (signed_text t.priority) (Some t.priority) (sym (signed_read t.priority h.priority_is))))

pub target_stands : (t : Target) → FitsPlatform t.kind t → LineStands (target_for t).line
target_stands t h = (by_platform t.kind t refl h).stands

pub target_means : (t : Target) → FitsPlatform t.kind t → target_meant (target_for t) ≡ t
target_means t h = (by_platform t.kind t refl h).means
