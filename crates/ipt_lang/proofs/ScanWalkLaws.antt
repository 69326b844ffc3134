-- What rules and chains do to a packet, one after the other.
use Rattle.std.proofs.Common.{◌≡◌, ℕ, Bool, true, false, cond, List, [], ◌∷◌, ◌++◌, refl, ap, sym, ◌∙◌}
use Rattle.std.specs.Borrow.{Bor}
use Rattle.std.specs.List.{AllByRecursion}
use Rattle.std.proofs.lemmas.Bool.{false≢true}
use Rattle.acl_packet.specs.declared.addresses.Family.{Family}
use Rattle.acl_packet.specs.declared.filtering.Outcome.{Outcome}
use Rattle.acl_packet.specs.declared.filtering.Verdict.{Verdict}
use Rattle.acl_packet.specs.declared.filtering.Verdict.TheVariants.{Accept, Deny, Reject, Reset, Left}
use Rattle.acl_packet.specs.declared.packets.Packet.{Packet}
use Rattle.acl_text.specs.Cuts.{views}
use Rattle.ipt_lang.specs.declared.documents.Act.{Act}
use Rattle.ipt_lang.specs.declared.documents.Act.TheVariants.{Log, Decide}
use Rattle.ipt_lang.specs.declared.documents.Chain.{Chain}
use Rattle.ipt_lang.specs.declared.documents.Rule.{Rule}
use Rattle.ipt_lang.specs.Documents.{IsRule, act_fits, chain_names}
use Rattle.ipt_lang.specs.Walks.{acted, chains_walk, go_on, outcome_so_far, rule_holds, rules_walk}
use Rattle.ipt_lang.proofs.RuleReadingLaws.{fitting_act}

-- ---- going on

pub go_on_left : (o : Outcome) → go_on o (λ logged. outcome_so_far Left logged) ≡ o
go_on_left o = left o.verdict o.logged where
  left : (v : Verdict) (b : Bool) → go_on (outcome_so_far v b) (λ logged. outcome_so_far Left logged) ≡ outcome_so_far v b
  left Accept b = refl
  left Deny b = refl
  left Reject b = refl
  left Reset b = refl
  left Left b = refl

go_on_twice : (o : Outcome) (next all last : Bool → Outcome) → ((b : Bool) → all b ≡ go_on (next b) last) → go_on (go_on o next) last ≡ go_on o all
go_on_twice o next all last each = twice o.verdict o.logged where
  twice : (v : Verdict) (b : Bool) → go_on (go_on (outcome_so_far v b) next) last ≡ go_on (outcome_so_far v b) all
  twice Accept b = refl
  twice Deny b = refl
  twice Reject b = refl
  twice Reset b = refl
  twice Left b = sym (each b)

-- ---- rules

abbrev one : Rule → Packet → Bool → Outcome
one r p logged = rules_walk (r ∷ []) p logged

rules_more : (f : Family) (rules : List Rule) (r : Rule) (p : Packet) → AllByRecursion (IsRule f) rules → (logged : Bool)
    → rules_walk (rules ++ r ∷ []) p logged ≡ go_on (rules_walk rules p logged) (one r p)
unfolding rules_walk
rules_more f [] r p h logged = refl
rules_more f (x ∷ rules) r p h logged = step (rule_holds x p) x.act (fitting_act f x h.0) (rules_more f rules r p h.1) where
  step : (t : Bool) (a : Act) → act_fits x.proto a ≡ true
      → ((b : Bool) → rules_walk (rules ++ r ∷ []) p b ≡ go_on (rules_walk rules p b) (one r p))
      → cond t (acted a logged (rules_walk (rules ++ r ∷ []) p true)) (rules_walk (rules ++ r ∷ []) p logged)
      ≡ go_on (cond t (acted a logged (rules_walk rules p true)) (rules_walk rules p logged)) (one r p)
  step false a k rest = rest logged
  step true Log k rest = rest true
  step true (Decide Accept) k rest = refl
  step true (Decide Deny) k rest = refl
  step true (Decide Reject) k rest = refl
  step true (Decide Reset) k rest = refl
  step true (Decide Left) k rest = absurd (false≢true k)

pub rules_on : (f : Family) (rules : List Rule) (r : Rule) (p : Packet) → AllByRecursion (IsRule f) rules → (so_far o : Outcome)
    → o ≡ go_on so_far (λ logged. rules_walk rules p logged)
    → go_on o (λ logged. rules_walk (r ∷ []) p logged) ≡ go_on so_far (λ logged. rules_walk (rules ++ r ∷ []) p logged)
rules_on f rules r p h so_far o e =
    ap (λ x. go_on x (one r p)) e
    ∙ go_on_twice so_far (λ logged. rules_walk rules p logged) (λ logged. rules_walk (rules ++ r ∷ []) p logged) (one r p) (rules_more f rules r p h)

-- ---- chains

pub chains_more : (chains : List Chain) (c : Chain) (p : Packet) (logged : Bool)
    → chains_walk (chains ++ c ∷ []) p logged ≡ go_on (chains_walk chains p logged) (λ marked. rules_walk c.rules p marked)
unfolding chains_walk
chains_more [] c p logged = go_on_left (rules_walk c.rules p logged)
chains_more (d ∷ chains) c p logged =
    sym (go_on_twice (rules_walk d.rules p logged) (λ marked. chains_walk chains p marked) (λ marked. chains_walk (chains ++ c ∷ []) p marked)
    (λ marked. rules_walk c.rules p marked) (chains_more chains c p))

pub names_more : (chains : List Chain) (c : Chain) → chain_names (chains ++ c ∷ []) ≡ chain_names chains ++ c.name ∷ []
names_more [] c = refl
names_more (d ∷ chains) c = ap (λ names. d.name ∷ names) (names_more chains c)

pub views_more : (names : List (Bor (List ℕ))) (name : Bor (List ℕ)) → views (names ++ name ∷ []) ≡ views names ++ name.now ∷ []
views_more [] name = refl
views_more (n ∷ names) name = ap (λ ns. n.now ∷ ns) (views_more names name)
