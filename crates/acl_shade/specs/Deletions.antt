-- What holds of a block from which shaded terms are taken out, some of them or all.
use Rattle.std.specs.Prelude.{◌≡◌, ℕ, ◌+◌, ◌<◌, Bool, true, if◌then◌else◌, List, [], ◌∷◌, ◌++◌, length, Contains}
use Rattle.std.specs.List.{list_any}
use Rattle.std.specs.Option.{is_some}
use Rattle.acl_packet.specs.declared.packets.Packet.{Packet}
use Rattle.acl_host.specs.declared.days.Day.{Day}
use Rattle.acl_target.specs.declared.targets.Target.{Target}
use Rattle.acl_terms.specs.declared.terms.Term.{Term}
use Rattle.acl_terms.specs.Outcomes.{policy_outcome}
use Rattle.acl_shade.specs.ComputableShading.{shading_term, unshaded}
use Rattle.acl_shade.specs.Shading.{Shades, ShadesAt}

-- ---- some of them

-- A list without what stands at the chosen places, where the first of it stands at this place.
abbrev pub without_from : {X : Type 0} → (ℕ → Bool) → ℕ → List X → List X
without_from chosen place [] = []
without_from chosen place (x ∷ xs) =
    (if chosen place then [] else x ∷ []) ++ without_from chosen (place + 1) xs

abbrev pub without : {X : Type 0} → (ℕ → Bool) → List X → List X
without chosen xs = without_from chosen 0 xs

-- An earlier term shades each term at a chosen place.
abbrev pub AreShaded : List Target → Day → List Term → (ℕ → Bool) → Type 0
AreShaded targets today terms chosen = (place : ℕ) → place < length terms → chosen place ≡ true
    → (k : ℕ) × ShadesAt targets today terms k place

-- Any shaded terms of a block can go, one, some or all: on each target of the block, each packet has the outcome that it
-- has with all terms.
abbrev pub AnyShadedTermsCanGo : Type 0
AnyShadedTermsCanGo = (targets : List Target) (today : Day) (terms : List Term) (chosen : ℕ → Bool) (target : Target)
    (p : Packet) → AreShaded targets today terms chosen → Contains targets target
    → policy_outcome target today (without chosen terms) p ≡ policy_outcome target today terms p

-- ---- all of them

-- The terms that stay are those for which no shading term is told.
abbrev pub ToldTermsGo : Type 0
ToldTermsGo = (targets : List Target) (today : Day) (terms : List Term)
    → unshaded targets today terms ≡ without (λ place. is_some (shading_term targets today terms place)) terms

-- So it is where all shaded terms go at once.
abbrev pub ShadedTermsCanGo : Type 0
ShadedTermsCanGo = (targets : List Target) (today : Day) (terms : List Term) (target : Target) (p : Packet)
    → Contains targets target
    → policy_outcome target today (unshaded targets today terms) p ≡ policy_outcome target today terms p

-- Where each term passes a test that shades one which does, some term of a block passes the test exactly where one that
-- stays does. So, above all, a block keeps a term.
abbrev pub ShadingTermStays : Type 0
ShadingTermStays = (targets : List Target) (today : Day) (terms : List Term) (test : Term → Bool)
    → ((i j : Term) → Shades targets today i j → test j ≡ true → test i ≡ true)
    → list_any test (unshaded targets today terms) ≡ list_any test terms
