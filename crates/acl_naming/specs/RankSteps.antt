-- Ranks by which rings of names are found: what is kept of them, and what bounds the steps of the search.
use Rattle.std.specs.Prelude.{◌≡◌, ℕ, ◌+◌, ◌<◌, ◌≤◌, suc, Bool, true, false, List, [], ◌∷◌, length, slice_index_or}
use Rattle.acl_naming.specs.declared.ranking.SearchStep.{SearchStep}
use Rattle.acl_naming.specs.declared.ranking.SearchStep.TheVariants.{Enter, Leave}
use Rattle.acl_naming.specs.Definitions.{Definition}
use Rattle.acl_naming.specs.GraphSteps.{graph_of}
use Rattle.acl_naming.specs.MarkSteps.{leads}

abbrev pub rank_at : List ℕ → ℕ → ℕ
rank_at ranks i = slice_index_or ranks i 0

-- A definition's rank is at most that of each one that it names.
abbrev pub NeverFall : List Definition → List ℕ → Type 0
NeverFall base ranks =
    (i j : ℕ) → leads (graph_of base) i j ≡ true → rank_at ranks i ≤ rank_at ranks j

-- Each definition names only those that stand before it.
abbrev pub LeadBack : List Definition → Type 0
LeadBack base = (i : ℕ) → i < length base → (j : ℕ) → leads (graph_of base) i j ≡ true → j < i

-- The step is at one of so many definitions.
abbrev pub IsStepOf : ℕ → SearchStep → Type 0
IsStepOf n (Enter i) = i < n
IsStepOf n (Leave i) = i < n

-- How many steps come of the definitions that have no mark: one for each, and one for each of its items.
abbrev pub steps_left : List Definition → List Bool → ℕ
steps_left [] m = 0
steps_left (d ∷ ds) [] = 0
steps_left (d ∷ ds) (true ∷ m) = steps_left ds m
steps_left (d ∷ ds) (false ∷ m) = suc (length d.items + steps_left ds m)
