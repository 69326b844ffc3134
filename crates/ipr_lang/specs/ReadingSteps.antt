-- Reading leniently: a row says what it says among arguments of iptables, and two kinds of rows say
-- more.
use Rattle.std.specs.Prelude.{ℕ, Bool, false, ◌==◌, if◌then◌else◌, List, [], ◌∷◌, codes}
use Rattle.std.specs.Str.{bytes_eq}
use Rattle.acl_rows.specs.RowSteps.{few_in}
use Rattle.acl_rows.specs.Rows.{Row}
use Rattle.ipt_lang.specs.declared.chains_drafts.ChainsDraft.{ChainsDraft}
use Rattle.ipt_lang.specs.Documents.{hook_word}
use Rattle.ipt_lang.specs.ReadingSteps.{take_row, with_name, with_policy}

-- A declaration has a policy, or the sign that there is none.
unfoldable pub take_declared : ChainsDraft → List (List ℕ) → ChainsDraft
take_declared d (policy ∷ counters ∷ []) =
    if bytes_eq policy (codes "-") then d else with_policy d policy
take_declared d words = d

-- A jump has the name of the chain that it goes to.
unfoldable pub take_target : ChainsDraft → List (List ℕ) → ChainsDraft
take_target d (option ∷ name ∷ []) = with_name d name
take_target d words = d

-- What is appended to the hook's own chain is a jump.
unfoldable pub take_appended : ChainsDraft → List (List ℕ) → ChainsDraft
take_appended d [] = d
take_appended d (chain ∷ words) =
    if bytes_eq chain (hook_word d.section.hook) then take_target d (few_in words) else d

abbrev pub is_declaration : List ℕ → Bool
is_declaration [] = false
is_declaration (b ∷ bs) = b == 58

unfoldable pub prepared : ChainsDraft → List (List ℕ) → ChainsDraft
prepared d [] = d
prepared d (w ∷ words) =
    if bytes_eq w (codes "-A") then take_appended d words
    else if is_declaration w then take_declared d (few_in words)
    else d

abbrev pub take_restored : ChainsDraft → Row → ChainsDraft
take_restored d r = take_row (prepared d r.words) r
