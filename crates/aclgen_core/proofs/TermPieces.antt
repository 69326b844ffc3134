-- The text of a term, put behind another text piece by piece.
use Rattle.std.proofs.Common.{◌≡◌, ◌++◌, ℕ, List, append_assoc}
use Rattle.std.specs.Prelude.{codes, decimal}
use Rattle.aclgen_core.specs.WorkloadTexts.{term_text}

pub term_in_pieces : (front : List ℕ) (i : ℕ)
    → (((front ++ codes "term t" ++ decimal i) ++ codes " {\n  source-address:: N" ++ decimal i)
    ++ codes "\n  destination-port:: S" ++ decimal i)
    ++ codes "\n  protocol:: tcp udp\n  action:: accept\n}\n" ≡ front ++ term_text i
unfolding term_text
term_in_pieces front i = simp append_assoc
