-- Lists that begin with an item, and the requests of blocks that begin with one.
use Rattle.std.proofs.Common.{◌≡◌, ◌≤◌, ◌-◌, List, [], ◌∷◌, ◌++◌, take, drop, length, get_or, ap, sym, ◌∙◌, arith}
use Rattle.std.proofs.lemmas.List.{take_rest}
use Rattle.acl_policy.specs.declared.blocks.Block.{Block}
use Rattle.acl_terms.specs.declared.terms.Term.{Term}
use Rattle.acl_filters.specs.FilterRequests.{block_requests, requests_in}

-- A list that begins with an item, and the rest of it as a slice pattern gives it.
pub first-rest : {X : Type 0} (xs : List X) (x : X) → 1 ≤ length xs → x ≡ get_or xs 0 x → xs ≡ x ∷ take (length xs - 1) (drop 1 xs)
first-rest [] x h e = absurd (omega (arith, h))
first-rest (y ∷ xs) x h e = ap (λ z. z ∷ xs) (sym e) ∙ ap (λ zs. x ∷ zs) (sym (take_rest (y ∷ xs) 1))

blocks-are : (bs : List Block) (b : Block) (more : List Block) (ls : List (List Term)) (l : List Term) (others : List (List Term))
    → bs ≡ b ∷ more → ls ≡ l ∷ others → requests_in bs ls ≡ block_requests b l ++ requests_in more others
blocks-are bs b more ls l others e f = ap (λ xs. requests_in xs ls) e ∙ ap (λ ys. requests_in (b ∷ more) ys) f

-- What is asked for in blocks and their terms: that of the first, and behind it that of the rest.
pub first-block : (bs : List Block) (b : Block) → 1 ≤ length bs → b ≡ get_or bs 0 b
    → (ls : List (List Term)) (l : List Term) → 1 ≤ length ls → l ≡ get_or ls 0 l
    → requests_in bs ls ≡ block_requests b l ++ requests_in (take (length bs - 1) (drop 1 bs)) (take (length ls - 1) (drop 1 ls))
first-block bs b some is ls l more so = blocks-are bs b _ ls l _ (first-rest bs b some is) (first-rest ls l more so)
