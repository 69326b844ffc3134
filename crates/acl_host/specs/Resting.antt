-- The rest of a tree stays over no call, and over two calls where it stays over each.
use Rattle.std.specs.Prelude.{◌≡◌, ℕ, List, Option, None, Some, IfSome, unwrap_or}
use Rattle.std.proofs.Common.{refl, ap, subst, sym, ◌∙◌}
use Rattle.acl_host.specs.Files.{File, BothTell, SameOrNone, OthersStay, RestStays}

nothing-is-some : {A : Type 0} {x : A} → None ≡ Some x → ⊥
nothing-is-some {A = A} e = let P : Option A → Type 0 = λ o. IfSome o (λ x. ⊥) in subst P e tt

begun-same : (begun : Option (List ℕ)) → SameOrNone begun begun
begun-same None = tt
begun-same (Some path) = refl

begun-joined : (first middle last : Option (List ℕ)) → SameOrNone first middle
    → SameOrNone middle last → SameOrNone first last
begun-joined first middle None p q = tt
begun-joined first None (Some path) p q = absurd (nothing-is-some q)
begun-joined first (Some other) (Some path) p q = p ∙ q

others-same : (files : Option (List File)) (begun : Option (List ℕ))
    → BothTell files files (OthersStay begun)
others-same None begun = refl
others-same (Some fs) None = λ q. refl
others-same (Some fs) (Some path) = λ q ne. refl

stay-joined : (begun then_begun : Option (List ℕ)) (first middle last : List File)
    → SameOrNone begun then_begun → OthersStay begun first middle
    → OthersStay then_begun middle last → OthersStay begun first last
stay-joined None None first middle last b p q = λ path. q path ∙ p path
stay-joined None (Some other) first middle last b p q = absurd (nothing-is-some b)
stay-joined (Some own) None first middle last b p q = λ path ne. q path ∙ p path ne
stay-joined (Some own) (Some other) first middle last b p q =
    let same : own ≡ other = ap (λ o. unwrap_or o own) b in
    λ path ne. q path (λ e. ne (e ∙ sym same)) ∙ p path ne

others-joined : (begun then_begun : Option (List ℕ)) (first middle last : Option (List File))
    → SameOrNone begun then_begun → BothTell first middle (OthersStay begun)
    → BothTell middle last (OthersStay then_begun) → BothTell first last (OthersStay begun)
others-joined begun then_begun None None last b p q = q
others-joined begun then_begun None (Some middle) last b p q = absurd (nothing-is-some (sym p))
others-joined begun then_begun (Some first) None last b p q = absurd p
others-joined begun then_begun (Some first) (Some middle) None b p q = absurd q
others-joined begun then_begun (Some first) (Some middle) (Some last) b p q =
    stay-joined begun then_begun first middle last b p q

pub rest_same : (files : Option (List File)) (begun : Option (List ℕ)) (lists reads : ℕ)
    → RestStays files files begun begun lists lists reads reads
rest_same files begun lists reads =
    record {
      begun = begun-same begun;
      lists = refl;
      reads = refl;
      others = others-same files begun;
    }

pub rest_joined : {first middle last : Option (List File)} {b1 b2 b3 : Option (List ℕ)}
    {l1 l2 l3 r1 r2 r3 : ℕ}
    → RestStays first middle b1 b2 l1 l2 r1 r2 → RestStays middle last b2 b3 l2 l3 r2 r3
    → RestStays first last b1 b3 l1 l3 r1 r3
rest_joined {first = first} {middle = middle} {last = last} {b1 = b1} {b2 = b2} {b3 = b3} p q =
    record {
      begun = begun-joined b1 b2 b3 p.begun q.begun;
      lists = q.lists ∙ p.lists;
      reads = q.reads ∙ p.reads;
      others = others-joined b1 b2 first middle last p.begun p.others q.others;
    }
