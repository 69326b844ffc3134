-- The number of some words, and the words that are those of a workload, are the same.
use Rattle.std.proofs.Common.{◌≡◌, ◌∙◌, ℕ, List, [], ◌∷◌, codes, Option, None, Some, IfSome, IfNone, ap, sym}
use Rattle.std.specs.Str.{bytes_eq}
use Rattle.std.proofs.lemmas.Option.{none-some}
use Rattle.std.proofs.lemmas.Slice.Eq.{bytes_eq-Decides}
use Rattle.acl_packet.proofs.ChoiceLaws.{guarded}
use Rattle.acl_options.specs.ComputableCommands.{count_in}
use Rattle.acl_options.specs.WorkloadWords.{IsWorkload, workload_of}
use Rattle.acl_options.proofs.CommandLaws.{count-named, named-count}

with-name : (name text : List ℕ) (n : ℕ) → workload_of (name ∷ text ∷ []) ≡ Some n → IsWorkload (name ∷ text ∷ []) n
with-name name text n e =
    let p = guarded (bytes_eq name (codes "--workload")) (count_in 1024 text) n e in
    let count = count-named 1024 text n p.1 in
    record {
      text = text;
      words_are = ap (λ t. t ∷ text ∷ []) ((bytes_eq-Decides name (codes "--workload")).0 p.0);
      number = count.number;
      least = count.from_one;
      most = count.at_most;
    }

pub number-asked : (words : List (List ℕ)) (n : ℕ) → workload_of words ≡ Some n → IsWorkload words n
number-asked [] n e = absurd (none-some n e)
number-asked (name ∷ []) n e = absurd (none-some n e)
number-asked (name ∷ text ∷ []) n e = with-name name text n e
number-asked (name ∷ text ∷ more ∷ rest) n e = absurd (none-some n e)

pub asked-number : (words : List (List ℕ)) (n : ℕ) → IsWorkload words n → workload_of words ≡ Some n
asked-number words n w = ap workload_of w.words_are ∙ named-count 1024 w.text n (record { number = w.number; from_one = w.least; at_most = w.most })

pub workload_some : (words : List (List ℕ)) (o : Option ℕ) → o ≡ workload_of words → IfSome o (IsWorkload words)
workload_some words None e = tt
workload_some words (Some n) e = number-asked words n (sym e)

pub workload_none : (words : List (List ℕ)) (o : Option ℕ) → o ≡ workload_of words → IfNone o ((n : ℕ) → IsWorkload words n → ⊥)
workload_none words None e = λ n w. none-some n (e ∙ asked-number words n w)
workload_none words (Some m) e = tt
