-- The pieces of a fault's line, one behind the other.
use Rattle.std.proofs.Common.{◌≡◌, ℕ, Bool, true, false, not, ◌==◌, if◌then◌else◌, List, [], ◌∷◌, ◌++◌, take, map, codes, decimal, refl, ap, sym, ◌∙◌}
use Rattle.std.proofs.lemmas.List.{append_assoc, append-nil}
use Rattle.acl_text.specs.declared.faults.Fault.{Fault}
use Rattle.acl_text.specs.Output.{joined}
use Rattle.acl_load.specs.FaultLines.{code_text, fault_line, line_text, visible, word_text}
use Rattle.acl_load.specs.FaultLineSteps.{only_if, space_before}

-- a mark and a text, where they are wanted, and the rest
marked : (b : Bool) (mark text rest : List ℕ)
    → only_if (not b) mark ++ (only_if (not b) text ++ rest) ≡ (if b then [] else mark ++ text) ++ rest
marked true mark text rest = refl
marked false mark text rest = sym (append_assoc mark text rest)

word-marked : (word rest : List ℕ)
    → space_before word ++ (map visible (take 64 word) ++ rest) ≡ word_text word ++ rest
word-marked [] rest = refl
word-marked (b ∷ bs) rest = sym (append_assoc (codes " ") (map visible (take 64 (b ∷ bs))) rest)

-- six texts, from the left and from the right
six : (a b c d e f : List ℕ) → a ++ (b ++ (c ++ (d ++ (e ++ (f ++ []))))) ≡ a ++ b ++ c ++ d ++ e ++ f
six a b c d e f = sym (
    append_assoc (a ++ b ++ c ++ d) e f
    ∙ append_assoc (a ++ b ++ c) d (e ++ f)
    ∙ append_assoc (a ++ b) c (d ++ (e ++ f))
    ∙ append_assoc a b (c ++ (d ++ (e ++ f)))
    ∙ ap (λ z. a ++ (b ++ (c ++ (d ++ (e ++ z))))) (sym (append-nil f)))

pieces-are : (fault : Fault)
    → joined (fault.label ∷ only_if (not (fault.line == 0)) (codes ":")
    ∷ only_if (not (fault.line == 0)) (decimal fault.line) ∷ codes ": " ∷ code_text fault.code
    ∷ space_before fault.word ∷ map visible (take 64 fault.word) ∷ codes "\n" ∷ []) ≡ fault_line fault
unfolding fault_line
pieces-are fault =
    let code_rest : List ℕ → List ℕ = λ z. codes ": " ++ (code_text fault.code ++ z) in
    ap (λ z. fault.label ++ z) (marked (fault.line == 0) (codes ":") (decimal fault.line) (code_rest
    (space_before fault.word ++ (map visible (take 64 fault.word) ++ (codes "\n" ++ [])))))
    ∙ ap (λ z. fault.label ++ (line_text fault.line ++ code_rest z)) (word-marked fault.word (codes "\n" ++ []))
    ∙ six fault.label (line_text fault.line) (codes ": ") (code_text fault.code) (word_text fault.word) (codes "\n")

pub parts-are : (fault : Fault) (label colon number code space shown : List ℕ) → label ≡ fault.label
    → colon ≡ only_if (not (fault.line == 0)) (codes ":")
    → number ≡ only_if (not (fault.line == 0)) (decimal fault.line) → code ≡ code_text fault.code
    → space ≡ space_before fault.word → shown ≡ map visible (take 64 fault.word)
    → joined (label ∷ colon ∷ number ∷ codes ": " ∷ code ∷ space ∷ shown ∷ codes "\n" ∷ []) ≡ fault_line fault
parts-are fault label colon number code space shown e f g h k l = rw (e, f, g, h, k, l) (pieces-are fault)
