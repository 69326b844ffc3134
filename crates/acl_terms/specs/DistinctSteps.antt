-- Words and numbers of which each is taken once.
use Rattle.std.specs.Prelude.{◌≡◌, ℕ, Bool, ◌==◌, if◌then◌else◌, List, [], ◌∷◌, ◌++◌, map}
use Rattle.std.specs.List.{list_any}
use Rattle.std.specs.Str.{bytes_eq}
use Rattle.acl_naming.specs.MarkSteps.{marked}
use Rattle.acl_words.specs.declared.word_lists.Word.{Word}
use Rattle.acl_text.specs.declared.text_keys.TextKey.{TextKey}

-- The texts of the keys.
abbrev pub texts_in : List TextKey → List (List ℕ)
texts_in keys = map (λ k. k.text.now) keys

-- The keys have the same text.
abbrev pub same_key : TextKey → TextKey → Bool
same_key v k = bytes_eq v.text.now k.text.now

-- The words whose texts are new: not among those that were seen, nor that of a word before.
abbrev pub new_words : List (List ℕ) → List Word → List Word
new_words seen [] = []
new_words seen (w ∷ ws) =
    if list_any (bytes_eq w.text) seen then new_words seen ws
    else w ∷ new_words (seen ++ w.text ∷ []) ws

-- The number is among the numbers.
abbrev pub has : ℕ → List ℕ → Bool
has n ns = list_any (λ m. m == n) ns

-- The lists have the same numbers.
abbrev pub AreSame : List ℕ → List ℕ → Type 0
AreSame ms ns = (n : ℕ) → has n ms ≡ has n ns

-- Marks stand at just these numbers.
abbrev pub AreMarked : List Bool → List ℕ → Type 0
AreMarked marks ns = (n : ℕ) → marked marks n ≡ has n ns
