-- How a contract sees the words of a list, wherever they are kept.
use Rattle.std.specs.Prelude.{◌≢◌, List, []}
use Rattle.acl_words.specs.declared.word_lists.KeptWords.{KeptWords}
use Rattle.acl_words.specs.declared.word_lists.KeptWords.TheVariants.{Nowhere, Here, Line, Text}
use Rattle.acl_words.specs.declared.word_lists.Word.{Word}

abbrev pub words_in : KeptWords → List Word
words_in Nowhere = []
words_in (Here words) = words
words_in (Line words) = words.value
words_in (Text words) = words.value

-- Where words are kept, there are some.
abbrev pub IsFull : KeptWords → Type 0
IsFull Nowhere = Unit {0}
IsFull (Here words) = words ≢ []
IsFull (Line words) = words.value ≢ []
IsFull (Text words) = words.value ≢ []
