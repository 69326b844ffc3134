-- The words that a scan has left.
use Rattle.std.specs.Prelude.{List}
use Rattle.acl_words.specs.Tokens.{Token}
use Rattle.acl_words.specs.Words.{Between}
use Rattle.acl_words.specs.ReadingSteps.{words_on}
use Rattle.acl_words.specs.declared.scanning.Scan.{Scan}

abbrev pub words_left : Scan → List Token
words_left s = words_on Between s.places s.rest.now
