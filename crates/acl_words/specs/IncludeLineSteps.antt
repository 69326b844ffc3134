-- How a contract sees what a line asks for.
use Rattle.std.specs.Prelude.{◌≡◌, true}
use Rattle.acl_words.specs.IncludeLines.{Asked, Nothing, Wrong, Wanted, is_path}
use Rattle.acl_words.specs.declared.include_lines.Asked.{Asked as CodeAsked}
use Rattle.acl_words.specs.declared.include_lines.Asked.TheVariants as code

abbrev pub asked_view : CodeAsked → Asked
asked_view code.Nothing = Nothing
asked_view (code.Wrong path) = Wrong path.now
asked_view (code.Wanted path) = Wanted path.now

abbrev pub HasGoodPath : Asked → Type 0
HasGoodPath Nothing = Unit {0}
HasGoodPath (Wrong path) = Unit {0}
HasGoodPath (Wanted path) = is_path path ≡ true
