-- A path of an include line is ASCII.
use Prim.Native.Nat.{zero, suc}
use Rattle.std.proofs.Common.{◌≡◌, ℕ, ◌<◌, Bool, true, false, ◌&&◌, nat_le, List, [], ◌∷◌, length, arith}
use Rattle.std.proofs.lemmas.Bool.Decides.{nat_tests}
use Rattle.std.specs.List.{list_all}
use Rattle.std.specs.Str.{IsAscii}
use Rattle.acl_words.specs.IncludeLines.{is_path, is_printable}

both : (a b : Bool) → (a && b) ≡ true → (a ≡ true) × (b ≡ true)
both true true h = (h, h)
both true false h = absurd (cc)
both false b h = absurd (cc)

printable_is_ascii : (b : ℕ) → is_printable b ≡ true → b < 128
printable_is_ascii b h = grind (arith, nat_tests)

printables_are_ascii : (bs : List ℕ) → list_all is_printable bs ≡ true → IsAscii bs
printables_are_ascii [] h i = omega arith
printables_are_ascii (b ∷ bs) h zero = printable_is_ascii b (both (is_printable b) (list_all is_printable bs) h).0
printables_are_ascii (b ∷ bs) h (suc i) = printables_are_ascii bs (both (is_printable b) (list_all is_printable bs) h).1 i

pub path_is_ascii : (path : List ℕ) → is_path path ≡ true → IsAscii path
path_is_ascii path h = printables_are_ascii path (both _ (list_all is_printable path) (both (nat_le (length path) 255 && list_all is_printable path) _ h).0).1
