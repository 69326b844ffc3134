-- What an error of a part says of the whole.
use Rattle.std.proofs.Common.{◌≡◌, Option, None, Some, Result, Err, IfSome, ap}
use Rattle.acl_text.specs.Answers.{Stops}
use Rattle.acl_text.specs.Steps.{◌>>=◌}

by_told : {A B F : Type 0} (told : Option F) (a : Result A F) (b : Result B F) → IfSome told (λ f. a ≡ Err f) → ((f : F) → a ≡ Err f → b ≡ Err f) → IfSome told (λ f. b ≡ Err f)
by_told None a b h k = tt
by_told (Some f) a b h k = k f h

-- where a part ends in an error, the whole does
pub stops_whole : {A B E F : Type 0} (told : E → Option F) (e : E) (a : Result A F) (b : Result B F) → Stops told e a → ((f : F) → a ≡ Err f → b ≡ Err f) → Stops told e b
stops_whole told e a b h k = by_told (told e) a b h k

pub step_stops : {A B F : Type 0} (a : Result A F) (next : A → Result B F) (f : F) → a ≡ Err f → (a >>= next) ≡ Err f
step_stops a next f h = ap (λ r. r >>= next) h
