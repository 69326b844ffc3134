-- What putting a text into an output means.
use Rattle.std.specs.Prelude.{◌≡◌, ℕ, ◌+◌, ◌-◌, ◌^◌, min, ◌<◌, ◌≤◌, Bool, true, false, List, ◌++◌, take, flat_map, Option, None, Some, Result, Ok, Err, option_map, OnOk, OnErr, IfSome, IsErrOf}
use Rattle.acl_text.specs.declared.output.PutFault.{PutFault}
use Rattle.acl_text.specs.declared.output.PutFault.TheVariants.{Failed, Memory}

-- A count is kept in 64 bits, and stands still at their end.
abbrev pub COUNT_END : ℕ
COUNT_END = 2 ^ 64 - 1

-- A count that is kept in 64 bits, one higher: it stands still at their end.
abbrev pub one_more : ℕ → ℕ
one_more count = min (count + 1) COUNT_END

-- A count rose in a call: unless it stands at its end, it is greater after the call than before.
abbrev pub Rose : ℕ → ℕ → Type 0
Rose old new = new < COUNT_END → old < new

-- The pieces, one behind the other.
abbrev pub joined : List (List ℕ) → List ℕ
joined pieces = flat_map (λ p. p) pieces

-- What is told now is what was told before, and a front of the text behind it.
abbrev pub AppendsFront : List ℕ → Option (List ℕ) → List ℕ → Type 0
AppendsFront text None new = ⊥
AppendsFront text (Some old) new = (n : ℕ) × (new ≡ old ++ take n text)

-- The call was refused, and not for want of memory.
abbrev pub has_failed : {T : Type 0} → Result T PutFault → Bool
has_failed (Ok done) = false
has_failed (Err Failed) = true
has_failed (Err Memory) = false

-- A call that puts a text, from the output as it was to the output as it is then. It speaks of the members of
-- the trait one by one, as the trait itself names them; `Puts` takes them as one record.
pub record PutsBy {S T : Type 0} (told : S → Option (List ℕ)) (faults refusals : S → ℕ)
    (is_open : S → Bool) (keeps_rest : S → S → Type 0) (old new : S) (text : List ℕ)
    (result : Result T PutFault) : Type 0 where
  -- on success the text stands behind what was told
  pub ok : OnOk result (told new ≡ option_map (λ (b : List ℕ). b ++ text) (told old))
  -- on a refusal a front of it does, where the output still tells
  pub err : OnErr result (IfSome (told new) (AppendsFront text (told old)))
  pub opened : OnOk result (is_open new ≡ true)
  pub closed : OnErr result (is_open new ≡ false)
  pub rest : keeps_rest old new
  pub faults_grow : faults old ≤ faults new
  pub refusals_grow : refusals old ≤ refusals new
  -- each refusal has its cause
  pub failed : IsErrOf result Failed → Rose (faults old) (faults new)
  -- a call that did not fail counts no fault
  pub faults_stay : has_failed result ≡ false → faults new ≡ faults old
  pub memory : IsErrOf result Memory → Rose (refusals old) (refusals new)
