-- How an include line ends, where the tree tells its files.
use Prim.Native.Nat.{zero, suc}
use Rattle.std.proofs.Common.{◌≡◌, ◌≢◌, ℕ, ◌-◌, ◌<◌, ◌≤◌, true, false, nat_le, nat_lt, List, [], ◌++◌, length, Option, None, Some, Result, Ok, Err, IfSome, option_map, refl, ap, subst, ◌∙◌, sym, arith}
use Rattle.std.proofs.lemmas.Bool.Decides.{nat_tests}
use Rattle.std.proofs.lemmas.List.{take_all, length-take}
use Rattle.acl_text.specs.declared.faults.Fault.{Fault}
use Rattle.acl_text.specs.declared.faults.Code.TheVariants.{TooLong, NoFile, IncludeCount}
use Rattle.acl_host.specs.Files.{File, file_at}
use Rattle.acl_words.specs.Folders.{folder_of}
use Rattle.acl_words.specs.IncludeSteps.{front, front_at}
use Rattle.acl_words.specs.Splices.{Splice, nothing_read, with_include, is_long}
use Rattle.acl_words.specs.Splicing.{Include, behind_file, behind_include, splice_of}
use Rattle.acl_text.specs.Answers.{Leaves, Stops}
use Rattle.acl_text.specs.Refusals.{fault}
use Rattle.acl_text.specs.Steps.{◌>>=◌, or_err}
use Rattle.acl_text.proofs.AnswerLaws.{stops_whole}
use Rattle.acl_host.specs.WholeFiles.{read_told}
use Rattle.acl_host.specs.declared.look_faults.ReadFault.{ReadFault}

too_long : (so_far more : ℕ) → 4194304 < more → is_long so_far more ≡ true
too_long so_far more h = let e : nat_lt 4194304 more ≡ true = grind (arith, nat_tests) in rw e refl

file_too_long : (include : Include) (label bytes : List ℕ) (s : Splice) → 4194304 < length bytes → behind_file include label bytes s ≡ Err (fault TooLong label 0 [])
file_too_long include label bytes s h = rw (too_long s.size (length bytes) h) refl

-- one byte more than a file may have is enough of it
pub front_is_enough : (include : Include) (label bytes : List ℕ) (s : Splice) → behind_file include label (front bytes) s ≡ behind_file include label bytes s
front_is_enough include label bytes s = elim (nat_lt 4194304 (length bytes)) as (λ v. nat_lt 4194304 (length bytes) ≡ v → behind_file include label (front bytes) s ≡ behind_file include label bytes s) [
  | true ↦ λ e.
      let long : 4194304 < length bytes = grind (arith, nat_tests) in
      let too_long : 4194304 < length (front bytes) = omega (arith, length-take 4194305 bytes) in
      file_too_long include label (front bytes) s too_long ∙ sym (file_too_long include label bytes s long)
  | false ↦ λ e.
      let short : length bytes ≤ 4194305 = grind (arith, nat_tests) in
      ap (λ (bs : List ℕ). behind_file include label bs s) (take_all 4194305 bytes short)
] refl

below_limit : (n : ℕ) → n < 1024 → nat_le 1024 n ≡ false
below_limit n h = grind (arith, nat_tests)

at_limit : (n : ℕ) → 1024 ≤ n → nat_le 1024 n ≡ true
at_limit n h = grind (arith, nat_tests)

-- an error that tells no other fault than the one that is expected
refused : (told : Option Fault) (f : Fault) (expected : Result Splice Fault) → expected ≡ Err f
    → IfSome told (λ g. g ≡ f) → IfSome told (λ g. expected ≡ Err g)
refused None f expected is h = tt
refused (Some g) f expected is h = is ∙ ap Err (sym h)

many_includes : (fs : List File) (levels n : ℕ) (folder label path : List ℕ) (s : Splice) → levels ≢ 0 → 1024 ≤ s.includes
    → behind_include levels fs folder label n path s ≡ Err (fault IncludeCount label n path)
unfolding behind_include
many_includes fs zero n folder label path s h many = absurd (h refl)
many_includes fs (suc levels) n folder label path s h many = rw (at_limit s.includes many) refl

pub count_told : (told : Option (List File)) (levels n : ℕ) (folder label path : List ℕ) (s : Splice) (e : ReadFault)
    → levels ≢ 0 → 1024 ≤ s.includes → IfSome (read_told e) (λ f. f ≡ fault IncludeCount label n path)
    → IfSome told (λ fs. Stops read_told e (behind_include levels fs folder label n path s))
count_told None levels n folder label path s e h many is = tt
count_told (Some fs) levels n folder label path s e h many is =
    refused (read_told e) (fault IncludeCount label n path) _ (many_includes fs levels n folder label path s h many) is

-- a file that is not there ends the whole
missing : (o : Option (List ℕ)) (absent f : Fault) (next : List ℕ → Result Splice Fault)
    → or_err absent (option_map front o) ≡ Err f → (or_err absent o >>= next) ≡ Err f
missing None absent f next h = cc
missing (Some all) absent f next h = absurd (cc)

include_missing : (fs : List File) (levels n : ℕ) (folder label path : List ℕ) (s : Splice) (f : Fault)
    → levels ≢ 0 → s.includes < 1024 → front_at (fault NoFile label n path) fs (folder ++ path) ≡ Err f
    → behind_include levels fs folder label n path s ≡ Err f
unfolding behind_include
include_missing fs zero n folder label path s f h few none = absurd (h refl)
include_missing fs (suc levels) n folder label path s f h few none = rw (below_limit s.includes few)
    (missing (file_at fs (folder ++ path)) (fault NoFile label n path) f
    (λ bytes. behind_file (behind_include levels fs folder) (folder ++ path) bytes (with_include s)) none)

-- where the file at the path is not read, the include line ends so
pub include_ends : (told : Option (List File)) (levels n : ℕ) (folder label path built read_path : List ℕ) (s : Splice) (e : ReadFault)
    → levels ≢ 0 → s.includes < 1024 → built ≡ folder ++ path → read_path ≡ built
    → IfSome told (λ fs. Stops read_told e (front_at (fault NoFile label n path) fs read_path))
    → IfSome told (λ fs. Stops read_told e (behind_include levels fs folder label n path s))
include_ends None levels n folder label path built read_path s e h few o p stops = tt
include_ends (Some fs) levels n folder label path built read_path s e h few o p stops =
    stops_whole read_told e (front_at (fault NoFile label n path) fs read_path) (behind_include levels fs folder label n path s) stops
    (λ f none. include_missing fs levels n folder label path s f h few
    (subst (λ (q : List ℕ). front_at (fault NoFile label n path) fs q ≡ Err f) (p ∙ o) none))

read_file : (o : Option (List ℕ)) (absent : Fault) (bytes : List ℕ) → or_err absent (option_map front o) ≡ Ok bytes
    → (all : List ℕ) × (o ≡ Some all) × (bytes ≡ front all)
read_file None absent bytes h = absurd (cc)
read_file (Some all) absent bytes h = (all, refl, cc)

include_of : (fs : List File) (levels n : ℕ) (folder label path all : List ℕ) (s : Splice)
    → levels ≢ 0 → s.includes < 1024 → file_at fs (folder ++ path) ≡ Some all
    → behind_file (behind_include (levels - 1) fs folder) (folder ++ path) (front all) (with_include s) ≡ behind_include levels fs folder label n path s
unfolding behind_include
include_of fs zero n folder label path all s h few read = absurd (h refl)
include_of fs (suc levels) n folder label path all s h few read =
    let same : suc levels - 1 ≡ levels = omega arith in
    rw (below_limit s.includes few, read, same) (front_is_enough (behind_include levels fs folder) (folder ++ path) all (with_include s))

include_read : (fs : List File) (levels n : ℕ) (folder label path bytes : List ℕ) (s : Splice)
    → levels ≢ 0 → s.includes < 1024
    → front_at (fault NoFile label n path) fs (folder ++ path) ≡ Ok bytes
    → behind_file (behind_include (levels - 1) fs folder) (folder ++ path) bytes (with_include s) ≡ behind_include levels fs folder label n path s
include_read fs levels n folder label path bytes s h few read =
    let r = read_file (file_at fs (folder ++ path)) (fault NoFile label n path) bytes read in
    ap (λ (bs : List ℕ). behind_file (behind_include (levels - 1) fs folder) (folder ++ path) bs (with_include s)) r.2
    ∙ include_of fs levels n folder label path r.0 s h few r.1

-- what the file at the path leaves, is what the include line leaves
pub include_told : {X : Type 0} (told later : Option (List File)) (levels n : ℕ) (folder label path built read_path inner bytes read_bytes : List ℕ) (s counted_s now : Splice) (result : Result X ReadFault)
    → levels ≢ 0 → s.includes < 1024 → later ≡ told → built ≡ folder ++ path → read_path ≡ built → inner ≡ built → bytes ≡ read_bytes → counted_s ≡ with_include s
    → IfSome told (λ fs. front_at (fault NoFile label n path) fs read_path ≡ Ok read_bytes)
    → IfSome later (λ fs. Leaves read_told now result (behind_file (behind_include (levels - 1) fs folder) inner bytes counted_s))
    → IfSome told (λ fs. Leaves read_told now result (behind_include levels fs folder label n path s))
include_told None later levels n folder label path built read_path inner bytes read_bytes s counted_s now result h few same o p i b k read gives = tt
include_told {X} (Some fs) later levels n folder label path built read_path inner bytes read_bytes s counted_s now result h few same o p i b k read gives =
    let told_gives : Leaves read_told now result (behind_file (behind_include (levels - 1) fs folder) inner bytes counted_s) =
    subst (λ (o : Option (List File)). IfSome o (λ fs. Leaves read_told now result (behind_file (behind_include (levels - 1) fs folder) inner bytes counted_s))) same gives in
    let same_file : behind_file (behind_include (levels - 1) fs folder) inner bytes counted_s ≡ behind_file (behind_include (levels - 1) fs folder) (folder ++ path) read_bytes (with_include s) = cc in
    let read_here : front_at (fault NoFile label n path) fs (folder ++ path) ≡ Ok read_bytes =
    subst (λ (q : List ℕ). front_at (fault NoFile label n path) fs q ≡ Ok read_bytes) (p ∙ o) read in
    subst (λ (e : Result Splice Fault). Leaves read_told now result e) (same_file ∙ include_read fs levels n folder label path read_bytes s h few read_here) told_gives

policy_missing : (fs : List File) (path : List ℕ) (f : Fault) → front_at (fault NoFile path 0 []) fs path ≡ Err f → splice_of fs path ≡ Err f
unfolding splice_of
policy_missing fs path f none = missing (file_at fs path) (fault NoFile path 0 []) f
    (λ bytes. behind_file (behind_include 8 fs (folder_of path)) path bytes nothing_read) none

-- where the file of the policy is not read, the splice ends so
pub policy_ends : (told : Option (List File)) (path label : List ℕ) (e : ReadFault) → label ≡ path
    → IfSome told (λ fs. Stops read_told e (front_at (fault NoFile label 0 []) fs path))
    → IfSome told (λ fs. Stops read_told e (splice_of fs path))
policy_ends None path label e l stops = tt
policy_ends (Some fs) path label e l stops =
    stops_whole read_told e (front_at (fault NoFile label 0 []) fs path) (splice_of fs path) stops
    (λ f none. policy_missing fs path f (subst (λ (q : List ℕ). front_at (fault NoFile q 0 []) fs path ≡ Err f) l none))

policy_of : (fs : List File) (path all : List ℕ) → file_at fs path ≡ Some all
    → behind_file (behind_include 8 fs (folder_of path)) path (front all) nothing_read ≡ splice_of fs path
unfolding splice_of
policy_of fs path all read = rw (read, front_is_enough (behind_include 8 fs (folder_of path)) path all nothing_read) refl

policy_read : (fs : List File) (path bytes : List ℕ)
    → front_at (fault NoFile path 0 []) fs path ≡ Ok bytes
    → behind_file (behind_include 8 fs (folder_of path)) path bytes nothing_read ≡ splice_of fs path
policy_read fs path bytes read =
    let r = read_file (file_at fs path) (fault NoFile path 0 []) bytes read in
    ap (λ (bs : List ℕ). behind_file (behind_include 8 fs (folder_of path)) path bs nothing_read) r.2 ∙ policy_of fs path r.0 r.1

-- what the file of the policy leaves, is the splice
pub policy_told : {X : Type 0} (told later : Option (List File)) (folder path label bytes read_bytes : List ℕ) (s now : Splice) (result : Result X ReadFault)
    → later ≡ told → folder ≡ folder_of path → label ≡ path → bytes ≡ read_bytes → s ≡ nothing_read
    → IfSome told (λ fs. front_at (fault NoFile label 0 []) fs path ≡ Ok read_bytes)
    → IfSome later (λ fs. Leaves read_told now result (behind_file (behind_include 8 fs folder) label bytes s))
    → IfSome told (λ fs. Leaves read_told now result (splice_of fs path))
policy_told None later folder path label bytes read_bytes s now result same f l b e read gives = tt
policy_told {X} (Some fs) later folder path label bytes read_bytes s now result same f l b e read gives =
    let told_gives : Leaves read_told now result (behind_file (behind_include 8 fs folder) label bytes s) =
    subst (λ (o : Option (List File)). IfSome o (λ fs. Leaves read_told now result (behind_file (behind_include 8 fs folder) label bytes s))) same gives in
    let same_file : behind_file (behind_include 8 fs folder) label bytes s ≡ behind_file (behind_include 8 fs (folder_of path)) path read_bytes nothing_read = cc in
    let read_here : front_at (fault NoFile path 0 []) fs path ≡ Ok read_bytes =
    subst (λ (q : List ℕ). front_at (fault NoFile q 0 []) fs path ≡ Ok read_bytes) l read in
    subst (λ (r : Result Splice Fault). Leaves read_told now result r) (same_file ∙ policy_read fs path read_bytes read_here) told_gives
