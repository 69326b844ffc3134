-- The paths of a folder's naming files, in front and behind; and the names that a listing gives.
use Rattle.std.proofs.Common.{◌≡◌, ℕ, ◌+◌, ◌≤◌, arith, nat_lt, le-ltb, subst, Bool, true, false, if◌then◌else◌, List, ◌∷◌, ◌++◌, length, map, take, drop, Option, None, Some, Result, Ok, Err, IfSome, refl, ap, sym, ◌∙◌}
use Rattle.std.proofs.lemmas.List.{take-map, drop-map}
use Rattle.std.proofs.Math.Seq.{take-append_seam, drop-append_seam}
use Rattle.acl_text.specs.declared.faults.Fault.{Fault}
use Rattle.acl_host.specs.Files.{File, is_folder, names_under}
use Rattle.acl_text.specs.declared.faults.Code.TheVariants.{TooManyFiles}
use Rattle.acl_naming.specs.Definitions.{Naming}
use Rattle.acl_naming.specs.declared.item_words.NamingKind.{NamingKind}
use Rattle.acl_naming.specs.declared.item_words.NamingKind.TheVariants.{Networks, Services}
use Rattle.acl_host.specs.Outside.{OnlyReads, TreeMembers}
use Rattle.acl_host.specs.declared.look_faults.ReadFault.{ReadFault}
use Rattle.acl_text.specs.Answers.{Gives}
use Rattle.acl_text.specs.Steps.{◌>>=◌}
use Rattle.acl_text.specs.Refusals.{file_fault}
use Rattle.acl_host.specs.WholeFiles.{listing, read_told}
use Rattle.acl_load.specs.Loading.{MOST_FILES, naming_paths, net_paths, svc_paths, no_definitions, all_of, all_files, both_kinds, definitions_of, with_file}

pub front_is : {X : Type 0} (f : X → List ℕ) (all : List X) (n : ℕ) (xs ys : List (List ℕ))
    → map f all ≡ xs ++ ys → n ≡ length xs → map f (take n all) ≡ xs
front_is f all n xs ys e is = sym (take-map f n all) ∙ ap (take n) e
    ∙ ap (λ k. take k (xs ++ ys)) is ∙ take-append_seam xs ys

pub back_is : {X : Type 0} (f : X → List ℕ) (all : List X) (n : ℕ) (xs ys : List (List ℕ))
    → map f all ≡ xs ++ ys → n ≡ length xs → map f (drop n all) ≡ ys
back_is f all n xs ys e is = sym (drop-map f n all) ∙ ap (drop n) e ∙ ap (λ k. drop k (xs ++ ys)) is
    ∙ drop-append_seam xs ys

chosen : (b : Bool) (f : Fault) (names found : List (List ℕ))
    → (if b then Ok found else Err f) ≡ Ok names → found ≡ names
chosen true f names found e = cc
chosen false f names found e = let e2 : Err f ≡ Ok names = e in cc

pub paths_told : (told : Option (List File)) (folder : List ℕ) (names paths : List (List ℕ))
    → IfSome told (λ files. listing folder files ≡ Ok names) → paths ≡ naming_paths folder names
    → IfSome told (λ files. paths ≡ naming_paths folder (names_under folder files))
unfolding listing
paths_told None folder names paths e is = tt
paths_told (Some files) folder names paths e is =
    is ∙ sym (ap (naming_paths folder)
    (chosen (is_folder folder files) _ names (names_under folder files) e))

-- networks, then services
kinds_read : (files : List File) (paths networks services : List (List ℕ)) (n : ℕ)
    (start base : Naming) → start ≡ no_definitions → n ≡ length networks
    → all_of paths Networks 0 networks files start ≡ Ok base
    → both_kinds paths networks services files ≡ all_of paths Services n services files base
unfolding both_kinds
kinds_read files paths networks services n start base none is e =
    rw (sym none, e, sym is) refl

pub kinds_told : (told now : Option (List File)) (paths networks services : List (List ℕ)) (n : ℕ)
    (start base : Naming) (result : Result Naming ReadFault) → now ≡ told → start ≡ no_definitions
    → n ≡ length networks
    → IfSome told (λ files. all_of paths Networks 0 networks files start ≡ Ok base)
    → IfSome now (λ files. Gives read_told result (all_of paths Services n services files base))
    → IfSome told (λ files. Gives read_told result (both_kinds paths networks services files))
kinds_told None now paths networks services n start base result same none is first second = tt
kinds_told (Some files) now paths networks services n start base result same none is first second =
    let at_once = subst (λ t. IfSome t
    (λ files. Gives read_told result (all_of paths Services n services files base))) same
    second in
    subst (λ expected. Gives read_told result expected)
    (sym (kinds_read files paths networks services n start base none is first)) at_once

-- a folder that has not too many naming files
few_files : (folder : List ℕ) (names : List (List ℕ)) (files : List File)
    → length (naming_paths folder names) ≤ 4096
    → (if nat_lt MOST_FILES (length (naming_paths folder names))
    then Err (file_fault TooManyFiles folder) else all_files folder names files)
    ≡ all_files folder names files
few_files folder names files few = rw le-ltb refl

defined_read : (files : List File) (folder : List ℕ) (names : List (List ℕ))
    → length (naming_paths folder names) ≤ 4096 → listing folder files ≡ Ok names
    → definitions_of folder files ≡ all_files folder names files
unfolding definitions_of
defined_read files folder names few e = rw e (few_files folder names files few)

pub defined_told : (told now : Option (List File)) (folder : List ℕ)
    (names paths networks services : List (List ℕ)) (base : Naming) → now ≡ told
    → IfSome told (λ files. listing folder files ≡ Ok names)
    → paths ≡ naming_paths folder names → networks ≡ net_paths folder names
    → services ≡ svc_paths folder names → length paths ≤ 4096
    → IfSome now (λ files. both_kinds paths networks services files ≡ Ok base)
    → IfSome told (λ files. definitions_of folder files ≡ Ok base)
defined_told None now folder names paths networks services base same listed all front back few
    read = tt
defined_told (Some files) now folder names paths networks services base same listed all front back
    few read =
    let at_once : both_kinds paths networks services files ≡ Ok base =
    subst (λ t. IfSome t (λ files. both_kinds paths networks services files ≡ Ok base)) same
    read in
    let few_paths : length (naming_paths folder names) ≤ 4096 =
    subst (λ ps. length ps ≤ 4096) all few in
    defined_read files folder names few_paths listed
    ∙ ap (λ ps. both_kinds ps (net_paths folder names) (svc_paths folder names) files) (sym all)
    ∙ ap (λ ns. both_kinds paths ns (svc_paths folder names) files) (sym front)
    ∙ ap (λ ss. both_kinds paths networks ss files) (sym back)
    ∙ at_once

-- ---- one file after the other

pub reads-on : {S : Type 0} (tree : TreeMembers S) (first next last : S) → OnlyReads tree first next → OnlyReads tree next last
    → OnlyReads tree first last
reads-on tree first next last h k =
    let was = h.reads_grow in
    let is = k.reads_grow in
    record {
      looks = record {
        files_stay = k.looks.files_stay ∙ h.looks.files_stay;
        begun_stays = k.looks.begun_stays ∙ h.looks.begun_stays;
        faults_stay = k.looks.faults_stay ∙ h.looks.faults_stay;
        refusals_stay = k.looks.refusals_stay ∙ h.looks.refusals_stay;
      };
      lists_stay = k.lists_stay ∙ h.lists_stay;
      reads_grow = omega (arith, was, is);
    }

-- The next file is added.
pub all-next : (told now : Option (List File)) (paths : List (List ℕ)) (kind : NamingKind) (n : ℕ) (path : List ℕ)
    (left more : List (List ℕ)) (base next : Naming) (whole : List File → Result Naming Fault) → now ≡ told → left ≡ path ∷ more
    → IfSome now (λ files. with_file paths kind n path files base ≡ Ok next)
    → IfSome told (λ files. all_of paths kind n left files base ≡ whole files)
    → IfSome told (λ files. all_of paths kind (n + 1) more files next ≡ whole files)
all-next None now paths kind n path left more base next whole same is one had = tt
all-next (Some files) now paths kind n path left more base next whole same is one had =
    let added = subst (λ t. IfSome t (λ files. with_file paths kind n path files base ≡ Ok next)) same one in
    sym (ap (λ r. r >>= λ b. all_of paths kind (n + 1) more files b) added)
    ∙ ap (λ l. all_of paths kind n l files base) (sym is) ∙ had
