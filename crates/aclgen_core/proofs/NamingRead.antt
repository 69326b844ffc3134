-- The folder of a workload's naming files is read, and what they define is sound.
use Rattle.std.proofs.Common.{◌≡◌, ℕ, ◌+◌, ◌≤◌, zero, suc, false, nat_lt, List, [], ◌∷◌, length, map, codes, Option, None, Some, Result, Ok, refl, ap, sym, subst, ◌∙◌, arith}
use Rattle.std.specs.List.{list_any, range_with_len}
use Rattle.std.proofs.lemmas.Bool.{cond-false, false≢true}
use Rattle.std.proofs.lemmas.Bool.Decides.{nat_tests}
use Rattle.std.specs.Option.{option_or}
use Rattle.acl_text.specs.declared.faults.Code.TheVariants.{TooLong}
use Rattle.acl_text.specs.declared.faults.Fault.{Fault}
use Rattle.acl_text.specs.Steps.{◌>>=◌}
use Rattle.acl_host.specs.Files.{names_under}
use Rattle.acl_host.specs.WholeFiles.{at_most, listing, whole_file}
use Rattle.acl_naming.specs.declared.item_words.NamingKind.TheVariants.{Networks, Services}
use Rattle.acl_naming.specs.Checking.{HasNoCycle, first_undefined, undefined_in}
use Rattle.acl_naming.specs.Definitions.{Definition, Naming, index_of, items_at, items_in}
use Rattle.acl_naming.specs.NamingFiles.{file_added}
use Rattle.acl_naming.specs.Reach.{is_reference, refers}
use Rattle.acl_naming.specs.Tables.{name_at}
use Rattle.acl_load.specs.Loading.{AnswersWith, Loads, both_kinds, definitions_of, naming_paths, or_fault, with_file}
use Rattle.aclgen_core.specs.WorkloadTexts.{networks_text, services_text}
use Rattle.aclgen_core.specs.WorkloadFiles.{workload_files, workload_folder}
use Rattle.aclgen_core.specs.WorkloadNames.{each, network, service, workload_naming}
use Rattle.aclgen_core.proofs.NamingLaws.{networks_read, services_read}
use Rattle.aclgen_core.proofs.TextLengths.{networks_short, services_short}

-- ---- the two files

abbrev paths : List (List ℕ)
paths = codes "def/w.net" ∷ codes "def/w.svc" ∷ []

not_longer : (len : ℕ) → len ≤ 262144 → nat_lt 4194304 len ≡ false
not_longer len short = grind (arith, nat_tests)

-- What is made of the bytes of each file.
abbrev networks_in : List ℕ → Result Naming Fault
networks_in bytes = or_fault paths (file_added Networks 0 [] bytes) >>= λ ds. Ok (record { networks = ds; services = [] })

abbrev services_in : Naming → List ℕ → Result Naming Fault
services_in base bytes = or_fault paths (file_added Services 1 base.services bytes) >>= λ ds. Ok (record { networks = base.networks; services = ds })

abbrev whole : List ℕ → List ℕ → Result (List ℕ) Fault
whole path bytes = at_most 4194304 TooLong path (Some bytes)

abbrev behind_networks : ℕ → Naming → Result Naming Fault
behind_networks n base = (whole (codes "def/w.svc") (services_text n) >>= services_in base) >>= λ next. Ok next

whole_is : (path bytes : List ℕ) → length bytes ≤ 262144 → whole path bytes ≡ Ok bytes
whole_is path bytes short = cond-false (nat_lt 4194304 (length bytes)) _ (Ok bytes) (not_longer (length bytes) short)

definitions_read : (n : ℕ) → n ≤ 1024 → definitions_of workload_folder (workload_files n) ≡ Ok (workload_naming n)
unfolding definitions_of both_kinds with_file whole_file listing names_under
definitions_read n few =
    ap (λ r. ((r >>= networks_in) >>= λ next. Ok next) >>= behind_networks n) (whole_is (codes "def/w.net") (networks_text n) (networks_short n few))
    ∙ ap (λ r. ((or_fault paths r >>= λ ds. Ok (record { networks = ds; services = [] })) >>= λ next. Ok next) >>= behind_networks n) (networks_read n few)
    ∙ ap (λ r. (r >>= services_in (record { networks = each network n; services = [] })) >>= λ next. Ok next)
    (whole_is (codes "def/w.svc") (services_text n) (services_short n few))
    ∙ ap (λ r. (or_fault paths r >>= λ ds. Ok (record { networks = each network n; services = ds })) >>= λ next. Ok next) (services_read n few)

-- ---- what they define is sound

-- Definitions whose items are no names.
record NamesNothing (define : ℕ → Definition) : Type 0 where
  undefined_not : (base : List Definition) (i : ℕ) → undefined_in base (define i).items ≡ None
  refers_not : (other : List ℕ) (i : ℕ) → list_any (is_reference other) (define i).items ≡ false

all_defined : (define : ℕ → Definition) → NamesNothing define → (base : List Definition) (a n : ℕ)
    → first_undefined base (map define (range_with_len a n)) ≡ None
all_defined define h base a zero = refl
all_defined define h base a (suc n) =
    ap (λ o. option_or o (first_undefined base (map define (range_with_len (a + 1) n)))) (h.undefined_not base a)
    ∙ all_defined define h base (a + 1) n

no_reference : (define : ℕ → Definition) → NamesNothing define → (other : List ℕ) (a n i : ℕ)
    → list_any (is_reference other) (items_at (map define (range_with_len a n)) i) ≡ false
no_reference define h other a zero i = refl
no_reference define h other a (suc n) zero = h.refers_not other a
no_reference define h other a (suc n) (suc i) = no_reference define h other (a + 1) n i

refers_to_none : (define : ℕ → Definition) → NamesNothing define → (n : ℕ) (name other : List ℕ) → refers (each define n) name other ≡ false
refers_to_none define h n name other = by_index (index_of (each define n) name)
  where
    by_index : (o : Option ℕ) → list_any (is_reference other) (items_in (each define n) o) ≡ false
    by_index None = refl
    by_index (Some i) = no_reference define h other 0 n i

no_cycle : (define : ℕ → Definition) → NamesNothing define → (n : ℕ) → HasNoCycle (each define n)
no_cycle define h n k below (next, names, few, walk) =
    false≢true (sym (refers_to_none define h n (name_at (each define n) k) next) ∙ walk.0)

network_alone : NamesNothing network
network_alone = record { undefined_not = λ base i. refl; refers_not = λ other i. refl }

service_alone : NamesNothing service
service_alone = record { undefined_not = λ base i. refl; refers_not = λ other i. refl }

pub naming_loaded : (n : ℕ) → n ≤ 1024 → Loads workload_folder (workload_files n) (Ok (workload_naming n))
naming_loaded n few =
    subst (λ answer. AnswersWith (naming_paths workload_folder (names_under workload_folder (workload_files n))) answer (Ok (workload_naming n)))
    (sym (definitions_read n few)) (
      refl,
      record {
        defined = ap (λ o. option_or o (first_undefined (each service n) (each service n))) (all_defined network network_alone (each network n) 0 n)
            ∙ all_defined service service_alone (each service n) 0 n;
        networks = no_cycle network network_alone n;
        services = no_cycle service service_alone n;
      },
    )
