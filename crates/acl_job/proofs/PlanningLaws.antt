-- What is to be written of a loaded policy, and of the files.
use Rattle.std.proofs.Common.{◌≡◌, ◌≢◌, ℕ, false, List, [], ◌∷◌, ◌++◌, map, Option, None, Some, Result, Ok, Err, IfSome, refl, ap, sym, subst, ◌∙◌, append-nil}
use Rattle.std.specs.Prelude.{IsErrAnd, flat_map}
use Rattle.std.specs.List.{All, AllByRecursion}
use Rattle.std.specs.String.{string_bytes}
use Rattle.std.specs.Str.{bytes_eq}
use Rattle.std.proofs.lemmas.Bool.{false≢true}
use Rattle.std.proofs.lemmas.List.{append_cancel_left, map-append}
use Rattle.std.proofs.lemmas.List.Elements.{All-from_recursion}
use Rattle.std.proofs.lemmas.Slice.Eq.{bytes_eq-Decides}
use Rattle.acl_rows.proofs.ListLaws.{flat_twice}
use Rattle.acl_text.specs.declared.faults.Rejection.{Rejection}
use Rattle.acl_text.specs.declared.faults.Rejection.TheVariants as rejections
use Rattle.acl_text.proofs.ListLaws.{all_append}
use Rattle.acl_host.specs.declared.days.Day.{Day}
use Rattle.acl_host.specs.Files.{File, join_path}
use Rattle.acl_target.specs.declared.targets.Kind.{Kind}
use Rattle.acl_target.specs.declared.targets.Kind.TheVariants.{Cisco, Juniper, Iptables, Nftables}
use Rattle.acl_target.specs.Clashes.{same_kind}
use Rattle.acl_policy.specs.Conditions.{IsPolicy}
use Rattle.acl_platform.specs.declared.filters.Filter.{Filter}
use Rattle.acl_load.specs.declared.load_faults.LoadFault.{LoadFault}
use Rattle.acl_load.specs.declared.policy_loading.Loaded.{Loaded}
use Rattle.acl_load.specs.LoadFaults.{of_rejection}
use Rattle.acl_load.specs.LoadedPolicies.{AreResolvedIn, LoadsPolicy}
use Rattle.acl_load.specs.ResolvedPolicies.{resolved_of}
use Rattle.acl_filters.specs.PlatformFiles.{AreApart, IsTaken, text_on}
use Rattle.acl_options.specs.CommandLines.{Options}
use Rattle.acl_report.specs.Reports.{terms_report}
use Rattle.acl_job.specs.Works.{texts_in, IsWritable, file_view, MakesWork}
use Rattle.acl_filters.specs.CheckedFilters.{IsShort, IsTakenFor}
use Rattle.acl_job.specs.FileLists.{IsApart, PathsDiffer}
use Rattle.acl_job.specs.FilterPaths.{ending_of, last_part, path_of, without_pol}
use Rattle.acl_filters.specs.AskedFilters.{FilterRequest}
use Rattle.acl_filters.specs.FilterRequests.{filter_for, loaded_slip, requests_of, requests_on}
use Rattle.acl_job.specs.Job.{file_of, file_report, file_with, files_on, filters_of, or_slip, plan_of, platforms, report_line}
use Rattle.acl_job.specs.PreparingSteps.{IsPlanned, IsWorkOf, PlansLoaded, JudgesAll, PreparesAll, draft_on, filter_file_on, filter_file_with}
use Rattle.acl_job.specs.ShadedSlips.{asked_shaded}
use Rattle.acl_job.specs.declared.planning.Work.{Work}
use Rattle.acl_job.specs.declared.preparing.FileDraft.{FileDraft}
use Rattle.acl_job.specs.declared.preparing.FileDrafts.{FileDrafts}
use Rattle.acl_filters.proofs.FilterLaws.{both-none, short-one}
use Rattle.acl_filters.proofs.ApartLaws.{all-on, all-by, all-taken, apart-on}

-- The platform takes its filters, and they are apart.
record FitTogether (kind : Kind) (fs : List Filter) : Type 0 where
  taken : All (IsTaken kind) fs
  apart : AreApart fs

abbrev AllFit : FileDrafts → Type 0
AllFit drafts = (kind : Kind) → FitTogether kind (draft_on kind drafts).filters

fit-on : (output policy : List ℕ) (today : Day) (loaded : Loaded) (drafts : FileDrafts) → IsPolicy loaded.policy
    → AreResolvedIn loaded.definitions loaded.policy.blocks loaded.terms → PreparesAll output policy today loaded drafts → AllFit drafts
fit-on output policy today loaded drafts fits resolved p = λ kind.
    let taken = all-on kind (IsTakenFor today) (λ (r : FilterRequest). IsTaken kind (filter_for today r))
    (λ r e t. subst (λ k. IsTaken k (filter_for today r)) e t) (requests_of loaded) p.taken in
    let is = sym (p.each kind).filters_are in
    record {
      taken = subst (All (IsTaken kind)) is (all-taken today kind (requests_on kind (requests_of loaded)) taken);
      apart = subst AreApart is (apart-on today loaded.definitions loaded.policy loaded.terms kind fits resolved);
    }

-- ---- several files

flat-same : {A B : Type 0} (f g : A → List B) → ((x : A) → f x ≡ g x) → (xs : List A) → flat_map f xs ≡ flat_map g xs
flat-same f g h [] = refl
flat-same f g h (x ∷ xs) = ap (λ ys. ys ++ flat_map f xs) (h x) ∙ ap (λ ys. g x ++ ys) (flat-same f g h xs)

map-flat : {A B C : Type 0} (g : B → C) (f : A → List B) (xs : List A) → map g (flat_map f xs) ≡ flat_map (λ x. map g (f x)) xs
map-flat g f [] = refl
map-flat g f (x ∷ xs) = map-append g (f x) (flat_map f xs) ∙ ap (λ ys. map g (f x) ++ ys) (map-flat g f xs)

pub all-flat : {A B : Type 0} (Q : B → Type 0) (f : A → List B) → ((x : A) → AllByRecursion Q (f x)) → (xs : List A) → AllByRecursion Q (flat_map f xs)
all-flat Q f each [] = tt
all-flat Q f each (x ∷ xs) = all_append Q (f x) (flat_map f xs) (each x) (all-flat Q f each xs)

-- The text of a platform's file, where it has filters.
abbrev text_with : Kind → List ℕ → List Filter → List File
text_with kind path [] = []
text_with kind path (f ∷ fs) = (path, text_on kind (f ∷ fs)) ∷ []

abbrev texts_on : FileDrafts → Kind → List File
texts_on drafts kind = text_with kind (string_bytes (draft_on kind drafts).path) (draft_on kind drafts).filters

view-with : (kind : Kind) (draft : FileDraft) (fs : List Filter)
    → map file_view (filter_file_with kind draft fs) ≡ text_with kind (string_bytes draft.path) fs
view-with kind draft [] = refl
view-with kind draft (f ∷ fs) = refl

texts-from : (drafts : FileDrafts) (work : Work) → work.files.items ≡ flat_map (filter_file_on drafts) platforms
    → texts_in work ≡ flat_map (texts_on drafts) platforms
texts-from drafts work e =
    ap (map file_view) e ∙ map-flat file_view (filter_file_on drafts) platforms
    ∙ flat-same (λ kind. map file_view (filter_file_on drafts kind)) (texts_on drafts)
    (λ kind. view-with kind (draft_on kind drafts) (draft_on kind drafts).filters) platforms

writable-with : (kind : Kind) (draft : FileDraft) (fs : List Filter) → FitTogether kind fs → AllByRecursion IsWritable (filter_file_with kind draft fs)
writable-with kind draft [] h = tt
writable-with kind draft (f ∷ fs) h = (record { taken = h.taken; apart = h.apart }, tt)

all-writable : (drafts : FileDrafts) (work : Work) → AllFit drafts → work.files.items ≡ flat_map (filter_file_on drafts) platforms
    → All IsWritable work.files.items
all-writable drafts work fit e =
    All-from_recursion IsWritable work.files.items (subst (AllByRecursion IsWritable) (sym e)
    (all-flat IsWritable (filter_file_on drafts)
    (λ kind. writable-with kind (draft_on kind drafts) (draft_on kind drafts).filters (fit kind)) platforms))

one-text : (kind : Kind) (path : List ℕ) (today : Day) (rs : List FilterRequest) → text_with kind path (map (filter_for today) rs) ≡ map (file_of today) (file_with kind path rs)
one-text kind path today [] = refl
one-text kind path today (r ∷ rs) = refl

one-report : (kind : Kind) (path : List ℕ) (today : Day) (rs : List FilterRequest) → flat_map (report_line path today) rs ≡ flat_map (file_report today) (file_with kind path rs)
one-report kind path today [] = refl
one-report kind path today (r ∷ rs) = sym (append-nil (flat_map (report_line path today) (r ∷ rs)))

-- ---- paths that differ

same-ending : (a b : Kind) → bytes_eq (ending_of a) (ending_of b) ≡ same_kind a b
same-ending Cisco Cisco = refl
same-ending Cisco Juniper = refl
same-ending Cisco Iptables = refl
same-ending Cisco Nftables = refl
same-ending Juniper Cisco = refl
same-ending Juniper Juniper = refl
same-ending Juniper Iptables = refl
same-ending Juniper Nftables = refl
same-ending Iptables Cisco = refl
same-ending Iptables Juniper = refl
same-ending Iptables Iptables = refl
same-ending Iptables Nftables = refl
same-ending Nftables Cisco = refl
same-ending Nftables Juniper = refl
same-ending Nftables Iptables = refl
same-ending Nftables Nftables = refl

path-apart : (output policy : List ℕ) (a b : Kind) → same_kind a b ≡ false → path_of a output policy ≢ path_of b output policy
unfolding path_of
path-apart output policy a b apart e =
    let base = join_path output (without_pol (last_part policy)) in
    let same = append_cancel_left base (ending_of a) (ending_of b) e in
    false≢true (sym apart ∙ sym (same-ending a b) ∙ (bytes_eq-Decides (ending_of a) (ending_of b)).1 same)

text-apart : (q path : List ℕ) (kind : Kind) (fs : List Filter) → q ≢ path → IsApart q (text_with kind path fs)
text-apart q path kind [] apart = tt
text-apart q path kind (f ∷ fs) apart = (apart, tt)

texts-apart : (q : List ℕ) (f : Kind → List File) (kinds : List Kind) → AllByRecursion (λ k. IsApart q (f k)) kinds → IsApart q (flat_map f kinds)
texts-apart q f [] h = tt
texts-apart q f (k ∷ ks) h = all_append (λ (t : File). q ≢ t.0) (f k) (flat_map f ks) h.0 (texts-apart q f ks h.1)

one-more : (kind : Kind) (path : List ℕ) (fs : List Filter) (more : List File) → IsApart path more → PathsDiffer more → PathsDiffer (text_with kind path fs ++ more)
one-more kind path [] more apart h = h
one-more kind path (f ∷ fs) more apart h = (apart, h)

-- Each file has its platform's path.
abbrev HavePaths : List ℕ → List ℕ → FileDrafts → Type 0
HavePaths output policy drafts = (kind : Kind) → string_bytes (draft_on kind drafts).path ≡ path_of kind output policy

kind-apart : (output policy : List ℕ) (drafts : FileDrafts) → HavePaths output policy drafts → (a b : Kind) → same_kind a b ≡ false
    → IsApart (string_bytes (draft_on a drafts).path) (texts_on drafts b)
kind-apart output policy drafts paths a b apart =
    text-apart (string_bytes (draft_on a drafts).path) (string_bytes (draft_on b drafts).path) b (draft_on b drafts).filters
    (λ e. path-apart output policy a b apart (sym (paths a) ∙ e ∙ paths b))

paths-differ : (output policy : List ℕ) (drafts : FileDrafts) → HavePaths output policy drafts → PathsDiffer (flat_map (texts_on drafts) platforms)
paths-differ output policy drafts paths =
    let apart = kind-apart output policy drafts paths in
    let path : Kind → List ℕ = λ k. string_bytes (draft_on k drafts).path in
    let rest : List Kind → List File = λ ks. flat_map (texts_on drafts) ks in
    one-more Cisco (path Cisco) drafts.cisco.filters (rest (Juniper ∷ Iptables ∷ Nftables ∷ []))
    (texts-apart (path Cisco) (texts_on drafts) (Juniper ∷ Iptables ∷ Nftables ∷ []) (apart Cisco Juniper refl, (apart Cisco Iptables refl, (apart Cisco Nftables refl, tt))))
    (one-more Juniper (path Juniper) drafts.juniper.filters (rest (Iptables ∷ Nftables ∷ []))
    (texts-apart (path Juniper) (texts_on drafts) (Iptables ∷ Nftables ∷ []) (apart Juniper Iptables refl, (apart Juniper Nftables refl, tt)))
    (one-more Iptables (path Iptables) drafts.iptables.filters (rest (Nftables ∷ []))
    (texts-apart (path Iptables) (texts_on drafts) (Nftables ∷ []) (apart Iptables Nftables refl, tt))
    (one-more Nftables (path Nftables) drafts.nftables.filters [] tt tt)))

-- ---- a loaded policy

short-with : (today : Day) (kind : Kind) (path : List ℕ) (rs : List FilterRequest) → AllByRecursion (IsTakenFor today) rs
    → AllByRecursion (λ f. AllByRecursion IsShort (filters_of today f)) (file_with kind path rs)
short-with today kind path [] h = tt
short-with today kind path (r ∷ rs) h = (all-by (filter_for today) (IsTakenFor today) IsShort (short-one today) (r ∷ rs) h, tt)

pub is-planned : (o : Options) (today : Day) (loaded : Loaded) (drafts : FileDrafts) (work : Work) → JudgesAll o today loaded drafts
    → IsWorkOf (terms_report today o.exp_info (resolved_of loaded)) drafts work → IsPolicy loaded.policy
    → AreResolvedIn loaded.definitions loaded.policy.blocks loaded.terms → IsPlanned o today loaded work
is-planned o today loaded drafts work judged w fits resolved =
    let p = judged.prepared in
    let clean = both-none (loaded_slip today loaded) (asked_shaded o.shade_check today loaded) p.slip_is judged.none_shaded in
    let all = requests_of loaded in
    let path : Kind → List ℕ = λ k. path_of k o.output o.policy in
    let text : (k : Kind) → texts_on drafts k ≡ map (file_of today) (files_on o all k) = λ k.
    ap (λ q. text_with k q (draft_on k drafts).filters) (p.each k).path_is
    ∙ ap (text_with k (path k)) (p.each k).filters_are ∙ one-text k (path k) today (requests_on k all) in
    let line : (k : Kind) → (draft_on k drafts).report.bytes ≡ flat_map (file_report today) (files_on o all k) = λ k.
    (p.each k).report_is ∙ one-report k (path k) today (requests_on k all) in
    let fit = fit-on o.output o.policy today loaded drafts fits resolved p in
    let texts = texts-from drafts work w.files_are in
    record {
      plan_is = ap (λ s. or_slip loaded.sources.labels s (plan_of o today loaded)) clean;
      ready = record {
        texts_are = texts ∙ flat-same (texts_on drafts) (λ k. map (file_of today) (files_on o all k)) text platforms
            ∙ sym (map-flat (file_of today) (files_on o all) platforms);
        report_is = w.report_is ∙ ap (λ t. terms_report today o.exp_info (resolved_of loaded) ++ t)
            (flat-same (λ k. (draft_on k drafts).report.bytes) (λ k. flat_map (file_report today) (files_on o all k)) line platforms
            ∙ flat_twice (file_report today) (files_on o all) platforms);
        short = all-flat (λ f. AllByRecursion IsShort (filters_of today f)) (files_on o all)
            (λ k. short-with today k (path k) (requests_on k all)
            (all-on k (IsTakenFor today) (IsTakenFor today) (λ r _ x. x) all p.taken)) platforms;
      };
      writable = record {
        differ = subst PathsDiffer (sym texts) (paths-differ o.output o.policy drafts (λ k. (p.each k).path_is));
        fit = all-writable drafts work fit w.files_are;
      };
    }

-- ---- the files

pub makes-planned : (told : Option (List File)) (o : Options) (today : Day) (loaded : Loaded) (work : Work)
    → IfSome told (λ files. LoadsPolicy o.definitions o.policy files (Ok loaded)) → IsPlanned o today loaded work → MakesWork o today told (Ok work)
makes-planned None o today loaded work loads p = (tt, p.writable)
makes-planned (Some files) o today loaded work loads p = ((plan_of o today loaded, (Ok loaded, loads, sym p.plan_is), p.ready), p.writable)

makes-fault : (told : Option (List File)) (o : Options) (today : Day) (loaded : Loaded) (e : Rejection)
    → IfSome told (λ files. LoadsPolicy o.definitions o.policy files (Ok loaded)) → PlansLoaded o today loaded (Err e) → MakesWork o today told (Err (of_rejection e))
makes-fault None o today loaded e loads p = tt
makes-fault (Some files) o today loaded (rejections.Fault fault) loads p = (Ok loaded, loads, sym p)
makes-fault (Some files) o today loaded rejections.Memory loads p = tt

pub makes-rejected : (told : Option (List File)) (o : Options) (today : Day) (loaded : Loaded) (e : Rejection) (r : Result Work LoadFault)
    → IfSome told (λ files. LoadsPolicy o.definitions o.policy files (Ok loaded)) → PlansLoaded o today loaded (Err e) → IsErrAnd r (λ x. x ≡ of_rejection e)
    → MakesWork o today told r
makes-rejected told o today loaded e (Ok work) loads p is = absurd is
makes-rejected told o today loaded e (Err x) loads p is =
    subst (λ (y : LoadFault). MakesWork o today told (Err y)) (sym is) (makes-fault told o today loaded e loads p)
