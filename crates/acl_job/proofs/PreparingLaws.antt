-- The filters of a policy: lists that are added one behind the other.
use Rattle.std.proofs.Common.{◌≡◌, ℕ, ◌≤◌, ◌-◌, Bool, true, false, if◌then◌else◌, List, [], ◌∷◌, ◌++◌, map, take, drop, length, get_or, None, Some, Result, Ok, Err, refl, ap, sym, subst, ◌∙◌, append_assoc, append-nil, arith}
use Rattle.std.specs.Prelude.{IsErrAnd, flat_map}
use Rattle.std.specs.List.{All}
use Rattle.std.specs.String.{string_bytes}
use Rattle.std.proofs.lemmas.Grind.{flat_map-append}
use Rattle.std.proofs.lemmas.List.{map-append}
use Rattle.std.proofs.lemmas.List.Elements.{All-from_recursion, recursion_from_All}
use Rattle.std.specs.Option.{option_or}
use Rattle.acl_text.specs.declared.faults.Refusal.{Refusal}
use Rattle.acl_text.specs.declared.faults.Refusal.TheVariants as refusals
use Rattle.acl_text.proofs.ListLaws.{all_append}
use Rattle.acl_host.specs.declared.days.Day.{Day}
use Rattle.acl_target.specs.declared.targets.Kind.{Kind}
use Rattle.acl_target.specs.declared.targets.Kind.TheVariants.{Cisco, Juniper, Iptables, Nftables}
use Rattle.acl_target.specs.declared.targets.Target.{Target}
use Rattle.acl_target.specs.Clashes.{same_kind}
use Rattle.acl_target.specs.TargetData.{IsTarget}
use Rattle.acl_policy.specs.declared.blocks.Block.{Block}
use Rattle.acl_policy.specs.RawTerms.{RawTerm}
use Rattle.acl_policy.specs.Conditions.{IsBlock}
use Rattle.acl_terms.specs.declared.terms.Term.{Term}
use Rattle.acl_terms.proofs.SlipLaws.{first-in-append}
use Rattle.acl_platform.specs.declared.filters.Filter.{Filter}
use Rattle.acl_load.specs.declared.policy_loading.Loaded.{Loaded}
use Rattle.acl_load.specs.ResolvedPolicies.{targets_in}
use Rattle.acl_filters.specs.AskedFilters.{FilterRequest}
use Rattle.acl_filters.specs.FilterRequests.{filter_for, request_of, request_slip, requests_in, requests_of, requests_on, requests_slip}
use Rattle.acl_report.specs.Reports.{count_line}
use Rattle.acl_job.specs.Job.{report_line}
use Rattle.acl_job.specs.PreparingSteps.{Adds, AddsAll, AddsOne, AddsTo, AreEmptyDrafts, AreOpen, PreparesAll, draft_on, with_draft}
use Rattle.acl_filters.specs.CheckedFilters.{ChecksFilter, IsTakenFor}
use Rattle.acl_job.specs.declared.preparing.FileDraft.{FileDraft}
use Rattle.acl_job.specs.declared.preparing.FileDrafts.{FileDrafts}
use Rattle.acl_filters.proofs.ApartLaws.{all-by}
use Rattle.acl_filters.proofs.BlockLists.{first-rest}
use Rattle.acl_filters.proofs.FilterLaws.{both-none}

-- ---- a filter goes into its platform's file

-- The requests of a platform among one.
on-it : (kind : Kind) (r : FilterRequest) → r.target.kind ≡ kind → requests_on kind (r ∷ []) ≡ r ∷ []
on-it kind r e = by kind e
  where
    by : (kind : Kind) → r.target.kind ≡ kind → requests_on kind (r ∷ []) ≡ r ∷ []
    by Cisco e = ap (λ k. if same_kind k Cisco then r ∷ [] else []) e
    by Juniper e = ap (λ k. if same_kind k Juniper then r ∷ [] else []) e
    by Iptables e = ap (λ k. if same_kind k Iptables then r ∷ [] else []) e
    by Nftables e = ap (λ k. if same_kind k Nftables then r ∷ [] else []) e

off-it : (here kind : Kind) (r : FilterRequest) → r.target.kind ≡ here → same_kind here kind ≡ false → requests_on kind (r ∷ []) ≡ []
off-it here kind r e apart =
    ap (λ k. if same_kind k kind then r ∷ [] else []) e ∙ ap (λ (b : Bool). if b then r ∷ [] else []) apart

-- Nothing is added.
stays : (today : Day) (here kind : Kind) (r : FilterRequest) (draft : FileDraft) → r.target.kind ≡ here → same_kind here kind ≡ false
    → draft.report.is_open ≡ true → AddsTo today (requests_on kind (r ∷ [])) draft draft
stays today here kind r draft e apart ready =
    subst (λ rs. AddsTo today rs draft draft) (sym (off-it here kind r e apart)) (record {
      path_stays = refl;
      filters_are = sym (append-nil draft.filters);
      report_is = sym (append-nil draft.report.bytes);
      opened = ready;
    })

-- One is added.
goes : (today : Day) (kind : Kind) (r : FilterRequest) (f : Filter) (entries : ℕ) (old new : FileDraft) → r.target.kind ≡ kind
    → ChecksFilter today r f entries → AddsOne r.target f entries old new → AddsTo today (requests_on kind (r ∷ [])) old new
goes today kind r f entries old new e checks adds =
    subst (λ rs. AddsTo today rs old new) (sym (on-it kind r e)) (record {
      path_stays = adds.path_stays;
      filters_are = adds.filters_are ∙ ap (λ x. old.filters ++ x ∷ []) checks.filter_is;
      report_is = adds.report_is ∙ ap (λ n. old.report.bytes ++ count_line (string_bytes old.path) r.target n) checks.count_is
          ∙ ap (λ t. old.report.bytes ++ t) (sym (append-nil (report_line (string_bytes old.path) today r)));
      opened = adds.opened;
    })

one-taken : (today : Day) (r : FilterRequest) (f : Filter) (entries : ℕ) (old new : FileDrafts) → ChecksFilter today r f entries
    → ((kind : Kind) → AddsTo today (requests_on kind (r ∷ [])) (draft_on kind old) (draft_on kind new)) → AddsAll today (r ∷ []) old new
one-taken today r f entries old new checks each =
    record { slip_is = both-none (request_slip today r) None checks.slip_is refl; each = each; taken = (checks.taken, tt) }

-- It goes into its own platform's file, and the others stay.
pub filed : (today : Day) (here : Kind) (r : FilterRequest) (f : Filter) (entries : ℕ) (old : FileDrafts) (new : FileDraft) → r.target.kind ≡ here → AreOpen old
    → ChecksFilter today r f entries → AddsOne r.target f entries (draft_on here old) new → AddsAll today (r ∷ []) old (with_draft here old new)
filed today here r f entries old new e ready checks adds = one-taken today r f entries old (with_draft here old new) checks (each here e adds)
  where
    each : (here : Kind) → r.target.kind ≡ here → AddsOne r.target f entries (draft_on here old) new
        → (kind : Kind) → AddsTo today (requests_on kind (r ∷ [])) (draft_on kind old) (draft_on kind (with_draft here old new))
    each Cisco e adds Cisco = goes today Cisco r f entries old.cisco new e checks adds
    each Cisco e adds Juniper = stays today Cisco Juniper r old.juniper e refl (ready Juniper)
    each Cisco e adds Iptables = stays today Cisco Iptables r old.iptables e refl (ready Iptables)
    each Cisco e adds Nftables = stays today Cisco Nftables r old.nftables e refl (ready Nftables)
    each Juniper e adds Cisco = stays today Juniper Cisco r old.cisco e refl (ready Cisco)
    each Juniper e adds Juniper = goes today Juniper r f entries old.juniper new e checks adds
    each Juniper e adds Iptables = stays today Juniper Iptables r old.iptables e refl (ready Iptables)
    each Juniper e adds Nftables = stays today Juniper Nftables r old.nftables e refl (ready Nftables)
    each Iptables e adds Cisco = stays today Iptables Cisco r old.cisco e refl (ready Cisco)
    each Iptables e adds Juniper = stays today Iptables Juniper r old.juniper e refl (ready Juniper)
    each Iptables e adds Iptables = goes today Iptables r f entries old.iptables new e checks adds
    each Iptables e adds Nftables = stays today Iptables Nftables r old.nftables e refl (ready Nftables)
    each Nftables e adds Cisco = stays today Nftables Cisco r old.cisco e refl (ready Cisco)
    each Nftables e adds Juniper = stays today Nftables Juniper r old.juniper e refl (ready Juniper)
    each Nftables e adds Iptables = stays today Nftables Iptables r old.iptables e refl (ready Iptables)
    each Nftables e adds Nftables = goes today Nftables r f entries old.nftables new e checks adds

-- ---- several filters

no-filters : (today : Day) (draft : FileDraft) → draft.report.is_open ≡ true → AddsTo today [] draft draft
no-filters today draft ready = record {
  path_stays = refl;
  filters_are = sym (append-nil draft.filters);
  report_is = sym (append-nil draft.report.bytes);
  opened = ready;
}

pub adds-none : {X : Type 0} (today : Day) (drafts : FileDrafts) (x : X) → AreOpen drafts → Adds {X = X} today [] drafts drafts (Ok x)
adds-none today drafts x ready = record { slip_is = refl; each = λ kind. no-filters today (draft_on kind drafts) (ready kind); taken = tt }

pub still-open : (today : Day) (rs : List FilterRequest) (old new : FileDrafts) → AddsAll today rs old new → AreOpen new
still-open today rs old new h = λ kind. (h.each kind).opened

-- A platform's requests among those of two lists.
on-append : (kind : Kind) (xs ys : List FilterRequest) → requests_on kind (xs ++ ys) ≡ requests_on kind xs ++ requests_on kind ys
on-append kind [] ys = refl
on-append kind (x ∷ xs) ys = by (same_kind x.target.kind kind) (on-append kind xs ys)
  where
    by : (b : Bool) → requests_on kind (xs ++ ys) ≡ requests_on kind xs ++ requests_on kind ys
        → (if b then x ∷ requests_on kind (xs ++ ys) else requests_on kind (xs ++ ys))
        ≡ (if b then x ∷ requests_on kind xs else requests_on kind xs) ++ requests_on kind ys
    by true e = ap (λ rs. x ∷ rs) e
    by false e = e

to-append : (today : Day) (xs ys : List FilterRequest) (p q s : FileDraft) → AddsTo today xs p q → AddsTo today ys q s → AddsTo today (xs ++ ys) p s
to-append today xs ys p q s h k = record {
  path_stays = k.path_stays ∙ h.path_stays;
  filters_are = k.filters_are ∙ ap (λ fs. fs ++ map (filter_for today) ys) h.filters_are
      ∙ append_assoc p.filters (map (filter_for today) xs) (map (filter_for today) ys) ∙ ap (λ fs. p.filters ++ fs) (sym (map-append (filter_for today) xs ys));
  report_is = k.report_is ∙ ap (λ path. q.report.bytes ++ flat_map (report_line (string_bytes path) today) ys) h.path_stays
      ∙ ap (λ t. t ++ flat_map (report_line (string_bytes p.path) today) ys) h.report_is
      ∙ append_assoc p.report.bytes (flat_map (report_line (string_bytes p.path) today) xs) (flat_map (report_line (string_bytes p.path) today) ys)
      ∙ ap (λ t. p.report.bytes ++ t) (sym (flat_map-append (report_line (string_bytes p.path) today) xs ys));
  opened = k.opened;
}

pub adds-append : {X : Type 0} (today : Day) (xs ys : List FilterRequest) (p q s : FileDrafts) (r : Result X Refusal)
    → AddsAll today xs p q → Adds today ys q s r → Adds today (xs ++ ys) p s r
adds-append today xs ys p q s (Ok x) h k = record {
  slip_is = first-in-append (request_slip today) xs ys ∙ both-none (requests_slip today xs) (requests_slip today ys) h.slip_is k.slip_is;
  each = λ kind. subst (λ rs. AddsTo today rs (draft_on kind p) (draft_on kind s)) (sym (on-append kind xs ys))
      (to-append today (requests_on kind xs) (requests_on kind ys) (draft_on kind p) (draft_on kind q) (draft_on kind s) (h.each kind) (k.each kind));
  taken = all_append (IsTakenFor today) xs ys h.taken k.taken;
}
adds-append today xs ys p q s (Err (refusals.Slip e)) h k =
    first-in-append (request_slip today) xs ys ∙ ap (λ o. option_or o (requests_slip today ys)) h.slip_is ∙ k
adds-append today xs ys p q s (Err refusals.Memory) h k = tt

pub adds-slip : {X Y : Type 0} (today : Day) (xs ys : List FilterRequest) (p s : FileDrafts) (e : Refusal) (q : Result X Refusal) (r : Result Y Refusal)
    → q ≡ Err e → Adds today xs p s q → IsErrAnd r (λ x. x ≡ e) → Adds today (xs ++ ys) p s r
adds-slip today xs ys p s e q (Ok y) was h is = absurd is
adds-slip today xs ys p s e (Ok x) (Err f) was h is = absurd (cc)
adds-slip today xs ys p s e (Err (refusals.Slip a)) (Err (refusals.Slip b)) was h is =
    let same : a ≡ b = cc in
    first-in-append (request_slip today) xs ys ∙ ap (λ o. option_or o (requests_slip today ys)) h ∙ ap Some same
adds-slip today xs ys p s e (Err (refusals.Slip a)) (Err refusals.Memory) was h is = tt
adds-slip today xs ys p s e (Err refusals.Memory) (Err (refusals.Slip b)) was h is = absurd (cc)
adds-slip today xs ys p s e (Err refusals.Memory) (Err refusals.Memory) was h is = tt

same-file : (today : Day) (written : List RawTerm) (terms : List Term) (t : Target) (kind : Kind) (p q : FileDraft)
    → AddsTo today (requests_on kind (request_of [] terms t ∷ [])) p q → AddsTo today (requests_on kind (request_of written terms t ∷ [])) p q
same-file today written terms t kind p q h = by (same_kind t.kind kind) h
  where
    by : (b : Bool) → AddsTo today (if b then request_of [] terms t ∷ [] else []) p q → AddsTo today (if b then request_of written terms t ∷ [] else []) p q
    by true h = record { path_stays = h.path_stays; filters_are = h.filters_are; report_is = h.report_is; opened = h.opened }
    by false h = h

-- Nothing that is added says how the terms are written.
pub adds-written : (today : Day) (written : List RawTerm) (terms : List Term) (t : Target) (p q : FileDrafts)
    → AddsAll today (request_of [] terms t ∷ []) p q → AddsAll today (request_of written terms t ∷ []) p q
adds-written today written terms t p q h = record {
  slip_is = h.slip_is;
  each = λ kind. same-file today written terms t kind (draft_on kind p) (draft_on kind q) (h.each kind);
  taken = h.taken;
}

-- ---- the targets of blocks

-- Where there are no targets, there are no blocks, and nothing is asked for.
pub none-asked : (blocks : List Block) (targets : List (List Target)) (lists : List (List Term)) → length targets ≡ 0
    → targets_in blocks ≡ targets → requests_in blocks lists ≡ []
none-asked [] targets lists none same = refl
none-asked (b ∷ bs) [] lists none same = absurd (cc)
none-asked (b ∷ bs) (t ∷ ts) lists none same = absurd (omega (arith, none))

pub nothing-asked : (blocks : List Block) (lists : List (List Term)) → length lists ≡ 0 → requests_in blocks lists ≡ []
nothing-asked [] lists none = refl
nothing-asked (b ∷ bs) [] none = refl
nothing-asked (b ∷ bs) (l ∷ ls) none = absurd (omega (arith, none))

-- What is asked for in blocks whose first one has these targets: a filter for each of them, and then what the other
-- blocks ask for.
pub record FirstAsks (blocks : List Block) (targets more : List (List Target)) (first : List Target) (lists others : List (List Term)) (terms : List Term)
    : Type 0 where
  pub written : List RawTerm
  pub rest : List Block
  pub rest_is : targets_in rest ≡ more
  pub asks : requests_in blocks lists ≡ map (request_of written terms) first ++ requests_in rest others

asks-behind : (blocks : List Block) (targets more : List (List Target)) (first : List Target) → targets ≡ first ∷ more → targets_in blocks ≡ targets
    → (lists others : List (List Term)) (terms : List Term) → lists ≡ terms ∷ others → FirstAsks blocks targets more first lists others terms
asks-behind [] targets more first is same lists others terms so = absurd (cc)
asks-behind (b ∷ bs) targets more first is same lists others terms so =
    let both : b.targets ∷ targets_in bs ≡ first ∷ more = same ∙ is in
    let here : b.targets ≡ first = cc in
    record {
      written = b.terms;
      rest = bs;
      rest_is = cc;
      asks = ap (λ ls. requests_in (b ∷ bs) ls) so ∙ ap (λ ts. map (request_of b.terms terms) ts ++ requests_in bs others) here;
    }

pub first-asks : (blocks : List Block) (targets : List (List Target)) (first : List Target) → 1 ≤ length targets → first ≡ get_or targets 0 first
    → targets_in blocks ≡ targets → (lists : List (List Term)) (terms : List Term) → 1 ≤ length lists → terms ≡ get_or lists 0 terms
    → FirstAsks blocks targets (take (length targets - 1) (drop 1 targets)) first lists (take (length lists - 1) (drop 1 lists)) terms
first-asks blocks targets first some is same lists terms more so =
    asks-behind blocks targets _ first (first-rest targets first some is) same lists _ terms (first-rest lists terms more so)

-- ---- a whole policy

pub targets-sound : (blocks : List Block) → All IsBlock blocks → All (All IsTarget) (targets_in blocks)
targets-sound blocks h = All-from_recursion (All IsTarget) (targets_in blocks)
    (all-by (λ (b : Block). b.targets) IsBlock (All IsTarget) (λ b x. x.targets_are) blocks (recursion_from_All IsBlock blocks h))

pub prepared : (output policy : List ℕ) (today : Day) (loaded : Loaded) (old new : FileDrafts)
    → AreEmptyDrafts output policy old → AddsAll today (requests_of loaded) old new → PreparesAll output policy today loaded new
prepared output policy today loaded old new empty h = record {
  slip_is = h.slip_is;
  each = λ kind. let e = empty kind in let a = h.each kind in let rs = requests_on kind (requests_of loaded) in record {
    path_is = ap string_bytes a.path_stays ∙ e.path_is;
    filters_are = a.filters_are ∙ ap (λ fs. fs ++ map (filter_for today) rs) e.filters_are;
    report_is = a.report_is ∙ ap (λ t. t ++ flat_map (report_line (string_bytes (draft_on kind old).path) today) rs) e.report_is
        ∙ ap (λ path. flat_map (report_line path today) rs) e.path_is;
  };
  taken = h.taken;
}
