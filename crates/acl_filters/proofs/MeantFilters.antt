-- The filters of a policy decide as its blocks do.
use Prim.Native.Nat.{zero, suc}
use Rattle.std.proofs.Common.{ℕ, List, [], ◌∷◌, map, Option, Some, IfSome, ap, ◌∙◌}
use Rattle.std.specs.Prelude.{slice_get}
use Rattle.std.specs.List.{AllByRecursion}
use Rattle.acl_packet.specs.declared.filtering.Outcome.{Outcome}
use Rattle.acl_packet.specs.declared.packets.Packet.{Packet}
use Rattle.acl_text.proofs.ListLaws.{all_append}
use Rattle.acl_host.specs.declared.days.Day.{Day}
use Rattle.acl_naming.specs.Definitions.{Naming}
use Rattle.acl_target.specs.declared.targets.Target.{Target}
use Rattle.acl_policy.specs.declared.blocks.Block.{Block}
use Rattle.acl_policy.specs.RawTerms.{RawTerm}
use Rattle.acl_terms.specs.declared.terms.Term.{Term}
use Rattle.acl_platform.specs.Platforms.{DecidesAs}
use Rattle.acl_expand.proofs.DecideLaws.{decides-as-written}
use Rattle.acl_load.specs.LoadedPolicies.{AreResolved, AreResolvedIn}
use Rattle.acl_filters.specs.FilterMeanings.{DecidesAsPolicy}
use Rattle.acl_filters.specs.AskedFilters.{FilterRequest}
use Rattle.acl_filters.specs.FilterRequests.{block_requests, filter_for, request_of, requests_in}

resolved-block : (n : Naming) (written : List RawTerm) (terms : List Term) (ts : List Target) → AreResolved n written terms
    → AllByRecursion (λ (r : FilterRequest). AreResolved n r.written r.terms) (map (request_of written terms) ts)
resolved-block n written terms [] h = tt
resolved-block n written terms (t ∷ ts) h = (h, resolved-block n written terms ts h)

pub resolved-requests : (n : Naming) (blocks : List Block) (lists : List (List Term)) → AreResolvedIn n blocks lists
    → AllByRecursion (λ (r : FilterRequest). AreResolved n r.written r.terms) (requests_in blocks lists)
resolved-requests n [] lists h = tt
resolved-requests n (b ∷ bs) [] h = tt
resolved-requests n (b ∷ bs) (ts ∷ tss) h =
    all_append (λ (r : FilterRequest). AreResolved n r.written r.terms) (block_requests b ts) (requests_in bs tss)
    (resolved-block n b.terms ts b.targets h.0) (resolved-requests n bs tss h.1)

pub decides-at : (n : Naming) (today : Day) (rs : List FilterRequest) (k : ℕ) (outcome : Packet → Option Outcome)
    → AllByRecursion (λ (r : FilterRequest). AreResolved n r.written r.terms) rs
    → IfSome (slice_get (map (filter_for today) rs) k) (λ f. DecidesAs f outcome) → IfSome (slice_get rs k) (λ r. DecidesAsPolicy n today r outcome)
decides-at n today [] k outcome resolved h = tt
decides-at n today (r ∷ rs) zero outcome resolved h = λ p packet family.
    let d = decides-as-written n r.target today r.written r.terms resolved.0 p packet family in
    (d.0, d.1.0, h p packet family ∙ ap Some d.1.1)
decides-at n today (r ∷ rs) (suc k) outcome resolved h = decides-at n today rs k outcome resolved.1 h
