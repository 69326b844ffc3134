-- All shaded terms of a block can go at once.
use Prim.Native.Nat.{zero, suc}
use Rattle.std.proofs.Common.{◌≡◌, ◌≢◌, ℕ, ◌<◌, ◌≤◌, Bool, true, false, if◌then◌else◌, nat_le, List, [], ◌∷◌, ◌++◌, map, length, Option, None, Some, Ok, Err, option_map, inl, inr, refl, ap, sym, subst, ◌∙◌, arith}
use Rattle.std.specs.Prelude.{flat_map, zip, slice_index_or}
use Rattle.std.specs.List.{AllByRecursion, Contains, list_any}
use Rattle.std.proofs.lemmas.Bool.{both_ways, leb-true, le-leb}
use Rattle.std.proofs.lemmas.List.Elements.{recursion_from_All}
use Rattle.acl_packet.specs.declared.addresses.Family.{Family}
use Rattle.acl_packet.specs.declared.filtering.Outcome.{Outcome}
use Rattle.acl_packet.specs.declared.packets.Packet.{Packet}
use Rattle.acl_packet.specs.Addresses.{covers}
use Rattle.acl_packet.specs.Packets.{IsPacket}
use Rattle.acl_text.specs.declared.faults.Code.TheVariants.{TooManyPrefixes}
use Rattle.acl_text.specs.declared.faults.Slip.{Slip}
use Rattle.acl_text.specs.Refusals.{first_in}
use Rattle.acl_host.specs.declared.days.Day.{Day}
use Rattle.acl_host.specs.Files.{File}
use Rattle.acl_naming.specs.Definitions.{Naming}
use Rattle.acl_target.specs.declared.targets.Target.{Target}
use Rattle.acl_policy.specs.declared.blocks.Block.{Block}
use Rattle.acl_policy.specs.RawTerms.{RawTerm}
use Rattle.acl_policy.specs.Conditions.{IsBlock}
use Rattle.acl_terms.specs.declared.terms.Term.{Term}
use Rattle.acl_terms.specs.Outcomes.{PolicyDecides, policy_outcome}
use Rattle.acl_terms.specs.Slips.{slip_of}
use Rattle.acl_terms.proofs.PolicyLaws.{decide-as-written}
use Rattle.acl_platform.specs.declared.filters.Filter.{Filter}
use Rattle.acl_platform.specs.declared.filters.Limit.{Limit}
use Rattle.acl_expand.specs.Expansions.{filter_of}
use Rattle.acl_expand.specs.ExpansionSlips.{first_slip, header_slip, most_prefixes, prefix_slip}
use Rattle.acl_expand.specs.SlipSteps.{counted_slip, counted_term, prefixes_with}
use Rattle.acl_expand.specs.TermRules.{rules_of, term_rules}
use Rattle.acl_expand.proofs.AnyLaws.{any-flat}
use Rattle.acl_expand.proofs.HoldLaws.{term-step}
use Rattle.acl_expand.proofs.RuleLaws.{holds-in-family, of_family, term-packet}
use Rattle.acl_expand.proofs.SlipLaws.{first_slip_is_counted}
use Rattle.acl_shade.specs.ComputableShading.{is_shaded, unshaded, unshaded_behind}
use Rattle.acl_shade.specs.Shading.{Shades}
use Rattle.acl_shade.proofs.DeletionLaws.{decides-too, shaded-go, shading-stays}
use Rattle.acl_load.specs.LoadedPolicies.{AreResolved, AreResolvedIn, blocks_slip, terms_slip}
use Rattle.acl_load.proofs.AnswersThere.{loaded-stands}
use Rattle.acl_filters.specs.FewerRules.{IsLeftOf}
use Rattle.acl_filters.specs.PlatformFiles.{limit_of}
use Rattle.acl_filters.proofs.FewerRulesLaws.{fewer-rules-fit}
use Rattle.acl_filters.proofs.LeftLaws.{left-skip}
use Rattle.acl_filters.specs.FilterRequests.{block_requests, check_slip, limit_slip, loaded_slip, request_of, request_slip, requests_in, requests_slip}
use Rattle.acl_job.specs.Job.{Plan, Plans, job_slip, or_slip, plan_of}
use Rattle.acl_options.specs.CommandLines.{Options}
use Rattle.acl_job.specs.Removals.{ShadedCanGo, kept_terms, kept_written, plan_block}
use Rattle.acl_job.specs.ShadedSlips.{asked_shaded}
use Rattle.acl_filters.proofs.FilterLaws.{first-none, both-none}

-- ---- lists from which elements are taken out

behind-left : {A : Type 0} (zs xs ys : List A) → IsLeftOf xs ys → IsLeftOf xs (zs ++ ys)
behind-left [] xs ys h = h
behind-left (z ∷ zs) xs ys h = left-skip xs z (zs ++ ys) (behind-left zs xs ys h)

both-left : {A : Type 0} (zs xs ys : List A) → IsLeftOf xs ys → IsLeftOf (zs ++ xs) (zs ++ ys)
both-left [] xs ys h = h
both-left (z ∷ zs) xs ys h = inl (refl, both-left zs xs ys h)

flat-left : {A B : Type 0} (f : A → List B) (xs ys : List A) → IsLeftOf xs ys → IsLeftOf (flat_map f xs) (flat_map f ys)
flat-left f [] ys h = tt
flat-left f (x ∷ xs) [] h = absurd h
flat-left f (x ∷ xs) (y ∷ ys) (inl h) =
    subst (λ z. IsLeftOf (f x ++ flat_map f xs) (f z ++ flat_map f ys)) h.0 (both-left (f x) (flat_map f xs) (flat_map f ys) (flat-left f xs ys h.1))
flat-left f (x ∷ xs) (y ∷ ys) (inr h) = behind-left (f y) (flat_map f (x ∷ xs)) (flat_map f ys) (flat-left f (x ∷ xs) ys h)

map-left : {A B : Type 0} (f : A → B) (xs ys : List A) → IsLeftOf xs ys → IsLeftOf (map f xs) (map f ys)
map-left f [] ys h = tt
map-left f (x ∷ xs) [] h = absurd h
map-left f (x ∷ xs) (y ∷ ys) (inl h) = inl (ap f h.0, map-left f xs ys h.1)
map-left f (x ∷ xs) (y ∷ ys) (inr h) = inr (map-left f (x ∷ xs) ys h)

unshaded-left : {X : Type 0} (term_of : X → Term) (targets : List Target) (today : Day) (earlier : List Term) (xs : List X)
    → IsLeftOf (unshaded_behind term_of targets today earlier xs) xs
unshaded-left term_of targets today earlier [] = tt
unshaded-left {X = X} term_of targets today earlier (x ∷ xs) =
    by (unshaded_behind term_of targets today (earlier ++ term_of x ∷ []) xs)
    (unshaded-left term_of targets today (earlier ++ term_of x ∷ []) xs) (is_shaded targets today earlier (term_of x))
  where
    by : (rest : List X) → IsLeftOf rest xs → (b : Bool) → IsLeftOf ((if b then [] else x ∷ []) ++ rest) (x ∷ xs)
    by rest more true = left-skip rest x xs more
    by rest more false = inl (refl, more)

first-left : {A : Type 0} (f : A → Option Slip) (xs ys : List A) → IsLeftOf xs ys → first_in f ys ≡ None → first_in f xs ≡ None
first-left f [] ys h none = refl
first-left f (x ∷ xs) [] h none = absurd h
first-left f (x ∷ xs) (y ∷ ys) (inl h) none =
    let p = first-none (f y) (first_in f ys) none in
    both-none (f x) (first_in f xs) (ap f h.0 ∙ p.0) (first-left f xs ys h.1 p.1)
first-left f (x ∷ xs) (y ∷ ys) (inr h) none = first-left f (x ∷ xs) ys h (first-none (f y) (first_in f ys) none).1

-- ---- the slips of terms

within-most : (b : Bool) (slip : Slip) → (if b then None else Some slip) ≡ None → b ≡ true
within-most true slip e = refl
within-most false slip e = absurd (there e)
  where
    there : Some slip ≡ None → ⊥
    there q = cc

prefix-less : (t : Term) (less more : ℕ) → less ≤ more → prefix_slip t more ≡ None → prefix_slip t less ≡ None
prefix-less t less more h e =
    let slip : Slip = record { code = TooManyPrefixes; place = t.place; word = t.name } in
    let within = leb-true more most_prefixes (within-most (nat_le more most_prefixes) slip e) in
    ap (λ b. if b then None else Some slip) (le-leb less most_prefixes (omega (arith, within, h)))

more-prefixes : (target : Target) (today : Day) (less more : ℕ) (t : Term) → less ≤ more
    → prefixes_with target today less t ≤ prefixes_with target today more t
more-prefixes target today less more t h = omega (arith, h)

slips-none : (target : Target) (today : Day) (less more : ℕ) (xs ys : List Term) → less ≤ more → IsLeftOf xs ys
    → counted_slip target today more ys ≡ None → counted_slip target today less xs ≡ None
slips-none target today less more [] ys h left none = refl
slips-none target today less more (x ∷ xs) [] h left none = absurd left
slips-none target today less more (x ∷ xs) (y ∷ ys) h (inl left) none =
    let p = first-none (counted_term target today more y) (counted_slip target today (prefixes_with target today more y) ys) none in
    let q = first-none (header_slip target today y) (prefix_slip y (prefixes_with target today more y)) p.0 in
    let fewer = more-prefixes target today less more y h in
    let here : counted_term target today less y ≡ None =
    both-none (header_slip target today y) (prefix_slip y (prefixes_with target today less y)) q.0
    (prefix-less y (prefixes_with target today less y) (prefixes_with target today more y) fewer q.1) in
    let rest : counted_slip target today (prefixes_with target today less y) xs ≡ None =
    slips-none target today (prefixes_with target today less y) (prefixes_with target today more y) xs ys fewer left.1 p.1 in
    subst (λ z. counted_slip target today less (z ∷ xs) ≡ None) (sym left.0)
    (both-none (counted_term target today less y) (counted_slip target today (prefixes_with target today less y) xs) here rest)
slips-none target today less more (x ∷ xs) (y ∷ ys) h (inr left) none =
    let p = first-none (counted_term target today more y) (counted_slip target today (prefixes_with target today more y) ys) none in
    slips-none target today less (prefixes_with target today more y) (x ∷ xs) ys (omega (arith, h)) left p.1

-- ---- of which families there are rules

abbrev has_rule : Target → Day → Family → Term → Bool
has_rule target today f t = list_any (of_family f) (term_rules target today t)

-- A term has a rule in each family in which one that it shades has one: it matches the packet that the other's rule holds.
shading-has : (targets : List Target) (today : Day) (target : Target) (f : Family) → Contains targets target → (i j : Term) → Shades targets today i j
    → has_rule target today f j ≡ true → has_rule target today f i ≡ true
shading-has targets today target f there i j h has =
    let q = term-packet target today j f has in
    let p = q.0 in
    let covered : covers target.families p.family ≡ true = ap (covers target.families) q.2 ∙ q.3 in
    let decided = decides-too targets today target p there i j h (sym (term-step target today j p q.1 covered) ∙ q.4) in
    subst (λ g. has_rule target today g i ≡ true) q.2 (holds-in-family (term_rules target today i) p (term-step target today i p q.1 covered ∙ decided))

families-stay : (targets : List Target) (today : Day) (terms : List Term) (target : Target) (f : Family) → Contains targets target
    → list_any (of_family f) (rules_of target today (unshaded targets today terms)) ≡ list_any (of_family f) (rules_of target today terms)
families-stay targets today terms target f there =
    any-flat (of_family f) (term_rules target today) (unshaded targets today terms)
    ∙ shading-stays targets today terms (has_rule target today f) (shading-has targets today target f there)
    ∙ sym (any-flat (of_family f) (term_rules target today) terms)

-- ---- the filter on a target

filter-none : (targets : List Target) (today : Day) (terms : List Term) (target : Target) → Contains targets target
    → limit_of (filter_of target today terms) ≡ None → limit_of (filter_of target today (unshaded targets today terms)) ≡ None
filter-none targets today terms target there none =
    let kept = unshaded targets today terms in
    fewer-rules-fit (filter_of target today terms) (filter_of target today kept) (record {
      kind_is = refl;
      families_are = refl;
      rules = flat-left (term_rules target today) kept terms (unshaded-left (λ t. t) targets today [] terms);
      kept = λ f has. families-stay targets today terms target f there ∙ has;
    }) none

no-limit : (f : Filter) → check_slip f ≡ None → limit_of f ≡ None
unfolding check_slip
no-limit f e = by (limit_of f) e
  where
    by : (l : Option Limit) → option_map (limit_slip f) l ≡ None → l ≡ None
    by None q = refl
    by (Some l) q = absurd (there q)
      where
        there : Some (limit_slip f l) ≡ None → ⊥
        there r = cc

no-check : (f : Filter) → limit_of f ≡ None → check_slip f ≡ None
unfolding check_slip
no-check f e = ap (option_map (limit_slip f)) e

target-none : (targets : List Target) (today : Day) (written kept : List RawTerm) (terms : List Term) (target : Target) → Contains targets target
    → request_slip today (request_of written terms target) ≡ None → request_slip today (request_of kept (unshaded targets today terms) target) ≡ None
target-none targets today written kept terms target there none =
    let left = unshaded targets today terms in
    let p = first-none (first_slip target today terms) (check_slip (filter_of target today terms)) none in
    both-none (first_slip target today left) (check_slip (filter_of target today left))
    (first_slip_is_counted target today left
    ∙ slips-none target today 0 0 left terms (omega arith) (unshaded-left (λ t. t) targets today [] terms) (sym (first_slip_is_counted target today terms) ∙ p.0))
    (no-check (filter_of target today left) (filter-none targets today terms target there (no-limit (filter_of target today terms) p.1)))

-- What holds of each target that stands in a list holds of all of them.
each-there : {A : Type 0} (P : A → Type 0) (all xs : List A) → ((x : A) → Contains xs x → Contains all x) → ((x : A) → Contains all x → P x) → AllByRecursion P xs
each-there P all [] in-all f = tt
each-there P all (x ∷ xs) in-all f = (
  f x (in-all x (0, omega arith, refl)),
  each-there P all xs (λ y c. in-all y (suc c.0, omega (arith, c.1), c.2)) f,
)

at-target : (today : Day) (written : List RawTerm) (terms : List Term) (xs : List Target) → first_in (request_slip today) (map (request_of written terms) xs) ≡ None
    → (x : Target) → Contains xs x → request_slip today (request_of written terms x) ≡ None
at-target today written terms [] none x c = absurd (omega (arith, c.1))
at-target today written terms (y ∷ ys) none x c =
    let p = first-none (request_slip today (request_of written terms y)) (first_in (request_slip today) (map (request_of written terms) ys)) none in
    by p.0 (λ k h e. at-target today written terms ys p.1 x (k, h, e)) c.0 c.1 c.2
  where
    by : request_slip today (request_of written terms y) ≡ None
        → ((k : ℕ) → k < length ys → slice_index_or ys k x ≡ x → request_slip today (request_of written terms x) ≡ None)
        → (k : ℕ) → k < length (y ∷ ys) → slice_index_or (y ∷ ys) k x ≡ x → request_slip today (request_of written terms x) ≡ None
    by here more zero h e = subst (λ z. request_slip today (request_of written terms z) ≡ None) e here
    by here more (suc k) h e = more k (omega (arith, h)) e

-- ---- the written terms

zip-first : (n : Naming) (raws : List RawTerm) (terms : List Term) → AreResolved n raws terms → map (λ pair. pair.0) (zip raws terms) ≡ raws
zip-first n [] [] h = refl
zip-first n [] (t ∷ ts) h = absurd h
zip-first n (r ∷ rs) [] h = absurd h
zip-first n (r ∷ rs) (t ∷ ts) h = ap (λ xs. r ∷ xs) (zip-first n rs ts h.1)

kept-resolved : (n : Naming) (targets : List Target) (today : Day) (earlier : List Term) (raws : List RawTerm) (terms : List Term) → AreResolved n raws terms
    → AreResolved n (map (λ pair. pair.0) (unshaded_behind (λ pair. pair.1) targets today earlier (zip raws terms))) (unshaded_behind (λ t. t) targets today earlier terms)
kept-resolved n targets today earlier [] [] h = tt
kept-resolved n targets today earlier [] (t ∷ ts) h = absurd h
kept-resolved n targets today earlier (r ∷ rs) [] h = absurd h
kept-resolved n targets today earlier (r ∷ rs) (t ∷ ts) h =
    by (unshaded_behind (λ pair. pair.1) targets today (earlier ++ t ∷ []) (zip rs ts))
    (unshaded_behind (λ u. u) targets today (earlier ++ t ∷ []) ts)
    (kept-resolved n targets today (earlier ++ t ∷ []) rs ts h.1) (is_shaded targets today earlier t)
  where
    by : (pairs : List (RawTerm × Term)) (left : List Term) → AreResolved n (map (λ pair. pair.0) pairs) left
        → (b : Bool) → AreResolved n (map (λ pair. pair.0) ((if b then [] else (r, t) ∷ []) ++ pairs)) ((if b then [] else t ∷ []) ++ left)
    by pairs left more true = more
    by pairs left more false = (h.0, more)

-- A packet has one outcome.
one-outcome : (n : Naming) (target : Target) (today : Day) (raws : List RawTerm) (p : Packet) (a b : Outcome) → PolicyDecides n target today raws p a
    → PolicyDecides n target today raws p b → a ≡ b
one-outcome n target today [] p a b h k = h ∙ sym k
one-outcome n target today (r ∷ rs) p a b (inl h) (inl k) = h.1 ∙ sym k.1
one-outcome n target today (r ∷ rs) p a b (inl h) (inr k) = absurd (k.0 h.0)
one-outcome n target today (r ∷ rs) p a b (inr h) (inl k) = absurd (h.0 k.0)
one-outcome n target today (r ∷ rs) p a b (inr h) (inr k) = one-outcome n target today rs p a b h.1 k.1

-- Lists of written terms whose resolved terms decide a packet alike do so too.
decide-alike : (n : Naming) (target : Target) (today : Day) (raws others : List RawTerm) (terms more : List Term) (p : Packet) → IsPacket p
    → AreResolved n raws terms → AreResolved n others more → policy_outcome target today terms p ≡ policy_outcome target today more p
    → (o : Outcome) → PolicyDecides n target today raws p o → PolicyDecides n target today others p o
decide-alike n target today raws others terms more p packet resolved other same o h =
    let is = one-outcome n target today raws p o (policy_outcome target today terms p) h (decide-as-written n target today raws terms p packet resolved) in
    subst (λ x. PolicyDecides n target today others p x) (sym (is ∙ same)) (decide-as-written n target today others more p packet other)

-- ---- a block

some-left : (targets : List Target) (today : Day) (terms : List Term) → 0 < length terms → unshaded targets today terms ≢ []
some-left targets today [] h = absurd (omega (arith, h))
some-left targets today (t ∷ ts) h = λ none.
    let stays = shading-stays targets today (t ∷ ts) (λ _. true) (λ i j _ _. refl) in
    both_ways true (sym stays ∙ ap (list_any (λ (u : Term). true)) none) refl

resolved-length : (n : Naming) (raws : List RawTerm) (terms : List Term) → AreResolved n raws terms → length terms ≡ length raws
resolved-length n [] [] h = refl
resolved-length n [] (t ∷ ts) h = absurd h
resolved-length n (r ∷ rs) [] h = absurd h
resolved-length n (r ∷ rs) (t ∷ ts) h = ap suc (resolved-length n rs ts h.1)

block-can-go : (n : Naming) (today : Day) (b : Block) (terms : List Term) → IsBlock b → terms_slip n b.terms ≡ None → AreResolved n b.terms terms
    → first_in (request_slip today) (block_requests b terms) ≡ None → ShadedCanGo n today (plan_block (b, terms))
block-can-go n today b terms fits clean resolved none =
    let block = plan_block (b, terms) in
    let size = resolved-length n b.terms terms resolved in
    let kept = kept-resolved n b.targets today [] b.terms terms resolved in
    let left : IsLeftOf (kept_written today block) b.terms =
    subst (IsLeftOf (kept_written today block)) (zip-first n b.terms terms resolved)
    (map-left (λ pair. pair.0) _ _ (unshaded-left (λ pair. pair.1) b.targets today [] (zip b.terms terms))) in
    record {
      some_left = some-left b.targets today terms (omega (arith, size, fits.some_term));
      no_slip = first-left (slip_of n) (kept_written today block) b.terms left clean;
      resolved = kept;
      filters_fit = each-there (λ target. request_slip today (request_of (kept_written today block) (kept_terms today block) target) ≡ None)
          b.targets b.targets (λ x c. c)
          (λ target there. target-none b.targets today b.terms (kept_written today block) terms target there (at-target today b.terms terms b.targets none target there));
      decide = λ target there p packet o.
          let same = shaded-go b.targets today terms target p there in (
            decide-alike n target today b.terms (kept_written today block) terms (kept_terms today block) p packet resolved kept (sym same) o,
            decide-alike n target today (kept_written today block) b.terms (kept_terms today block) terms p packet kept resolved same o,
          );
    }

first-append : {A : Type 0} (f : A → Option Slip) (xs ys : List A) → first_in f (xs ++ ys) ≡ None → (first_in f xs ≡ None) × (first_in f ys ≡ None)
first-append f [] ys e = (refl, e)
first-append f (x ∷ xs) ys e =
    let p = first-none (f x) (first_in f (xs ++ ys)) e in
    let q = first-append f xs ys p.1 in
    (both-none (f x) (first_in f xs) p.0 q.0, q.1)

blocks-can-go : (n : Naming) (today : Day) (blocks : List Block) (lists : List (List Term)) → AllByRecursion IsBlock blocks → blocks_slip n blocks ≡ None
    → AreResolvedIn n blocks lists → requests_slip today (requests_in blocks lists) ≡ None → AllByRecursion (ShadedCanGo n today) (map plan_block (zip blocks lists))
blocks-can-go n today [] lists fits clean resolved none = tt
blocks-can-go n today (b ∷ bs) [] fits clean resolved none = tt
blocks-can-go n today (b ∷ bs) (ts ∷ tss) fits clean resolved none =
    let c = first-none (terms_slip n b.terms) (blocks_slip n bs) clean in
    let r = first-append (request_slip today) (block_requests b ts) (requests_in bs tss) none in
    (block-can-go n today b ts fits.0 c.0 resolved.0 r.0, blocks-can-go n today bs tss fits.1 c.1 resolved.1 r.1)

-- ---- the plan of a job

pub planned-none : (labels : List (List ℕ)) (slip : Option Slip) (made plan : Plan) → or_slip labels slip made ≡ Ok plan → (slip ≡ None) × (plan ≡ made)
planned-none labels None made plan e = (refl, cc)
planned-none labels (Some slip) made plan e = absurd cc

pub shaded-can-go : (o : Options) (today : Day) (files : List File) (plan : Plan) → Plans o today files (Ok plan)
    → AllByRecursion (ShadedCanGo plan.naming plan.today) plan.blocks
shaded-can-go o today files plan (Ok loaded, loads, is) =
    let stands = loaded-stands o.definitions o.policy files loaded loads in
    let p = planned-none loaded.sources.labels (job_slip o today loaded) (plan_of o today loaded) plan (sym is) in
    let q = first-none (loaded_slip today loaded) (asked_shaded o.shade_check today loaded) p.0 in
    subst (λ (x : Plan). AllByRecursion (ShadedCanGo x.naming x.today) x.blocks) (sym p.1)
    (blocks-can-go loaded.definitions today loaded.policy.blocks loaded.terms
    (recursion_from_All IsBlock loaded.policy.blocks stands.policy_fits.blocks_are) stands.no_slip stands.resolved q.0)
shaded-can-go o today files plan (Err fault, loads, is) = absurd (other is)
  where
    other : Ok plan ≡ Err fault → ⊥
    other e = cc
