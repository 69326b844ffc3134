-- The texts that are made are those of answers.
use Rattle.std.proofs.Common.{◌≡◌, ℕ, ◌++◌, Bool, true, false, cond, List, [], ◌∷◌, filter, flat_map, map, zip, Option, None, Some, Result, Ok, Err, IfSome, refl, ap, ap₂, sym, subst, ◌∙◌}
use Rattle.std.specs.List.{AllByRecursion}
use Rattle.std.specs.Prelude.{IsErrAnd}
use Rattle.std.proofs.lemmas.Grind.{flat_map-append}
use Rattle.std.proofs.lemmas.List.Folds.{flat_map-map}
use Rattle.acl_packet.specs.Addresses.{covers}
use Rattle.acl_packet.specs.Packets.{IsPacket}
use Rattle.acl_packet.specs.declared.filtering.Outcome.{Outcome}
use Rattle.acl_packet.specs.declared.packets.Packet.{Packet}
use Rattle.acl_text.specs.Answers.{Answers, fault_told}
use Rattle.acl_text.specs.Wholes.{Gathered}
use Rattle.acl_text.specs.declared.faults.Code.TheVariants.{TooLong}
use Rattle.acl_text.specs.declared.faults.Fault.{Fault}
use Rattle.acl_text.specs.declared.faults.Rejection.{Rejection}
use Rattle.acl_text.specs.declared.faults.Rejection.TheVariants as rejections
use Rattle.acl_host.specs.declared.days.Day.{Day}
use Rattle.acl_host.specs.Files.{File}
use Rattle.acl_host.specs.WholeFiles.{whole_file}
use Rattle.acl_filters.specs.AskedFilters.{FilterRequest}
use Rattle.acl_filters.specs.FilterRequests.{block_requests, request_of, requests_in, requests_of}
use Rattle.acl_filters.proofs.MeantFilters.{resolved-requests}
use Rattle.acl_filters.specs.PlatformLanguages.{SectionOn, SpellsOn, outcome_on}
use Rattle.acl_load.specs.declared.load_faults.LoadFault.{LoadFault}
use Rattle.acl_load.specs.declared.policy_loading.Loaded.{Loaded}
use Rattle.acl_load.specs.LoadedPolicies.{AreResolved, AreResolvedIn, FirstFaultOr, LoadsPolicy}
use Rattle.acl_load.specs.LoadFaults.{of_rejection}
use Rattle.acl_naming.specs.Definitions.{Naming}
use Rattle.acl_options.specs.CheckCommands.{FileSection}
use Rattle.acl_options.specs.Commands.{Inputs}
use Rattle.acl_policy.specs.declared.blocks.Block.{Block}
use Rattle.acl_policy.specs.RawTerms.{RawTerm}
use Rattle.acl_target.specs.declared.targets.Kind.{Kind}
use Rattle.acl_target.specs.declared.targets.Target.{Target}
use Rattle.acl_terms.specs.declared.terms.Term.{Term}
use Rattle.acl_rows.specs.Scans.{Finds}
use Rattle.acl_rows.specs.declared.scanning.SectionVerdict.{SectionVerdict}
use Rattle.aclcheck_core.specs.AnswerSteps.{answered, block_lines, decided_line, decided_of, named_line, target_lines}
use Rattle.aclcheck_core.specs.CheckAnswers.{AsksPolicyOf, AsksSection, CheckAnswer, MakesText, OfPolicy, OfSection, answer_text}
use Rattle.aclcheck_core.specs.PolicyAnswers.{Answered, AnswersPolicy, IsAnswered, PolicyAnswer, answer_line, asked_of}
use Rattle.aclcheck_core.specs.SectionAnswers.{AnswersBytes, AnswersSection, MOST_OF_TEXT, section_line}
use Rattle.aclcheck_core.proofs.DeciderLaws.{decided-as-written}

-- ---- the lines on a policy

line-of : (today : Day) (p : Packet) (r : FilterRequest) → answer_line (answered today p r) ≡ decided_line r.target (decided_of r.target today p r.terms)
unfolding answer_line named_line
line-of today p r = refl

abbrev asked-lines : Day → Packet → FilterRequest → List ℕ
asked-lines today p r = cond (covers r.target.families p.family) (answer_line (answered today p r)) []

lines-of-kept : (today : Day) (p : Packet) (rs : List FilterRequest)
    → flat_map answer_line (map (answered today p) (filter (λ r. covers r.target.families p.family) rs)) ≡ flat_map (asked-lines today p) rs
lines-of-kept today p [] = refl
lines-of-kept today p (r ∷ rs) = by (lines-of-kept today p rs) (covers r.target.families p.family)
  where
    by : flat_map answer_line (map (answered today p) (filter (λ x. covers x.target.families p.family) rs)) ≡ flat_map (asked-lines today p) rs
        → (b : Bool) → flat_map answer_line (map (answered today p) (cond b (r ∷ filter (λ x. covers x.target.families p.family) rs) (filter (λ x. covers x.target.families p.family) rs)))
        ≡ cond b (answer_line (answered today p r)) [] ++ flat_map (asked-lines today p) rs
    by more true = ap (λ t. answer_line (answered today p r) ++ t) more
    by more false = more

lines-of-target : (today : Day) (p : Packet) (written : List RawTerm) (terms : List Term) (t : Target)
    → target_lines today p terms t ≡ asked-lines today p (request_of written terms t)
lines-of-target today p written terms t =
    ap (λ l. cond (covers t.families p.family) l []) (sym (line-of today p (request_of written terms t)))

lines-of-targets : (today : Day) (p : Packet) (written : List RawTerm) (terms : List Term) (ts : List Target)
    → flat_map (target_lines today p terms) ts ≡ flat_map (asked-lines today p) (map (request_of written terms) ts)
lines-of-targets today p written terms [] = refl
lines-of-targets today p written terms (t ∷ ts) =
    ap₂ (λ a b. a ++ b) (lines-of-target today p written terms t) (lines-of-targets today p written terms ts)

lines-of-blocks : (today : Day) (p : Packet) (blocks : List Block) (lists : List (List Term))
    → flat_map (block_lines today p) (zip blocks lists) ≡ flat_map (asked-lines today p) (requests_in blocks lists)
lines-of-blocks today p [] lists = refl
lines-of-blocks today p (b ∷ bs) [] = refl
lines-of-blocks today p (b ∷ bs) (ts ∷ tss) =
    ap₂ (λ x y. x ++ y) (lines-of-targets today p b.terms ts b.targets) (lines-of-blocks today p bs tss)
    ∙ sym (flat_map-append (asked-lines today p) (block_requests b ts) (requests_in bs tss))

-- ---- the answer on a policy

abbrev answer-on : Loaded → Day → Packet → PolicyAnswer
answer-on loaded today p = record { today = today; packet = p; answers = map (answered today p) (asked_of p loaded) }

requests-again : (today : Day) (p : Packet) (rs : List FilterRequest) → map (λ (a : Answered). a.request) (map (answered today p) rs) ≡ rs
requests-again today p [] = refl
requests-again today p (r ∷ rs) = ap (λ xs. r ∷ xs) (requests-again today p rs)

all-answered : (n : Naming) (today : Day) (p : Packet) → IsPacket p → (rs : List FilterRequest)
    → AllByRecursion (λ (r : FilterRequest). AreResolved n r.written r.terms) rs
    → AllByRecursion (IsAnswered n today p) (map (answered today p) (filter (λ r. covers r.target.families p.family) rs))
all-answered n today p fits [] h = tt
all-answered n today p fits (r ∷ rs) h = by (all-answered n today p fits rs h.1) (covers r.target.families p.family)
  where
    by : AllByRecursion (IsAnswered n today p) (map (answered today p) (filter (λ x. covers x.target.families p.family) rs))
        → (b : Bool) → AllByRecursion (IsAnswered n today p)
        (map (answered today p) (cond b (r ∷ filter (λ x. covers x.target.families p.family) rs) (filter (λ x. covers x.target.families p.family) rs)))
    by more true = (decided-as-written n r.target today r.written r.terms p fits h.0, more)
    by more false = more

pub policy-made : (inputs : Inputs) (p : Packet) (today : Day) (told : Option (List File)) (loaded : Loaded) (text : Gathered) → IsPacket p
    → IfSome told (λ files. LoadsPolicy inputs.definitions inputs.policy files (Ok loaded))
    → AreResolvedIn loaded.definitions loaded.policy.blocks loaded.terms
    → text.bytes ≡ flat_map (block_lines today p) (zip loaded.policy.blocks loaded.terms)
    → MakesText (AsksPolicyOf inputs p today) told (Ok text)
policy-made inputs p today None loaded text fits loads resolved is = tt
policy-made inputs p today (Some files) loaded text fits loads resolved is = (
  OfPolicy (answer-on loaded today p),
  (
    Ok loaded,
    loads,
    record {
      today_is = refl;
      packet_is = refl;
      targets_are = requests-again today p (asked_of p loaded);
      decided = all-answered loaded.definitions today p fits (requests_of loaded)
          (resolved-requests loaded.definitions loaded.policy.blocks loaded.terms resolved);
    },
  ),
  is ∙ lines-of-blocks today p loaded.policy.blocks loaded.terms ∙ sym (lines-of-kept today p (requests_of loaded)),
)

-- ---- a section

abbrev pub FoundOn : List ℕ → ℕ → Packet → SectionVerdict → Kind → Type 0
FoundOn text which p v kind = Finds (SpellsOn kind text) (λ (doc : List (SectionOn kind)). outcome_on kind doc which p) v

pub section-made : (at : FileSection) (p : Packet) (told : Option (List File)) (bytes : List ℕ) (o : Outcome) (text : Gathered)
    → IfSome told (λ files. whole_file MOST_OF_TEXT TooLong at.path files ≡ Ok bytes) → AnswersBytes at p bytes (Ok o)
    → text.bytes ≡ section_line at o → MakesText (AsksSection at p) told (Ok text)
section-made at p None bytes o text e h is = tt
section-made at p (Some files) bytes o text e h is = (
  OfSection at o,
  (refl, subst (λ (r : Result (List ℕ) Fault). FirstFaultOr (AnswersBytes at p) r (Ok o)) (sym e) h),
  is,
)

pub section-fault : (at : FileSection) (p : Packet) (told : Option (List File)) (bytes : List ℕ) (rejection : Rejection) (given : Result Gathered LoadFault)
    → IfSome told (λ files. whole_file MOST_OF_TEXT TooLong at.path files ≡ Ok bytes)
    → Answers {X = Outcome} {Y = Outcome} fault_told (λ o. o) (Err rejection) (AnswersBytes at p bytes) → IsErrAnd given (λ x. x ≡ of_rejection rejection)
    → MakesText (AsksSection at p) told given
section-fault at p told bytes rejection (Ok text) known h is = absurd is
section-fault at p told bytes rejection (Err e) known h is =
    subst (λ (x : LoadFault). MakesText (AsksSection at p) told (Err x)) (sym is) (by told rejection known h)
  where
    by : (t : Option (List File)) (r : Rejection) → IfSome t (λ files. whole_file MOST_OF_TEXT TooLong at.path files ≡ Ok bytes)
        → Answers {X = Outcome} {Y = Outcome} fault_told (λ o. o) (Err r) (AnswersBytes at p bytes) → MakesText (AsksSection at p) t (Err (of_rejection r))
    by None r k g = tt
    by (Some files) (rejections.Fault fault) k g =
        subst (λ (x : Result (List ℕ) Fault). FirstFaultOr (AnswersBytes at p) x (Err fault)) (sym k) g
    by (Some files) rejections.Memory k g = tt
