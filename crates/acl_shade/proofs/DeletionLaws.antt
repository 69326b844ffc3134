-- A block without its shaded terms.
use Rattle.std.proofs.Common.{◌≡◌, ℕ, ◌+◌, Bool, true, false, cond, ◌&&◌, ◌||◌, List, [], ◌∷◌, ◌++◌, map, ◌⊎◌, inl, inr, refl, ap, sym, ◌∙◌, subst}
use Rattle.std.specs.Prelude.{Contains, nat_le, ◌==◌, if◌then◌else◌}
use Rattle.std.specs.List.{AllByRecursion, list_any}
use Rattle.std.proofs.lemmas.Bool.{and_from, and_parts, both_ways, cases_Bool, false_from_ne_true, or_cases, or_from, or_left, or_right}
use Rattle.std.proofs.lemmas.List.Folds.{list_any-append}
use Rattle.acl_packet.specs.declared.addresses.Family.{Family}
use Rattle.acl_packet.specs.declared.packet_fields.Field.TheVariants.{SourcePort, DestinationPort}
use Rattle.acl_packet.specs.declared.packets.Packet.{Packet}
use Rattle.acl_packet.specs.Packets.{has_ack_or_rst, number_of}
use Rattle.acl_packet.proofs.FieldLaws.{all-fields}
use Rattle.acl_host.specs.declared.days.Day.{Day}
use Rattle.acl_sets.specs.Ranges.{Numbers, holds}
use Rattle.acl_target.specs.declared.targets.Target.{Target}
use Rattle.acl_target.specs.FilterEndings.{ending_outcome}
use Rattle.acl_terms.specs.declared.options.Mode.{Mode}
use Rattle.acl_terms.specs.declared.options.Mode.TheVariants.{Stateful, Stateless}
use Rattle.acl_terms.specs.declared.options.Opt.{Opt}
use Rattle.acl_terms.specs.declared.options.Opt.TheVariants.{Plain, Established, TcpEstablished, TcpInitial, Rst}
use Rattle.acl_terms.specs.declared.terms.Term.{Term}
use Rattle.acl_terms.specs.Options.{passes}
use Rattle.acl_terms.specs.Outcomes.{decides, mode_of, outcome_of, policy_outcome}
use Rattle.acl_terms.specs.Resolved.{addresses_match, destination_in, either_in, has_number, holds_either, is_term_live, matches, numbers_match, source_in}
use Rattle.acl_terms.proofs.LifeLaws.{live-law}
use Rattle.acl_terms.proofs.PairLaws.{matched-some}
use Rattle.acl_shade.specs.ComputableShading.{is_shaded, shades, unshaded, unshaded_behind}
use Rattle.acl_shade.specs.Deletions.{AnyShadedTermsCanGo, ShadedTermsCanGo, ShadingTermStays, without, without_from}
use Rattle.acl_shade.proofs.ChosenTerms.{is_told, only-shaded, only-told, OnlyShaded, told_go}
use Rattle.acl_shade.specs.Shading.{LiesWithinIn, OptionCovers, PortsNamed, Shades, SomeLiesWithin}
use Rattle.acl_shade.proofs.ShadingLaws.{shading-law}

-- ---- what a term decides, a shading one does

fewer-ports : (c a m n d : Bool) → (m ≡ true) ⊎ (n ≡ false) → cond c a (n || d) ≡ true → cond c a (m || d) ≡ true
fewer-ports true a m n d named h = h
fewer-ports false a m n d named h = elim named [
  | inl passed ↦ or_left m d passed
  | inr none ↦ elim (or_cases n d h) [
    | inl passed ↦ absurd (both_ways n none passed)
    | inr high ↦ or_right m d high
  ]
]

passes-too : (o : Opt) (mode : Mode) (i j : Term) (p : Packet) → PortsNamed o i j
    → passes o mode j.dport_named p ≡ true → passes o mode i.dport_named p ≡ true
passes-too Plain mode i j p named h = refl
passes-too Established Stateful i j p named h = h
passes-too Established Stateless i j p named h =
    fewer-ports (p.proto == 6) (has_ack_or_rst p) i.dport_named j.dport_named (nat_le 1024 p.dport) named h
passes-too TcpEstablished Stateful i j p named h = h
passes-too TcpEstablished Stateless i j p named h = h
passes-too TcpInitial mode i j p named h = h
passes-too Rst mode i j p named h = h

option-passes : (mode : Mode) (i j : Term) (p : Packet) → OptionCovers i j
    → passes j.option mode j.dport_named p ≡ true → passes i.option mode i.dport_named p ≡ true
option-passes mode i j p covers h = elim covers [
  | inl plain ↦ subst (λ o. passes o mode i.dport_named p ≡ true) (sym plain) refl
  | inr same ↦ passes-too i.option mode i j p same.1
      (subst (λ o. passes o mode j.dport_named p ≡ true) (sym same.0) h)
]

-- One of two numbers is in a set, where one of them is in a set that lies within it, or both are in two sets of which
-- one does.
either-too : (a s d other : Numbers) (x y : ℕ) → SomeLiesWithin (a ∷ s ∷ d ∷ []) other
    → holds s.ranges x ≡ true → holds d.ranges y ≡ true → holds_either a x y ≡ true → holds_either other x y ≡ true
either-too a s d other x y w hs hd ha =
    let first = holds other.ranges x in
    let second = holds other.ranges y in
    elim w [
      | inl within ↦ elim (or_cases (holds a.ranges x) (holds a.ranges y) ha) [
        | inl l ↦ or_left first second (within x l)
        | inr r ↦ or_right first second (within y r)
      ]
      | inr u ↦ elim u [
        | inl within ↦ or_left first second (within x hs)
        | inr v ↦ elim v [
          | inl within ↦ or_right first second (within y hd)
          | inr e ↦ absurd e
        ]
      ]
    ]

addresses-too : (f : Family) (i j : Term) (p : Packet) → LiesWithinIn f i j → addresses_match f j p ≡ true
    → addresses_match f i p ≡ true
addresses-too f i j p w h =
    let a = and_parts (holds (source_in f j).ranges p.src)
    (holds (destination_in f j).ranges p.dst && holds_either (either_in f j) p.src p.dst) h in
    let b = and_parts (holds (destination_in f j).ranges p.dst) (holds_either (either_in f j) p.src p.dst) a.1 in
    and_from (holds (source_in f i).ranges p.src)
    (holds (destination_in f i).ranges p.dst && holds_either (either_in f i) p.src p.dst) (w.source p.src a.0)
    (and_from (holds (destination_in f i).ranges p.dst) (holds_either (either_in f i) p.src p.dst)
    (w.destination p.dst b.0)
    (either-too (either_in f j) (source_in f j) (destination_in f j) (either_in f i) p.src p.dst w.either a.0 b.0 b.1))

numbers-too : (f : Family) (i j : Term) (p : Packet) → LiesWithinIn f i j → numbers_match f j p ≡ true
    → numbers_match f i p ≡ true
numbers-too f i j p w h = (all-fields (λ field. has_number f i field (number_of field p))).1 (λ field.
    w.numbers field (number_of field p) ((all-fields (λ other. has_number f j other (number_of other p))).0 h field))

matches-too : (targets : List Target) (today : Day) (mode : Mode) (i j : Term) (p : Packet)
    → Shades targets today i j → matches mode j p ≡ true → matches mode i p ≡ true
unfolding matches
matches-too targets today mode i j p s h =
    let f = p.family in
    let last : Term → Bool = λ t. holds_either t.ports p.sport p.dport && passes t.option mode t.dport_named p in
    let a = and_parts (addresses_match f j p) (numbers_match f j p && last j) h in
    let b = and_parts (numbers_match f j p) (last j) a.1 in
    let d = and_parts (holds_either j.ports p.sport p.dport) (passes j.option mode j.dport_named p) b.1 in
    let w = s.packets.each f (matched-some f mode j p h) in
    let numbers = all-fields (λ field. has_number f j field (number_of field p)) in
    and_from (addresses_match f i p) (numbers_match f i p && last i) (addresses-too f i j p w a.0)
    (and_from (numbers_match f i p) (last i) (numbers-too f i j p w b.0)
    (and_from (holds_either i.ports p.sport p.dport) (passes i.option mode i.dport_named p)
    (either-too j.ports j.sports j.dports i.ports p.sport p.dport s.either_ports (numbers.0 b.0 SourcePort)
    (numbers.0 b.0 DestinationPort) d.0) (option-passes mode i j p s.option d.1)))

pub decides-too : (targets : List Target) (today : Day) (target : Target) (p : Packet) → Contains targets target
    → (i j : Term) → Shades targets today i j → decides target today p j ≡ true → decides target today p i ≡ true
decides-too targets today target p one i j s h =
    let a = and_parts (is_term_live j target.kind today) (matches (mode_of target) j p) h in
    and_from (is_term_live i target.kind today) (matches (mode_of target) i p)
    ((live-law i target.kind today).1 (s.live.everywhere target one ((live-law j target.kind today).0 a.0)))
    (matches-too targets today (mode_of target) i j p s a.1)

-- ---- the first term that passes a test stays

-- what is told of the first term that passes the test
abbrev pub told : {A : Type 0} → (Term → Bool) → (Term → A) → A → List Term → A
told test tell none [] = none
told test tell none (x ∷ xs) = cond (test x) (tell x) (told test tell none xs)

-- a term is shaded by a term that passes, where it passes
pub shaded-passes : (targets : List Target) (today : Day) (test : Term → Bool)
    → ((i j : Term) → Shades targets today i j → test j ≡ true → test i ≡ true)
    → (earlier : List Term) (j : Term) → is_shaded targets today earlier j ≡ true → test j ≡ true
    → list_any test earlier ≡ true
shaded-passes targets today test keeps [] j s t = absurd (both_ways false refl s)
shaded-passes targets today test keeps (i ∷ earlier) j s t =
    elim (or_cases (shades targets today i j) (is_shaded targets today earlier j) s) [
      | inl a ↦ or_left (test i) (list_any test earlier) (keeps i j ((shading-law targets today i j).0 a) t)
      | inr b ↦ or_right (test i) (list_any test earlier)
          (shaded-passes targets today test keeps earlier j b t)
    ]

-- where the term at the head passes, it stays, and is the first
told-passing : {A : Type 0} (test : Term → Bool) (tell : Term → A) (none : A) (shaded : Bool) (x : Term)
    (rest xs : List Term) → test x ≡ true → shaded ≡ false
    → told test tell none ((if shaded then [] else x ∷ []) ++ rest) ≡ told test tell none (x ∷ xs)
told-passing test tell none true x rest xs t s = absurd (both_ways true s refl)
told-passing test tell none false x rest xs t s =
    ap (λ b. cond b (tell x) (told test tell none rest)) t
    ∙ sym (ap (λ b. cond b (tell x) (told test tell none xs)) t)

-- where it fails, it may go
told-failing : {A : Type 0} (test : Term → Bool) (tell : Term → A) (none : A) (shaded : Bool) (x : Term)
    (rest xs : List Term) → test x ≡ false → told test tell none rest ≡ told test tell none xs
    → told test tell none ((if shaded then [] else x ∷ []) ++ rest) ≡ told test tell none (x ∷ xs)
told-failing test tell none true x rest xs t e =
    e ∙ sym (ap (λ b. cond b (tell x) (told test tell none xs)) t)
told-failing test tell none false x rest xs t e = ap (λ y. cond (test x) (tell x) y) e

first-stays : {A : Type 0} (targets : List Target) (today : Day) (test : Term → Bool) (tell : Term → A) (none : A)
    → ((i j : Term) → Shades targets today i j → test j ≡ true → test i ≡ true)
    → (chosen : ℕ → Bool) (place : ℕ) (earlier xs : List Term) → OnlyShaded targets today chosen place earlier xs
    → list_any test earlier ≡ false
    → told test tell none (without_from chosen place xs) ≡ told test tell none xs
first-stays targets today test tell none keeps chosen place earlier [] h fail = refl
first-stays targets today test tell none keeps chosen place earlier (x ∷ xs) h fail =
    let rest = without_from chosen (place + 1) xs in
    elim (cases_Bool (test x)) [
      | inl passed ↦ told-passing test tell none (chosen place) x rest xs passed
          (false_from_ne_true (chosen place) (λ c. both_ways (list_any test earlier) fail
          (shaded-passes targets today test keeps earlier x (h.0 c) passed)))
      | inr fails ↦ told-failing test tell none (chosen place) x rest xs fails
          (first-stays targets today test tell none keeps chosen (place + 1) (earlier ++ x ∷ []) xs h.1
          (list_any-append test earlier (x ∷ [])
          ∙ or_from (list_any test earlier) (test x || false) fail (or_from (test x) false fails refl)))
    ]

-- the same where all shaded terms go at once
unshaded-stay : {A : Type 0} (targets : List Target) (today : Day) (test : Term → Bool) (tell : Term → A) (none : A)
    → ((i j : Term) → Shades targets today i j → test j ≡ true → test i ≡ true) → (terms : List Term)
    → told test tell none (unshaded targets today terms) ≡ told test tell none terms
unshaded-stay targets today test tell none keeps terms =
    ap (λ ts. told test tell none ts) (told_go targets today terms)
    ∙ first-stays targets today test tell none keeps (is_told targets today terms) 0 [] terms
    (only-told targets today terms [] terms refl) refl

-- ---- the laws

told-any : (test : Term → Bool) (xs : List Term) → list_any test xs ≡ told test (λ _. true) false xs
told-any test [] = refl
told-any test (x ∷ xs) = one (test x) (list_any test xs) (told test (λ _. true) false xs) (told-any test xs)
  where
    one : (b c d : Bool) → c ≡ d → (b || c) ≡ cond b true d
    one true c d e = refl
    one false c d e = e

pub shading-stays : ShadingTermStays
shading-stays targets today terms test keeps =
    told-any test (unshaded targets today terms)
    ∙ unshaded-stay targets today test (λ _. true) false keeps terms
    ∙ sym (told-any test terms)

told-outcome : (target : Target) (today : Day) (p : Packet) (xs : List Term) → policy_outcome target today xs p
    ≡ told (decides target today p) outcome_of (ending_outcome target.ending p) xs
unfolding policy_outcome
told-outcome target today p [] = refl
told-outcome target today p (x ∷ xs) =
    ap (λ o. cond (decides target today p x) (outcome_of x) o) (told-outcome target today p xs)

pub any-shaded-go : AnyShadedTermsCanGo
any-shaded-go targets today terms chosen target p shaded one =
    told-outcome target today p (without chosen terms)
    ∙ first-stays targets today (decides target today p) outcome_of (ending_outcome target.ending p)
    (decides-too targets today target p one) chosen 0 [] terms
    (only-shaded targets today terms chosen shaded [] terms refl) refl
    ∙ sym (told-outcome target today p terms)

pub shaded-go : ShadedTermsCanGo
shaded-go targets today terms target p one =
    told-outcome target today p (unshaded targets today terms)
    ∙ unshaded-stay targets today (decides target today p) outcome_of (ending_outcome target.ending p)
    (decides-too targets today target p one) terms
    ∙ sym (told-outcome target today p terms)

-- ---- things that stand for terms

-- What stands for terms loses what stands for the shaded ones.
pub unshaded-map : {X : Type 0} (term_of : X → Term) (targets : List Target) (today : Day) (earlier : List Term)
    (xs : List X) → map term_of (unshaded_behind term_of targets today earlier xs)
    ≡ unshaded_behind (λ t. t) targets today earlier (map term_of xs)
unshaded-map term_of targets today earlier [] = refl
unshaded-map {X = X} term_of targets today earlier (x ∷ xs) =
    head (is_shaded targets today earlier (term_of x)) x
    (unshaded_behind term_of targets today (earlier ++ term_of x ∷ []) xs)
    (unshaded_behind (λ t. t) targets today (earlier ++ term_of x ∷ []) (map term_of xs))
    (unshaded-map term_of targets today (earlier ++ term_of x ∷ []) xs)
  where
    head : (shaded : Bool) (x : X) (rest : List X) (terms : List Term) → map term_of rest ≡ terms
        → map term_of ((if shaded then [] else x ∷ []) ++ rest) ≡ (if shaded then [] else term_of x ∷ []) ++ terms
    head true x rest terms e = e
    head false x rest terms e = ap (λ ts. term_of x ∷ ts) e

-- What holds of each holds of each that is left.
pub unshaded-each : {X : Type 0} (P : X → Type 0) (term_of : X → Term) (targets : List Target) (today : Day)
    (earlier : List Term) (xs : List X) → AllByRecursion P xs
    → AllByRecursion P (unshaded_behind term_of targets today earlier xs)
unshaded-each P term_of targets today earlier [] h = tt
unshaded-each {X = X} P term_of targets today earlier (x ∷ xs) h =
    head (is_shaded targets today earlier (term_of x)) x
    (unshaded_behind term_of targets today (earlier ++ term_of x ∷ []) xs) h.0
    (unshaded-each P term_of targets today (earlier ++ term_of x ∷ []) xs h.1)
  where
    head : (shaded : Bool) (x : X) (rest : List X) → P x → AllByRecursion P rest
        → AllByRecursion P ((if shaded then [] else x ∷ []) ++ rest)
    head true x rest p r = r
    head false x rest p r = (p, r)
