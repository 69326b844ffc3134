-- The combinations of a rule hold what its sets hold, and a sound rule has one.
use Rattle.std.proofs.Common.{◌≡◌, ℕ, Bool, ◌&&◌, ◌||◌, List, [], ◌∷◌, map, Option, refl, ap, sym, ◌∙◌}
use Rattle.std.specs.List.{list_any}
use Rattle.acl_packet.specs.declared.packet_fields.Field.TheVariants.{Protocol, SourcePort, DestinationPort, IcmpType, IcmpCode}
use Rattle.acl_packet.specs.declared.addresses.Prefix.{Prefix}
use Rattle.acl_packet.specs.Addresses.{has_address}
use Rattle.acl_packet.specs.AddressLists.{any_has}
use Rattle.acl_platform.specs.Choices.{in_range, is_chosen, number_choices, pairs, range_choices}
use Rattle.acl_platform.specs.Combinations.{combination_holds, combination_of, CombinationsHold, parts_of, SomeCombination}
use Rattle.acl_platform.proofs.ChoiceLaws.{any-number, any-range, some-map, some-number, some-range}
use Rattle.acl_platform.proofs.FieldLaws.{combination-told, sets-told}
use Rattle.acl_platform.proofs.PairLaws.{any-pairs, some-pair}
use Rattle.acl_platform.proofs.SoundRules.{in-tops}

any-map : {A B : Type 0} (test : B → Bool) (f : A → B) (xs : List A) → list_any test (map f xs) ≡ list_any (λ x. test (f x)) xs
any-map test f [] = refl
any-map test f (x ∷ xs) = ap (λ t. test (f x) || t) (any-map test f xs)

pub any-same : {A : Type 0} (f g : A → Bool) → ((x : A) → f x ≡ g x) → (xs : List A) → list_any f xs ≡ list_any g xs
any-same f g e [] = refl
any-same f g e (x ∷ xs) = ap (λ t. t || list_any f xs) (e x) ∙ ap (λ t. g x || t) (any-same f g e xs)

five-same : {a d e f g : Bool} (b c : Bool) {v w x y z : Bool} → a ≡ v → d ≡ w → e ≡ x → f ≡ y → g ≡ z
    → a && (b && (c && (d && (e && (f && g))))) ≡ v && (b && (c && (w && (x && (y && z)))))
five-same {a = a} {d = d} {e = e} {f = f} {g = g} b c {v = v} {w = w} {x = x} {y = y} {z = z} p q r s t =
    ap (λ u. u && (b && (c && (d && (e && (f && g)))))) p ∙ ap (λ u. v && (b && (c && (u && (e && (f && g)))))) q
    ∙ ap (λ u. v && (b && (c && (w && (u && (f && g)))))) r ∙ ap (λ u. v && (b && (c && (w && (x && (u && g)))))) s
    ∙ ap (λ u. v && (b && (c && (w && (x && (y && u)))))) t

pub any-combination : CombinationsHold
any-combination kind families r p h k =
    let proto : Option ℕ → Bool = λ o. is_chosen o p.proto in
    let src : Prefix → Bool = λ q. has_address q p.src in
    let dst : Prefix → Bool = λ q. has_address q p.dst in
    let from : Option (ℕ × ℕ) → Bool = λ o. in_range o p.sport in
    let into : Option (ℕ × ℕ) → Bool = λ o. in_range o p.dport in
    let type_ : Option ℕ → Bool = λ o. is_chosen o p.itype in
    let code : Option ℕ → Bool = λ o. is_chosen o p.icode in
    let icmp : Option ℕ × Option ℕ → Bool = λ c. type_ c.0 && code c.1 in
    let last : Option (ℕ × ℕ) × (Option ℕ × Option ℕ) → Bool = λ c. into c.0 && icmp c.1 in
    let ports : Option (ℕ × ℕ) × (Option (ℕ × ℕ) × (Option ℕ × Option ℕ)) → Bool = λ c. from c.0 && last c.1 in
    let third : Prefix × (Option (ℕ × ℕ) × (Option (ℕ × ℕ) × (Option ℕ × Option ℕ))) → Bool = λ c. dst c.0 && ports c.1 in
    let second : Prefix × (Prefix × (Option (ℕ × ℕ) × (Option (ℕ × ℕ) × (Option ℕ × Option ℕ)))) → Bool =
    λ c. src c.0 && third c.1 in
    let codes = number_choices r.icodes in
    let types = number_choices r.itypes in
    let dports = range_choices r.dports in
    let sports = range_choices r.sports in
    let protos = number_choices r.protos in
    let tops = in-tops kind families r p h k in
    any-map (combination_holds p) combination_of (parts_of r)
    ∙ any-same (λ c. combination_holds p (combination_of c)) (λ c. proto c.0 && second c.1)
    (λ c. combination-told p (combination_of c)) (parts_of r)
    ∙ any-pairs proto second protos (pairs r.src (pairs r.dst (pairs sports (pairs dports (pairs types codes)))))
    ∙ ap (λ t. list_any proto protos && t) (any-pairs src third r.src (pairs r.dst (pairs sports (pairs dports (pairs types codes))))
    ∙ ap (λ t. any_has r.src p.src && t) (any-pairs dst ports r.dst (pairs sports (pairs dports (pairs types codes)))
    ∙ ap (λ t. any_has r.dst p.dst && t) (any-pairs from last sports (pairs dports (pairs types codes))
    ∙ ap (λ t. list_any from sports && t) (any-pairs into icmp dports (pairs types codes)
    ∙ ap (λ t. list_any into dports && t) (any-pairs type_ code types codes)))))
    ∙ five-same (any_has r.src p.src) (any_has r.dst p.dst) (any-number r.protos p.proto (tops Protocol)) (any-range r.sports p.sport (tops SourcePort))
    (any-range r.dports p.dport (tops DestinationPort)) (any-number r.itypes p.itype (tops IcmpType))
    (any-number r.icodes p.icode (tops IcmpCode))
    ∙ sym (sets-told r p)

pub some-combination : SomeCombination
some-combination kind families r h =
    let codes = number_choices r.icodes in
    let types = number_choices r.itypes in
    let dports = range_choices r.dports in
    let sports = range_choices r.sports in
    let protos = number_choices r.protos in
    some-map combination_of (parts_of r) (some-pair protos (pairs r.src (pairs r.dst (pairs sports (pairs dports (pairs types codes)))))
    (some-number 0 255 r.protos (h.numbers Protocol).normal (h.numbers Protocol).some)
    (some-pair r.src (pairs r.dst (pairs sports (pairs dports (pairs types codes)))) h.sources.some
    (some-pair r.dst (pairs sports (pairs dports (pairs types codes))) h.destinations.some
    (some-pair sports (pairs dports (pairs types codes)) (some-range r.sports (h.numbers SourcePort).some)
    (some-pair dports (pairs types codes) (some-range r.dports (h.numbers DestinationPort).some)
    (some-pair types codes (some-number 0 255 r.itypes (h.numbers IcmpType).normal (h.numbers IcmpType).some)
    (some-number 0 255 r.icodes (h.numbers IcmpCode).normal (h.numbers IcmpCode).some)))))))
