-- When a resolved term is live.
use Rattle.std.proofs.Common.{◌≡◌, ◌↔◌, ℤ, Bool, true, false, not, ◌&&◌, T, List, [], ◌∷◌, Option, None, Some, refl, ap, sym, ◌∙◌, subst}
use Rattle.std.specs.Prelude.{◌<ℤ◌}
use Rattle.std.specs.Int.Signed.{lt_z, lt_z_yes, lt_z_no, <ℤ_irrefl, <ℤ-≤ℤ_trans}
use Rattle.std.proofs.lemmas.Bool.{and_from, and_parts, both_ways}
use Rattle.acl_host.specs.declared.days.Day.{Day}
use Rattle.acl_target.specs.declared.targets.Kind.{Kind}
use Rattle.acl_target.specs.declared.targets.Kind.TheVariants.{Cisco, Juniper, Iptables, Nftables}
use Rattle.acl_policy.specs.RawTerms.{RawTerm}
use Rattle.acl_words.specs.declared.word_lists.Word.{Word}
use Rattle.acl_naming.specs.Definitions.{Naming}
use Rattle.acl_terms.proofs.TestLaws.{true-not}
use Rattle.acl_terms.specs.declared.terms.Term.{Term}
use Rattle.acl_terms.specs.Living.{IsLive, IsUnexpired, allows, has_platform, is_wanted, names_platform, platforms_of, some_platforms}
use Rattle.acl_terms.specs.Resolved.{IsResolved, IsTermLive, is_term_live, is_unexpired}

later : (a b : ℤ) (t : Bool) → lt_z a b ≡ t → (t ≡ true) ↔ (a <ℤ b)
later a b true e = (λ _. lt_z_yes (subst T (sym e) tt), λ _. refl)
later a b false e = (
  λ h. absurd (both_ways false refl h),
  λ l. absurd (<ℤ_irrefl (<ℤ-≤ℤ_trans l (lt_z_no (subst (λ t. T (not t)) (sym e) tt)))),
)

unexpired-law : (expires : Option Day) (today : Day) → (is_unexpired expires today ≡ true) ↔ IsUnexpired expires today
unexpired-law None today = (λ _. tt, λ _. refl)
unexpired-law (Some day) today = later today.number day.number (lt_z today.number day.number) refl

pub live-law : (t : Term) (kind : Kind) (today : Day) → (is_term_live t kind today ≡ true) ↔ IsTermLive t kind today
unfolding is_term_live
live-law t kind today =
    let a = unexpired-law t.expires today in
    let b = true-not (has_platform t.never kind) in
    let first : Bool = is_unexpired t.expires today && allows t.only kind in (
      λ h. let p = and_parts first (not (has_platform t.never kind)) h in
          let q = and_parts (is_unexpired t.expires today) (allows t.only kind) p.0 in
          record { unexpired = a.0 q.0; wanted = q.1; not_excluded = b.0 p.1 },
      λ l. and_from first (not (has_platform t.never kind))
          (and_from (is_unexpired t.expires today) (allows t.only kind) (a.1 l.unexpired) l.wanted)
          (b.1 l.not_excluded),
    )

platforms-have : (words : List Word) (kind : Kind) → has_platform (platforms_of words) kind ≡ names_platform kind words
platforms-have words Cisco = refl
platforms-have words Juniper = refl
platforms-have words Iptables = refl
platforms-have words Nftables = refl

allowed-words : (words : List Word) (kind : Kind) → allows (some_platforms words) kind ≡ is_wanted words kind
allowed-words [] kind = refl
allowed-words (w ∷ ws) kind = platforms-have (w ∷ ws) kind

pub live-as-written : (n : Naming) (raw : RawTerm) (t : Term) (kind : Kind) (today : Day) → IsResolved n raw t
    → IsTermLive t kind today ↔ IsLive raw kind today
live-as-written n raw t kind today is =
    let f = is.fields in
    let wanted : allows t.only kind ≡ is_wanted raw.platforms kind =
    ap (λ o. allows o kind) f.only ∙ allowed-words raw.platforms kind in
    let never : has_platform t.never kind ≡ names_platform kind raw.not_platforms =
    ap (λ s. has_platform s kind) f.never ∙ platforms-have raw.not_platforms kind in (
      λ l. record {
        unexpired = subst (λ e. IsUnexpired e today) f.expires l.unexpired;
        wanted = sym wanted ∙ l.wanted;
        not_excluded = sym never ∙ l.not_excluded;
      },
      λ l. record {
        unexpired = subst (λ e. IsUnexpired e today) (sym f.expires) l.unexpired;
        wanted = wanted ∙ l.wanted;
        not_excluded = never ∙ l.not_excluded;
      },
    )
