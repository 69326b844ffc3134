-- When a term is live: it is meant for the platform, and it has not expired.
use Rattle.std.specs.Prelude.{◌≡◌, ◌<ℤ◌, Bool, true, false, List, [], ◌∷◌, Option, None, Some}
use Rattle.std.specs.List.{list_any}
use Rattle.std.specs.Str.{bytes_eq}
use Rattle.acl_host.specs.declared.days.Day.{Day}
use Rattle.acl_target.specs.declared.targets.Kind.{Kind}
use Rattle.acl_target.specs.declared.targets.Kind.TheVariants.{Cisco, Juniper, Iptables, Nftables}
use Rattle.acl_target.specs.TargetTexts.{kind_text}
use Rattle.acl_policy.specs.RawTerms.{RawTerm}
use Rattle.acl_words.specs.declared.word_lists.Word.{Word}
use Rattle.acl_terms.specs.declared.terms.Platforms.{Platforms}

-- A platform is named in `platform::` and `platform-exclude::` by its word of a target line. Other names there
-- name no platform of this compiler.
abbrev pub names_platform : Kind → List Word → Bool
names_platform kind words = list_any (λ w. bytes_eq w.text (kind_text kind)) words

-- The term is for the platform: `platform::` is not written or names it, and `platform-exclude::` does not.
abbrev pub is_wanted : List Word → Kind → Bool
is_wanted [] kind = true
is_wanted (w ∷ ws) kind = names_platform kind (w ∷ ws)

-- A term is live before the day of `expiration::`, and not on it.
abbrev pub IsUnexpired : Option Day → Day → Type 0
IsUnexpired None today = Unit {0}
IsUnexpired (Some day) today = today.number <ℤ day.number

pub record IsLive (t : RawTerm) (kind : Kind) (today : Day) : Type 0 where
  pub unexpired : IsUnexpired t.expires today
  pub wanted : is_wanted t.platforms kind ≡ true
  pub not_excluded : names_platform kind t.not_platforms ≡ false

-- ---- the platforms of a resolved term

abbrev pub has_platform : Platforms → Kind → Bool
has_platform s Cisco = s.cisco
has_platform s Juniper = s.juniper
has_platform s Iptables = s.iptables
has_platform s Nftables = s.nftables

abbrev pub platforms_of : List Word → Platforms
platforms_of words = record {
  cisco = names_platform Cisco words;
  juniper = names_platform Juniper words;
  iptables = names_platform Iptables words;
  nftables = names_platform Nftables words;
}

-- None where no word is written.
abbrev pub some_platforms : List Word → Option Platforms
some_platforms [] = None
some_platforms (w ∷ ws) = Some (platforms_of (w ∷ ws))

abbrev pub allows : Option Platforms → Kind → Bool
allows None kind = true
allows (Some s) kind = has_platform s kind
