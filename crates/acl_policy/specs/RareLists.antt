-- The words of the keywords that few terms have, wherever they are kept.
use Rattle.std.specs.Prelude.{◌≡◌, List, [], ◌++◌}
use Rattle.acl_words.specs.declared.word_lists.Word.{Word}
use Rattle.acl_policy.specs.declared.keywords.Keyword.{Keyword}
use Rattle.acl_policy.specs.declared.keywords.Keyword.TheVariants as keywords
use Rattle.acl_policy.specs.declared.rare_lists.RareLists.{RareLists}
use Rattle.acl_policy.specs.declared.rare_lists.RareLists.TheVariants.{Nothing, Parts}
use Rattle.acl_policy.specs.declared.rare_lists.RareParts.{RareParts}

-- Each of the lists is this one.
abbrev pub each_is : List Word → RareParts
each_is words = record {
  source_excludes = words;
  destination_excludes = words;
  addresses = words;
  source_ports = words;
  ports = words;
  icmp_types = words;
  icmp_codes = words;
  options = words;
  platforms = words;
  not_platforms = words;
}

abbrev pub parts_in : RareLists → RareParts
parts_in (Nothing none) = each_is none
parts_in (Parts parts) = parts.value

-- The list that stands for all of them is empty.
abbrev pub AreSound : RareLists → Type 0
AreSound (Nothing none) = none ≡ []
AreSound (Parts parts) = Unit {0}

-- The words are added to the list of their keyword.
abbrev pub with_more : RareParts → Keyword → List Word → RareParts
with_more p keywords.SourceExclude ws = record p { source_excludes = p.source_excludes ++ ws }
with_more p keywords.DestinationExclude ws = record p { destination_excludes = p.destination_excludes ++ ws }
with_more p keywords.Address ws = record p { addresses = p.addresses ++ ws }
with_more p keywords.SourcePort ws = record p { source_ports = p.source_ports ++ ws }
with_more p keywords.Port ws = record p { ports = p.ports ++ ws }
with_more p keywords.IcmpType ws = record p { icmp_types = p.icmp_types ++ ws }
with_more p keywords.IcmpCode ws = record p { icmp_codes = p.icmp_codes ++ ws }
with_more p keywords.Opt ws = record p { options = p.options ++ ws }
with_more p keywords.Platform ws = record p { platforms = p.platforms ++ ws }
with_more p keywords.PlatformExclude ws = record p { not_platforms = p.not_platforms ++ ws }
with_more p _ ws = p
