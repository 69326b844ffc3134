-- What a platform's language makes of the text that is put for filters.
use Rattle.std.specs.Prelude.{◌↔◌, ◌≡◌, List}
use Rattle.std.specs.List.{All}
use Rattle.acl_target.specs.declared.targets.Kind.{Kind}
use Rattle.acl_platform.specs.declared.filters.Filter.{Filter}
use Rattle.acl_filters.specs.PlatformLanguages.{SectionOn, SpellsOn}
use Rattle.acl_filters.specs.PlatformFiles.{AreApart, IsTaken, sections_on, text_on}

-- Of filters that the platform takes, and that are apart, the text has one document: that of their sections.
abbrev pub MeantTextsAreOfSections : Type 0
MeantTextsAreOfSections = (kind : Kind) (filters : List Filter) → All (IsTaken kind) filters → AreApart filters
    → (doc : List (SectionOn kind)) → SpellsOn kind (text_on kind filters) doc ↔ (doc ≡ sections_on kind filters)
