-- A document has a text in both languages.
use Rattle.std.proofs.Common.{refl}
use Rattle.ipr_lang.specs.Texts.{BothTexts}
use Rattle.ipr_lang.proofs.ValidityLaws.{all_valid}

pub both_texts : BothTexts
both_texts doc h = (
  record { valid = h; written = refl },
  record {
    valid = record { sections = all_valid doc h.sections; names_differ = h.names_differ };
    written = refl;
  },
)
