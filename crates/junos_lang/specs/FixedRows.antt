-- Rows of a term that are the same wherever they stand.
use Rattle.std.specs.Prelude.{[], ◌∷◌, codes}
use Rattle.acl_rows.specs.Rows.{Row, row}
use Rattle.junos_lang.specs.declared.fixed_rows.FixedRow.{FixedRow}
use Rattle.junos_lang.specs.declared.fixed_rows.FixedRow.TheVariants.{FromHead, ThenHead, PartEnd, TermEnd, SourceHead, DestinationHead, AddressEnd, Established, Initial, Rst, Syslog, Accept, Discard, Reject, Reset}
use Rattle.junos_lang.specs.Texts.{closing, end_word}
use Rattle.acl_rows.specs.declared.rule_parts.End.TheVariants.{Source, Destination}

abbrev pub fixed_row : FixedRow → Row
fixed_row FromHead = row 16 (codes "from" ∷ codes "{" ∷ [])
fixed_row ThenHead = row 16 (codes "then" ∷ codes "{" ∷ [])
fixed_row PartEnd = closing 16
fixed_row TermEnd = closing 12
fixed_row SourceHead = row 20 (end_word Source ∷ codes "{" ∷ [])
fixed_row DestinationHead = row 20 (end_word Destination ∷ codes "{" ∷ [])
fixed_row AddressEnd = closing 20
fixed_row Established = row 20 (codes "tcp-established;" ∷ [])
fixed_row Initial = row 20 (codes "tcp-initial;" ∷ [])
fixed_row Rst = row 20 (codes "tcp-flags" ∷ codes "\"rst\";" ∷ [])
fixed_row Syslog = row 20 (codes "syslog;" ∷ [])
fixed_row Accept = row 20 (codes "accept;" ∷ [])
fixed_row Discard = row 20 (codes "discard;" ∷ [])
fixed_row Reject = row 20 (codes "reject;" ∷ [])
fixed_row Reset = row 20 (codes "reject" ∷ codes "tcp-reset;" ∷ [])
