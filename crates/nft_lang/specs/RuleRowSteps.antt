-- The rule whose row is put.
use Rattle.nft_lang.specs.declared.chain_rows.RuleRow.{RuleRow}
use Rattle.nft_lang.specs.declared.documents.Rule.{Rule}

abbrev pub rule_of_row : RuleRow → Rule
rule_of_row r = record {
  family = r.family;
  proto = r.proto;
  src = r.src.now;
  dst = r.dst.now;
  sports = r.sports.now;
  dports = r.dports.now;
  itypes = r.itypes.now;
  icodes = r.icodes.now;
  flags = r.flags;
  state = r.state;
  log = r.log;
  verdict = r.verdict;
}
