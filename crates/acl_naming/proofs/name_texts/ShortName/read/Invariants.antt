use Rattle.std.proofs.Common.{◌≡◌, true, length, take}
use Rattle.std.specs.List.{list_all}
use Rattle.acl_text.specs.Names.{is_name_byte}
use Rattle.acl_naming.proofs.name_texts.ShortName.read.Given as goal

abbrev pub invariant-loop-i : goal.invariant-loop-i
invariant-loop-i l = record {
  long : length l.bytes ≡ 30;
  same : take l.i l.bytes ≡ take l.i l.word;
  named : list_all is_name_byte (take l.i l.word) ≡ true;
}
