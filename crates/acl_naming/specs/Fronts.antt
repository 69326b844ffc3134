-- The first bytes of a text, which goes on behind them.
use Rattle.std.specs.Prelude.{ℕ, List, take}
use Rattle.acl_naming.specs.declared.fronts.Front.{Front}

abbrev pub shown : Front → List ℕ
shown front = take front.size front.text.now
