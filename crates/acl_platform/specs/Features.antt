-- The words for what a policy asks for and not each platform can say: the option, the protocol of the
-- ports, and the kind of lists that say sources alone.
use Rattle.std.specs.Prelude.{ℕ, List, codes}
use Rattle.acl_platform.specs.declared.filters.Feature.{Feature}
use Rattle.acl_platform.specs.declared.filters.Feature.TheVariants.{TcpInitial, SctpPorts, MoreThanSources}

abbrev pub feature_word : Feature → List ℕ
feature_word TcpInitial = codes "tcp-initial"
feature_word SctpPorts = codes "sctp"
feature_word MoreThanSources = codes "standard"
