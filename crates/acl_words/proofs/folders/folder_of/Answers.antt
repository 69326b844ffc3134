use Rattle.std.proofs.Common.{◌∙◌, sym}
use Rattle.acl_words.proofs.FolderLaws.{ends_in_slash, ends_in_other}
use Rattle.acl_words.proofs.folders.folder_of.Goals as goal

pub returns-then-last-eq47 : goal.returns-then-last-eq47
returns-then-last-eq47 c =
    sym (ends_in_slash c.loop-front.front.now c.in-len1-up.len_at_least c.if-last-eq47.true) ∙ c.loop-front.invariant

pub loop-front-preserved : goal.loop-front-preserved
loop-front-preserved c =
    ends_in_other c.loop-front.front.now c.in-len1-up.len_at_least c.if-last-eq47.false ∙ c.loop-front.invariant
