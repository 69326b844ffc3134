use Rattle.std.proofs.Common.{subst, sym, ap, ◌∙◌}
use Rattle.std.specs.Str.{IsUtf8}
use Rattle.acl_words.specs.Folders.{folder_of}
use Rattle.acl_words.proofs.FolderLaws.{IsUtf8-folder}
use Rattle.acl_words.proofs.gathering.folder.Goals as goal

pub unreachable-requires : goal.unreachable-requires
unreachable-requires c =
    c.in-Err.ensures.cases.0 (subst IsUtf8 (sym (c.folder_of.ensures ∙ ap folder_of c.as_bytes.ensures.value)) (IsUtf8-folder c.args.path.now c.utf8.path))
