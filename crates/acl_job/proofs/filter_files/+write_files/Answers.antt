use Rattle.std.proofs.Common.{map, ap}
use Rattle.acl_job.specs.Works.{file_view}
use Rattle.acl_job.proofs.FileListLaws.{writes-cons}
use Rattle.acl_filters.proofs.BlockLists.{first-rest}
use Rattle.acl_job.proofs.filter_files.+write_files.Goals as goal

pub returns-in_ok-write_filters-in-len1-up : goal.returns-in_ok-write_filters-in-len1-up
returns-in_ok-write_filters-in-len1-up g t c =
    let first = c.first-item.result in
    let all = ap (map file_view) (first-rest c.args.files.now first c.in-len1-up.len_at_least c.first-item.is) in
    rw all (writes-cons _ _ _ _ (file_view first) _ _ _ c.requires.begun (rw all at c.requires.differ) c.in_ok-write_filters-in-len1-up.ensures c.write_files.ensures)
