use Rattle.std.proofs.Common.{◌≡◌, ◌<◌, ◌+◌, ℕ, List, [], get_or, length, ap, ◌∙◌, arith}
use Rattle.acl_naming.specs.Rows.{begin_at, rows_of}
use Rattle.acl_naming.proofs.RowLaws.{begin_get, length_rows, row_bounds, row_is, row_taken}
use Rattle.acl_naming.proofs.links.Links.row.Goals as goal

-- there is such a list
has_row : (bs ps shown : List ℕ) (rows : List (List ℕ)) (i : ℕ) → rows_of bs ps ≡ rows → shown ≡ bs → i < length rows → i < length shown
has_row bs ps shown rows i is same h =
    omega (arith, h, ap (λ (t : List ℕ). length t) same, ap (λ (t : List (List ℕ)). length t) is, length_rows bs ps)

begins : (bs shown : List ℕ) (i end : ℕ) → shown ≡ bs → i < length shown → get_or shown i 0 ≡ begin_at bs i end
begins bs shown i end same h = begin_get shown i 0 end h ∙ ap (λ (t : List ℕ). begin_at t i end) same

ends : (bs shown : List ℕ) (i all end : ℕ) → shown ≡ bs → end ≡ begin_at shown (i + 1) all → end ≡ begin_at bs (i + 1) all
ends bs shown i all end same e = e ∙ ap (λ (t : List ℕ). begin_at t (i + 1) all) same

pub begin_at-from-requires : goal.begin_at-from-requires
begin_at-from-requires c = has_row c.self.inside.begins c.self.inside.places c.as_slice-begins.result.now c.args.self.now c.args.index c.self.view_is c.as_slice-begins.ensures c.requires

pub end_at-requires : goal.end_at-requires
end_at-requires c = has_row c.self.inside.begins c.self.inside.places c.as_slice-begins.result.now c.args.self.now c.args.index c.self.view_is c.as_slice-begins.ensures c.requires

pub part-requires-clause-rises : goal.part-requires-clause-rises
part-requires-clause-rises c =
    let bs = c.self.inside.begins in
    let shown = c.as_slice-begins.result.now in
    let all = c.as_slice-places.result.now in
    let i = c.args.index in
    let h = has_row bs c.self.inside.places shown c.args.self.now i c.self.view_is c.as_slice-begins.ensures c.requires in
    (row_bounds bs c.self.inside.places all i c.begin_at-from.result c.end_at.result c.as_slice-places.ensures
    (c.begin_at-from.ensures ∙ begins bs shown i (length all) c.as_slice-begins.ensures h) (ends bs shown i (length all) c.end_at.result c.as_slice-begins.ensures c.end_at.ensures) c.self.invariant).0

pub part-requires-clause-within : goal.part-requires-clause-within
part-requires-clause-within c =
    let bs = c.self.inside.begins in
    let shown = c.as_slice-begins.result.now in
    let all = c.as_slice-places.result.now in
    let i = c.args.index in
    let h = has_row bs c.self.inside.places shown c.args.self.now i c.self.view_is c.as_slice-begins.ensures c.requires in
    (row_bounds bs c.self.inside.places all i c.begin_at-from.result c.end_at.result c.as_slice-places.ensures
    (c.begin_at-from.ensures ∙ begins bs shown i (length all) c.as_slice-begins.ensures h) (ends bs shown i (length all) c.end_at.result c.as_slice-begins.ensures c.end_at.ensures) c.self.invariant).1

pub returns : goal.returns
returns c =
    let bs = c.self.inside.begins in
    let shown = c.as_slice-begins.result.now in
    let all = c.as_slice-places.result.now in
    let i = c.args.index in
    let h = has_row bs c.self.inside.places shown c.args.self.now i c.self.view_is c.as_slice-begins.ensures c.requires in
    let within : i < length bs = omega (arith, h, ap (λ (t : List ℕ). length t) c.as_slice-begins.ensures) in
    c.part.ensures
    ∙ row_taken bs c.self.inside.places all i c.begin_at-from.result c.end_at.result c.as_slice-places.ensures
    (c.begin_at-from.ensures ∙ begins bs shown i (length all) c.as_slice-begins.ensures h) (ends bs shown i (length all) c.end_at.result c.as_slice-begins.ensures c.end_at.ensures)
    ∙ row_is bs c.self.inside.places i [] within
    ∙ ap (λ (rows : List (List ℕ)). get_or rows i []) c.self.view_is
