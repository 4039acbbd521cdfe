use Rattle.std.proofs.Common.{◌≡◌, ◌∙◌, sym, ap, arith}
use Rattle.job_memory.specs.Matrices.{bounds, numbers}
use Rattle.basic_matrix.specs.MatrixShapes.{MatrixShape, shape_of, matrix_columns}
use Rattle.basic_matrix.specs.MatrixValues.{entry_place}
use Rattle.basic_matrix.proofs.RowLemmas.{count_in_shape, row_within, with_both, row_is}
use Rattle.basic_matrix.proofs.acts.row.Goals as goal

pub numbers_from-requires : goal.numbers_from-requires
numbers_from-requires c =
    let shape : MatrixShape = shape_of c.args.memory.now c.args.name in
    let place : c.entry_place-place.result ≡ entry_place shape.1 c.args.row 1 = c.entry_place-place.ensures ∙ (λ i. entry_place ((c.shape_of-shape.ensures i).1) (c.from.ensures i) 1) in
    let width : c.from-2.result ≡ matrix_columns shape = c.from-2.ensures ∙ c.matrix_columns.ensures ∙ ap matrix_columns c.shape_of-shape.ensures in
    omega (arith, place, width, row_within shape.0 shape.1 c.args.row c.requires.within, count_in_shape (bounds c.args.name c.args.memory.now) c.requires.made)

pub returns : goal.returns
returns c =
    let shape : MatrixShape = shape_of c.args.memory.now c.args.name in
    let place : c.entry_place-place.result ≡ entry_place shape.1 c.args.row 1 = c.entry_place-place.ensures ∙ (λ i. entry_place ((c.shape_of-shape.ensures i).1) (c.from.ensures i) 1) in
    let width : c.from-2.result ≡ matrix_columns shape = c.from-2.ensures ∙ c.matrix_columns.ensures ∙ ap matrix_columns c.shape_of-shape.ensures in
    with_both _ _ _ c.numbers_from.result (λ list is long. row_is (numbers c.args.name c.args.memory.now) list.items shape.1 c.args.row (rw (width, place) at is) (sym list.ok.0 ∙ long ∙ width)) c.numbers_from.ensures.numbers c.numbers_from.ensures.count
