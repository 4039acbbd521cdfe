use Rattle.std.proofs.Common.{◌≡◌, ◌∙◌, ℕ, ◌<◌, true, List, length, sym, ap, subst, arith}
use Rattle.std.proofs.lemmas.List.{with_items_is}
use Rattle.std.specs.Prelude.{ℤ}
use Rattle.record_fields.specs.Bounds.{count}
use Rattle.job_memory.specs.Matrices.{bounds, is_inner, number_in_list, subscripts_at, renumbered}
use Rattle.job_memory.specs.Memory as memory
use Rattle.job_memory.specs.Memory.{array}
use Rattle.basic_matrix.specs.MatrixActs.{at_subscripts}
use Rattle.basic_matrix.specs.MatrixShapes.{MatrixShape, shape_of}
use Rattle.basic_matrix.specs.MatrixValues.{value_at}
use Rattle.basic_matrix.proofs.RowLemmas.{count_in-le}
use Rattle.basic_matrix.proofs.StoreLemmas.{renumbered-same}
use Rattle.basic_matrix.proofs.acts.new_numbers.Goals as goal

pub fill-requires : goal.fill-requires
fill-requires c =
    omega (
      arith,
      c.as_mut_slice.ensures.len,
      c.in_ok-numbers.ensures.count,
      count_in-le (bounds c.args.target c.args.memory.now),
      ap (λ (shape : MatrixShape). count shape.0 shape.1) c.shape_of.ensures,
    )

pub returns : goal.returns
returns c =
    let m : memory.Memory = c.args.memory.now in
    let list : List ℤ = c.fill.new.numbers in
    let value : ℕ → ℕ → ℤ = value_at m c.args.value.now in
    let long : length list ≡ c.in_ok-numbers.numbers.len = omega arith in
    let same = renumbered-same c.args.target (number_in_list list) (λ (place : ℕ). at_subscripts value (subscripts_at (shape_of m c.args.target).1 place)) m.arrays (array c.args.target m.arrays) (λ k below inner.
    let shape = c.shape_of.ensures in
    let there : is_inner (subscripts_at c.shape_of.result.1 k) ≡ true = subst (λ (s : MatrixShape). is_inner (subscripts_at s.1 k) ≡ true) (sym shape) inner in
    let known : k < length list = omega (arith, c.in_ok-numbers.ensures.count, ap length c.in_ok-numbers.ensures.numbers) in
    c.fill.ensures k known there ∙ c.in_ok-source.ensures (subscripts_at c.shape_of.result.1 k).0 (subscripts_at c.shape_of.result.1 k).1 ∙ (λ i. at_subscripts value (subscripts_at ((shape i).1) k))) in
    ap (λ (l : List ℤ). renumbered c.args.target (number_in_list l) m) (with_items_is c.in_ok-numbers.numbers list long) ∙ ap (λ (arrays : List _). record m { arrays = arrays }) same
