use Rattle.std.proofs.Common.{◌≡◌, ℕ, Option, None, Err, subst, sym, ap, ◌∙◌, arith}
use Rattle.std.specs.List.{range_with_len}
use Rattle.std.specs.Option.{unwrap_or}
use Rattle.basic_matrix.specs.MatrixShapes.{MatrixShape}
use Rattle.job_model.specs.Act.{Gives}
use Rattle.program_model.specs.MatrixStatements.{read_row, read_matrix}
use Rattle.basic_eval.specs.Acting.{Acts, seen}
use Rattle.basic_eval.proofs.MatrixLoops.{each_further, each_breaks, each_done, within, past, place_is}
use Rattle.basic_eval.proofs.state.Running.read_matrix.Goals as goal

pub loop-before-preserved : goal.loop-before-preserved
loop-before-preserved c =
    let rows = c.unwrap_or-rows.result.0 in
    let act = read_row c.args.words.now c.args.name c.unwrap_or-rows.result.1 in
    let at = c.loop-before.before in
    each_further act (range_with_len 1 rows) at 0 (seen c.loop-before.self) (seen c.read_row.new.self) _ (within rows at c.loop-before-test.true) c.loop-before.invariant
    (ap (λ (row : ℕ). act row (seen c.loop-before.self)) (place_is rows at c.loop-before-test.true) ∙ c.in_ok-read_row.ensures)

-- all rows, of the bounds that the array has
pub returns-in_err-read_row : goal.returns-in_err-read_row
returns-in_err-read_row c =
    let rows = c.unwrap_or-rows.result.0 in
    let act = read_row c.args.words.now c.args.name c.unwrap_or-rows.result.1 in
    let at = c.loop-before.before in
    let broken = each_breaks act (range_with_len 1 rows) at 0 (seen c.loop-before.self) (seen c.read_row.new.self) _ (within rows at c.loop-before-test.true) c.loop-before.invariant c.read_row.new.self.exit
    (subst (λ (row : ℕ). Acts {A = Unit {0}} (act row (seen c.loop-before.self)) (seen c.read_row.new.self) (Err c.read_row.new.self.exit)) (sym (place_is rows at c.loop-before-test.true)) c.in_err-read_row.ensures) in
    rw c.from_residual.ensures (subst (λ (shape : MatrixShape). Acts {A = Unit {0}} (read_matrix c.args.words.now c.args.name shape (seen c.args.self.now)) (seen c.read_row.new.self) (Err c.read_row.new.self.exit)) (c.unwrap_or-rows.ensures ∙ ap (λ (o : Option (ℕ × Option ℕ)). unwrap_or o (0, None)) c.bounds.ensures) broken)

pub returns : goal.returns
returns c =
    let rows = c.unwrap_or-rows.result.0 in
    subst (λ (shape : MatrixShape). read_matrix c.args.words.now c.args.name shape (seen c.args.self.now) ≡ Gives (tt {0}) (seen c.loop-before.self)) (c.unwrap_or-rows.ensures ∙ ap (λ (o : Option (ℕ × Option ℕ)). unwrap_or o (0, None)) c.bounds.ensures)
    (each_done (read_row c.args.words.now c.args.name c.unwrap_or-rows.result.1) (range_with_len 1 rows) c.loop-before.before (seen c.loop-before.self) _ (past rows c.loop-before.before (omega arith)) c.loop-before.invariant)
