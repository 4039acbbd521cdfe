use Rattle.std.proofs.Common.{◌≡◌, ℕ, ◌+◌, List, Option, None, sym, ap, ◌∙◌, arith}
use Rattle.std.specs.List.{range_with_len}
use Rattle.std.specs.Option.{unwrap_or}
use Rattle.std.proofs.lemmas.List.{drop_all}
use Rattle.basic_matrix.specs.MatrixActs.{row_numbers}
use Rattle.basic_matrix.specs.MatrixShapes.{MatrixShape}
use Rattle.job_model.specs.Act.{Gives}
use Rattle.program_model.specs.Job.{Job}
use Rattle.program_model.specs.MatrixStatements.{row_written, rows_written}
use Rattle.polish_code.specs.Walk.{Spot}
use Rattle.basic_eval.specs.Acting.{seen}
use Rattle.basic_eval.proofs.MatrixLoops.{given_alike, row_keeps, rows_further, past}
use Rattle.basic_eval.proofs.state.Running.print_matrix.Goals as goal

pub loop-before-preserved : goal.loop-before-preserved
loop-before-preserved c =
    let rows = c.unwrap_or-rows.result.0 in
    let at = c.loop-before.before in
    let old = seen c.loop-before.self in
    let wrote : seen c.print_row.new.self ≡ row_written c.args.separator (row_numbers old.memory c.args.name (at + 1)) old = given_alike _ _ c.in_ok-print_row.ensures in
    record {
      memory = ap (λ (j : Job Spot). j.memory) wrote ∙ row_keeps c.args.separator (row_numbers old.memory c.args.name (at + 1)) old ∙ c.loop-before.invariant.memory;
      rows = rows_further c.args.separator c.args.name rows at old (seen c.print_row.new.self) _ c.loop-before-test.true wrote c.loop-before.invariant.rows;
    }

pub returns : goal.returns
returns c =
    let rows = c.unwrap_or-rows.result.0 in
    let all = sym c.loop-before.invariant.rows ∙ ap (λ (l : List ℕ). rows_written c.args.separator c.args.name l (seen c.loop-before.self)) (drop_all c.loop-before.before (range_with_len 1 rows) (past rows c.loop-before.before (omega arith))) in
    ap (Gives (tt {0})) (ap (λ (shape : MatrixShape). rows_written c.args.separator c.args.name (range_with_len 1 shape.0) (seen c.args.self.now)) (sym (c.unwrap_or-rows.ensures ∙ ap (λ (o : Option (ℕ × Option ℕ)). unwrap_or o (0, None)) c.bounds.ensures)) ∙ all)
