use Rattle.std.proofs.Common.{ℕ, Err, subst, sym, ap, ◌∙◌, arith}
use Rattle.std.specs.List.{range_with_len}
use Rattle.program_model.specs.MatrixStatements.{at_column, read_element}
use Rattle.basic_eval.specs.Acting.{Acts, seen}
use Rattle.basic_eval.proofs.MatrixLoops.{each_further, each_breaks, each_done, within, past, place_is}
use Rattle.basic_eval.proofs.state.Running.read_columns.Goals as goal

pub loop-before-preserved : goal.loop-before-preserved
loop-before-preserved c =
    let act = λ (column : ℕ). read_element c.args.words.now c.args.name (at_column c.args.row column) in
    let at = c.loop-before.before in
    each_further act (range_with_len 1 c.args.last) at 0 (seen c.loop-before.self) (seen c.read_column.new.self) _ (within c.args.last at c.loop-before-test.true) c.loop-before.invariant
    (ap (λ (column : ℕ). act column (seen c.loop-before.self)) (place_is c.args.last at c.loop-before-test.true) ∙ c.in_ok-read_column.ensures)

pub returns-in_err-read_column : goal.returns-in_err-read_column
returns-in_err-read_column c =
    let act = λ (column : ℕ). read_element c.args.words.now c.args.name (at_column c.args.row column) in
    let at = c.loop-before.before in
    rw c.from_residual.ensures (each_breaks act (range_with_len 1 c.args.last) at 0 (seen c.loop-before.self) (seen c.read_column.new.self) _ (within c.args.last at c.loop-before-test.true) c.loop-before.invariant c.read_column.new.self.exit
    (subst (λ (column : ℕ). Acts {A = Unit {0}} (act column (seen c.loop-before.self)) (seen c.read_column.new.self) (Err c.read_column.new.self.exit)) (sym (place_is c.args.last at c.loop-before-test.true)) c.in_err-read_column.ensures))

pub returns : goal.returns
returns c =
    each_done (λ (column : ℕ). read_element c.args.words.now c.args.name (at_column c.args.row column)) (range_with_len 1 c.args.last) c.loop-before.before (seen c.loop-before.self) _ (past c.args.last c.loop-before.before (omega arith)) c.loop-before.invariant
