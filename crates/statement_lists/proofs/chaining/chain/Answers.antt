-- The string of CHAIN leads to its line.
use Rattle.std.proofs.Common.{rules, arith}
use Rattle.grammar_machine.specs.MachineSentences.{chain_form}
use Rattle.statement_parts.specs.ParsedForms.{States}
use Rattle.statement_lists.proofs.ChainSteps.{chained, chain_halts}
use Rattle.statement_parts.proofs.Steps.{on_err}
use Rattle.statement_lists.proofs.chaining.chain.Goals as goal

pub returns-in_err-line : goal.returns-in_err-line
returns-in_err-line c =
    let e = c.in_err-line in
    on_err (States c.args.levels c.args.words.now c.args.from chain_form) _ e.field-0.0 (search rules)
    (e.ensures.0, chain_halts c.args.levels c.args.words.now c.args.from _ _ _ e.field-0.0 c.in_ok-at.ensures.1 c.in_ok-program.ensures.reads.1 e.ensures.1)

pub returns : goal.returns
returns c =
    let line = c.in_ok-line.ensures in (
      (omega (arith, c.in_ok-at.ensures.0.0, c.in_ok-program.ensures.reads.0.0, line.0.0), line.0.1),
      chained c.args.levels c.args.words.now c.args.from _ _ _ _ _ c.in_ok-at.ensures.1 c.in_ok-program.ensures.reads.1 line.1,
    )
