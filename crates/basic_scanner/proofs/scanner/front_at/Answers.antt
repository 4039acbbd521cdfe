use Rattle.std.proofs.Common.{drop, sym, ap, ◌∙◌, subst, arith, length-drop}
use Rattle.std.proofs.lemmas.List.{take_rest}
use Rattle.basic_tree.specs.Tokens.{front_of}
use Rattle.basic_tree.specs.TokenLaws.{LiesIn}
use Rattle.basic_tree.proofs.FrontLemmas.{front_fits}
use Rattle.basic_tree.specs.declared.tokens.Front.{Front}
use Rattle.basic_scanner.proofs.scanner.front_at.Goals as goal

pub returns-clause-fits : goal.returns-clause-fits
returns-clause-fits c =
    subst (λ (f : Front). LiesIn f (drop c.args.place c.args.line.now))
    (sym (c.front_of.ensures ∙ ap front_of (take_rest c.args.line.now c.args.place)))
    (front_fits (drop c.args.place c.args.line.now) (omega (arith, length-drop c.args.place c.args.line.now)))
