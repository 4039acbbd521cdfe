use Rattle.std.proofs.Common.{rules, List, ◌≡◌, ◌≤◌, ◌<◌, ◌∷◌, [], ◌++◌, ◌+◌, ◌-◌, suc, true, false, drop, length, subst, arith, length-append, refl, sym, ap, ◌∙◌, Some}
use Rattle.std.proofs.lemmas.Result.{err_from_is_err_and}
use Rattle.basic_tree.specs.declared.tokens.Sign.TheVariants.{Closing, Comma}
use Rattle.basic_tree.specs.declared.kinds.Want.TheVariants as want
use Rattle.basic_tree.specs.declared.expressions.Expr.{Expr}
use Rattle.grammar_machine.specs.MachineStack.{Arguments, Close, Collect, Do, Expect, Exponent, Level, MakeCall, MakeComparison, MakeElement, MakeFunction, MakeOperation, MakeParenthesized, More, MoreArguments, SecondSubscript, Several, Subscripts, Term, loosest}
use Rattle.grammar_machine.specs.MachineStarts.{relations, takes}
use Rattle.basic_tree.specs.GrammarTables.{arguments_of, gives_text}
use Rattle.grammar_machine.specs.GrammarWords.{function_of}
use Rattle.grammar_machine.specs.MachineRun.{run}
use Rattle.basic_tree.specs.SpellingExpressions.{is_text, want_of}
use Rattle.basic_tree.specs.Trees.{AndTrees, Call, FunctionOf, NoTrees, Quoted}
use Rattle.basic_tree.specs.TreeViews.{tree_of}
use Rattle.grammar_machine.proofs.MachineSteps.{run_do}
use Rattle.basic_expr.specs.declared.words.Word.TheVariants as word
use Rattle.basic_expr.specs.Views.{as_word}
use Rattle.basic_expr.specs.Precedences.{level_number}
use Rattle.basic_expr.specs.ParsedSymbols.{always, begins_atom, exponents, fits_function, function_expected, number_atom, second_tree, signed_level, takes_number, takes_relations, trees_in}
use Rattle.basic_expr.proofs.Compose as compose
use Rattle.basic_expr.proofs.Compose.{inside, through}
use Rattle.basic_expr.proofs.expressions.+expression.Goals as goal

-- ---- atoms

pub parse_atom-returns-in-None-clause-reads : goal.parse_atom-returns-in-None-clause-reads
parse_atom-returns-in-None-clause-reads t c = (c.requires, λ k vs. compose.no_word_atom c.args.levels _ c.args.want k vs c.in-None.ensures.word)

pub parse_atom-returns-then-not-begins_atom-clause-reads : goal.parse_atom-returns-then-not-begins_atom-clause-reads
parse_atom-returns-then-not-begins_atom-clause-reads t c =
    let b : begins_atom c.args.want (as_word c.in-Some.word) ≡ false = search rules in
    (c.requires, λ k vs. compose.no_atom c.args.levels _ _ (as_word c.in-Some.word) c.args.want k vs c.in-Some.ensures.word.1 b)

pub parse_atom-returns-in-Number-clause-reads : goal.parse_atom-returns-in-Number-clause-reads
parse_atom-returns-in-Number-clause-reads t c =
    let b : begins_atom c.args.want (as_word c.in-Some.word) ≡ true = search rules in
    let a = compose.atom_word c.args.words.now c.args.from c.args.want c.in-Some.word (word.Number c.in-Number.n) c.in-Some.ensures.word.1 b c.in-Number.is in
    λ k vs. compose.number_atom c.args.levels _ _ c.in-Number.n c.args.want k vs a.0 a.1

pub parse_atom-returns-in_ok-text_of-in-Quotation-clause-reads : goal.parse_atom-returns-in_ok-text_of-in-Quotation-clause-reads
parse_atom-returns-in_ok-text_of-in-Quotation-clause-reads t c =
    let b : begins_atom c.args.want (as_word c.in-Some.word) ≡ true = search rules in
    let a = compose.atom_word c.args.words.now c.args.from c.args.want c.in-Some.word (word.Quotation c.in-Quotation.bytes) c.in-Some.ensures.word.1 b c.in-Quotation.is in
    λ k vs. compose.quoted_atom c.args.levels _ _ c.in-Quotation.bytes.now c.args.want k vs a.0 a.1 ∙ ap (λ text. run c.args.levels (drop (c.args.from + 1) c.args.words.now) k (Term (Quoted text) ∷ vs)) (sym c.in_ok-text_of-in-Quotation.ensures)

pub parse_atom-returns-in-Named-clause-reads : goal.parse_atom-returns-in-Named-clause-reads
parse_atom-returns-in-Named-clause-reads t c =
    let b : begins_atom c.args.want (as_word c.in-Some.word) ≡ true = search rules in
    let a = compose.atom_word c.args.words.now c.args.from c.args.want c.in-Some.word (word.Named c.in-Named.name) c.in-Some.ensures.word.1 b c.in-Named.is in
    through c.args.levels c.args.words.now (Level 0 c.args.want ∷ []) [] c.args.from (Subscripts c.in-Named.name ∷ []) [] (c.args.from + 1) c.subscripts_at.result
    (λ k vs. compose.named_atom c.args.levels _ _ c.in-Named.name c.args.want k vs a.0 a.1) c.subscripts_at.ensures.reads

pub parse_atom-returns-in-FnNamed-clause-reads : goal.parse_atom-returns-in-FnNamed-clause-reads
parse_atom-returns-in-FnNamed-clause-reads t c =
    let b : begins_atom c.args.want (as_word c.in-Some.word) ≡ true = search rules in
    let a = compose.atom_word c.args.words.now c.args.from c.args.want c.in-Some.word (word.FnNamed c.in-FnNamed.name) c.in-Some.ensures.word.1 b c.in-FnNamed.is in
    through c.args.levels c.args.words.now (Level 0 c.args.want ∷ []) [] c.args.from (Arguments c.in-FnNamed.name ∷ []) [] (c.args.from + 1) c.parse_call.result
    (λ k vs. compose.call_atom c.args.levels _ _ c.in-FnNamed.name c.args.want k vs a.0 a.1) c.parse_call.ensures.reads

pub parse_atom-returns-in-Some-function_of-clause-reads : goal.parse_atom-returns-in-Some-function_of-clause-reads
parse_atom-returns-in-Some-function_of-clause-reads t c =
    let b : begins_atom c.args.want (as_word c.in-Some.word) ≡ true = search rules in
    let a = compose.atom_word c.args.words.now c.args.from c.args.want c.in-Some.word (word.Key c.in-Key.key) c.in-Some.ensures.word.1 b c.in-Key.is in
    let f = c.in-Some-function_of.function in
    let is : function_of c.in-Key.key ≡ Some f = sym c.function_of.ensures ∙ c.in-Some-function_of.is in
    let fits : takes c.args.want (gives_text f) ≡ true = subst (λ o. fits_function c.args.want o ≡ true) is a.1 in
    through c.args.levels c.args.words.now (Level 0 c.args.want ∷ []) [] c.args.from (function_expected f) (Several NoTrees ∷ []) (c.args.from + 1) c.parse_function.result
    (λ k vs. compose.function_atom c.args.levels _ _ c.in-Key.key f c.args.want k vs a.0 is fits) c.parse_function.ensures.reads

pub parse_parenthesized-returns-then-levels-eq0-clause-reads : goal.parse_parenthesized-returns-then-levels-eq0-clause-reads
parse_parenthesized-returns-then-levels-eq0-clause-reads t c =
    let none : c.args.levels ≡ 0 = omega arith in
    compose.deep c.args.levels c.args.words.now (Level 0 c.args.want) c.args.from none c.requires.stands.0 (λ k vs. compose.deep_parentheses _ _ c.args.want k vs c.requires.stands.1)

pub parse_parenthesized-returns-in_err-inner-clause-reads : goal.parse_parenthesized-returns-in_err-inner-clause-reads
parse_parenthesized-returns-in_err-inner-clause-reads t c =
    let p = err_from_is_err_and c.from_residual.result c.from_residual.ensures.1 in
    let some : 0 < c.args.levels = omega arith in
    rw (p.1, p.2) (inside c.args.levels c.args.words.now (Level 0 c.args.want ∷ []) [] c.args.from (c.args.levels - 1) (Level loosest c.args.want ∷ []) [] (c.args.from + 1) c.in_err-inner.field-0.0
    (λ k vs. (Expect Closing ∷ Close ∷ Do MakeParenthesized ∷ k, vs, compose.opens_parentheses c.args.levels _ _ c.args.want k vs c.requires.stands.1 some)) c.in_err-inner.ensures.reads)

pub parse_parenthesized-returns-in_err-end-clause-reads : goal.parse_parenthesized-returns-in_err-end-clause-reads
parse_parenthesized-returns-in_err-end-clause-reads t c =
    let p = err_from_is_err_and c.from_residual-in_err-end.result c.from_residual-in_err-end.ensures.1 in
    let some : 0 < c.args.levels = omega arith in
    let inner = c.in_ok-inner.inner in
    rw (p.1, p.2) (compose.sign_refused c.args.levels c.args.words.now (Level 0 c.args.want ∷ []) [] c.args.from (c.args.levels - 1) Closing inner.end c.in_err-end.field-0.0
    (λ k vs. (
      Close ∷ Do MakeParenthesized ∷ k,
      Term (tree_of inner.tree) ∷ vs,
      compose.opens_parentheses c.args.levels _ _ c.args.want k vs c.requires.stands.1 some
          ∙ c.in_ok-inner.ensures.reads (Expect Closing ∷ Close ∷ Do MakeParenthesized ∷ k) vs,
    )) c.in_err-end.ensures)

pub parse_parenthesized-returns-clause-reads : goal.parse_parenthesized-returns-clause-reads
parse_parenthesized-returns-clause-reads t c =
    let some : 0 < c.args.levels = omega arith in
    let inner = c.in_ok-inner.inner in
    λ k vs.
    compose.opens_parentheses c.args.levels _ _ c.args.want k vs c.requires.stands.1 some
    ∙ c.in_ok-inner.ensures.reads (Expect Closing ∷ Close ∷ Do MakeParenthesized ∷ k) vs
    ∙ compose.ended c.args.levels _ _ MakeParenthesized k (Term (tree_of inner.tree) ∷ vs) some c.in_ok-end.ensures.2
    ∙ ap (λ z. run c.args.levels (drop c.in_ok-end.end c.args.words.now) k (Term z ∷ vs)) (sym c.in_ok-parenthesized.ensures)

-- ---- prefixes

pub parse_exponent-returns-in-None-clause-reads : goal.parse_exponent-returns-in-None-clause-reads
parse_exponent-returns-in-None-clause-reads t c =
    through c.args.levels c.args.words.now (Exponent ∷ []) [] c.args.from (Level 0 want.Number ∷ []) [] c.args.from c.parse_atom.result
    (λ k vs. c.in-None.ensures.exponent c.args.levels want.Number k vs) c.parse_atom.ensures.reads

pub parse_exponent-returns-then-levels-eq0-clause-reads : goal.parse_exponent-returns-then-levels-eq0-clause-reads
parse_exponent-returns-then-levels-eq0-clause-reads t c =
    let none : c.args.levels ≡ 0 = omega arith in
    let at = c.in-Some.ensures.exponent in
    compose.deep c.args.levels c.args.words.now Exponent c.args.from none at.0 (λ k vs. at.2 want.Number k vs refl)

pub parse_exponent-returns-in_err-operand-in-Some-clause-reads : goal.parse_exponent-returns-in_err-operand-in-Some-clause-reads
parse_exponent-returns-in_err-operand-in-Some-clause-reads t c =
    let p = err_from_is_err_and c.from_residual.result c.from_residual.ensures.1 in
    let some : 0 < c.args.levels = omega arith in
    rw (p.1, p.2) (compose.prefix_refused c.args.levels always exponents Exponent number_atom c.args.words.now c.args.from c.in-Some.sign want.Number c.in_err-operand-in-Some.field-0.0 some c.in-Some.ensures.exponent refl c.in_err-operand-in-Some.ensures.reads)

pub parse_exponent-returns-in_ok-prefixed-in-Some-clause-reads : goal.parse_exponent-returns-in_ok-prefixed-in-Some-clause-reads
parse_exponent-returns-in_ok-prefixed-in-Some-clause-reads t c =
    let some : 0 < c.args.levels = omega arith in
    let operand = c.in_ok-operand-in-Some.operand in
    compose.prefix_read c.args.levels always exponents Exponent number_atom c.args.words.now c.args.from operand.end c.in-Some.sign want.Number (tree_of operand.tree) (tree_of c.in_ok-prefixed-in-Some.field-0) some c.in-Some.ensures.exponent refl c.in_ok-operand-in-Some.ensures.reads c.in_ok-prefixed-in-Some.ensures

pub parse_prefixed-returns-in_err-operand-in-Some-clause-reads : goal.parse_prefixed-returns-in_err-operand-in-Some-clause-reads
parse_prefixed-returns-in_err-operand-in-Some-clause-reads t c =
    let p = err_from_is_err_and c.from_residual.result c.from_residual.ensures.1 in
    let some : 0 < c.args.levels = omega arith in
    let l = level_number c.args.precedence in
    let fits : takes c.args.want false ≡ true = search rules in
    rw (p.1, p.2) (compose.prefix_refused c.args.levels takes_number (signed_level l) (Level l want.Number) (signed_level (l - 1)) c.args.words.now c.args.from c.in-Some.prefix c.args.want c.in_err-operand-in-Some.field-0.0 some c.in-Some.ensures.prefix fits c.in_err-operand-in-Some.ensures.reads)

pub parse_prefixed-returns-in_ok-prefixed-in-Some-clause-reads : goal.parse_prefixed-returns-in_ok-prefixed-in-Some-clause-reads
parse_prefixed-returns-in_ok-prefixed-in-Some-clause-reads t c =
    let some : 0 < c.args.levels = omega arith in
    let l = level_number c.args.precedence in
    let fits : takes c.args.want false ≡ true = search rules in
    let operand = c.in_ok-operand-in-Some.operand in
    compose.prefix_read c.args.levels takes_number (signed_level l) (Level l want.Number) (signed_level (l - 1)) c.args.words.now c.args.from operand.end c.in-Some.prefix c.args.want (tree_of operand.tree) (tree_of c.in_ok-prefixed-in-Some.field-0) some c.in-Some.ensures.prefix fits c.in_ok-operand-in-Some.ensures.reads c.in_ok-prefixed-in-Some.ensures

pub parse_prefixed-returns-in-None-clause-reads : goal.parse_prefixed-returns-in-None-clause-reads
parse_prefixed-returns-in-None-clause-reads t c =
    let l = level_number c.args.precedence in
    through c.args.levels c.args.words.now (Level l c.args.want ∷ []) [] c.args.from (Level (level_number c.tighter.result) c.args.want ∷ []) [] c.args.from c.parse_level.result
    (λ k vs. compose.tighter_by c.args.levels l (level_number c.tighter.result) c.args.want _ k vs c.in-None.ensures.prefix c.tighter.ensures) c.parse_level.ensures.reads

-- ---- chains and relations

pub parse_chain-returns-in_err-left-clause-reads : goal.parse_chain-returns-in_err-left-clause-reads
parse_chain-returns-in_err-left-clause-reads t c =
    let p = err_from_is_err_and c.from_residual.result c.from_residual.ensures.1 in
    let l = level_number c.args.precedence in
    rw (p.1, p.2) (inside c.args.levels c.args.words.now (Level l c.args.want ∷ []) [] c.args.from c.args.levels (Level (level_number c.tighter.result) c.args.want ∷ []) [] c.args.from c.in_err-left.field-0.0
    (λ k vs. (More l ∷ k, vs, compose.chained c.args.levels c.args.precedence (level_number c.tighter.result) c.args.want _ k vs c.requires.chain c.tighter.ensures)) c.in_err-left.ensures.reads)

pub parse_chain-operands-init : goal.parse_chain-operands-init
parse_chain-operands-init t c = record {
  runs = λ k vs. compose.chained c.args.levels c.args.precedence (level_number c.tighter.result) c.args.want _ k vs c.requires.chain c.tighter.ensures ∙ c.in_ok-left.ensures.reads (More (level_number c.args.precedence) ∷ k) vs;
  after = c.in_ok-left.ensures.ends.0;
  within = c.in_ok-left.ensures.ends.1;
  kind = c.in_ok-left.ensures.ends.2;
}

pub parse_chain-operands-preserved : goal.parse_chain-operands-preserved
parse_chain-operands-preserved t c =
    let left = c.operands.left in
    let right = c.in_ok-right.right in
    let o = c.in-Some.operator in
    let l = level_number c.args.precedence in
    let n = c.args.levels in
    let ts = drop right.end c.args.words.now in
    let kind : is_text (tree_of left.tree) ≡ left.text = sym c.operands.invariant.kind in
    record {
      runs = λ k vs.
          c.operands.invariant.runs k vs
          ∙ c.in-Some.ensures.operator.1 n k (tree_of left.tree) vs kind
          ∙ c.in_ok-right.ensures.reads (Do (MakeOperation o) ∷ More l ∷ k) (Term (tree_of left.tree) ∷ vs)
          ∙ run_do n (MakeOperation o) ts (More l ∷ k) (Term (tree_of right.tree) ∷ Term (tree_of left.tree) ∷ vs)
          ∙ ap (λ z. run n ts (More l ∷ k) (Term z ∷ vs)) (sym c.in_ok-operation.ensures);
      after = omega (arith, c.operands.invariant.after, c.in_ok-right.ensures.ends.0);
      within = c.in_ok-right.ensures.ends.1;
      kind = c.operands.invariant.kind ∙ ap is_text (sym c.in_ok-operation.ensures);
    }

pub parse_relations-returns-in_err-left-clause-reads : goal.parse_relations-returns-in_err-left-clause-reads
parse_relations-returns-in_err-left-clause-reads t c =
    let p = err_from_is_err_and c.from_residual.result c.from_residual.ensures.1 in
    rw (p.1, p.2) (inside c.args.levels c.args.words.now (Level 5 c.args.want ∷ []) [] c.args.from c.args.levels (Level 4 c.side.result ∷ []) [] c.args.from c.in_err-left.field-0.0
    (λ k vs. (relations c.args.want ++ k, vs, compose.related_by c.args.levels c.args.want c.side.result _ k vs c.side.ensures)) c.in_err-left.ensures.reads)

pub parse_relations-returns-then-not-takes_relations-clause-reads : goal.parse_relations-returns-then-not-takes_relations-clause-reads
parse_relations-returns-then-not-takes_relations-clause-reads t c =
    let none : takes_relations c.args.want ≡ false = search rules in
    λ k vs. compose.without_relations c.args.levels c.args.want c.side.result _ k vs c.side.ensures none ∙ c.in_ok-left.ensures.reads k vs

pub parse_relations-relations-init : goal.parse_relations-relations-init
parse_relations-relations-init t c = record {
  runs = λ k vs. compose.related_by c.args.levels c.args.want c.side.result _ k vs c.side.ensures ∙ c.in_ok-left.ensures.reads (relations c.args.want ++ k) vs;
  after = c.in_ok-left.ensures.ends.0;
  within = c.in_ok-left.ensures.ends.1;
  kind = c.in_ok-left.ensures.ends.2;
}

pub parse_relations-relations-preserved : goal.parse_relations-relations-preserved
parse_relations-relations-preserved t c =
    let left = c.relations.left in
    let right = c.in_ok-right.right in
    let r = c.in-Some.relation in
    let n = c.args.levels in
    let ts = drop right.end c.args.words.now in
    let rest = drop (left.end + 1) c.args.words.now in
    let some : takes_relations c.args.want ≡ true = search rules in
    let wants : want_of (is_text (tree_of left.tree)) ≡ c.want_of-want.result = ap want_of (sym c.relations.invariant.kind) ∙ sym c.want_of-want.ensures in
    record {
      runs = λ k vs.
          c.relations.invariant.runs k vs
          ∙ compose.relation_taken n c.args.words.now left.end r c.args.want k (tree_of left.tree) vs some c.in-Some.ensures.relation
          ∙ ap (λ v. run n rest (Level 4 v ∷ Do (MakeComparison r) ∷ (relations c.args.want ++ k)) (Term (tree_of left.tree) ∷ vs)) wants
          ∙ c.in_ok-right.ensures.reads (Do (MakeComparison r) ∷ (relations c.args.want ++ k)) (Term (tree_of left.tree) ∷ vs)
          ∙ run_do n (MakeComparison r) ts (relations c.args.want ++ k) (Term (tree_of right.tree) ∷ Term (tree_of left.tree) ∷ vs)
          ∙ ap (λ z. run n ts (relations c.args.want ++ k) (Term z ∷ vs)) (sym c.in_ok-comparison.ensures);
      after = omega (arith, c.relations.invariant.after, c.in_ok-right.ensures.ends.0);
      within = c.in_ok-right.ensures.ends.1;
      kind = ap is_text (sym c.in_ok-comparison.ensures);
    }

-- ---- subscripts

pub subscripts_at-returns-then-not-next_is_sign-clause-reads : goal.subscripts_at-returns-then-not-next_is_sign-clause-reads
subscripts_at-returns-then-not-next_is_sign-clause-reads t c = λ k vs. compose.no_list c.args.levels _ c.args.name k vs c.if-not-next_is_sign.ensures.stands

pub subscripts_at-returns-then-levels-eq0-clause-reads : goal.subscripts_at-returns-then-levels-eq0-clause-reads
subscripts_at-returns-then-levels-eq0-clause-reads t c =
    let none : c.args.levels ≡ 0 = omega arith in
    let at = c.if-not-next_is_sign.ensures.stands in
    compose.deep c.args.levels c.args.words.now (Subscripts c.args.name) c.args.from none at.0 (λ k vs. compose.deep_subscripts _ _ c.args.name k vs at.1)

pub subscripts_at-returns-in_err-first-clause-reads : goal.subscripts_at-returns-in_err-first-clause-reads
subscripts_at-returns-in_err-first-clause-reads t c =
    let p = err_from_is_err_and c.from_residual.result c.from_residual.ensures.1 in
    let some : 0 < c.args.levels = omega arith in
    let at = c.if-not-next_is_sign.ensures.stands in
    rw (p.1, p.2) (inside c.args.levels c.args.words.now (Subscripts c.args.name ∷ []) [] c.args.from (c.args.levels - 1) (Level loosest want.Number ∷ []) [] (c.args.from + 1) c.in_err-first.field-0.0
    (λ k vs. (Do Collect ∷ SecondSubscript ∷ Expect Closing ∷ Close ∷ Do (MakeElement c.args.name) ∷ k, Several NoTrees ∷ vs, compose.opens_subscripts c.args.levels _ _ c.args.name k vs at.1 some)) c.in_err-first.ensures.reads)

pub subscripts_at-returns-in_err-second-clause-reads : goal.subscripts_at-returns-in_err-second-clause-reads
subscripts_at-returns-in_err-second-clause-reads t c =
    let p = err_from_is_err_and c.from_residual-in_err-second.result c.from_residual-in_err-second.ensures.1 in
    let some : 0 < c.args.levels = omega arith in
    let at = c.if-not-next_is_sign.ensures.stands in
    let first = c.in_ok-first.first in
    rw (p.1, p.2) (inside c.args.levels c.args.words.now (Subscripts c.args.name ∷ []) [] c.args.from (c.args.levels - 1) (SecondSubscript ∷ []) [] first.end c.in_err-second.field-0.0
    (λ k vs. (Expect Closing ∷ Close ∷ Do (MakeElement c.args.name) ∷ k, Several (AndTrees (tree_of first.tree) NoTrees) ∷ vs, compose.first_subscript c.args.levels c.args.words.now c.args.from first.end c.args.name (tree_of first.tree) some at.1 c.in_ok-first.ensures.reads k vs)) c.in_err-second.ensures)

pub subscripts_at-returns-in_err-end-clause-reads : goal.subscripts_at-returns-in_err-end-clause-reads
subscripts_at-returns-in_err-end-clause-reads t c =
    let p = err_from_is_err_and c.from_residual-in_err-end.result c.from_residual-in_err-end.ensures.1 in
    let some : 0 < c.args.levels = omega arith in
    let at = c.if-not-next_is_sign.ensures.stands in
    let first = c.in_ok-first.first in
    rw (p.1, p.2) (compose.sign_refused c.args.levels c.args.words.now (Subscripts c.args.name ∷ []) [] c.args.from (c.args.levels - 1) Closing c.in_ok-second.behind c.in_err-end.field-0.0
    (λ k vs. (
      Close ∷ Do (MakeElement c.args.name) ∷ k,
      Several (AndTrees (tree_of first.tree) (second_tree c.in_ok-second.second)) ∷ vs,
      compose.first_subscript c.args.levels c.args.words.now c.args.from first.end c.args.name (tree_of first.tree) some at.1 c.in_ok-first.ensures.reads k vs
          ∙ c.in_ok-second.ensures.2 (Expect Closing ∷ Close ∷ Do (MakeElement c.args.name) ∷ k) (tree_of first.tree) vs,
    )) c.in_err-end.ensures)

pub subscripts_at-returns-clause-reads : goal.subscripts_at-returns-clause-reads
subscripts_at-returns-clause-reads t c =
    let some : 0 < c.args.levels = omega arith in
    let at = c.if-not-next_is_sign.ensures.stands in
    let first = c.in_ok-first.first in
    λ k vs.
    compose.first_subscript c.args.levels c.args.words.now c.args.from first.end c.args.name (tree_of first.tree) some at.1 c.in_ok-first.ensures.reads k vs
    ∙ c.in_ok-second.ensures.2 (Expect Closing ∷ Close ∷ Do (MakeElement c.args.name) ∷ k) (tree_of first.tree) vs
    ∙ compose.ended c.args.levels _ _ (MakeElement c.args.name) k (Several (AndTrees (tree_of first.tree) (second_tree c.in_ok-second.second)) ∷ vs) some c.in_ok-end.ensures.2
    ∙ ap (λ z. run c.args.levels (drop c.in_ok-end.end c.args.words.now) k (Term z ∷ vs)) (sym c.in_ok-element.ensures)

pub second_subscript-returns-then-not-next_is_sign : goal.second_subscript-returns-then-not-next_is_sign
second_subscript-returns-then-not-next_is_sign t c = (omega arith, c.requires, λ k a vs. compose.no_second c.args.levels _ k (AndTrees a NoTrees) vs c.if-not-next_is_sign.ensures.stands)

pub second_subscript-returns-in_err-second : goal.second_subscript-returns-in_err-second
second_subscript-returns-in_err-second t c =
    let p = err_from_is_err_and c.from_residual.result c.from_residual.ensures.1 in
    let at = c.if-not-next_is_sign.ensures.stands in
    rw (p.1, p.2) (inside c.args.levels c.args.words.now (SecondSubscript ∷ []) [] c.args.from c.args.levels (Level loosest want.Number ∷ []) [] (c.args.from + 1) c.in_err-second.field-0.0
    (λ k vs. (Do Collect ∷ k, vs, compose.second_taken c.args.levels _ _ k vs at.1)) c.in_err-second.ensures.reads)

pub second_subscript-returns : goal.second_subscript-returns
second_subscript-returns t c =
    let at = c.if-not-next_is_sign.ensures.stands in
    let second = c.in_ok-second.second in (
      omega (arith, c.in_ok-second.ensures.ends.0),
      c.in_ok-second.ensures.ends.1,
      λ k a vs.
          compose.second_taken c.args.levels _ _ k (Several (AndTrees a NoTrees) ∷ vs) at.1
          ∙ c.in_ok-second.ensures.reads (Do Collect ∷ k) (Several (AndTrees a NoTrees) ∷ vs)
          ∙ run_do c.args.levels Collect _ k (Term (tree_of second.tree) ∷ Several (AndTrees a NoTrees) ∷ vs),
    )

-- ---- arguments

pub parse_call-returns-then-not-next_is_sign-clause-reads : goal.parse_call-returns-then-not-next_is_sign-clause-reads
parse_call-returns-then-not-next_is_sign-clause-reads t c =
    let is : tree_of c.call.result ≡ Call c.args.name NoTrees = c.call.ensures ∙ ap (λ (es : List Expr). Call c.args.name (trees_in es)) c.new-arguments.ensures.items in
    λ k vs. compose.no_call_list c.args.levels _ c.args.name k vs c.if-not-next_is_sign.ensures.stands ∙ ap (λ z. run c.args.levels (drop c.args.from c.args.words.now) k (Term z ∷ vs)) (sym is)

pub parse_call-returns-then-levels-eq0-clause-reads : goal.parse_call-returns-then-levels-eq0-clause-reads
parse_call-returns-then-levels-eq0-clause-reads t c =
    let none : c.args.levels ≡ 0 = omega arith in
    let at = c.if-not-next_is_sign.ensures.stands in
    compose.deep c.args.levels c.args.words.now (Arguments c.args.name) c.args.from none at.0 (λ k vs. compose.deep_call _ _ c.args.name k vs at.1)

pub parse_call-returns-in_err-first-clause-reads : goal.parse_call-returns-in_err-first-clause-reads
parse_call-returns-in_err-first-clause-reads t c =
    let p = err_from_is_err_and c.from_residual.result c.from_residual.ensures.1 in
    let some : 0 < c.args.levels = omega arith in
    let at = c.if-not-next_is_sign.ensures.stands in
    rw (p.1, p.2) (inside c.args.levels c.args.words.now (Arguments c.args.name ∷ []) [] c.args.from (c.args.levels - 1) (Level loosest want.Either ∷ []) [] (c.args.from + 1) c.in_err-first.field-0.0
    (λ k vs. (Do Collect ∷ MoreArguments ∷ Expect Closing ∷ Close ∷ Do (MakeCall c.args.name) ∷ k, Several NoTrees ∷ vs, compose.opens_call c.args.levels _ _ c.args.name k vs at.1 some)) c.in_err-first.ensures.reads)

pub parse_call-arguments-init : goal.parse_call-arguments-init
parse_call-arguments-init t c =
    let some : 0 < c.args.levels = omega arith in
    let at = c.if-not-next_is_sign.ensures.stands in
    let first = c.in_ok-first.first in
    let is : c.push.new.self.items ≡ first.tree ∷ [] = c.in_ok-push.ensures.items ∙ ap (λ (es : List Expr). es ++ first.tree ∷ []) c.new-arguments.ensures.items in (
      record {
        runs = compose.first_argument c.args.levels c.args.words.now c.args.from first.end c.args.name first.tree c.push.new.self.items some at.1 c.in_ok-first.ensures.reads is;
        after = omega (arith, c.in_ok-first.ensures.ends.0);
        within = c.in_ok-first.ensures.ends.1;
      },
      some,
    )

pub parse_call-arguments-preserved : goal.parse_call-arguments-preserved
parse_call-arguments-preserved t c =
    let at = c.arguments-test.ensures.stands in
    let so_far = c.arguments.invariant.0 in
    let next = c.in_ok-next.next in (
      record {
        runs = λ k vs.
            so_far.runs k vs
            ∙ compose.next_argument (c.args.levels - 1) c.args.words.now c.arguments.place next.end next.tree c.arguments.arguments.items c.push-in-arguments.new.self.items at.1 c.in_ok-next.ensures.reads c.in_ok-push-2.ensures.items (Expect Closing ∷ Close ∷ Do (MakeCall c.args.name) ∷ k) vs;
        after = omega (arith, so_far.after, c.in_ok-next.ensures.ends.0);
        within = c.in_ok-next.ensures.ends.1;
      },
      c.arguments.invariant.1,
    )

pub parse_call-returns-clause-reads : goal.parse_call-returns-clause-reads
parse_call-returns-clause-reads t c =
    let so_far = c.arguments.invariant.0 in
    let given = Several (trees_in c.arguments.arguments.items) in
    λ k vs.
    so_far.runs k vs
    ∙ compose.no_more_arguments (c.args.levels - 1) _ (Expect Closing ∷ Close ∷ Do (MakeCall c.args.name) ∷ k) (trees_in c.arguments.arguments.items) vs c.arguments-test.ensures.stands
    ∙ compose.ended c.args.levels _ _ (MakeCall c.args.name) k (given ∷ vs) c.arguments.invariant.1 c.in_ok-end.ensures.2
    ∙ ap (λ z. run c.args.levels (drop c.in_ok-end.end c.args.words.now) k (Term z ∷ vs)) (sym c.call-2.ensures)

pub parse_call-returns-in_err-end-clause-reads : goal.parse_call-returns-in_err-end-clause-reads
parse_call-returns-in_err-end-clause-reads t c =
    let p = err_from_is_err_and c.from_residual-in_err-end.result c.from_residual-in_err-end.ensures.1 in
    let given = Several (trees_in c.arguments.arguments.items) in
    rw (p.1, p.2) (compose.sign_refused c.args.levels c.args.words.now (Arguments c.args.name ∷ []) [] c.args.from (c.args.levels - 1) Closing c.arguments.place c.in_err-end.field-0.0
    (λ k vs. (
      Close ∷ Do (MakeCall c.args.name) ∷ k,
      given ∷ vs,
      c.arguments.invariant.0.runs k vs
          ∙ compose.no_more_arguments (c.args.levels - 1) _ (Expect Closing ∷ Close ∷ Do (MakeCall c.args.name) ∷ k) (trees_in c.arguments.arguments.items) vs c.arguments-test.ensures.stands,
    )) c.in_err-end.ensures)

pub parse_call-returns-in_err-next-clause-reads : goal.parse_call-returns-in_err-next-clause-reads
parse_call-returns-in_err-next-clause-reads t c =
    let p = err_from_is_err_and c.from_residual-in_err-next.result c.from_residual-in_err-next.ensures.1 in
    let given = Several (trees_in c.arguments.arguments.items) in
    rw (p.1, p.2) (inside c.args.levels c.args.words.now (Arguments c.args.name ∷ []) [] c.args.from (c.args.levels - 1) (Level loosest want.Either ∷ []) [] (c.arguments.place + 1) c.in_err-next.field-0.0
    (λ k vs. (
      Do Collect ∷ MoreArguments ∷ Expect Closing ∷ Close ∷ Do (MakeCall c.args.name) ∷ k,
      given ∷ vs,
      c.arguments.invariant.0.runs k vs
          ∙ compose.argument_taken (c.args.levels - 1) _ _ (Expect Closing ∷ Close ∷ Do (MakeCall c.args.name) ∷ k) (given ∷ vs) c.arguments-test.ensures.stands.1,
    )) c.in_err-next.ensures.reads)

pub parse_function-returns-then-is_empty-clause-reads : goal.parse_function-returns-then-is_empty-clause-reads
parse_function-returns-then-is_empty-clause-reads t c =
    let f = c.args.function in
    let wants = c.arguments_of-wants.result.now in
    let same = c.arguments_of-wants.ensures in
    let none : arguments_of f ≡ [] = compose.all_empty wants _ same c.if-is_empty.ensures in
    let is : tree_of c.applied.result ≡ FunctionOf f NoTrees = c.applied.ensures ∙ ap (λ (es : List Expr). FunctionOf f (trees_in es)) c.new-arguments.ensures.items in
    λ k vs. compose.no_arguments c.args.levels _ f k vs none ∙ ap (λ z. run c.args.levels (drop c.args.from c.args.words.now) k (Term z ∷ vs)) (sym is)

pub parse_function-returns-then-not-next_is_sign-clause-reads : goal.parse_function-returns-then-not-next_is_sign-clause-reads
parse_function-returns-then-not-next_is_sign-clause-reads t c =
    let f = c.args.function in
    let wants = c.arguments_of-wants.result.now in
    let same = c.arguments_of-wants.ensures in
    let some = compose.not_empty wants _ c.is_empty.result same c.is_empty.ensures c.if-is_empty.false in
    (c.requires, λ k vs. compose.no_opening c.args.levels _ f k (Several NoTrees ∷ vs) some c.if-not-next_is_sign.ensures.stands)

pub parse_function-returns-then-levels-eq0-clause-reads : goal.parse_function-returns-then-levels-eq0-clause-reads
parse_function-returns-then-levels-eq0-clause-reads t c =
    let f = c.args.function in
    let wants = c.arguments_of-wants.result.now in
    let same = c.arguments_of-wants.ensures in
    let some = compose.not_empty wants _ c.is_empty.result same c.is_empty.ensures c.if-is_empty.false in
    let none : c.args.levels ≡ 0 = omega arith in
    let at = c.if-not-next_is_sign.ensures.stands in
    compose.deep_function c.args.levels c.args.words.now f (Several NoTrees ∷ []) c.args.from none at.0 some at.1

pub parse_function-returns-in_err-first-clause-reads : goal.parse_function-returns-in_err-first-clause-reads
parse_function-returns-in_err-first-clause-reads t c =
    let f = c.args.function in
    let wants = c.arguments_of-wants.result.now in
    let same = c.arguments_of-wants.ensures in
    let some = compose.not_empty wants _ c.is_empty.result same c.is_empty.ensures c.if-is_empty.false in
    let levels : 0 < c.args.levels = omega arith in
    let at = c.if-not-next_is_sign.ensures.stands in
    let p = err_from_is_err_and c.from_residual.result c.from_residual.ensures.1 in
    rw (p.1, p.2) (inside c.args.levels c.args.words.now (function_expected f) (Several NoTrees ∷ []) c.args.from (c.args.levels - 1) (Level loosest (compose.wanted wants 0) ∷ []) [] (c.args.from + 1) c.in_err-first.field-0.0
    (λ k vs. (Do Collect ∷ (compose.left_of f 1 ++ k), Several NoTrees ∷ vs, compose.opens_function c.args.levels c.args.words.now c.args.from f wants k (Several NoTrees ∷ vs) levels some same at.1)) c.in_err-first.ensures.reads)

pub parse_function-arguments-init : goal.parse_function-arguments-init
parse_function-arguments-init t c =
    let f = c.args.function in
    let wants = c.arguments_of-wants.result.now in
    let same = c.arguments_of-wants.ensures in
    let some = compose.not_empty wants _ c.is_empty.result same c.is_empty.ensures c.if-is_empty.false in
    let levels : 0 < c.args.levels = omega arith in
    let at = c.if-not-next_is_sign.ensures.stands in
    let first = c.in_ok-first.first in
    let is : c.push.new.self.items ≡ first.tree ∷ [] = c.in_ok-push.ensures.items ∙ ap (λ (es : List Expr). es ++ first.tree ∷ []) c.new-arguments.ensures.items in (
      record {
        runs = compose.first_of_function c.args.levels c.args.words.now c.args.from first.end f wants first.tree c.push.new.self.items levels some same at.1 c.in_ok-first.ensures.reads is;
        after = omega (arith, c.in_ok-first.ensures.ends.0);
        within = c.in_ok-first.ensures.ends.1;
      },
      levels,
      omega (arith, ap length is, some),
    )

pub parse_function-arguments-preserved : goal.parse_function-arguments-preserved
parse_function-arguments-preserved t c =
    let f = c.args.function in
    let wants = c.arguments_of-wants.result.now in
    let same = c.arguments_of-wants.ensures in
    let es = c.arguments.arguments.items in
    let given = Several (trees_in es) in
    let so_far = c.arguments.invariant.0 in
    let count : c.len.result ≡ length es = search rules in
    let more : length es < length (arguments_of f) = omega (arith, ap length same) in
    let next = c.in_ok-next.next in
    let items = c.push-in-arguments.new.self.items in
    let index : c.len-in-arguments.result ≡ length es = search rules in
    let behind = c.in_ok-behind.ensures in
    let is : items ≡ es ++ next.tree ∷ [] = c.in_ok-push-2.ensures.items in (
      record {
        runs = λ k vs.
            so_far.runs k vs
            ∙ compose.next_of_function (c.args.levels - 1) c.args.words.now c.arguments.place c.in_ok-behind.behind next.end c.len-in-arguments.result f wants next.tree es items same index more behind.2 c.in_ok-next.ensures.reads is k vs;
        after = omega (arith, so_far.after, behind.0, c.in_ok-next.ensures.ends.0);
        within = c.in_ok-next.ensures.ends.1;
      },
      c.arguments.invariant.1,
      omega (arith, ap length is, length-append es (next.tree ∷ []), more),
    )

pub parse_function-returns-in_err-behind-clause-reads : goal.parse_function-returns-in_err-behind-clause-reads
parse_function-returns-in_err-behind-clause-reads t c =
    let f = c.args.function in
    let wants = c.arguments_of-wants.result.now in
    let same = c.arguments_of-wants.ensures in
    let es = c.arguments.arguments.items in
    let given = Several (trees_in es) in
    let so_far = c.arguments.invariant.0 in
    let count : c.len.result ≡ length es = search rules in
    let more : length es < length (arguments_of f) = omega (arith, ap length same) in
    let p = err_from_is_err_and c.from_residual-in_err-behind.result c.from_residual-in_err-behind.ensures.1 in
    rw (p.1, p.2) (compose.sign_refused c.args.levels c.args.words.now (function_expected f) (Several NoTrees ∷ []) c.args.from (c.args.levels - 1) Comma c.arguments.place c.in_err-behind.field-0.0
    (λ k vs. (
      Level loosest (compose.wanted (arguments_of f) (length es)) ∷ Do Collect ∷ (compose.left_of f (suc (length es)) ++ k),
      given ∷ vs,
      so_far.runs k vs
          ∙ ap (λ ss. run (c.args.levels - 1) (drop c.arguments.place c.args.words.now) ss (given ∷ vs)) (compose.left_comma f (length es) k more),
    )) c.in_err-behind.ensures)

pub parse_function-returns-in_err-next-clause-reads : goal.parse_function-returns-in_err-next-clause-reads
parse_function-returns-in_err-next-clause-reads t c =
    let f = c.args.function in
    let wants = c.arguments_of-wants.result.now in
    let same = c.arguments_of-wants.ensures in
    let es = c.arguments.arguments.items in
    let given = Several (trees_in es) in
    let so_far = c.arguments.invariant.0 in
    let count : c.len.result ≡ length es = search rules in
    let more : length es < length (arguments_of f) = omega (arith, ap length same) in
    let index : c.len-in-arguments.result ≡ length es = search rules in
    let behind = c.in_ok-behind.ensures in
    let p = err_from_is_err_and c.from_residual-in_err-next.result c.from_residual-in_err-next.ensures.1 in
    rw (p.1, p.2) (inside c.args.levels c.args.words.now (function_expected f) (Several NoTrees ∷ []) c.args.from (c.args.levels - 1) (Level loosest (compose.wanted wants c.len-in-arguments.result) ∷ []) [] c.in_ok-behind.behind c.in_err-next.field-0.0
    (λ k vs. (
      Do Collect ∷ (compose.left_of f (suc (length es)) ++ k),
      given ∷ vs,
      so_far.runs k vs
          ∙ compose.comma_wanted (c.args.levels - 1) c.args.words.now c.arguments.place c.in_ok-behind.behind c.len-in-arguments.result f wants es k (given ∷ vs) same index more behind.2,
    )) c.in_err-next.ensures.reads)

pub parse_function-returns-in_err-end-clause-reads : goal.parse_function-returns-in_err-end-clause-reads
parse_function-returns-in_err-end-clause-reads t c =
    let f = c.args.function in
    let wants = c.arguments_of-wants.result.now in
    let same = c.arguments_of-wants.ensures in
    let es = c.arguments.arguments.items in
    let given = Several (trees_in es) in
    let so_far = c.arguments.invariant.0 in
    let count : c.len.result ≡ length es = search rules in
    let no_more : length (arguments_of f) ≤ length es = omega (arith, ap length same) in
    let p = err_from_is_err_and c.from_residual-in_err-end.result c.from_residual-in_err-end.ensures.1 in
    rw (p.1, p.2) (compose.sign_refused c.args.levels c.args.words.now (function_expected f) (Several NoTrees ∷ []) c.args.from (c.args.levels - 1) Closing c.arguments.place c.in_err-end.field-0.0
    (λ k vs. (
      Close ∷ Do (MakeFunction f) ∷ k,
      given ∷ vs,
      so_far.runs k vs
          ∙ ap (λ ss. run (c.args.levels - 1) (drop c.arguments.place c.args.words.now) ss (given ∷ vs)) (compose.left_end f (length es) k no_more),
    )) c.in_err-end.ensures)

pub parse_function-returns-clause-reads : goal.parse_function-returns-clause-reads
parse_function-returns-clause-reads t c =
    let f = c.args.function in
    let wants = c.arguments_of-wants.result.now in
    let same = c.arguments_of-wants.ensures in
    let es = c.arguments.arguments.items in
    let given = Several (trees_in es) in
    let so_far = c.arguments.invariant.0 in
    let count : c.len.result ≡ length es = search rules in
    let no_more : length (arguments_of f) ≤ length es = omega (arith, ap length same) in
    λ k vs.
    so_far.runs k vs
    ∙ ap (λ ss. run (c.args.levels - 1) (drop c.arguments.place c.args.words.now) ss (given ∷ vs)) (compose.left_end f (length es) k no_more)
    ∙ compose.ended c.args.levels _ _ (MakeFunction f) k (given ∷ vs) c.arguments.invariant.1 c.in_ok-end.ensures.2
    ∙ ap (λ z. run c.args.levels (drop c.in_ok-end.end c.args.words.now) k (Term z ∷ vs)) (sym c.applied-2.ensures)
