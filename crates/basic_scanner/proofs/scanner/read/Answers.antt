use Rattle.std.proofs.Common.{◌+◌, ◌++◌, [], List, drop, Ok, None, sym, ap, ◌∙◌, arith, length-drop}
use Rattle.basic_tree.specs.Tokens.{Lexeme, with_tokens, tokens_from, items_from}
use Rattle.basic_tree.proofs.TokenLemmas.{at_end, at_blank, at_comment, at_refused, at_token, at_data}
use Rattle.basic_scanner.proofs.scanner.read.Goals as goal

pub loop-place-preserved-in-Blank : goal.loop-place-preserved-in-Blank
loop-place-preserved-in-Blank c = record {
  value = sym (at_blank _ _ _ c.loop-place-test.true c.in-Blank.ensures.value) ∙ c.loop-place.invariant.value;
  within = omega arith;
  count = omega arith;
}

pub returns-in-Comment-clause-found : goal.returns-in-Comment-clause-found
returns-in-Comment-clause-found c =
    sym c.loop-place.invariant.value ∙ at_comment _ _ _ c.loop-place-test.true c.in-Comment.ensures.value

pub returns-in-Data-clause-found : goal.returns-in-Data-clause-found
returns-in-Data-clause-found c =
    let items = items_from (c.loop-place.place + 4) [] None (drop (c.loop-place.place + 4) c.args.line.now) in
    sym c.loop-place.invariant.value
    ∙ at_data _ _ _ c.loop-place-test.true c.in-Data.ensures.value
    ∙ ap (λ (ts : List Lexeme). Ok ts) (sym (c.push_items.ensures ∙ ap (λ (ts : List Lexeme). ts ++ items) c.push.ensures.tokens))

pub loop-place-preserved : goal.loop-place-preserved
loop-place-preserved c =
    let behind = tokens_from (c.loop-place.place + c.in-Token.len) 0 (drop (c.loop-place.place + c.in-Token.len) c.args.line.now) in
    record {
      value = ap (λ (ts : List Lexeme). with_tokens ts behind) c.push-in-Token.ensures.tokens ∙ sym (at_token _ _ _ c.loop-place-test.true _ _ c.in-Token.ensures.value c.in-Token.ensures.fits.0) ∙ c.loop-place.invariant.value;
      within = omega (arith, c.in-Token.ensures.fits.1, length-drop c.loop-place.place c.args.line.now);
      count = omega (arith, c.push-in-Token.ensures.count, c.in-Token.ensures.fits.0);
    }

pub returns-in-Refused-clause-refused : goal.returns-in-Refused-clause-refused
returns-in-Refused-clause-refused c =
    sym c.loop-place.invariant.value ∙ at_refused _ _ _ c.loop-place-test.true _ c.in-Refused.ensures.value

pub returns-clause-found : goal.returns-clause-found
returns-clause-found c = sym c.loop-place.invariant.value ∙ at_end _ _ _ (omega arith)
