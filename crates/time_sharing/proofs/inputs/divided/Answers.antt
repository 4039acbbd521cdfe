use Rattle.std.proofs.Common.{◌≡◌, ◌++◌, [], ◌∷◌, length, codes, refl, sym, ap, ◌∙◌, arith}
use Rattle.std.specs.Cmp.Lexicographic.{bytes_decides}
use Rattle.std.specs.Str.Lines.{strip_carriage_return}
use Rattle.deck_model.specs.Lines.{whole_lines, cut_line}
use Rattle.time_sharing.proofs.InputLemmas.{front_more, whole_more, count_more, no_end_more, divided_there, lines_there, lines_nowhere, divided_nowhere}
use Rattle.time_sharing.proofs.inputs.divided.Goals as goal

pub loop-line-init : goal.loop-line-init
unfolding whole_lines cut_line
loop-line-init c = record { front = ([], refl, refl, tt, refl); few = omega arith }

pub returns-then-is_end-clause-divided : goal.returns-then-is_end-clause-divided
returns-then-is_end-clause-divided c =
    let f = c.loop-line.invariant.front in
    let line = c.in-Some.line.now in
    let is : strip_carriage_return line ≡ codes "END" = (bytes_decides (strip_carriage_return line) (codes "END")).0 (sym c.is_end.ensures ∙ c.if-is_end.true) in
    divided_there c.args.input.now f.0 c.loop-line.rest.now line c.in-Some.behind.now f.1 f.2 c.in-Some.ensures.parts f.3 is

pub returns-then-is_end-clause-lines : goal.returns-then-is_end-clause-lines
returns-then-is_end-clause-lines c =
    let f = c.loop-line.invariant.front in
    let there = lines_there c.args.input.now f.0 c.loop-line.rest.now c.in-Some.line.now c.in-Some.behind.now f.1 f.2 c.in-Some.ensures.parts in
    omega (arith, f.4, there)

pub loop-line-preserved : goal.loop-line-preserved
loop-line-preserved c =
    let f = c.loop-line.invariant.front in
    let few = c.loop-line.invariant.few in
    let line = c.in-Some.line.now in
    let input = c.args.input.now in
    let rest = c.loop-line.rest.now in
    let behind = c.in-Some.behind.now in
    let next = c.in-Some.ensures.parts in
    let shorter = c.in-Some.ensures.shorter in
    let other : strip_carriage_return line ≡ codes "END" → ⊥ = λ is. let e = sym c.if-is_end.false ∙ c.is_end.ensures ∙ (bytes_decides (strip_carriage_return line) (codes "END")).1 is in absurd (cc) in
    let count = count_more input f.0 rest line behind f.1 f.2 next in
    record {
      front = (f.0 ++ (line ++ 10 ∷ []), front_more input f.0 rest line behind f.1 f.2 next, whole_more input f.0 rest line behind f.1 f.2 next, no_end_more input f.0 rest line behind f.1 f.2 next f.3 other, omega (arith, f.4, count));
      few = omega (arith, few, shorter);
    }

pub returns-clause-divided : goal.returns-clause-divided
returns-clause-divided c =
    let f = c.loop-line.invariant.front in
    divided_nowhere c.args.input.now f.0 c.loop-line.rest.now f.1 f.2 c.in_default.ensures.parts f.3

pub returns-clause-lines : goal.returns-clause-lines
returns-clause-lines c =
    let f = c.loop-line.invariant.front in
    f.4 ∙ ap length (sym (lines_nowhere c.args.input.now f.0 c.loop-line.rest.now f.1 f.2 c.in_default.ensures.parts))
