use Rattle.std.proofs.Common.{◌≡◌, ◌+◌, ◌-◌, ◌<◌, List, ℕ, ◌∷◌, length, take, drop, sym, ap, ◌∙◌, arith, length-drop}
use Rattle.std.proofs.lemmas.Bool.Decides.{nat_tests}
use Rattle.std.proofs.lemmas.List.{take_all}
use Rattle.basic_tree.specs.FileLines.{file_lines}
use Rattle.line_editor.proofs.CutLemmas.{cut_line, one_line}
use Rattle.line_editor.proofs.files.first_line.Goals as goal

pub returns-then-text-place-eq10 : goal.returns-then-text-place-eq10
returns-then-text-place-eq10 c =
    let text = c.args.text.now in
    let n = c.loop-place.place in
    let behind : take (length text - (n + 1)) (drop (n + 1) text) ≡ drop (n + 1) text = take_all (length text - (n + 1)) (drop (n + 1) text) (omega (arith, length-drop (n + 1) text)) in
    let shorter : length (drop (n + 1) text) < length text = omega (arith, length-drop (n + 1) text) in (
      cut_line text n c.loop-place-test.true c.loop-place.invariant (grind (arith, nat_tests))
          ∙ ap (λ (line : List ℕ). line ∷ file_lines (drop (n + 1) text)) (sym c.without_return.ensures)
          ∙ ap (λ (left : List ℕ). c.without_return.result.now ∷ file_lines left) (sym behind),
      omega (arith, ap length behind, shorter),
    )

pub returns : goal.returns
returns c = (one_line c.args.text.now c.requires (λ k lt. c.loop-place.invariant k (omega arith)), c.requires)
