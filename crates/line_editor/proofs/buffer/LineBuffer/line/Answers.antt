use Rattle.std.proofs.Common.{ℕ, ◌+◌, ◌-◌, ◌<◌, List, Some, length, take, drop, sym, ap, ◌∙◌, arith}
use Rattle.std.proofs.lemmas.Bool.Decides.{nat_tests}
use Rattle.line_editor.proofs.MarkLemmas.{seen}
use Rattle.line_editor.proofs.BufferLemmas.{no_line, mark_stands, marked}
use Rattle.line_editor.proofs.buffer.LineBuffer.line.Goals as goal

pub returns-then-places : goal.returns-then-places
returns-then-places c =
    no_line c.args.number c.args.self.now c.places-places.result c.places-places.ensures (grind (arith, nat_tests))

pub overflow_add-result : goal.overflow_add-result
overflow_add-result c =
    let is = seen c.self.inside.bytes.items c.self.inside.marks.items c.args.self.now c.self.view_is c.self.invariant in
    let rises = c.places-places.ensures.rises in
    let there : c.places-places.result.first < c.places-places.result.behind = grind (arith, nat_tests) in
    let stands = mark_stands c.args.number c.self.inside.bytes.items c.self.inside.marks.items c.args.self.now c.places-places.result is c.places-places.ensures c.index-mark.result.now there c.index-mark.ensures in
    omega (arith, c.self.inside.bytes.ok.0, c.self.inside.bytes.ok.1, c.self.inside.bytes.small)

pub slice_bounds-result-end : goal.slice_bounds-result-end
slice_bounds-result-end c =
    let is = seen c.self.inside.bytes.items c.self.inside.marks.items c.args.self.now c.self.view_is c.self.invariant in
    let rises = c.places-places.ensures.rises in
    let there : c.places-places.result.first < c.places-places.result.behind = grind (arith, nat_tests) in
    let stands = mark_stands c.args.number c.self.inside.bytes.items c.self.inside.marks.items c.args.self.now c.places-places.result is c.places-places.ensures c.index-mark.result.now there c.index-mark.ensures in
    omega (arith, ap length c.as_slice.ensures.value)

pub returns : goal.returns
returns c =
    let is = seen c.self.inside.bytes.items c.self.inside.marks.items c.args.self.now c.self.view_is c.self.invariant in
    let rises = c.places-places.ensures.rises in
    let there : c.places-places.result.first < c.places-places.result.behind = grind (arith, nat_tests) in
    let begins = c.index-mark.result.now.begins in
    let count = c.index-mark.result.now.count in
    marked c.args.number c.self.inside.bytes.items c.self.inside.marks.items c.args.self.now c.places-places.result is c.places-places.ensures c.index-mark.result.now there c.index-mark.ensures
    ∙ ap (λ (l : List ℕ). Some (take ((begins + count) - begins) (drop begins l))) (sym c.as_slice.ensures.value)
