use Rattle.std.proofs.Common.{arith}
use Rattle.std.proofs.lemmas.Bool.Decides.{nat_tests}
use Rattle.line_editor.proofs.MarkLemmas.{seen}
use Rattle.line_editor.proofs.BufferLemmas.{line_start, within_bytes}
use Rattle.line_editor.proofs.buffer.LineBuffer.start_of.Goals as goal

pub returns : goal.returns
returns c =
    line_start c.self.inside.bytes.items c.self.inside.marks.items c.args.self.now c.args.place c.index-before.result.now
    (seen c.self.inside.bytes.items c.self.inside.marks.items c.args.self.now c.self.view_is c.self.invariant) (grind (arith, nat_tests)) c.requires c.index-before.ensures

-- it ends within the bytes, of which there are few enough
pub overflow_add-result : goal.overflow_add-result
overflow_add-result c =
    let end = line_start c.self.inside.bytes.items c.self.inside.marks.items c.args.self.now c.args.place c.index-before.result.now (seen c.self.inside.bytes.items c.self.inside.marks.items c.args.self.now c.self.view_is c.self.invariant) (grind (arith, nat_tests)) c.requires c.index-before.ensures in
    let most = within_bytes c.self.inside.bytes.items c.self.inside.marks.items c.args.self.now c.args.place (seen c.self.inside.bytes.items c.self.inside.marks.items c.args.self.now c.self.view_is c.self.invariant) in
    omega (arith, c.self.inside.bytes.ok.0, c.self.inside.bytes.ok.1, c.self.inside.bytes.small)

pub overflow_add-result-2 : goal.overflow_add-result-2
overflow_add-result-2 c =
    let end = line_start c.self.inside.bytes.items c.self.inside.marks.items c.args.self.now c.args.place c.index-before.result.now (seen c.self.inside.bytes.items c.self.inside.marks.items c.args.self.now c.self.view_is c.self.invariant) (grind (arith, nat_tests)) c.requires c.index-before.ensures in
    let most = within_bytes c.self.inside.bytes.items c.self.inside.marks.items c.args.self.now c.args.place (seen c.self.inside.bytes.items c.self.inside.marks.items c.args.self.now c.self.view_is c.self.invariant) in
    omega (arith, c.self.inside.bytes.ok.0, c.self.inside.bytes.ok.1, c.self.inside.bytes.small)
