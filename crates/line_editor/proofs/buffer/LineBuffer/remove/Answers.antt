use Rattle.std.proofs.Common.{arith}
use Rattle.basic_tree.specs.ProgramLines.{without}
use Rattle.line_editor.specs.Marked.{IsListing}
use Rattle.line_editor.proofs.MarkLemmas.{seen, shown, lines_are}
use Rattle.line_editor.proofs.BufferLemmas.{Ranged, range_rises, range_within, less_move, lists_without}
use Rattle.line_editor.proofs.buffer.LineBuffer.remove.Goals as goal

pub take_out-requires-clause-rises : goal.take_out-requires-clause-rises
take_out-requires-clause-rises c =
    let r : Ranged c.args.from c.args.to c.self.inside.bytes.items c.self.inside.marks.items c.args.self.now c.places-places.result c.start_of-start.result c.start_of-end.result = record {
      lists = seen c.self.inside.bytes.items c.self.inside.marks.items c.args.self.now c.self.view_is c.self.invariant;
      placed = c.places-places.ensures;
      starts = c.start_of-start.ensures;
      ends = c.start_of-end.ensures;
    } in
    range_rises c.args.from c.args.to c.self.inside.bytes.items c.self.inside.marks.items c.args.self.now c.places-places.result c.start_of-start.result c.start_of-end.result r

pub take_out-requires-clause-within : goal.take_out-requires-clause-within
take_out-requires-clause-within c =
    let r : Ranged c.args.from c.args.to c.self.inside.bytes.items c.self.inside.marks.items c.args.self.now c.places-places.result c.start_of-start.result c.start_of-end.result = record {
      lists = seen c.self.inside.bytes.items c.self.inside.marks.items c.args.self.now c.self.view_is c.self.invariant;
      placed = c.places-places.ensures;
      starts = c.start_of-start.ensures;
      ends = c.start_of-end.ensures;
    } in
    range_within c.args.from c.args.to c.self.inside.bytes.items c.self.inside.marks.items c.args.self.now c.places-places.result c.start_of-start.result c.start_of-end.result r

pub overflow_sub-end : goal.overflow_sub-end
overflow_sub-end c =
    let r : Ranged c.args.from c.args.to c.self.inside.bytes.items c.self.inside.marks.items c.args.self.now c.places-places.result c.start_of-start.result c.start_of-end.result = record {
      lists = seen c.self.inside.bytes.items c.self.inside.marks.items c.args.self.now c.self.view_is c.self.invariant;
      placed = c.places-places.ensures;
      starts = c.start_of-start.ensures;
      ends = c.start_of-end.ensures;
    } in
    range_rises c.args.from c.args.to c.self.inside.bytes.items c.self.inside.marks.items c.args.self.now c.places-places.result c.start_of-start.result c.start_of-end.result r

pub shift-requires-clause-moves : goal.shift-requires-clause-moves
shift-requires-clause-moves c =
    let r : Ranged c.args.from c.args.to c.self.inside.bytes.items c.self.inside.marks.items c.args.self.now c.places-places.result c.start_of-start.result c.start_of-end.result = record {
      lists = seen c.self.inside.bytes.items c.self.inside.marks.items c.args.self.now c.self.view_is c.self.invariant;
      placed = c.places-places.ensures;
      starts = c.start_of-start.ensures;
      ends = c.start_of-end.ensures;
    } in
    less_move c.args.from c.args.to c.self.inside.bytes.items c.self.inside.marks.items c.args.self.now c.places-places.result c.start_of-start.result c.start_of-end.result r c.take_out-2.new.items.items c.take_out-2.ensures (omega (arith, c.self.inside.bytes.ok.0, c.self.inside.bytes.ok.1, c.self.inside.bytes.small))

pub invariant_of-self : goal.invariant_of-self
invariant_of-self c =
    let r : Ranged c.args.from c.args.to c.self.inside.bytes.items c.self.inside.marks.items c.args.self.now c.places-places.result c.start_of-start.result c.start_of-end.result = record {
      lists = seen c.self.inside.bytes.items c.self.inside.marks.items c.args.self.now c.self.view_is c.self.invariant;
      placed = c.places-places.ensures;
      starts = c.start_of-start.ensures;
      ends = c.start_of-end.ensures;
    } in
    let lists : IsListing c.take_out.new.items.items c.shift.new.marks.items (without c.args.from c.args.to c.args.self.now) =
    lists_without c.args.from c.args.to c.self.inside.bytes.items c.self.inside.marks.items c.args.self.now c.places-places.result c.start_of-start.result c.start_of-end.result r c.take_out-2.new.items.items c.take_out-2.ensures c.take_out.new.items.items c.shift.new.marks.items c.take_out.ensures c.shift.ensures in
    shown c.take_out.new.items.items c.shift.new.marks.items (without c.args.from c.args.to c.args.self.now) lists

pub returns : goal.returns
returns c =
    let r : Ranged c.args.from c.args.to c.self.inside.bytes.items c.self.inside.marks.items c.args.self.now c.places-places.result c.start_of-start.result c.start_of-end.result = record {
      lists = seen c.self.inside.bytes.items c.self.inside.marks.items c.args.self.now c.self.view_is c.self.invariant;
      placed = c.places-places.ensures;
      starts = c.start_of-start.ensures;
      ends = c.start_of-end.ensures;
    } in
    let lists : IsListing c.take_out.new.items.items c.shift.new.marks.items (without c.args.from c.args.to c.args.self.now) =
    lists_without c.args.from c.args.to c.self.inside.bytes.items c.self.inside.marks.items c.args.self.now c.places-places.result c.start_of-start.result c.start_of-end.result r c.take_out-2.new.items.items c.take_out-2.ensures c.take_out.new.items.items c.shift.new.marks.items c.take_out.ensures c.shift.ensures in
    lines_are c.take_out.new.items.items c.shift.new.marks.items (without c.args.from c.args.to c.args.self.now) lists
