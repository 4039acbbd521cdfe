use Rattle.std.proofs.Common.{◌≡◌, ◌+◌, ◌-◌, List, [], ◌∷◌, length, refl, ap, ◌∙◌, arith}
use Rattle.std.specs.List.{splice}
use Rattle.basic_tree.specs.ProgramLines.{stored}
use Rattle.line_editor.specs.declared.buffer.Mark.{Mark}
use Rattle.line_editor.specs.Marked.{IsListing}
use Rattle.line_editor.proofs.MarkLemmas.{seen, shown, lines_are, text_mark}
use Rattle.line_editor.proofs.BufferLemmas.{Ranged, range_rises, range_within, one_place, size_with, put_move, lists_with}
use Rattle.line_editor.proofs.buffer.LineBuffer.store.Goals as goal

pub put_bytes-requires-clause-rises : goal.put_bytes-requires-clause-rises
put_bytes-requires-clause-rises c =
    let r : Ranged c.args.number c.args.number c.self.inside.bytes.items c.self.inside.marks.items c.args.self.now c.places-places.result c.start_of-start.result c.start_of-end.result = record {
      lists = seen c.self.inside.bytes.items c.self.inside.marks.items c.args.self.now c.self.view_is c.self.invariant;
      placed = c.places-places.ensures;
      starts = c.start_of-start.ensures;
      ends = c.start_of-end.ensures;
    } in
    range_rises c.args.number c.args.number c.self.inside.bytes.items c.self.inside.marks.items c.args.self.now c.places-places.result c.start_of-start.result c.start_of-end.result r

pub put_bytes-requires-clause-within : goal.put_bytes-requires-clause-within
put_bytes-requires-clause-within c =
    let r : Ranged c.args.number c.args.number c.self.inside.bytes.items c.self.inside.marks.items c.args.self.now c.places-places.result c.start_of-start.result c.start_of-end.result = record {
      lists = seen c.self.inside.bytes.items c.self.inside.marks.items c.args.self.now c.self.view_is c.self.invariant;
      placed = c.places-places.ensures;
      starts = c.start_of-start.ensures;
      ends = c.start_of-end.ensures;
    } in
    range_within c.args.number c.args.number c.self.inside.bytes.items c.self.inside.marks.items c.args.self.now c.places-places.result c.start_of-start.result c.start_of-end.result r

pub overflow_add-mark : goal.overflow_add-mark
overflow_add-mark c =
    let r : Ranged c.args.number c.args.number c.self.inside.bytes.items c.self.inside.marks.items c.args.self.now c.places-places.result c.start_of-start.result c.start_of-end.result = record {
      lists = seen c.self.inside.bytes.items c.self.inside.marks.items c.args.self.now c.self.view_is c.self.invariant;
      placed = c.places-places.ensures;
      starts = c.start_of-start.ensures;
      ends = c.start_of-end.ensures;
    } in
    let rises = range_rises c.args.number c.args.number c.self.inside.bytes.items c.self.inside.marks.items c.args.self.now c.places-places.result c.start_of-start.result c.start_of-end.result r in
    let within = range_within c.args.number c.args.number c.self.inside.bytes.items c.self.inside.marks.items c.args.self.now c.places-places.result c.start_of-start.result c.start_of-end.result r in
    let size = size_with c.args.number c.args.rest.now c.self.inside.bytes.items c.self.inside.marks.items c.args.self.now c.places-places.result c.start_of-start.result c.start_of-end.result r c.in_ok-listed.listed.items c.put_bytes.new.bytes.items c.in_ok-put_bytes.ensures.ok in
    omega (arith, c.len-added.ensures, c.in_ok-listed.listed.ok.0, c.put_bytes.new.bytes.ok.0, c.put_bytes.new.bytes.ok.1, c.put_bytes.new.bytes.small)

pub put_mark-requires-clause-one : goal.put_mark-requires-clause-one
put_mark-requires-clause-one c =
    let r : Ranged c.args.number c.args.number c.self.inside.bytes.items c.self.inside.marks.items c.args.self.now c.places-places.result c.start_of-start.result c.start_of-end.result = record {
      lists = seen c.self.inside.bytes.items c.self.inside.marks.items c.args.self.now c.self.view_is c.self.invariant;
      placed = c.places-places.ensures;
      starts = c.start_of-start.ensures;
      ends = c.start_of-end.ensures;
    } in
    one_place c.args.number c.args.rest.now c.self.inside.bytes.items c.self.inside.marks.items c.args.self.now c.places-places.result c.start_of-start.result c.start_of-end.result r

pub overflow_sub-end : goal.overflow_sub-end
overflow_sub-end c =
    let r : Ranged c.args.number c.args.number c.self.inside.bytes.items c.self.inside.marks.items c.args.self.now c.places-places.result c.start_of-start.result c.start_of-end.result = record {
      lists = seen c.self.inside.bytes.items c.self.inside.marks.items c.args.self.now c.self.view_is c.self.invariant;
      placed = c.places-places.ensures;
      starts = c.start_of-start.ensures;
      ends = c.start_of-end.ensures;
    } in
    range_rises c.args.number c.args.number c.self.inside.bytes.items c.self.inside.marks.items c.args.self.now c.places-places.result c.start_of-start.result c.start_of-end.result r

pub shift-requires-clause-moves : goal.shift-requires-clause-moves
shift-requires-clause-moves c =
    let r : Ranged c.args.number c.args.number c.self.inside.bytes.items c.self.inside.marks.items c.args.self.now c.places-places.result c.start_of-start.result c.start_of-end.result = record {
      lists = seen c.self.inside.bytes.items c.self.inside.marks.items c.args.self.now c.self.view_is c.self.invariant;
      placed = c.places-places.ensures;
      starts = c.start_of-start.ensures;
      ends = c.start_of-end.ensures;
    } in
    let mark : Mark = text_mark (((c.start_of-start.result + c.len-added.result) - 2) - length c.args.rest.now) (c.args.number, c.args.rest.now) in
    let put : c.put_mark.new.marks.items ≡ splice c.self.inside.marks.items c.places-places.result.first c.places-places.result.behind (mark ∷ []) =
    c.put_mark.ensures ∙ ap (λ (ms : List Mark). splice ms c.places-places.result.first c.places-places.result.behind (mark ∷ [])) c.reserve.ensures.items in
    let size = size_with c.args.number c.args.rest.now c.self.inside.bytes.items c.self.inside.marks.items c.args.self.now c.places-places.result c.start_of-start.result c.start_of-end.result r c.in_ok-listed.listed.items c.put_bytes.new.bytes.items c.in_ok-put_bytes.ensures.ok in
    put_move c.args.number c.args.rest.now c.self.inside.bytes.items c.self.inside.marks.items c.args.self.now c.places-places.result c.start_of-start.result c.start_of-end.result r mark c.put_mark.new.marks.items put c.len-added.result
    (omega (arith, c.len-added.ensures, c.in_ok-listed.listed.ok.0, c.put_bytes.new.bytes.ok.0, c.put_bytes.new.bytes.ok.1, c.put_bytes.new.bytes.small))

pub invariant_of-self-2 : goal.invariant_of-self-2
invariant_of-self-2 c =
    let r : Ranged c.args.number c.args.number c.self.inside.bytes.items c.self.inside.marks.items c.args.self.now c.places-places.result c.start_of-start.result c.start_of-end.result = record {
      lists = seen c.self.inside.bytes.items c.self.inside.marks.items c.args.self.now c.self.view_is c.self.invariant;
      placed = c.places-places.ensures;
      starts = c.start_of-start.ensures;
      ends = c.start_of-end.ensures;
    } in
    let mark : Mark = text_mark (((c.start_of-start.result + c.len-added.result) - 2) - length c.args.rest.now) (c.args.number, c.args.rest.now) in
    let put : c.put_mark.new.marks.items ≡ splice c.self.inside.marks.items c.places-places.result.first c.places-places.result.behind (mark ∷ []) =
    c.put_mark.ensures ∙ ap (λ (ms : List Mark). splice ms c.places-places.result.first c.places-places.result.behind (mark ∷ [])) c.reserve.ensures.items in
    let lists : IsListing c.put_bytes.new.bytes.items c.shift.new.marks.items (stored c.args.number c.args.rest.now c.args.self.now) =
    lists_with c.args.number c.args.rest.now c.self.inside.bytes.items c.self.inside.marks.items c.args.self.now c.places-places.result c.start_of-start.result c.start_of-end.result r mark c.put_mark.new.marks.items put c.len-added.result c.in_ok-listed.listed.items c.put_bytes.new.bytes.items c.shift.new.marks.items
    c.in_ok-listed.ensures (c.len-added.ensures ∙ c.in_ok-listed.listed.ok.0) refl c.in_ok-put_bytes.ensures.ok c.shift.ensures in
    shown c.put_bytes.new.bytes.items c.shift.new.marks.items (stored c.args.number c.args.rest.now c.args.self.now) lists

pub returns-clause-ok : goal.returns-clause-ok
returns-clause-ok c =
    let r : Ranged c.args.number c.args.number c.self.inside.bytes.items c.self.inside.marks.items c.args.self.now c.places-places.result c.start_of-start.result c.start_of-end.result = record {
      lists = seen c.self.inside.bytes.items c.self.inside.marks.items c.args.self.now c.self.view_is c.self.invariant;
      placed = c.places-places.ensures;
      starts = c.start_of-start.ensures;
      ends = c.start_of-end.ensures;
    } in
    let mark : Mark = text_mark (((c.start_of-start.result + c.len-added.result) - 2) - length c.args.rest.now) (c.args.number, c.args.rest.now) in
    let put : c.put_mark.new.marks.items ≡ splice c.self.inside.marks.items c.places-places.result.first c.places-places.result.behind (mark ∷ []) =
    c.put_mark.ensures ∙ ap (λ (ms : List Mark). splice ms c.places-places.result.first c.places-places.result.behind (mark ∷ [])) c.reserve.ensures.items in
    let lists : IsListing c.put_bytes.new.bytes.items c.shift.new.marks.items (stored c.args.number c.args.rest.now c.args.self.now) =
    lists_with c.args.number c.args.rest.now c.self.inside.bytes.items c.self.inside.marks.items c.args.self.now c.places-places.result c.start_of-start.result c.start_of-end.result r mark c.put_mark.new.marks.items put c.len-added.result c.in_ok-listed.listed.items c.put_bytes.new.bytes.items c.shift.new.marks.items
    c.in_ok-listed.ensures (c.len-added.ensures ∙ c.in_ok-listed.listed.ok.0) refl c.in_ok-put_bytes.ensures.ok c.shift.ensures in
    lines_are c.put_bytes.new.bytes.items c.shift.new.marks.items (stored c.args.number c.args.rest.now c.args.self.now) lists

pub returns-clause-orderly : goal.returns-clause-orderly
returns-clause-orderly c =
    let r : Ranged c.args.number c.args.number c.self.inside.bytes.items c.self.inside.marks.items c.args.self.now c.places-places.result c.start_of-start.result c.start_of-end.result = record {
      lists = seen c.self.inside.bytes.items c.self.inside.marks.items c.args.self.now c.self.view_is c.self.invariant;
      placed = c.places-places.ensures;
      starts = c.start_of-start.ensures;
      ends = c.start_of-end.ensures;
    } in
    let mark : Mark = text_mark (((c.start_of-start.result + c.len-added.result) - 2) - length c.args.rest.now) (c.args.number, c.args.rest.now) in
    let put : c.put_mark.new.marks.items ≡ splice c.self.inside.marks.items c.places-places.result.first c.places-places.result.behind (mark ∷ []) =
    c.put_mark.ensures ∙ ap (λ (ms : List Mark). splice ms c.places-places.result.first c.places-places.result.behind (mark ∷ [])) c.reserve.ensures.items in
    let lists : IsListing c.put_bytes.new.bytes.items c.shift.new.marks.items (stored c.args.number c.args.rest.now c.args.self.now) =
    lists_with c.args.number c.args.rest.now c.self.inside.bytes.items c.self.inside.marks.items c.args.self.now c.places-places.result c.start_of-start.result c.start_of-end.result r mark c.put_mark.new.marks.items put c.len-added.result c.in_ok-listed.listed.items c.put_bytes.new.bytes.items c.shift.new.marks.items
    c.in_ok-listed.ensures (c.len-added.ensures ∙ c.in_ok-listed.listed.ok.0) refl c.in_ok-put_bytes.ensures.ok c.shift.ensures in
    (shown c.put_bytes.new.bytes.items c.shift.new.marks.items (stored c.args.number c.args.rest.now c.args.self.now) lists).orderly
