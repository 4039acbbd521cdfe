use Rattle.std.proofs.Common.{◌≡◌, ℕ, ◌<◌, List, None, Some, get_or, length, set, sym, ap, subst, ◌∙◌, arith}
use Rattle.std.specs.Prelude.{Option, is_some}
use Rattle.std.proofs.lemmas.List.{get_or_default}
use Rattle.block_files.proofs.SlotLemmas.{slot_there, slot_within, pages_more, others_more}
use Rattle.block_files.proofs.unmounting.taken.Goals as goal

pub bounds-slots-place : goal.bounds-slots-place
bounds-slots-place c =
    slot_within c.args.slots.now c.loop-place.slots c.args.places.now c.loop-place.place-index (omega arith) c.requires c.loop-place.invariant.others

pub unwrap-requires : goal.unwrap-requires
unwrap-requires c =
    let now = c.loop-place.slots in
    let places = c.args.places.now in
    let k = c.loop-place.place-index in
    let within = slot_within c.args.slots.now now places k (omega arith) c.requires c.loop-place.invariant.others in
    ap is_some (c.take.ensures.value ∙ get_or_default now (get_or places k 0) c.index-slots-place.result None within)
    ∙ slot_there c.args.slots.now now places k (omega arith) c.requires c.loop-place.invariant.others

pub loop-place-preserved : goal.loop-place-preserved
loop-place-preserved c =
    let slots = c.args.slots.now in
    let now = c.loop-place.slots in
    let places = c.args.places.now in
    let k = c.loop-place.place-index in
    let at : ℕ = get_or places k 0 in
    let others = c.loop-place.invariant.others in
    let within = slot_within slots now places k (omega arith) c.requires others in
    let read : c.take.result ≡ get_or now at None = c.take.ensures.value ∙ get_or_default now at c.index-slots-place.result None within in
    record {
      pages = pages_more slots now places k (omega arith) c.requires others c.loop-place.pages.items c.push_reserved.new.self.items c.unwrap.result c.loop-place.invariant.pages c.push_reserved.ensures.items (sym c.unwrap.ensures ∙ read);
      others = others_more slots now places k (omega arith) c.requires others _ (ap (set now at) c.take.ensures.after);
      room = omega (arith, c.push_reserved.ensures.capacity, c.loop-place.invariant.room);
    }
