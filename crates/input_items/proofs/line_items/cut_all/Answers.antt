use Rattle.std.proofs.Common.{◌≡◌, ◌<◌, length, get_or, true, false, sym, ◌∙◌, arith}
use Rattle.basic_tree.specs.Tokens.{cuts}
use Rattle.input_items.proofs.LineItems.{cut_here, gone_on, cut_all}
use Rattle.input_items.proofs.line_items.cut_all.Goals as goal
use Rattle.input_items.proofs.line_items.cut_all.Goals.{then-cuts+in_ok-add_item, else-cuts}

pub loop-place-preserved : goal.loop-place-preserved
loop-place-preserved c =
    let here : c.loop-place.place < length c.args.line.now = omega arith in
    elim c.if-cuts.branch [
      | then-cuts+in_ok-add_item w ↦
          let is : cuts c.loop-place.quote (get_or c.args.line.now c.loop-place.place 0) ≡ true = sym c.cuts.ensures ∙ w.if-cuts.true in
          record {
            within = rw w.start-is (omega arith);
            cut = rw (w.items-is, w.start-is, w.quote-is, w.in_ok-add_item.ensures)
                (cut_here c.loop-place.items.items c.loop-place.start c.loop-place.place c.loop-place.quote c.args.line.now c.loop-place.invariant.within here is c.loop-place.invariant.cut);
          }
      | else-cuts w ↦
          let is : cuts c.loop-place.quote (get_or c.args.line.now c.loop-place.place 0) ≡ false = sym c.cuts.ensures ∙ w.if-cuts.false in
          record {
            within = rw w.start-is (omega arith);
            cut = rw (w.items-is, w.start-is, w.quote-is, w.quote_after-quote.ensures)
                (gone_on c.loop-place.items.items c.loop-place.start c.loop-place.place c.loop-place.quote c.args.line.now c.loop-place.invariant.within here is c.loop-place.invariant.cut);
          }
    ]

pub returns : goal.returns
returns c =
    let end : c.loop-place.place ≡ length c.args.line.now = omega arith in
    rw c.in_ok-add_item-2.ensures
    (cut_all c.loop-place.items.items c.loop-place.start c.loop-place.quote c.args.line.now (rw end at c.loop-place.invariant.cut))
