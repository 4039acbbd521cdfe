use Rattle.std.proofs.Common.{ℕ, ◌+◌, ◌++◌, List, drop, sym, ap, ◌∙◌}
use Rattle.std.proofs.lemmas.List.{take_rest}
use Rattle.monitor_calls.specs.declared.calls.Entry.{Entry}
use Rattle.monitor_model.specs.Listings.{listing, listings}
use Rattle.print_spool.specs.Printed.{listing_text, listing_texts}
use Rattle.print_spool.proofs.ListingLemmas.{named, begun, unbegun}
use Rattle.print_spool.proofs.listings.push_listings.Goals as goal
use Rattle.print_spool.proofs.listings.push_listings.Goals.{then-begins+in_ok-push_listing, else-begins}

pub bounds-names-entry : goal.bounds-names-entry
bounds-names-entry c =
    named c.args.names.now c.args.history.now c.loop-place.place c.index-history-place.result c.requires c.loop-place-test.true c.index-history-place.is

pub loop-place-preserved : goal.loop-place-preserved
loop-place-preserved c =
    let names = c.args.names.now in
    let history = c.args.history.now in
    let place = c.loop-place.place in
    let entry = c.index-history-place.result in
    let whole = c.args.out.now.items ++ listing_texts names (listings history) in
    elim c.if-begins.branch [
      | then-begins+in_ok-push_listing w ↦
          let small = named names history place entry c.requires c.loop-place-test.true c.index-history-place.is in
          let text : List Entry → List ℕ = λ rest. c.loop-place.out.items ++ listing_text w.index-names-entry.result (listing entry.job rest) in
          let written = ap (λ v. v.items) w.out-is ∙ w.in_ok-push_listing.ensures ∙ ap text (take_rest history (place + 1)) in
          begun names history place entry c.loop-place-test.true c.index-history-place.is c.loop-place.out.items c.if-begins.out.items whole w.index-names-entry.result (sym c.begins.ensures ∙ w.if-begins.true) small w.index-names-entry.is written c.loop-place.invariant
      | else-begins w ↦
          ap (λ v. v.items ++ listing_texts names (listings (drop (place + 1) history))) w.out-is
          ∙ unbegun names history place entry c.loop-place-test.true c.index-history-place.is c.loop-place.out.items whole (sym c.begins.ensures ∙ w.if-begins.false) c.loop-place.invariant
    ]
