use Rattle.std.proofs.Common.{get_or, arith}
use Rattle.block_files.proofs.RowLemmas.{count_at_index}
use Rattle.block_files.proofs.stores.clear_pages.Goals as goal

pub bounds-pages-place : goal.bounds-pages-place
bounds-pages-place c =
    let i = c.loop-place.place-index in
    let lt = c.requires (get_or c.args.places.now i 0) (count_at_index c.args.places.now i c.loop-place-test.true) in
    omega (arith, lt, c.loop-place.invariant.same)
