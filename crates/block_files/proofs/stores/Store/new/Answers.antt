use Rattle.std.proofs.Common.{◌<◌, ◌^◌, [], sym, subst, arith}
use Rattle.std.specs.Prelude.{vec_capacity}
use Rattle.block_files.specs.Rows.{IsKept}
use Rattle.block_files.proofs.KeptLemmas.{kept_new}
use Rattle.block_files.proofs.stores.Store.new.Goals as goal

pub invariant_of-result : goal.invariant_of-result
invariant_of-result c =
    let small : c.args.blocks < 2 ^ 16 = omega arith in
    subst (λ es. IsKept c.in_ok-pages.pages.items c.in_ok-free.free.items (vec_capacity c.in_ok-free.free) es) (sym c.new.ensures.empty)
    (subst (λ xs. IsKept c.in_ok-pages.pages.items xs (vec_capacity c.in_ok-free.free) []) (sym c.in_ok-free.ensures.places) (kept_new c.args.blocks c.in_ok-pages.pages.items (vec_capacity c.in_ok-free.free) c.in_ok-pages.ensures small c.in_ok-free.ensures.room))
