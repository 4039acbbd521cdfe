use Rattle.std.proofs.Common.{◌≡◌, ◌+◌, ◌-◌, ℕ, Some, suc, sym, ap, arith, add-one}
use Rattle.job_model.proofs.Follows.{follows_to, follows_is}
use Rattle.program_files.specs.Listings.{prints_from}
use Rattle.program_files.proofs.Printed.{one_printed, print_stopped}
use Rattle.program_files.proofs.listings.print_blocks.Goals as goal

pub loop-index-init : goal.loop-index-init
loop-index-init g c clock =
    let n : c.args.blocks - 0 ≡ c.args.blocks = omega arith in
    follows_is (ap (prints_from 1) (sym n))

pub returns-in_err-print_block : goal.returns-in_err-print_block
returns-in_err-print_block g c clock =
    let i = c.loop-index.index in
    let n : c.args.blocks - i ≡ suc (c.args.blocks - (i + 1)) = omega arith in
    print_stopped (i + 1) (c.args.blocks - i) (c.args.blocks - (i + 1)) c.in_err-print_block.field-0.0 c.from_residual.result n c.from_residual.ensures.1 (c.loop-index.invariant clock) (c.in_err-print_block.ensures clock)

pub loop-index-preserved : goal.loop-index-preserved
loop-index-preserved g c clock =
    let i = c.loop-index.index in
    let n : c.args.blocks - i ≡ suc (c.args.blocks - (i + 1)) = omega arith in
    one_printed (i + 1) (c.args.blocks - i) (c.args.blocks - (i + 1)) (i + 1 + 1) n (add-one (i + 1)) (c.loop-index.invariant clock) (c.in_ok-print_block.ensures clock)

pub returns : goal.returns
returns g c clock =
    let i = c.loop-index.index in
    let n : c.args.blocks - i ≡ 0 = omega arith in
    follows_to (ap (λ (more : ℕ). Some (prints_from (i + 1) more)) n) (c.loop-index.invariant clock)
