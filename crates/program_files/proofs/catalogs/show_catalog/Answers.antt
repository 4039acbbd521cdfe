use Rattle.std.proofs.Common.{◌≡◌, ◌+◌, ◌-◌, Some, suc, ap, arith, add-one}
use Rattle.job_model.proofs.Follows.{follows_to, follows_stay}
use Rattle.program_files.proofs.Files.{catalog_end, one_shown, none_shown, file_stopped}
use Rattle.program_files.proofs.catalogs.show_catalog.Goals as goal

pub loop-index-init : goal.loop-index-init
loop-index-init g c clock = follows_stay

pub returns-in_err-show_file : goal.returns-in_err-show_file
returns-in_err-show_file g c clock =
    let i = c.loop-index.index in
    let n : 512 - i ≡ suc (512 - (i + 1)) = omega arith in
    file_stopped c.args.owner i (512 - i) (512 - (i + 1)) c.loop-index.screen c.show_file.new.screen c.in_err-show_file.field-0.0 c.from_residual.result n c.from_residual.ensures.1 (c.loop-index.invariant clock) (c.in_err-show_file.ensures clock)

pub returns-then-not-branch : goal.returns-then-not-branch
returns-then-not-branch g c clock =
    let i = c.loop-index.index in
    let n : 512 - i ≡ suc (512 - (i + 1)) = omega arith in
    none_shown c.args.owner i (512 - i) (512 - (i + 1)) c.loop-index.screen c.show_file.new.screen c.in_ok-show_file.field-0 n c.if-not-branch.true (c.loop-index.invariant clock) (c.in_ok-show_file.ensures clock)

pub loop-index-preserved : goal.loop-index-preserved
loop-index-preserved g c clock =
    let i = c.loop-index.index in
    let n : 512 - i ≡ suc (512 - (i + 1)) = omega arith in
    one_shown c.args.owner i (512 - i) (512 - (i + 1)) (i + 1) c.loop-index.screen c.show_file.new.screen c.in_ok-show_file.field-0 n (add-one i) c.if-not-branch.false (c.loop-index.invariant clock) (c.in_ok-show_file.ensures clock)

pub returns : goal.returns
returns g c clock =
    let i = c.loop-index.index in
    let n : 512 - i ≡ 0 = omega arith in
    follows_to (ap Some (catalog_end c.args.owner i (512 - i) c.loop-index.screen n)) (c.loop-index.invariant clock)
