use Rattle.std.proofs.Common.{◌≡◌, ◌≤◌, ◌<◌, ◌^◌, length, subst, arith}
use Rattle.monitor_model.specs.Files.{blocks_of}
use Rattle.block_files.specs.Rows.{files_of}
use Rattle.block_files.proofs.RowLemmas.{blocks-rows}
use Rattle.block_files.proofs.stores.Store.fits.Goals as goal

pub returns-clause-blocks : goal.returns-clause-blocks
returns-clause-blocks c =
    let i = c.self.inside in
    let here : blocks_of (files_of i.pages.items i.files.entries) ≤ length i.pages.items = omega (arith, c.self.invariant.disk.all, blocks-rows i.pages.items i.files.entries) in
    subst (λ d. blocks_of d.files ≤ d.blocks) c.self.view_is here

pub returns-clause-small : goal.returns-clause-small
returns-clause-small c = subst (λ d. d.blocks < 2 ^ 16) c.self.view_is c.self.invariant.small
