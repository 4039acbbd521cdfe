use Rattle.std.proofs.Common.{◌≡◌, ◌-◌, length, ap, ◌∙◌, arith}
use Rattle.monitor_model.specs.Files.{blocks_of}
use Rattle.block_files.specs.Rows.{files_of}
use Rattle.block_files.proofs.RowLemmas.{blocks-rows}
use Rattle.block_files.proofs.stores.Store.free_blocks.Goals as goal

pub returns-clause-blocks : goal.returns-clause-blocks
returns-clause-blocks c =
    let i = c.self.inside in
    let here : c.len.result ≡ length i.pages.items - blocks_of (files_of i.pages.items i.files.entries) = omega (arith, c.len.ensures, i.free.ok.0, c.self.invariant.disk.all, blocks-rows i.pages.items i.files.entries) in
    here ∙ ap (λ d. d.blocks - blocks_of d.files) c.self.view_is
