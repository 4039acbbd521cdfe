use Rattle.std.proofs.Common.{ap, ◌∙◌}
use Rattle.std.specs.Prelude.{option_copied}
use Rattle.monitor_model.specs.Files.{is_file}
use Rattle.block_files.proofs.ReadLemmas.{is_file-file_of, is_some-copied}
use Rattle.block_files.proofs.stores.Store.is_file.Goals as goal

pub returns : goal.returns
returns c =
    let i = c.self.inside in
    c.is_some.ensures ∙ is_some-copied c.body_of.result ∙ is_file-file_of i.pages.items i.files.entries c.args.name.now (option_copied c.body_of.result) c.body_of.ensures ∙ ap (λ d. is_file d.files c.args.name.now) c.self.view_is
