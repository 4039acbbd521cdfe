use Rattle.std.proofs.Common.{Some, None, sym, ap, ◌∙◌}
use Rattle.std.specs.Prelude.{option_map}
use Rattle.monitor_model.specs.Files.{file_at}
use Rattle.block_files.proofs.ReadLemmas.{shown_at}
use Rattle.block_files.proofs.stores.Store.code.Goals as goal

pub returns-in-Some : goal.returns-in-Some
returns-in-Some c =
    let i = c.self.inside in
    let v = c.in-Some.body.now in
    sym (ap (option_map (λ file. file.code)) (shown_at i.pages.items i.files.entries c.args.name.now (Some v) c.in-Some.ensures)) ∙ ap (λ d. option_map (λ file. file.code) (file_at d.files c.args.name.now)) c.self.view_is

pub returns-in-None : goal.returns-in-None
returns-in-None c =
    let i = c.self.inside in
    sym (ap (option_map (λ file. file.code)) (shown_at i.pages.items i.files.entries c.args.name.now None c.in-None.ensures)) ∙ ap (λ d. option_map (λ file. file.code) (file_at d.files c.args.name.now)) c.self.view_is
