use Rattle.std.proofs.Common.{◌≡◌, ◌-◌, sym, ap, ◌∙◌, arith}
use Rattle.monitor_model.specs.Files.{size, size_at}
use Rattle.block_files.specs.Rows.{files_of}
use Rattle.block_files.proofs.ReadLemmas.{the_file-none, size_at-file_of}
use Rattle.block_files.proofs.stores.Store.missing.Goals as goal

pub returns-in-Some : goal.returns-in-Some
returns-in-Some c =
    let i = c.self.inside in
    let v = c.in-Some.body.now in
    c.saturating_sub.ensures ∙ ap (λ n. c.args.block - n) (c.len.ensures ∙ v.places.ok.0 ∙ sym (size_at-file_of i.pages.items i.files.entries c.args.name.now v c.in-Some.ensures)) ∙ ap (λ d. c.args.block - size_at d.files c.args.name.now) c.self.view_is

pub returns-in-None : goal.returns-in-None
returns-in-None c =
    let i = c.self.inside in
    let none = ap size (the_file-none i.pages.items i.files.entries c.args.name.now c.in-None.ensures) in
    let here : c.args.block ≡ c.args.block - size_at (files_of i.pages.items i.files.entries) c.args.name.now = omega (arith, none) in
    here ∙ ap (λ d. c.args.block - size_at d.files c.args.name.now) c.self.view_is
