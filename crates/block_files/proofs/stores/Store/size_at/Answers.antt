use Rattle.std.proofs.Common.{length, sym, ap, ◌∙◌, arith}
use Rattle.monitor_model.specs.Files.{size, size_at}
use Rattle.block_files.proofs.ReadLemmas.{size_at-file_of, the_file-none}
use Rattle.block_files.proofs.RowLemmas.{total-at}
use Rattle.block_files.proofs.stores.Store.size_at.Goals as goal

pub returns-in-Some : goal.returns-in-Some
returns-in-Some c =
    let i = c.self.inside in
    let v = c.in-Some.body.now in
    c.len.ensures ∙ v.places.ok.0 ∙ sym (size_at-file_of i.pages.items i.files.entries c.args.name.now v c.in-Some.ensures) ∙ ap (λ d. size_at d.files c.args.name.now) c.self.view_is

pub returns-in-None : goal.returns-in-None
returns-in-None c =
    let i = c.self.inside in
    sym (ap size (the_file-none i.pages.items i.files.entries c.args.name.now c.in-None.ensures)) ∙ ap (λ d. size_at d.files c.args.name.now) c.self.view_is

pub overflow_cast-result : goal.overflow_cast-result
overflow_cast-result c =
    let i = c.self.inside in
    let v = c.in-Some.body.now in
    omega (arith, c.len.ensures, v.places.ok.0, total-at length i.files.entries c.args.name.now v (sym c.in-Some.ensures), c.self.invariant.disk.all, c.self.invariant.small)
