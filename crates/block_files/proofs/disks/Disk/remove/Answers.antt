use Rattle.std.proofs.Common.{◌≡◌, ◌-◌, [], true, sym, ap, ◌∙◌, subst}
use Rattle.std.specs.Prelude.{is_ok}
use Rattle.basic_values.specs.declared.errors.TheConstants.{NO_SUCH_FILE}
use Rattle.monitor_model.specs.Files.{is_file}
use Rattle.block_files.specs.Owners.{AreCounted, count_at, with_count}
use Rattle.block_files.proofs.OwnerLemmas.{when_ok, there_if_done, counted_less}
use Rattle.block_files.proofs.disks.Disk.remove.Goals as goal

pub invariant_of-self : goal.invariant_of-self
invariant_of-self c =
    let i = c.self.inside in
    let name = c.args.name.now in
    let done : is_ok c.remove-done.result ≡ true = sym c.is_ok.ensures.value ∙ c.if-is_ok.true in
    let there = there_if_done c.remove-done.result (is_file i.store.files name) NO_SUCH_FILE [] done c.remove-done.ensures.refused in
    let less = counted_less i.owners c.less.ensures.all i.store.files c.self.invariant name c.less.ensures.account there in
    let counts = c.less.ensures.counts ∙ ap (λ n. with_count i.owners name.owner (count_at i.owners name.owner - n)) c.size_at-size.ensures in
    subst (λ counts. AreCounted counts c.remove-done.new.self.files) (sym counts)
    (subst (AreCounted _) (sym (when_ok c.remove-done.result done c.remove-done.ensures.ok)) less)
