use Rattle.std.proofs.Common.{◌≡◌, ◌-◌, [], true, sym, ap, ◌∙◌, subst}
use Rattle.std.specs.Prelude.{is_ok}
use Rattle.basic_values.specs.declared.errors.TheConstants.{NO_SUCH_FILE}
use Rattle.monitor_model.specs.Files.{is_file, remove}
use Rattle.block_files.specs.Owners.{AreCounted, count_at, with_count}
use Rattle.block_files.proofs.OwnerLemmas.{when_ok, there_if_made, counted_less, counted_empty}
use Rattle.block_files.proofs.disks.Disk.remake.Goals as goal

pub invariant_of-self : goal.invariant_of-self
invariant_of-self c =
    let i = c.self.inside in
    let name = c.args.name.now in
    let done : is_ok c.remake-done.result ≡ true = sym c.is_ok.ensures.value ∙ c.if-is_ok.true in
    let there = there_if_made c.remake-done.result (is_file i.store.files name) NO_SUCH_FILE [] done c.remake-done.ensures.refused in
    let less = counted_less i.owners c.less.ensures.all i.store.files c.self.invariant name c.less.ensures.account there in
    let empty = counted_empty (with_count i.owners name.owner _) (remove i.store.files name) less name c.args.code in
    let counts = c.less.ensures.counts ∙ ap (λ n. with_count i.owners name.owner (count_at i.owners name.owner - n)) c.size_at-size.ensures in
    subst (λ counts. AreCounted counts c.remake-done.new.self.files) (sym counts)
    (subst (AreCounted _) (sym (when_ok c.remake-done.result done c.remake-done.ensures.ok)) empty)
