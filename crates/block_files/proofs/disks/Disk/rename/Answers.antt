use Rattle.std.proofs.Common.{◌≡◌, ◌+◌, ◌-◌, ◌≤◌, [], ◌∷◌, true, refl, sym, ap, ◌∙◌, subst, arith}
use Rattle.std.specs.Prelude.{is_ok, not, ◌&&◌}
use Rattle.basic_values.specs.declared.errors.TheConstants.{NO_SUCH_FILE, NAME_EXISTS}
use Rattle.monitor_calls.specs.FileNames.{same_name}
use Rattle.monitor_model.specs.Files.{is_file, blocks_owned, remove, renamed, the_file}
use Rattle.monitor_model.proofs.OwnerLemmas.{own_size, owned-make}
use Rattle.block_files.specs.Owners.{AreCounted, count_at, with_count}
use Rattle.block_files.proofs.OwnerLemmas.{when_ok, there_if_made, owned_at_most, counted_less, counted_more, same_self}
use Rattle.block_files.proofs.disks.Disk.rename.Goals as goal

pub more-requires : goal.more-requires
more-requires c =
    let i = c.self.inside in
    let old = c.args.old.now in
    let owner = c.args.new.owner in
    let done : is_ok c.rename-done.result ≡ true = sym c.is_ok.ensures.value ∙ c.if-is_ok.true in
    let there = there_if_made c.rename-done.result (is_file i.store.files old) NO_SUCH_FILE ((is_file i.store.files c.args.new && not (same_name c.args.new old), NAME_EXISTS) ∷ []) done c.rename-done.ensures.refused in
    let less = counted_less i.owners c.less.ensures.all i.store.files c.self.invariant old c.less.ensures.account there in
    let counts = c.less.ensures.counts ∙ ap (λ n. with_count i.owners old.owner (count_at i.owners old.owner - n)) c.size_at-size.ensures in
    let file = renamed (the_file i.store.files old) c.args.new c.args.code in
    let made = ap (λ fs. blocks_owned fs owner) (when_ok c.rename-done.result done c.rename-done.ensures.ok) ∙ owned-make owner (remove i.store.files old) file in
    let own = own_size owner file (same_self owner) in
    λ is.
    let was = ap (λ counts. count_at counts owner) counts ∙ less owner is in
    omega (arith, made, own, was, c.size_at-size.ensures, owned_at_most c.rename-done.new.self.files owner, c.fits.ensures.blocks, c.fits.ensures.small)

pub invariant_of-self : goal.invariant_of-self
invariant_of-self c =
    let i = c.self.inside in
    let old = c.args.old.now in
    let done : is_ok c.rename-done.result ≡ true = sym c.is_ok.ensures.value ∙ c.if-is_ok.true in
    let there = there_if_made c.rename-done.result (is_file i.store.files old) NO_SUCH_FILE ((is_file i.store.files c.args.new && not (same_name c.args.new old), NAME_EXISTS) ∷ []) done c.rename-done.ensures.refused in
    let counts = c.less.ensures.counts ∙ ap (λ n. with_count i.owners old.owner (count_at i.owners old.owner - n)) c.size_at-size.ensures in
    let less = subst (λ counts. AreCounted counts (remove i.store.files old)) (sym counts) (counted_less i.owners c.less.ensures.all i.store.files c.self.invariant old c.less.ensures.account there) in
    let more = counted_more c.less.new.self c.more.ensures.all (remove i.store.files old) less c.args.new c.more.ensures.account (renamed (the_file i.store.files old) c.args.new c.args.code) c.size_at-size.result refl (sym c.size_at-size.ensures) in
    subst (λ counts. AreCounted counts c.rename-done.new.self.files) (sym c.more.ensures.counts)
    (subst (AreCounted _) (sym (when_ok c.rename-done.result done c.rename-done.ensures.ok)) more)
