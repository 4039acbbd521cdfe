use Rattle.std.proofs.Common.{◌≡◌, ◌+◌, ◌≤◌, [], ◌∷◌, true, sym, ap, ◌∙◌, subst, arith}
use Rattle.std.specs.Prelude.{ℕ, ◌-◌, Bool, is_ok, ◌==◌, nat_lt, List}
use Rattle.basic_values.specs.declared.errors.TheConstants.{NO_SUCH_FILE, ILLEGAL_BYTE_COUNT, NO_ROOM}
use Rattle.monitor_calls.specs.declared.files.FileName.{FileName}
use Rattle.monitor_model.specs.Files.{is_file, size_at, blocks_of, blocks_owned}
use Rattle.block_files.specs.Disks.{Disk}
use Rattle.block_files.specs.Owners.{AreCounted, count_at, with_count}
use Rattle.block_files.proofs.OwnerLemmas.{when_ok, there_if_made, owned_at_most, owned_put, counted_put}
use Rattle.block_files.proofs.disks.Disk.write.Goals as goal

-- the tests after that of the file
abbrev further : Disk → FileName → ℕ → List (Bool × ℕ)
further d name block = (block == 0, ILLEGAL_BYTE_COUNT) ∷ (nat_lt (d.blocks - blocks_of d.files) (block - size_at d.files name), NO_ROOM) ∷ []

pub more-requires : goal.more-requires
more-requires c =
    let i = c.self.inside in
    let name = c.args.name.now in
    let done : is_ok c.write-done.result ≡ true = sym c.is_ok.ensures.value ∙ c.if-is_ok.true in
    let there = there_if_made c.write-done.result (is_file i.store.files name) NO_SUCH_FILE (further i.store name c.args.block) done c.write-done.ensures.refused in
    let new = c.write-done.new.self in
    let grown = ap (λ fs. blocks_owned fs name.owner) (when_ok c.write-done.result done c.write-done.ensures.ok) ∙ owned_put i.store.files name c.args.block c.missing-more.result c.args.page.now there c.missing-more.ensures in
    λ is. omega (arith, grown, c.self.invariant name.owner is, owned_at_most new.files name.owner, c.fits.ensures.blocks, c.fits.ensures.small)

pub invariant_of-self : goal.invariant_of-self
invariant_of-self c =
    let i = c.self.inside in
    let name = c.args.name.now in
    let done : is_ok c.write-done.result ≡ true = sym c.is_ok.ensures.value ∙ c.if-is_ok.true in
    let there = there_if_made c.write-done.result (is_file i.store.files name) NO_SUCH_FILE (further i.store name c.args.block) done c.write-done.ensures.refused in
    let more = counted_put i.owners c.more.ensures.all i.store.files c.self.invariant name c.more.ensures.account c.args.block c.missing-more.result c.args.page.now there c.missing-more.ensures in
    subst (λ counts. AreCounted counts c.write-done.new.self.files) (sym c.more.ensures.counts)
    (subst (AreCounted _) (sym (when_ok c.write-done.result done c.write-done.ensures.ok)) more)
