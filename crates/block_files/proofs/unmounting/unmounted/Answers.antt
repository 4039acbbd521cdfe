use Rattle.std.proofs.Common.{◌≡◌, List, ap, subst, ◌∙◌}
use Rattle.std.specs.Prelude.{ℕ, Option, map, IfOk}
use Rattle.monitor_calls.specs.declared.files.FileEntry.{FileEntry}
use Rattle.monitor_model.specs.State.{volume_file}
use Rattle.block_files.specs.Rows.{files_of}
use Rattle.block_files.specs.Slots.{entries_in}
use Rattle.block_files.proofs.SlotLemmas.{full_entries}
use Rattle.block_files.proofs.unmounting.unmounted.Goals as goal

pub returns : goal.returns
returns c =
    let es = c.args.files.now.entries in
    let all : entries_in c.as_mut_slice.result.now es ≡ map volume_file (files_of c.args.pages.items es) =
    ap (λ (slots : List (Option (List ℕ))). entries_in slots es) (c.as_mut_slice.ensures.value ∙ c.in_ok-slots.ensures) ∙ full_entries c.args.pages.items es in
    subst (λ (l : List FileEntry). IfOk c.entries_of.result (λ entries. entries.items ≡ l)) all c.entries_of.ensures
