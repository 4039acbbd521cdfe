use Rattle.std.proofs.Common.{rules, ◌≡◌, ◌++◌, map}
use Rattle.deck_model.specs.declared.versions.Version.TheVariants.{Three}
use Rattle.deck_model.specs.Spelling.{account_line}
use Rattle.deck_model.specs.DiskTexts.{text_of_lines}
use Rattle.disk_texts.specs.Parts.{files_text}
use Rattle.disk_texts.proofs.PartLemmas.{volume_pushed}
use Rattle.disk_texts.proofs.volumes.push_volume.Goals as goal

pub returns : goal.returns
returns c =
    let v = c.args.volume.now in
    let accounts : c.push_accounts.new.out.items ≡ c.push_disk.new.out.items ++ text_of_lines (map (account_line Three) v.accounts.items) = search rules in
    let files : c.push_files.new.out.items ≡ c.push_accounts.new.out.items ++ files_text v.files.items = search rules in
    volume_pushed v.blocks v.accounts.items v.files.items c.args.names.now c.args.out.now.items c.push_disk.new.out.items c.push_accounts.new.out.items c.push_files.new.out.items c.push_terminals.new.out.items c.extend_from_slice.new.self.items
    c.in_ok-push_disk.ensures accounts files c.in_ok-push_terminals.ensures c.in_ok-extend_from_slice.ensures.items
