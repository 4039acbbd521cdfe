use Rattle.std.proofs.Common.{◌≡◌, ◌≤◌, List, refl, sym, ◌∙◌, arith, le-leb}
use Rattle.monitor_calls.specs.declared.volumes.AccountEntry.{AccountEntry}
use Rattle.monitor_calls.specs.declared.files.FileEntry.{FileEntry}
use Rattle.monitor_calls.specs.Proper.{IsName}
use Rattle.monitor_calls.specs.Volumes.{has_account, is_good_file}
use Rattle.monitor_calls.proofs.volumes.is_good_file.Goals as goal

-- a file whose name and code are of their types is good if its owner has an account
good_if_owned : (accounts : List AccountEntry) (file : FileEntry) → IsName file.name → file.code ≤ 255 → is_good_file accounts file ≡ has_account accounts file.name.owner
good_if_owned accounts file named few =
    rw (named.1.0, named.1.1, le-leb file.code 255 few) refl

pub returns : goal.returns
returns c =
    let few : c.args.file.now.code ≤ 255 = omega arith in
    c.has_account.ensures ∙ sym (good_if_owned c.args.accounts.now c.args.file.now c.read_name.ensures few)
