use Rattle.std.proofs.Common.{rules, ◌≡◌, ◌++◌}
use Rattle.std.specs.Fmt.{decimal}
use Rattle.disk_texts.proofs.PartLemmas.{disk_pushed}
use Rattle.disk_texts.proofs.volumes.push_disk.Goals as goal

pub returns : goal.returns
returns c =
    let number : c.extend_from_slice-2.new.self.items ≡ c.extend_from_slice.new.self.items ++ decimal c.args.blocks = search rules in
    disk_pushed c.args.out.now.items c.extend_from_slice.new.self.items c.extend_from_slice-2.new.self.items c.push.new.self.items c.args.blocks c.in_ok-extend_from_slice.ensures.items number c.in_ok-push.ensures.items
