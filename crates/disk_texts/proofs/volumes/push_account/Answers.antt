use Rattle.std.proofs.Common.{rules, ◌≡◌, ◌++◌, ◌∷◌, []}
use Rattle.std.specs.Prelude.{codes}
use Rattle.std.specs.Fmt.{decimal}
use Rattle.disk_texts.proofs.PartLemmas.{account_pushed}
use Rattle.disk_texts.proofs.volumes.push_account.Goals as goal

pub returns : goal.returns
returns c =
    let e = c.args.entry.now in
    let a : c.extend_from_slice.new.self.items ≡ c.args.out.now.items ++ codes "ACCOUNT " = search rules in
    let b : c.push_numbers.new.out.items ≡ c.extend_from_slice.new.self.items ++ (decimal e.account.project ++ codes "," ++ decimal e.account.programmer) = search rules in
    let d : c.push.new.self.items ≡ c.push_numbers.new.out.items ++ 32 ∷ [] = search rules in
    let f : c.extend_from_slice-2.new.self.items ≡ c.push.new.self.items ++ e.password = search rules in
    let g : c.push-2.new.self.items ≡ c.extend_from_slice-2.new.self.items ++ 32 ∷ [] = search rules in
    let h : c.extend_from_slice-3.new.self.items ≡ c.push-2.new.self.items ++ decimal e.limit = search rules in
    let j : c.push-3.new.self.items ≡ c.extend_from_slice-3.new.self.items ++ 32 ∷ [] = search rules in
    let k : c.extend_from_slice-4.new.self.items ≡ c.push-3.new.self.items ++ decimal e.quota = search rules in
    let l : c.push-4.new.self.items ≡ c.extend_from_slice-4.new.self.items ++ 10 ∷ [] = search rules in
    rw (l, k, j, h, g, f, d, b, a) (account_pushed c.args.out.now.items e)
