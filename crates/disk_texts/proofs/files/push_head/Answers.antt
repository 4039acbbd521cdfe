use Rattle.std.proofs.Common.{rules, ◌≡◌, ◌++◌, ◌∷◌, [], length}
use Rattle.std.specs.Prelude.{codes}
use Rattle.std.specs.Fmt.{decimal}
use Rattle.deck_model.specs.Forms.{extension_text}
use Rattle.deck_model.specs.Spelling.{extension_of}
use Rattle.disk_texts.proofs.PartLemmas.{head_pushed}
use Rattle.disk_texts.proofs.files.push_head.Goals as goal

pub returns : goal.returns
returns c =
    let e = c.args.file.now in
    let a : c.extend_from_slice.new.self.items ≡ c.args.out.now.items ++ codes "FILE [" = search rules in
    let b : c.push_numbers.new.out.items ≡ c.extend_from_slice.new.self.items ++ (decimal e.name.owner.project ++ codes "," ++ decimal e.name.owner.programmer) = search rules in
    let d : c.push.new.self.items ≡ c.push_numbers.new.out.items ++ 93 ∷ [] = search rules in
    let f : c.extend_from_slice-2.new.self.items ≡ c.push.new.self.items ++ e.name.stem = search rules in
    let g : c.push_extension.new.out.items ≡ c.extend_from_slice-2.new.self.items ++ extension_text (extension_of e.name.extension) = search rules in
    let h : c.push-2.new.self.items ≡ c.push_extension.new.out.items ++ 60 ∷ [] = search rules in
    let j : c.extend_from_slice-3.new.self.items ≡ c.push-2.new.self.items ++ decimal e.code = search rules in
    let k : c.extend_from_slice-4.new.self.items ≡ c.extend_from_slice-3.new.self.items ++ codes "> " = search rules in
    let l : c.extend_from_slice-5.new.self.items ≡ c.extend_from_slice-4.new.self.items ++ decimal (length e.pages) = search rules in
    let m : c.push-3.new.self.items ≡ c.extend_from_slice-5.new.self.items ++ 10 ∷ [] = search rules in
    rw (m, l, k, j, h, g, f, d, b, a) (head_pushed c.args.out.now.items e)
