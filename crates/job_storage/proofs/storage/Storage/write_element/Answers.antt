use Rattle.std.proofs.Common.{List, ℕ, ap, sym}
use Rattle.channels.specs.Seen.{files}
use Rattle.job_model.specs.Act.{on}
use Rattle.job_model.proofs.Follows.{follows_from, follows_in}
use Rattle.program_model.specs.declared.values.Value.{Value}
use Rattle.program_model.specs.Storage.{Storage, in_files}
use Rattle.virtual_arrays.specs.declared.elements.Element.TheVariants as file
use Rattle.virtual_arrays.specs.Elements.{writes_element}
use Rattle.job_storage.proofs.ElementActs.{writes, write_is}
use Rattle.job_storage.proofs.storage.Storage.write_element.Goals as goal

pub returns-in-Number : goal.returns-in-Number
returns-in-Number g c clock =
    let s : Storage = record { account = c.self.inside.account; memory = c.self.inside.memory; files = files c.self.inside.channels c.self.inside.buffers; common = c.self.inside.common } in
    let array = c.args.array.now in
    let i = c.number_at-first.result in
    let j = c.second-second.result in
    let t = files c.write_number.new.channels c.write_number.new.buffers in
    follows_from (write_is array c.args.subscripts.now i j (sym c.number_at-first.ensures) (sym c.second-second.ensures) c.args.value.now (sym c.self.view_is))
    (follows_from (ap (λ (v : Value). writes array i j v s) c.in-Number.is)
    (follows_in in_files s (writes_element array i j (file.Number c.in-Number.number)) c.write_number.result t (c.write_number.ensures clock)))

pub returns-in-Text : goal.returns-in-Text
returns-in-Text g c clock =
    let s : Storage = record { account = c.self.inside.account; memory = c.self.inside.memory; files = files c.self.inside.channels c.self.inside.buffers; common = c.self.inside.common } in
    let array = c.args.array.now in
    let i = c.number_at-first.result in
    let j = c.second-second.result in
    let t = files c.write_text.new.channels c.write_text.new.buffers in
    follows_from (write_is array c.args.subscripts.now i j (sym c.number_at-first.ensures) (sym c.second-second.ensures) c.args.value.now (sym c.self.view_is))
    (follows_from (ap (λ (v : Value). writes array i j v s) c.in-Text.is)
    (follows_from (ap (λ (bytes : List ℕ). on in_files (writes_element array i j (file.Text bytes)) s) (sym c.as_bytes.ensures.bytes))
    (follows_in in_files s (writes_element array i j (file.Text c.as_bytes.result.now)) c.write_text.result t (c.write_text.ensures clock))))
