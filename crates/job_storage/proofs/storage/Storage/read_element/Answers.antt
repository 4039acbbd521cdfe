use Rattle.std.proofs.Common.{Ok, Err, ap, sym}
use Rattle.channels.specs.Seen.{files}
use Rattle.job_model.specs.Act.{Gives}
use Rattle.job_model.proofs.Follows.{follows_from, follows_with, follows_is, follows_in, broken}
use Rattle.program_model.specs.declared.values.Value.{Value}
use Rattle.program_model.specs.Storage.{Storage, in_files}
use Rattle.virtual_arrays.specs.Elements.{reads_element}
use Rattle.job_storage.proofs.ElementActs.{given, read_is}
use Rattle.job_storage.proofs.storage.Storage.read_element.Goals as goal

pub returns-in_err-element : goal.returns-in_err-element
returns-in_err-element g c clock =
    let s : Storage = record { account = c.self.inside.account; memory = c.self.inside.memory; files = files c.self.inside.channels c.self.inside.buffers; common = c.self.inside.common } in
    let t = files c.read.new.channels c.read.new.buffers in
    follows_from (read_is c.args.array.now c.args.subscripts.now c.number_at.result c.second.result (sym c.number_at.ensures) (sym c.second.ensures) (sym c.self.view_is))
    (broken c.in_err-element.field-0.0 c.from_residual.result (record s { files = t }) given c.from_residual.ensures.1
    (follows_in in_files s (reads_element c.args.array.now c.number_at.result c.second.result) (Err c.in_err-element.field-0.0) t (c.in_err-element.ensures clock)))

pub returns : goal.returns
returns g c clock =
    let s : Storage = record { account = c.self.inside.account; memory = c.self.inside.memory; files = files c.self.inside.channels c.self.inside.buffers; common = c.self.inside.common } in
    let t = files c.read.new.channels c.read.new.buffers in
    follows_from (read_is c.args.array.now c.args.subscripts.now c.number_at.result c.second.result (sym c.number_at.ensures) (sym c.second.ensures) (sym c.self.view_is))
    (follows_with given
    (follows_in in_files s (reads_element c.args.array.now c.number_at.result c.second.result) (Ok c.in_ok-element.element) t (c.in_ok-element.ensures clock))
    (follows_is (ap (λ (v : Value). Gives v (record s { files = t })) (sym c.value_of.ensures))))
