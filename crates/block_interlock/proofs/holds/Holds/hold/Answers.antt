use Rattle.std.proofs.Common.{ap, ◌∙◌}
use Rattle.monitor_model.specs.Holds.{hold, any_held}
use Rattle.block_interlock.specs.declared.runs.Run.{Run}
use Rattle.block_interlock.proofs.FieldLemmas.{let_go_all_free, map_held}
use Rattle.block_interlock.proofs.holds.Holds.hold.Goals as goal

pub take_up-requires-clause-free : goal.take_up-requires-clause-free
take_up-requires-clause-free c =
    let run : Run = record { name = c.args.name; block = c.args.block; count = c.args.count } in
    let_go_all_free c.args.job c.args.channel c.let_go.new.fields.items c.self.inside.index.items c.let_go.new.index.items run c.let_go.ensures.gone (ap (λ h. any_held h.held c.args.job c.args.channel c.args.name c.args.block c.args.count) c.self.view_is ∙ c.requires.free)

pub returns-clause-held : goal.returns-clause-held
returns-clause-held c =
    let run : Run = record { name = c.args.name; block = c.args.block; count = c.args.count } in
    map_held c.args.job c.args.channel run c.let_go.new.fields.items c.self.inside.index.items c.let_go.new.index.items c.take_up.new.index.items c.let_go.ensures.gone c.take_up.ensures.taken ∙ ap (λ h. hold h.held c.args.job c.args.channel c.args.name c.args.block c.args.count) c.self.view_is
