use Rattle.std.proofs.Common.{ℕ, List, Err, refl, sym, subst}
use Rattle.time_sharing.specs.InputEnds.{TellsFault}
use Rattle.time_sharing.specs.Replays.{TellsRun, Replays}
use Rattle.rsts_io.specs.Whole.{Written, BrokeOff}
use Rattle.time_sharing.specs.TwoEnds.{ends}
use Rattle.time_sharing.specs.declared.outcomes.Failure.{Failure}
use Rattle.time_sharing.proofs.ReplayLemmas.{fault_answers, replayed_answers, report_broke_answers}
use Rattle.time_sharing.proofs.replays.replay_system.Goals as goal

pub returns-in-Err-Refused : goal.returns-in-Err-Refused
returns-in-Err-Refused g c =
    let before = ends (g.S.Source.state c.args.source.now) (g.K.Sink.state c.args.sink.now) in
    let after = ends (g.S.Source.state c.read_all.new.source) (g.K.Sink.state c.args.sink.now) in
    let told = rw c.in-Err-Refused.field-0-is at c.in-Err-Refused.ensures in
    subst (λ (why : Failure). Replays before after (Err why)) (sym c.failure.ensures)
    (fault_answers c.in-Ok.input.items before after c.in-Ok.ensures.ended c.in-Err-Refused.fault (subst (TellsFault c.in-Err-Refused.fault) c.as_slice.ensures.value told) refl)

pub returns-in-Ok-give_all : goal.returns-in-Ok-give_all
returns-in-Ok-give_all g c =
    let before = ends (g.S.Source.state c.args.source.now) (g.K.Sink.state c.args.sink.now) in
    let after = ends (g.S.Source.state c.read_all.new.source) (g.K.Sink.state c.give_all.new.sink) in
    let run = c.in-Ok-run_told.told in
    replayed_answers c.in-Ok.input.items before after c.in-Ok.ensures.ended run.0 run.1.items (subst (TellsRun run.0 run.1.items) c.as_slice.ensures.value c.in-Ok-run_told.ensures)
    (subst (λ (bytes : List ℕ). Written bytes before.sink after.sink) c.as_slice-2.ensures.value c.in-Ok-give_all.ensures.all)

pub returns : goal.returns
returns g c =
    let before = ends (g.S.Source.state c.args.source.now) (g.K.Sink.state c.args.sink.now) in
    let after = ends (g.S.Source.state c.read_all.new.source) (g.K.Sink.state c.give_all.new.sink) in
    let run = c.in-Ok-run_told.told in
    report_broke_answers c.in-Ok.input.items before after c.in-Ok.ensures.ended run.0 run.1.items (subst (TellsRun run.0 run.1.items) c.as_slice.ensures.value c.in-Ok-run_told.ensures)
    (subst (λ (bytes : List ℕ). BrokeOff bytes before.sink after.sink) c.as_slice-2.ensures.value c.in-Err.ensures.front)
