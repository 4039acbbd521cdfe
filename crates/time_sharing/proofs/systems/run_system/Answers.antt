use Rattle.std.proofs.Common.{ℕ, List, refl, subst}
use Rattle.monitor_calls.specs.declared.calls.Entry.{Entry}
use Rattle.deck_reader.specs.Seen.{deck_of}
use Rattle.time_sharing.specs.TwoEnds.{ends}
use Rattle.time_sharing.specs.Headline.{IsReport, Headline}
use Rattle.rsts_io.specs.Whole.{Written, BrokeOff}
use Rattle.time_sharing.proofs.SystemLemmas.{stopped_answers, wrote_answers, broke_answers, lacked_answers}
use Rattle.time_sharing.proofs.systems.run_system.Goals as goal

pub returns-in-Err : goal.returns-in-Err
returns-in-Err g c =
    let before = ends (g.S.Source.state c.args.source.now) (g.K.Sink.state c.args.sink.now) in
    let after = ends (g.S.Source.state c.read_system.new.source) (g.K.Sink.state c.args.sink.now) in
    let told = c.in-Err.ensures in
    stopped_answers (List Entry) (Headline c.args.wanted before after) (IsReport c.args.wanted) c.in-Err.failure before after told.found refl told.must_stop told.must_find told.must_refuse

pub returns-in-Err-run_and_report : goal.returns-in-Err-run_and_report
returns-in-Err-run_and_report g c =
    let before = ends (g.S.Source.state c.args.source.now) (g.K.Sink.state c.args.sink.now) in
    let after = ends (g.S.Source.state c.read_system.new.source) (g.K.Sink.state c.args.sink.now) in
    lacked_answers (List Entry) (Headline c.args.wanted before after) (IsReport c.args.wanted) c.in-Ok.deck before after c.in-Ok.ensures.must_stop c.in-Ok.ensures.must_refuse c.in-Ok.ensures.found refl

pub returns-in-Ok-give_all : goal.returns-in-Ok-give_all
returns-in-Ok-give_all g c =
    let before = ends (g.S.Source.state c.args.source.now) (g.K.Sink.state c.args.sink.now) in
    let after = ends (g.S.Source.state c.read_system.new.source) (g.K.Sink.state c.give_all.new.sink) in
    let ran = c.in-Ok-run_and_report.ran in
    wrote_answers (List Entry) (Headline c.args.wanted before after) (IsReport c.args.wanted) c.in-Ok.deck before after c.in-Ok.ensures.must_stop c.in-Ok.ensures.must_refuse ran.0
    (record {
      deck = deck_of c.in-Ok.deck;
      output = ran.1.items;
      found = c.in-Ok.ensures.found;
      reports = c.in-Ok-run_and_report.ensures;
      written = subst (λ (output : List ℕ). Written output before.sink after.sink) c.as_slice.ensures.value c.in-Ok-give_all.ensures.all;
    })

pub returns-in-Err-give_all : goal.returns-in-Err-give_all
returns-in-Err-give_all g c =
    let before = ends (g.S.Source.state c.args.source.now) (g.K.Sink.state c.args.sink.now) in
    let after = ends (g.S.Source.state c.read_system.new.source) (g.K.Sink.state c.give_all.new.sink) in
    let ran = c.in-Ok-run_and_report.ran in
    broke_answers (List Entry) (Headline c.args.wanted before after) (IsReport c.args.wanted) c.in-Ok.deck before after c.in-Ok.ensures.must_stop c.in-Ok.ensures.must_refuse ran.1.items c.in-Ok.ensures.found
    (ran.0, c.in-Ok-run_and_report.ensures)
    (subst (λ (bytes : List ℕ). BrokeOff bytes before.sink after.sink) c.as_slice.ensures.value c.in-Err-give_all.ensures.front)
