use Rattle.std.proofs.Common.{◌≡◌, map, sym, subst}
use Rattle.std.specs.Prelude.{string_bytes}
use Rattle.std.specs.Global.{Global}
use Rattle.program_words.specs.declared.words.Asked.{Asked}
use Rattle.program_words.specs.Words.{asked}
use Rattle.time_sharing.specs.Headline.{Does}
use Rattle.time_sharing.specs.Steps.{IsRest, asked_by_rest}
use Rattle.time_sharing.specs.TwoEnds.{Ends, ends}
use Rattle.time_sharing.proofs.top.rsts_main.Goals as goal

pub returns-in-Waits : goal.returns-in-Waits
returns-in-Waits g c =
    let before = ends (g.S.Source.state c.args.source.now) (g.K.Sink.state c.args.sink.now) in
    let after = ends (g.S.Source.state c.finish.new.source) (g.K.Sink.state c.finish.new.sink) in
    let told : (asked (map (string_bytes {Z = Global}) c.args.words.now) ≡ asked_by_rest c.in-Waits.rest) × (ends (g.S.Source.state c.begin.new.source) (g.K.Sink.state c.begin.new.sink) ≡ before) × IsRest c.in-Waits.rest = c.in-Waits.ensures in
    subst (λ (a : Asked). Does a before after c.finish.result) (sym told.0)
    (subst (λ (e : Ends). Does (asked_by_rest c.in-Waits.rest) e after c.finish.result) told.1 c.finish.ensures)
