use Rattle.std.proofs.Common.{◌≡◌, ℕ, List, refl, subst, ◌∙◌, arith, length, map}
use Rattle.deck_model.specs.Report.{good_line}
use Rattle.deck_reader.specs.Seen.{deck_of, terminal_of}
use Rattle.time_sharing.proofs.RunLemmas.{as_many}
use Rattle.time_sharing.specs.TwoEnds.{ends}
use Rattle.time_sharing.specs.Headline.{IsGoodLine, Checked}
use Rattle.rsts_io.specs.Whole.{Written, BrokeOff}
use Rattle.time_sharing.proofs.SystemLemmas.{stopped_answers, wrote_answers, broke_answers, lacked_answers}
use Rattle.time_sharing.proofs.systems.check_system.Goals as goal

pub returns-in-Err : goal.returns-in-Err
returns-in-Err g c =
    let before = ends (g.S.Source.state c.args.source.now) (g.K.Sink.state c.args.sink.now) in
    let after = ends (g.S.Source.state c.read_system.new.source) (g.K.Sink.state c.args.sink.now) in
    let told = c.in-Err.ensures in
    stopped_answers (Unit {0}) (λ done. Checked before after) IsGoodLine c.in-Err.failure before after told.found refl told.must_stop told.must_find told.must_refuse

pub returns-in-Err-good_line : goal.returns-in-Err-good_line
returns-in-Err-good_line g c =
    let before = ends (g.S.Source.state c.args.source.now) (g.K.Sink.state c.args.sink.now) in
    let after = ends (g.S.Source.state c.read_system.new.source) (g.K.Sink.state c.args.sink.now) in
    lacked_answers (Unit {0}) (λ done. Checked before after) IsGoodLine c.in-Ok.deck before after c.in-Ok.ensures.must_stop c.in-Ok.ensures.must_refuse c.in-Ok.ensures.found refl

pub returns-in-Ok-give_all : goal.returns-in-Ok-give_all
returns-in-Ok-give_all g c =
    let before = ends (g.S.Source.state c.args.source.now) (g.K.Sink.state c.args.sink.now) in
    let after = ends (g.S.Source.state c.read_system.new.source) (g.K.Sink.state c.give_all.new.sink) in
    let output = c.in-Ok-good_line.output.items in
    let accounts : c.len-accounts.result ≡ length c.in-Ok.deck.volume.accounts.items = omega (arith, c.len-accounts.ensures, c.in-Ok.deck.volume.accounts.ok.0) in
    let files : c.len-files.result ≡ length c.in-Ok.deck.volume.files.items = omega (arith, c.len-files.ensures, c.in-Ok.deck.volume.files.ok.0) in
    let terminals : c.len.result ≡ length (map terminal_of c.in-Ok.deck.terminals.items) = omega (arith, c.len.ensures, c.in-Ok.deck.terminals.ok.0, as_many c.in-Ok.deck.terminals.items) in
    let line : IsGoodLine (deck_of c.in-Ok.deck) output = c.in-Ok-good_line.ensures ∙ (λ i. good_line (accounts i) (files i) (terminals i)) in
    wrote_answers (Unit {0}) (λ done. Checked before after) IsGoodLine c.in-Ok.deck before after c.in-Ok.ensures.must_stop c.in-Ok.ensures.must_refuse tt
    (record {
      deck = deck_of c.in-Ok.deck;
      output = output;
      found = c.in-Ok.ensures.found;
      is_good_line = line;
      written = subst (λ (bytes : List ℕ). Written bytes before.sink after.sink) c.as_slice.ensures.value c.in-Ok-give_all.ensures.all;
    })

pub returns : goal.returns
returns g c =
    let before = ends (g.S.Source.state c.args.source.now) (g.K.Sink.state c.args.sink.now) in
    let after = ends (g.S.Source.state c.read_system.new.source) (g.K.Sink.state c.give_all.new.sink) in
    let output = c.in-Ok-good_line.output.items in
    let accounts : c.len-accounts.result ≡ length c.in-Ok.deck.volume.accounts.items = omega (arith, c.len-accounts.ensures, c.in-Ok.deck.volume.accounts.ok.0) in
    let files : c.len-files.result ≡ length c.in-Ok.deck.volume.files.items = omega (arith, c.len-files.ensures, c.in-Ok.deck.volume.files.ok.0) in
    let terminals : c.len.result ≡ length (map terminal_of c.in-Ok.deck.terminals.items) = omega (arith, c.len.ensures, c.in-Ok.deck.terminals.ok.0, as_many c.in-Ok.deck.terminals.items) in
    let line : IsGoodLine (deck_of c.in-Ok.deck) output = c.in-Ok-good_line.ensures ∙ (λ i. good_line (accounts i) (files i) (terminals i)) in
    broke_answers (Unit {0}) (λ done. Checked before after) IsGoodLine c.in-Ok.deck before after c.in-Ok.ensures.must_stop c.in-Ok.ensures.must_refuse output c.in-Ok.ensures.found line
    (subst (λ (bytes : List ℕ). BrokeOff bytes before.sink after.sink) c.as_slice.ensures.value c.in-Err-give_all.ensures.front)
