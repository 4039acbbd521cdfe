use Rattle.std.proofs.Common.{◌≡◌, ℕ, false, List, [], ◌∷◌, ◌++◌, map, Some, ap, subst, ◌∙◌, arith}
use Rattle.std.specs.Prelude.{string_bytes}
use Rattle.std.specs.Global.{Global}
use Rattle.program_words.specs.Words.{asked}
use Rattle.program_words.specs.declared.words.Asked.{Asked}
use Rattle.program_words.specs.declared.words.Asked.TheVariants.{Run}
use Rattle.rsts_io.specs.Memory.{plain_feed_state, plain_store_state}
use Rattle.time_sharing.specs.Headline.{Does}
use Rattle.time_sharing.specs.TwoEnds.{ends}
use Rattle.run_tests.proofs.RunEndLemmas.{ran_or_lacked}
use Rattle.run_tests.proofs.runs.run_between_plain_ends.Goals as goal

pub returns : goal.returns
returns g c = λ deck spelled most stayed.
    let before = ends (plain_feed_state c.in_ok-source.source) (plain_store_state c.in_ok-sink.sink) in
    let after = ends (plain_feed_state c.rsts_main-outcome.new.source) (plain_store_state c.rsts_main-outcome.new.sink) in
    let asks : asked (map (string_bytes {Z = Global}) c.as_slice.result.now) ≡ Run (record { history = false; printer = false }) =
    (λ i. asked (map (string_bytes {Z = Global}) (c.as_slice.ensures.value i)))
    ∙ (λ i. asked (map (string_bytes {Z = Global}) (c.in_ok-push.ensures.items i)))
    ∙ (λ i. asked (map (string_bytes {Z = Global}) (c.new-words.ensures.items i ++ (c.in_ok-from_str.field-0 ∷ []))))
    ∙ (λ i. asked (c.in_ok-from_str.ensures.ok i ∷ [])) in
    let runs = subst (λ (word : Asked). Does word before after c.rsts_main-outcome.result) asks c.rsts_main-outcome.ensures in
    ran_or_lacked (record { history = false; printer = false }) before after c.rsts_main-outcome.result runs (record {
      source = record {
        read = c.args.input.now;
        deck = deck;
        told = record {
          told = ap (λ (left : List ℕ). Some left) c.in_ok-source.ensures.left;
          most = most;
          no_fault = λ rose. absurd (omega (arith, rose));
        };
        spelled = spelled;
      };
      sink = λ rose. absurd (omega (arith, rose, stayed, c.in_ok-sink.ensures.faults));
    })
