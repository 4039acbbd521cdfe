use Rattle.std.proofs.Common.{◌≡◌, true, false, length, take, Some, rules, refl, sym, ap, ◌∙◌, subst, arith}
use Rattle.std.specs.Prelude.{slice_get}
use Rattle.std.proofs.lemmas.Bool.{both_ways}
use Rattle.std.proofs.lemmas.List.{take_all}
use Rattle.std.proofs.lemmas.Option.{slice_get_read}
use Rattle.monitor_calls.specs.declared.calls.Entry.{Entry}
use Rattle.monitor_model.specs.State.{State}
use Rattle.monitor_model.specs.Answer.{next}
use Rattle.monitor_model.specs.History.{after, IsAnswered, Legal}
use Rattle.history_replay.proofs.Legality.{legal_more, after_more, wrong_here}
use Rattle.history_replay.proofs.answers.after_history.Goals as goal

pub returns-then-not-branch : goal.returns-then-not-branch
returns-then-not-branch c =
    let at = c.loop-place in
    let history = c.args.history.now in
    let entry : Entry = c.index-history-place.result in
    let here : slice_get history at.place ≡ Some entry = slice_get_read history (length history) at.place entry refl (omega arith) c.index-history-place.is in
    let not : c.in_ok-is_answered.field-0 ≡ false = search rules in
    wrong_here c.args.monitor history at.place entry here at.invariant.legal
    (λ a. both_ways _ not (c.in_ok-is_answered.ensures.answer.1 (subst (λ (m : State). IsAnswered m entry) (sym at.invariant.state) a)))

pub loop-place-preserved : goal.loop-place-preserved
loop-place-preserved c =
    let at = c.loop-place in
    let history = c.args.history.now in
    let entry : Entry = c.index-history-place.result in
    let here : slice_get history at.place ≡ Some entry = slice_get_read history (length history) at.place entry refl (omega arith) c.index-history-place.is in
    let so : c.in_ok-is_answered.field-0 ≡ true = search rules in
    record {
      legal = legal_more c.args.monitor history at.place entry here at.invariant.legal
          (subst (λ (m : State). IsAnswered m entry) at.invariant.state (c.in_ok-is_answered.ensures.answer.0 so));
      state = c.in_ok-is_answered.ensures.state so ∙ ap (λ (m : State). next m entry.job entry.request) at.invariant.state
          ∙ sym (after_more c.args.monitor history at.place entry here);
    }

pub returns : goal.returns
returns c =
    let at = c.loop-place in
    let m = c.args.monitor in
    let whole : take at.place c.args.history.now ≡ c.args.history.now = take_all at.place c.args.history.now (omega arith) in
    (subst (Legal m) whole at.invariant.legal, at.invariant.state ∙ ap (after m) whole)
