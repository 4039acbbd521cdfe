use Rattle.std.proofs.Common.{ℕ, rules, refl, ◌∙◌, subst}
use Rattle.monitor_model.specs.History.{entry_for}
use Rattle.monitor_gate.specs.Recorded.{Answered}
use Rattle.monitor_gate.specs.Turns.{pass_of}
use Rattle.monitor_gate.proofs.Keeps.{ends_with_entry, ends_as_found}
use Rattle.monitor_gate.proofs.Asks.{put_in, job_there, history_after, records_after, asked}
use Rattle.monitor_gate.proofs.table.GateTable.ask.Goals as goal

pub answer-requires : goal.answer-requires
answer-requires g c =
    let p = pass_of c.args.seat.now.me.0 in
    rw c.requires.job (job_there p c.take-kept.result c.take-kept.ensures.taken.found)

pub swap-requires : goal.swap-requires
swap-requires g c =
    let p = pass_of c.args.seat.now.me.0 in
    let kept = c.take-kept.result in
    let new = c.answer.new.self in
    let taken = c.take-kept.ensures.taken in
    let did = subst (λ (job : ℕ). Answered job c.args.request c.in-Ok.reply kept new) c.requires.job c.in-Ok.ensures.ok in (
      search rules,
      search rules,
      ends_with_entry _ _ _ _ p kept.history.items (entry_for p.job c.args.request c.in-Ok.reply) new (put_in p kept.history.items new _ _ taken.hand_is c.exchange.ensures.3) refl
          (history_after p kept new c.args.request c.in-Ok.reply taken.found did) (records_after p kept new c.args.request c.in-Ok.reply taken.found did),
    )

pub swap-requires-in-Err : goal.swap-requires-in-Err
swap-requires-in-Err g c =
    let p = pass_of c.args.seat.now.me.0 in
    let kept = c.take-kept.result in
    let new = c.answer.new.self in
    let taken = c.take-kept.ensures.taken in
    let same = c.in-Err.ensures.memory in (
      search rules,
      search rules,
      ends_as_found _ _ _ _ p kept.history.items new (put_in p kept.history.items new _ _ taken.hand_is c.exchange-in-Err.ensures.3) (record { items = same.items; state = same.state ∙ taken.found.state }),
    )

pub returns-in-Ok-clause-ok : goal.returns-in-Ok-clause-ok
returns-in-Ok-clause-ok g c =
    let p = pass_of c.args.seat.now.me.0 in
    let kept = c.take-kept.result in
    let new = c.answer.new.self in
    let taken = c.take-kept.ensures.taken in
    let did = subst (λ (job : ℕ). Answered job c.args.request c.in-Ok.reply kept new) c.requires.job c.in-Ok.ensures.ok in
    asked p kept new c.args.request c.in-Ok.reply _ _ taken.found did (put_in p kept.history.items new _ _ taken.hand_is c.exchange.ensures.3) c.swap.ensures.2
