use Rattle.std.proofs.Common.{◌≡◌, List, [], ◌∷◌, ◌++◌, sym, ap, ◌∙◌, subst, refl}
use Rattle.monitor_calls.specs.declared.calls.Entry.{Entry}
use Rattle.monitor_calls.specs.Proper.{IsProperEntry}
use Rattle.monitor_model.specs.History.{entry_for}
use Rattle.monitor_model.proofs.Histories.{part_push}
use Rattle.monitor_core.specs.Plain.{Plain, IsKept}
use Rattle.monitor_core.proofs.SeatLemmas.{job_there, kept_push}
use Rattle.monitor_core.proofs.plain_seat.PlainSeatSeat.ask.Goals as goal

pub room_for_copy-requires : goal.room_for_copy-requires
room_for_copy-requires c =
    let seat : Plain = record { opening = c.self.inside.opening.state; job = c.self.inside.job; history = c.self.inside.history.items } in
    job_there seat c.self.inside.monitor c.self.invariant

pub answer-requires-clause-job : goal.answer-requires-clause-job
answer-requires-clause-job c =
    let seat : Plain = record { opening = c.self.inside.opening.state; job = c.self.inside.job; history = c.self.inside.history.items } in
    job_there seat c.self.inside.monitor c.self.invariant

pub invariant_of-self-2 : goal.invariant_of-self-2
invariant_of-self-2 c =
    let seat : Plain = record { opening = c.self.inside.opening.state; job = c.self.inside.job; history = c.self.inside.history.items } in
    let entry : Entry = entry_for seat.job c.args.request c.in_ok-reply.reply in
    let is_entry : c.new.result ≡ entry = cc in
    let items : c.push.new.self.items ≡ seat.history ++ entry ∷ [] = c.in_ok-push.ensures.items ∙ ap (λ (before : List Entry). before ++ c.new.result ∷ []) c.reserve.ensures.items ∙ ap (λ (e : Entry). seat.history ++ e ∷ []) is_entry in
    subst (λ (history : List Entry). IsKept (record seat { history = history }) c.answer.new.self) (sym items)
    (kept_push seat c.self.inside.monitor c.answer.new.self c.args.request c.in_ok-reply.reply c.self.invariant c.in_ok-reply.ensures.reply c.in_ok-reply.ensures.state (subst IsProperEntry is_entry c.new.ensures.proper))

pub returns-clause-ok : goal.returns-clause-ok
returns-clause-ok c =
    let seat : Plain = record { opening = c.self.inside.opening.state; job = c.self.inside.job; history = c.self.inside.history.items } in
    let entry : Entry = entry_for seat.job c.args.request c.in_ok-reply.reply in
    let is_entry : c.new.result ≡ entry = cc in
    let items : c.push.new.self.items ≡ seat.history ++ entry ∷ [] = c.in_ok-push.ensures.items ∙ ap (λ (before : List Entry). before ++ c.new.result ∷ []) c.reserve.ensures.items ∙ ap (λ (e : Entry). seat.history ++ e ∷ []) is_entry in
    rw (items, ← c.self.view_is) (refl, part_push seat.job seat.history entry refl)
