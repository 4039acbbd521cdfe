-- Histories that grow by an entry, and beginnings of histories.
use Rattle.std.proofs.Common.{◌≡◌, ◌≢◌, ℕ, ◌==◌, Bool, List, [], ◌∷◌, ◌++◌, sym, ap, ◌∙◌, append_assoc, append-nil, ne_eqb, if◌then◌else◌}
use Rattle.std.specs.Prelude.{map, filter}
use Rattle.std.proofs.lemmas.List.{map-append}
use Rattle.std.proofs.lemmas.List.Elements.{filter-append}
use Rattle.monitor_calls.specs.declared.calls.Entry.{Entry}
use Rattle.monitor_calls.specs.Proper.{IsProperEntry}
use Rattle.monitor_model.specs.State.{State}
use Rattle.monitor_model.specs.History.{after, IsAnswered, pair_in, part_of}
use Rattle.monitor_model.proofs.Histories.{legal_push, proper_push}
use Rattle.monitor_gate.specs.declared.views.Pass.{Pass}
use Rattle.monitor_gate.specs.OneHistory.{StartsWith, IsHistory, IsPassOf}

-- a job's part stays as it is if the entry is another job's
pub part_push_other : (job : ℕ) (history : List Entry) (entry : Entry) → entry.job ≢ job → part_of job (history ++ entry ∷ []) ≡ part_of job history
part_push_other job history entry other =
    let own : Entry → Bool = λ e. e.job == job in
    ap (map pair_in) (filter-append own history (entry ∷ []))
    ∙ map-append pair_in (filter own history) (filter own (entry ∷ []))
    ∙ ap (λ b. part_of job history ++ map pair_in (if b then entry ∷ [] else [])) (ne_eqb entry.job job other)
    ∙ append-nil (part_of job history)

pub is_history_push : (opening : State) (history : List Entry) (entry : Entry) → IsHistory opening history → IsAnswered (after opening history) entry → IsProperEntry entry → IsHistory opening (history ++ entry ∷ [])
is_history_push opening history entry was answered proper = record {
  legal = legal_push opening history entry was.legal answered;
  proper = proper_push history entry was.proper proper;
}

pub starts_all : (history : List Entry) → StartsWith history history
starts_all history = ([], sym (append-nil history))

pub starts_trans : (long history seen : List Entry) → StartsWith long history → StartsWith history seen → StartsWith long seen
starts_trans long history seen a b =
    (b.0 ++ a.0, a.1 ∙ (ap (λ (l : List Entry). l ++ a.0) b.1 ∙ append_assoc seen b.0 a.0))

-- a pass is one of a longer history too, if the entries that came are of other jobs
pub part_on : (long history : List Entry) (pass : Pass) → StartsWith long history → part_of pass.job long ≡ part_of pass.job history → IsPassOf history pass → IsPassOf long pass
part_on long history pass more same part = record {
  seen = starts_trans long history pass.seen more part.seen;
  mine = same ∙ part.mine;
}
