-- The index of a history, made from its end.
use Rattle.std.proofs.Common.{◌≡◌, ◌≢◌, ℕ, suc, ◌<◌, List, [], length, get_or, set, drop, replicate, Some, sym, ap, ◌∙◌, inl, inr, arith, eq-eqb}
use Rattle.std.specs.Prelude.{if◌then◌else◌, slice_get}
use Rattle.std.proofs.lemmas.List.{length-set, length-replicate, get_or-set_same, get_or-set_other, get_or-replicate, drop_all}
use Rattle.std.proofs.lemmas.Option.{slice_get_within, same_Some}
use Rattle.std.proofs.lemmas.Bool.{cases_eq, ne_eqb}
use Rattle.monitor_calls.specs.declared.calls.Entry.{Entry}
use Rattle.history_replay.specs.Disputes.{entry_position}
use Rattle.history_replay.specs.Lists.{position_behind, IsIndex}
use Rattle.history_replay.proofs.Positions.{drop_item}

pub index_none : (jobs : ℕ) (history : List Entry) → IsIndex (length history) jobs history (replicate jobs (length history)) (replicate (length history) (length history))
index_none jobs history = record {
  firsts = record {
    count = length-replicate jobs (length history);
    standing = λ job below.
        let rest : drop (length history) history ≡ [] = drop_all (length history) history (omega arith) in
        let none : entry_position job 0 (drop (length history) history) ≡ 0 = ap (entry_position job 0) rest in
        get_or-replicate jobs job (length history) 0 below ∙ omega arith;
  };
  laters = record {
    count = length-replicate (length history) (length history);
    behind = λ k entry from is. let within = slice_get_within history k entry is in absurd (omega arith);
  };
}

module _ (n : ℕ) (history : List Entry) (entry : Entry) (is : slice_get history n ≡ Some entry) where
  first_here : (job : ℕ) → entry.job ≡ job → entry_position job 0 (drop n history) ≡ 0
  first_here job same = ap (entry_position job 0) (drop_item history n entry is) ∙ ap (λ b. if b then 0 else suc (entry_position job 0 (drop (suc n) history))) (eq-eqb entry.job job same)

  first_behind : (job : ℕ) → entry.job ≢ job → entry_position job 0 (drop n history) ≡ suc (entry_position job 0 (drop (suc n) history))
  first_behind job other = ap (entry_position job 0) (drop_item history n entry is) ∙ ap (λ b. if b then 0 else suc (entry_position job 0 (drop (suc n) history))) (ne_eqb entry.job job other)

  pub index_more : (jobs : ℕ) (first later : List ℕ) → entry.job < jobs → IsIndex (suc n) jobs history first later → IsIndex n jobs history (set first entry.job n) (set later n (get_or first entry.job 0))
  index_more jobs first later below was = record {
    firsts = record {
      count = length-set first entry.job n ∙ was.firsts.count;
      standing = λ job inside.
          elim (cases_eq entry.job job) [
            | inl same ↦
                let here = first_here job same in
                let room : entry.job < length first = let count = was.firsts.count in omega arith in
                ap (λ k. get_or (set first entry.job n) k 0) (sym same) ∙ get_or-set_same first entry.job n 0 room ∙ omega arith
            | inr other ↦
                let behind = first_behind job other in
                get_or-set_other first entry.job job n 0 (λ e. other (sym e)) ∙ was.firsts.standing job inside ∙ omega arith
          ];
    };
    laters = record {
      count = length-set later n (get_or first entry.job 0) ∙ was.laters.count;
      behind = λ k found from at.
          elim (cases_eq k n) [
            | inl same ↦
                let room : n < length later = let within = slice_get_within history n entry is in let count = was.laters.count in omega arith in
                let one : entry ≡ found = same_Some entry found (sym is ∙ ap (slice_get history) (sym same) ∙ at) in
                ap (λ j. get_or (set later n (get_or first entry.job 0)) j 0) same ∙ get_or-set_same later n (get_or first entry.job 0) 0 room ∙ was.firsts.standing entry.job below
                ∙ ap (λ (e : Entry). position_behind e.job n history) one ∙ ap (λ j. position_behind found.job j history) (sym same)
            | inr other ↦ get_or-set_other later n k (get_or first entry.job 0) 0 other ∙ was.laters.behind k found (omega arith) at
          ];
    };
  }
