use Rattle.std.proofs.Common.{◌≡◌, ℕ, suc, ◌-◌, ◌<◌, List, length, get_or, set, replicate, Some, rules, sym, subst, arith}
use Rattle.std.specs.Prelude.{slice_get}
use Rattle.std.proofs.lemmas.List.{get_or_read}
use Rattle.std.proofs.lemmas.Option.{slice_get-get_or}
use Rattle.monitor_calls.specs.declared.calls.Entry.{Entry}
use Rattle.history_replay.specs.Lists.{IsIndex}
use Rattle.history_replay.proofs.Indexes.{index_none, index_more}
use Rattle.history_replay.proofs.index.index_of.Goals as goal

pub loop-place-init : goal.loop-place-init
loop-place-init c =
    let count = length c.args.history.now in
    let firsts : c.in_ok-first.first.items ≡ replicate c.args.jobs count = search rules in
    let laters : c.in_ok-later.later.items ≡ replicate count count = search rules in
    subst (λ (l : List ℕ). IsIndex count c.args.jobs c.args.history.now c.in_ok-first.first.items l) (sym laters)
    (subst (λ (l : List ℕ). IsIndex count c.args.jobs c.args.history.now l (replicate count count)) (sym firsts) (index_none c.args.jobs c.args.history.now))

pub index-requires : goal.index-requires
index-requires c =
    let history = c.args.history.now in
    let n = c.loop-place.place - 1 in
    let entry : Entry = get_or history n c.index-history-place.result in
    let inside : n < length history = omega arith in
    let here : slice_get history n ≡ Some entry = slice_get-get_or history n c.index-history-place.result inside in
    let below : entry.job < c.args.jobs = c.requires n entry here in
    omega (arith, below, c.loop-place.invariant.firsts.count, c.loop-place.first.ok.0)

pub index_mut-requires-in-loop-place : goal.index_mut-requires-in-loop-place
index_mut-requires-in-loop-place c =
    let history = c.args.history.now in
    let n = c.loop-place.place - 1 in
    let entry : Entry = get_or history n c.index-history-place.result in
    let inside : n < length history = omega arith in
    let here : slice_get history n ≡ Some entry = slice_get-get_or history n c.index-history-place.result inside in
    let below : entry.job < c.args.jobs = c.requires n entry here in
    omega (arith, below, c.loop-place.invariant.firsts.count, c.loop-place.first.ok.0)

pub loop-place-preserved : goal.loop-place-preserved
loop-place-preserved c =
    let history = c.args.history.now in
    let n = c.loop-place.place - 1 in
    let first = c.loop-place.first.items in
    let later = c.loop-place.later.items in
    let entry : Entry = get_or history n c.index-history-place.result in
    let inside : n < length history = omega arith in
    let here : slice_get history n ≡ Some entry = slice_get-get_or history n c.index-history-place.result inside in
    let below : entry.job < c.args.jobs = c.requires n entry here in
    let room : entry.job < length first = omega (arith, below, c.loop-place.invariant.firsts.count) in
    let behind : suc n ≡ c.loop-place.place = omega arith in
    let was : IsIndex (suc n) c.args.jobs history first later = subst (λ k. IsIndex k c.args.jobs history first later) (sym behind) c.loop-place.invariant in
    subst (λ v. IsIndex n c.args.jobs history (set first entry.job n) (set later n v)) (sym (get_or_read first entry.job c.index.result.now room c.index.ensures 0))
    (index_more n history entry here c.args.jobs first later below was)
