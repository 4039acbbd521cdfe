-- Seats that are split off and joined, and what the last board says.
use Rattle.std.proofs.Common.{◌≡◌, ◌≢◌, ℕ, ◌+◌, ◌<◌, eqb, Bool, true, false, List, [], ◌∷◌, ◌++◌, length, set, Some, refl, sym, ap, ◌∙◌, subst, ⊎_elim, arith, eq-eqb, ne_eqb, le_refl, length-append, if◌then◌else◌, nat_lt}
use Rattle.std.specs.Prelude.{Option as Maybe}
use mathlib.Core.Option.{Option, none, some, some-injective, some-ne-none}
use lib.ListN.{get_elem?}
use Rattle.atomic_table.specs.Table.{Splits, Joins, Final, Seen}
use Rattle.atomic_table.proofs.Lists.{set_else, at_longer, at_snoc}
use Rattle.monitor_calls.specs.declared.calls.Entry.{Entry}
use Rattle.monitor_model.specs.State.{State}
use Rattle.monitor_model.specs.History.{after, part_of}
use Rattle.monitor_gate.specs.declared.recorded.RecordedMonitor.{RecordedMonitor}
use Rattle.monitor_gate.specs.declared.views.Pass.{Pass}
use Rattle.monitor_gate.specs.declared.views.SparePass.{SparePass}
use Rattle.monitor_gate.specs.declared.views.Knows.{Knows}
use Rattle.monitor_gate.specs.declared.views.Knows.TheVariants.{Spare, Asks, HasTurn, Spent}
use Rattle.monitor_gate.specs.Passes.{longer, after_split, split_off, after_join}
use Rattle.monitor_gate.specs.OneHistory.{StartsWith, IsHistory, OneHistory}
use Rattle.monitor_gate.specs.Turns.{Board, Round, IsHome, Placed, Fits, HasEnded, Knowing, Kept, how_many_out, left_of_split, right_of_split, both_joined}
use Rattle.monitor_gate.proofs.Lists.{out_set, out_push, out_has, each_set, at_end}
use Rattle.monitor_gate.proofs.Apart.{apart_push, all_there}
use Rattle.monitor_gate.proofs.Keeps.{was_made}

-- WHOSE SEAT A JOB'S IS

-- the seats of jobs, once the job's is `now`
abbrev given_to : (ℕ → Option ℕ) → ℕ → Option ℕ → ℕ → Option ℕ
given_to owner job now j = if eqb j job then now else owner j

given_same : (owner : ℕ → Option ℕ) (job j : ℕ) (now : Option ℕ) → j ≡ job → given_to owner job now j ≡ now
given_same owner job j now is = rw (eq-eqb j job is) refl

given_other : (owner : ℕ → Option ℕ) (job j : ℕ) (now : Option ℕ) → j ≢ job → given_to owner job now j ≡ owner j
given_other owner job j now ne = rw (ne_eqb j job ne) refl

given_none : (owner : ℕ → Option ℕ) (job j : ℕ) → owner j ≡ none → given_to owner job none j ≡ none
given_none owner job j is = go (eqb j job)
  where
    go : (b : Bool) → (if b then none else owner j) ≡ none
    go true = refl
    go false = is

-- what a pass knows stays true if its own job stays with its seat
owned_on : (m : State) (history : List Entry) (owner owner' : ℕ → Option ℕ) (id : ℕ) (p : Pass) → owner' p.job ≡ owner p.job → Fits m history owner id p → Fits m history owner' id p
owned_on m history owner owner' id p same f =
    record { opening_is = f.opening_is; owns = same ∙ f.owns; part = f.part }

-- VIEWS OF DIFFERENT KINDS

abbrev kind : Knows → ℕ
kind (Spare p) = 0
kind (Asks p) = 1
kind (HasTurn p found) = 2
kind Spent = 3

-- seats whose views differ in kind are different seats
two_seats : (views : List Knows) (i j : ℕ) (v w : Knows) → get_elem? views i ≡ some v → get_elem? views j ≡ some w → kind v ≢ kind w → i ≢ j
two_seats views i j v w at_i at_j ne is =
    ne (ap kind (some-injective v w (sym at_i ∙ ap (get_elem? views) is ∙ at_j)))

-- the seat that has the turn keeps it, if it is not its view that changes
placed_on : (m : State) (history : List Entry) (holder : ℕ) (taken : Bool) (s : Board) (views : List Knows)
    → ((p : Pass) → get_elem? s.views holder ≡ some (HasTurn p history) → get_elem? views holder ≡ some (HasTurn p history))
    → Placed m history holder taken s → Placed m history holder taken record { words = s.words; homes = s.homes; views = views }
placed_on m history holder false s views on pl =
    record { turn = pl.turn; kept = pl.kept; slot = pl.slot; records = pl.records }
placed_on m history holder true s views on pl =
    record { turn = pl.turn; slot = pl.slot; pass = pl.pass; knows = on pl.pass pl.knows }

-- SPLIT

-- the round after a split, in which the seat `new` has the next job
abbrev one_more : Round → ℕ → Round
one_more round new =
    record round { made = round.made + 1; owner = given_to round.owner round.made (some new) }

-- what another seat knows after a split
split_knowing : (m : State) (round : Round) (new id j : ℕ) (u : Knows) → j ≢ id → id ≡ round.spare → round.owner round.made ≡ none → Knowing m round j u → Knowing m (one_more round new) j u
split_knowing m round new id j u other mine unmade = go u
  where
    kept : (p : Pass) → Fits m round.history round.owner j p → Fits m round.history (one_more round new).owner j p
    kept p f =
        owned_on m round.history round.owner (one_more round new).owner j p
        (given_other round.owner round.made p.job (some new) (λ is. some-ne-none j (sym f.owns ∙ (ap round.owner is ∙ unmade)))) f

    go : (u : Knows) → Knowing m round j u → Knowing m (one_more round new) j u
    go (Spare p) f = absurd (other (f.is_spare ∙ sym mine))
    go (Asks p) f = kept p f
    go (HasTurn p found) f =
        record { fits = kept p f.fits; is_holder = f.is_holder; is_taken = f.is_taken; found_is = f.found_is }
    go Spent f = tt

pub splits : (m : State) (id : ℕ) (v : Knows) (p : SparePass) → v ≡ Spare p → p.made < length p.opening.jobs → Splits (Kept m) id v (left_of_split v) (right_of_split v)
splits m id v p is room = subst (λ (x : Knows). Splits (Kept m) id x (left_of_split x) (right_of_split x)) (sym is) (λ s r at.
    let f = r.each id (Spare p) at in
    let left : Knows = Spare (after_split p) in
    let right : Knows = Asks (split_off p) in
    let views = set s.views id left in
    let new : ℕ = length views in
    let round = r.round in
    let round' = one_more round new in
    let none_yet = r.unmade round.made (le_refl round.made) in
    let a = out_set s.views id (Spare p) left at in
    let b = out_push views right in
    let total = r.counted in
    let made = f.made_is in
    let jobs = ap (λ (x : State). length x.jobs) f.opening_is in
    let mine : Knowing m round' id left = record {
      is_spare = f.is_spare;
      opening_is = f.opening_is;
      made_is = ap (λ (k : ℕ). k + 1) f.made_is;
      gone_is = f.gone_is;
      seen = f.seen;
      ended = λ k e at_k. let h = f.ended k e at_k in let lt = h.below in record {
        below = omega arith;
        unowned = given_other round.owner round.made e.job (some new) (λ same. omega arith) ∙ h.unowned;
        part = h.part;
      };
      apart = f.apart;
    } in
    let yours : Knowing m round' new right = record {
      opening_is = f.opening_is;
      owns = given_same round.owner round.made p.made (some new) f.made_is;
      part = record { seen = f.seen; mine = ap (λ (k : ℕ). part_of k round.history) f.made_is ∙ none_yet.1 };
    } in
    record {
      round = round';
      is_history = r.is_history;
      placed = placed_on m round.history round.holder round.taken s (views ++ right ∷ [])
          (λ q there. at_longer views (right ∷ []) round.holder (HasTurn q round.history)
          (set_else s.views id round.holder left (two_seats s.views round.holder id (HasTurn q round.history) (Spare p) there at (λ e. omega arith)) ∙ there))
          r.placed;
      counted = omega arith;
      bounded = omega arith;
      unmade = λ job above. let u = r.unmade job (omega arith) in (given_other round.owner round.made job (some new) (λ same. omega arith) ∙ u.0, u.1);
      each = λ j u there. ⊎_elim
          (λ was. each_set (Knowing m round') s.views id left mine (λ i w other e. split_knowing m round new id i w other f.is_spare none_yet.0 (r.each i w e)) j u was)
          (λ (t : (j ≡ new) × (right ≡ u)). subst (λ (y : ℕ × Knows). Knowing m round' y.0 y.1) (λ i. (sym t.0 i, t.1 i)) yours)
          (at_end views right u j there);
    })

-- JOIN

-- the round after a join, in which nobody has the job any more
abbrev one_gone : Round → ℕ → Round
one_gone round job =
    record round { gone = round.gone + 1; owner = given_to round.owner job none }

-- what a third seat knows after a join
join_knowing : (m : State) (round : Round) (job id other j : ℕ) (u : Knows) → j ≢ id → j ≢ other → id ≡ round.spare → round.owner job ≡ some other → Knowing m round j u → Knowing m (one_gone round job) j u
join_knowing m round job id other j u ne ne' mine theirs = go u
  where
    kept : (p : Pass) → Fits m round.history round.owner j p → Fits m round.history (one_gone round job).owner j p
    kept p f =
        owned_on m round.history round.owner (one_gone round job).owner j p
        (given_other round.owner job p.job none (λ is. ne' (some-injective j other (sym f.owns ∙ (ap round.owner is ∙ theirs))))) f

    go : (u : Knows) → Knowing m round j u → Knowing m (one_gone round job) j u
    go (Spare p) f = absurd (ne (f.is_spare ∙ sym mine))
    go (Asks p) f = kept p f
    go (HasTurn p found) f =
        record { fits = kept p f.fits; is_holder = f.is_holder; is_taken = f.is_taken; found_is = f.found_is }
    go Spent f = tt

starts_longer : (history seen seen' : List Entry) → StartsWith history seen → StartsWith history seen' → StartsWith history (longer seen seen')
starts_longer history seen seen' a b = go (nat_lt (length seen) (length seen'))
  where
    go : (c : Bool) → StartsWith history (if c then seen' else seen)
    go true = b
    go false = a

pub joins : (m : State) (id : ℕ) (v : Knows) (other : ℕ) (w : Knows) (p : SparePass) (q : Pass) → v ≡ Spare p → w ≡ Asks q → Joins (Kept m) id v other w (both_joined v w) Spent
joins m id v other w p q is is' = subst (λ (x : Knows × Knows). Joins (Kept m) id x.0 other x.1 (both_joined x.0 x.1) Spent) (λ i. (sym is i, sym is' i)) (λ s r at ne there.
    let f = r.each id (Spare p) at in
    let both : Knows = Spare (after_join p q) in
    let was : get_elem? s.views other ≡ some (Asks q) = sym (set_else s.views id other both ne) ∙ there in
    let g = r.each other (Asks q) was in
    let round = r.round in
    let round' = one_gone round q.job in
    let a = out_set s.views id (Spare p) both at in
    let b = out_set (set s.views id both) other (Asks q) Spent there in
    let total = r.counted in
    let mine : Knowing m round' id both = record {
      is_spare = f.is_spare;
      opening_is = f.opening_is;
      made_is = f.made_is;
      gone_is = length-append p.ended (q ∷ []) ∙ ap (λ (k : ℕ). k + 1) f.gone_is;
      seen = starts_longer round.history p.seen q.seen f.seen g.part.seen;
      ended = λ k e at_k. ⊎_elim
          (λ old. let h = f.ended k e old in record { below = h.below; unowned = given_none round.owner q.job e.job h.unowned; part = h.part })
          (λ (same : q ≡ e). subst (HasEnded round.history round.made round'.owner) same
          (record { below = was_made m s r q.job other g.owns; unowned = given_same round.owner q.job q.job none refl; part = g.part }))
          (at_snoc p.ended q e k at_k);
      apart = apart_push p.ended q f.apart (λ k e at_k same. some-ne-none other (sym g.owns ∙ (ap round.owner (sym same) ∙ (f.ended k e at_k).unowned)));
    } in
    record {
      round = round';
      is_history = r.is_history;
      placed = placed_on m round.history round.holder round.taken s (set (set s.views id both) other Spent)
          (λ h up. set_else (set s.views id both) other round.holder Spent (two_seats s.views round.holder other (HasTurn h round.history) (Asks q) up was (λ e. omega arith))
          ∙ (set_else s.views id round.holder both (two_seats s.views round.holder id (HasTurn h round.history) (Spare p) up at (λ e. omega arith)) ∙ up))
          r.placed;
      counted = omega arith;
      bounded = r.bounded;
      unmade = λ job above. let u = r.unmade job above in (given_none round.owner q.job job u.0, u.1);
      each = each_set (Knowing m round') (set s.views id both) other Spent tt
          (λ j u ne' e. each_set (λ i x. i ≢ other → Knowing m round' i x) s.views id both (λ _. mine)
          (λ i x ne'' e' apart. join_knowing m round q.job id other i x ne'' apart f.is_spare g.owns (r.each i x e')) j u e ne');
    })

-- CLOSE

-- nobody has the turn if no seat is out
at_rest : (m : State) (s : Board) (r : Kept m s) → how_many_out s.views ≡ 0 → (b : Bool) → Placed m r.round.history r.round.holder b s → IsHome m r.round.history s
at_rest m s r rest false pl = pl
at_rest m s r rest true pl =
    let someone = out_has s.views r.round.holder (HasTurn pl.pass r.round.history) pl.knows in absurd (omega arith)

-- the last board has the monitor in its slot, with the one history, in the state after it
pub record Closes (m : State) (p : SparePass) (homes : List (Maybe RecordedMonitor)) : Type 0 where
  pub kept : RecordedMonitor
  pub slot : get_elem? homes 0 ≡ some (Some kept)
  pub opening_is : p.opening ≡ m
  pub history : OneHistory p kept.history.items
  pub state : kept.monitor ≡ after m kept.history.items

pub closes : (m : State) (id : ℕ) (v : Knows) (p : SparePass) (words : List ℕ) (homes : List (Maybe RecordedMonitor)) → v ≡ Spare p → length p.ended ≡ p.made → Final (Seen (Kept m) id v) words homes → Closes m p homes
closes m id v p words homes is all final =
    let s = final.0 in
    let r = final.1.0 in
    let f = r.each id (Spare p) (final.1.1 ∙ ap some is) in
    let total = r.counted in
    let made = f.made_is in
    let gone = f.gone_is in
    let home = at_rest m s r (omega arith) r.round.taken r.placed in
    record {
      kept = home.kept;
      slot = final.4 0 (Some home.kept) (ap (λ (l : List (Option (Maybe RecordedMonitor))). get_elem? l 0) home.slot);
      opening_is = f.opening_is;
      history = subst (OneHistory p) (sym {A = List Entry} home.records.items) (record {
        is_history = subst (λ (x : State). IsHistory x r.round.history) (sym f.opening_is) r.is_history;
        seen = f.seen;
        every = λ job less. all_there p.ended p.made job f.apart (λ k e at. let lt = (f.ended k e at).below in omega arith) all less;
        passes = λ k e at. (f.ended k e at).part;
        no_others = λ job above. (r.unmade job (omega arith)).1;
      });
      state = home.records.state ∙ ap (after m) (sym home.records.items);
    }
