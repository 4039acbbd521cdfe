-- The board of a new gate meets the rule, and each step of a turn keeps it.
use Rattle.std.proofs.Common.{◌≡◌, ◌≢◌, ℕ, zero, suc, ◌<◌, ◌≤◌, Bool, true, false, true≢false, List, [], ◌∷◌, ◌++◌, length, set, Some, refl, sym, ap, ◌∙◌, subst, arith, append-nil, zero-le, lt_of_not-le}
use native.Mathlib.Decide.{dec_le}
use Rattle.std.specs.Prelude.{slice_index, Option as Maybe}
use mathlib.Core.Option.{Option, none, some, some-injective, some-ne-none}
use lib.ListN.{get_elem?}
use Rattle.atomic_table.specs.Table.{Step, step, Act, keeps, takes, gives, opening as board_of, stepped, Valid, carried_after, Allows}
use Rattle.atomic_table.proofs.Lists.{set_again}
use Rattle.monitor_calls.specs.declared.calls.Entry.{Entry}
use Rattle.monitor_model.specs.State.{State}
use Rattle.monitor_model.specs.History.{after, part_of}
use Rattle.monitor_gate.specs.declared.recorded.RecordedMonitor.{RecordedMonitor}
use Rattle.monitor_gate.specs.declared.views.Pass.{Pass}
use Rattle.monitor_gate.specs.declared.views.Knows.{Knows}
use Rattle.monitor_gate.specs.declared.views.Knows.TheVariants.{Spare, Asks, HasTurn, Spent}
use Rattle.monitor_gate.specs.OneHistory.{StartsWith, IsHistory}
use Rattle.monitor_gate.specs.Turns.{Board, Hand, Round, Records, IsAway, Placed, Fits, TurnFits, Knowing, Kept, first_view, grown, tried, ended_with_entry, ended_as_found}
use Rattle.monitor_gate.proofs.Histories.{part_push_other, starts_all, part_on, starts_trans}
use Rattle.monitor_gate.proofs.Lists.{out_set, each_set, set_there}

-- what the numbers of a step are does not matter
abbrev pub any : Step (Maybe RecordedMonitor)
any = step 0 0 0 0 none

off : false ≡ true → ⊥
off is = true≢false (sym is)

abbrev first_round : Round
first_round =
    record { history = []; taken = false; holder = 0; spare = 0; made = 0; gone = 0; owner = λ _. none }

pub begins : (m : State) (kept : RecordedMonitor) → kept.monitor ≡ m → kept.history.items ≡ [] → Kept m (board_of (0 ∷ []) (Some kept ∷ []) (first_view m))
begins m kept same empty = record {
  round = first_round;
  is_history = record { legal = tt; proper = tt };
  placed = record { turn = refl; kept = kept; slot = refl; records = record { items = empty; state = same } };
  counted = refl;
  bounded = zero-le;
  unmade = λ job _. (refl, refl);
  each = one;
}
  where
    one : (id : ℕ) (v : Knows) → get_elem? (first_view m ∷ []) id ≡ some v → Knowing m first_round id v
    one zero v at = subst (Knowing m first_round 0) (some-injective (first_view m) v at) record {
      is_spare = refl;
      opening_is = refl;
      made_is = refl;
      gone_is = refl;
      seen = ([], refl);
      ended = λ k p at_k. absurd (some-ne-none p (sym at_k));
      apart = λ i j p q at_i at_j. absurd (some-ne-none p (sym at_i));
    }
    one (suc id) v at = absurd (some-ne-none v (sym at))

-- TRYING THE TURN

-- the round in which this seat has the turn
abbrev taken_by : Round → ℕ → Round
taken_by round id = record round { taken = true; holder = id }

-- if nobody has the turn, a seat knows no less once another takes it
untaken : (m : State) (round : Round) (id j : ℕ) (u : Knows) → round.taken ≡ false → Knowing m round j u → Knowing m (taken_by round id) j u
untaken m round id j (Spare p) free f = f
untaken m round id j (Asks p) free f = f
untaken m round id j (HasTurn p found) free f = absurd (off (sym free ∙ f.is_taken))
untaken m round id j Spent free f = tt

-- a job whose pass somebody has is one of those that were made
pub was_made : (m : State) (s : Board) (r : Kept m s) (job id : ℕ) → r.round.owner job ≡ some id → job < r.round.made
was_made m s r job id is = go (dec_le r.round.made job)
  where
    go : Dec (r.round.made ≤ job) → job < r.round.made
    go (yes more) = absurd (some-ne-none id (sym is ∙ (r.unmade job more).0))
    go (no less) = lt_of_not-le less

tries_at : (m : State) (id : ℕ) (p : Pass) (s : Board) (r : Kept m s) → get_elem? s.views id ≡ some (Asks p) → (b : Bool) → r.round.taken ≡ b → Placed m r.round.history r.round.holder b s
    → (w : Knows) × (a : Act (Maybe RecordedMonitor)) × Valid s.homes [] a × Kept m (stepped s 0 1 id [] w a) × tried any (Asks p, []) (slice_index s.words 0) (w, carried_after [] a)
tries_at m id p s r at false is pl =
    let mine = r.each id (Asks p) at in
    let kept = pl.kept in
    let items = pl.records.items in
    let w : Knows = HasTurn p r.round.history in
    let count = out_set s.views id (Asks p) w at in
    let total = r.counted in
    let free : slice_index s.words 0 ≡ 0 = ap (λ (l : List ℕ). slice_index l 0) pl.turn in (
      w,
      takes 0 (Some kept),
      ap (λ (l : List (Option (Maybe RecordedMonitor))). get_elem? l 0) pl.slot,
      record {
        round = taken_by r.round id;
        is_history = r.is_history;
        placed = record {
          turn = ap (λ (l : List ℕ). set l 0 1) pl.turn;
          slot = ap (λ (l : List (Option (Maybe RecordedMonitor))). set l 0 none) pl.slot;
          pass = p;
          knows = set_there s.views id (Asks p) w at;
        };
        counted = omega arith;
        bounded = r.bounded;
        unmade = r.unmade;
        each = each_set (Knowing m (taken_by r.round id)) s.views id w (record { fits = mine; is_holder = refl; is_taken = refl; found_is = refl })
            (λ j u _ e. untaken m r.round id j u is (r.each j u e));
      },
      (
        (λ _. (
          kept,
          ap (λ (l : List Entry). (HasTurn p l, (0, Some kept) ∷ [])) (sym items),
          record {
            is_history = subst (λ (x : State × List Entry). IsHistory x.0 x.1) (λ i. (sym mine.opening_is i, sym items i)) r.is_history;
            state = pl.records.state ∙ (λ i. after (sym mine.opening_is i) (sym items i));
            part = record { seen = subst (λ (l : List Entry). StartsWith l p.seen) (sym items) mine.part.seen; mine = ap (part_of p.job) items ∙ mine.part.mine };
            is_job = let below = was_made m s r p.job id mine.owns in let most = r.bounded in let same = ap (λ (x : State). length x.jobs) mine.opening_is in omega arith;
          },
        )),
        (λ busy. absurd (busy free)),
      ),
    )
tries_at m id p s r at true is pl =
    let busy : slice_index s.words 0 ≡ 1 = ap (λ (l : List ℕ). slice_index l 0) pl.turn in
    let words : set s.words 0 1 ≡ 1 ∷ [] = ap (λ (l : List ℕ). set l 0 1) pl.turn in (
      Asks p,
      keeps,
      tt,
      subst (λ (views : List Knows). Kept m record { words = set s.words 0 1; homes = s.homes; views = views }) (sym (set_again s.views id (Asks p) at)) record {
        round = r.round;
        is_history = r.is_history;
        placed = subst (λ (b : Bool). Placed m r.round.history r.round.holder b record { words = set s.words 0 1; homes = s.homes; views = s.views }) (sym is)
            (record { turn = words; slot = pl.slot; pass = pl.pass; knows = pl.knows });
        counted = r.counted;
        bounded = r.bounded;
        unmade = r.unmade;
        each = r.each;
      },
      ((λ free. absurd (omega arith)), (λ _. refl)),
    )

pub tries : (m : State) (slots id : ℕ) (hand : Hand) (p : Pass) → hand ≡ (Asks p, []) → Allows (Kept m) slots id hand 0 (λ _. 1) (tried any hand)
tries m slots id hand p is =
    subst (λ (x : Hand). Allows (Kept m) slots id x 0 (λ _. 1) (tried any x)) (sym is) (λ s r _ at _. tries_at m id p s r at r.round.taken refl r.placed)

-- ENDING THE TURN

-- a seat that has the turn knows the history, and that the monitor is away
record Held (m : State) (id : ℕ) (p : Pass) (found : List Entry) (s : Board) (r : Kept m s) : Type 0 where
  pub turn : TurnFits m r.round id p found
  pub away : IsAway r.round.history r.round.holder s

holds_it : (m : State) (id : ℕ) (p : Pass) (found : List Entry) (s : Board) (r : Kept m s) → get_elem? s.views id ≡ some (HasTurn p found) → Held m id p found s r
holds_it m id p found s r at =
    let f = r.each id (HasTurn p found) at in
    record { turn = f; away = subst (λ (b : Bool). Placed m r.round.history r.round.holder b s) f.is_taken r.placed }

-- the round after a turn in which the history became this one
abbrev after_turn : Round → List Entry → Round
after_turn round history = record round { history = history; taken = false }

-- what another seat knows stays true if the history grew by entries of the holder's job alone
grew : (m : State) (round : Round) (long : List Entry) (id j : ℕ) (u : Knows) → j ≢ id → id ≡ round.holder → StartsWith long round.history
    → ((job : ℕ) → round.owner job ≢ some id → part_of job long ≡ part_of job round.history) → Knowing m round j u → Knowing m (after_turn round long) j u
grew m round long id j (Spare p) other mine more same f = record {
  is_spare = f.is_spare;
  opening_is = f.opening_is;
  made_is = f.made_is;
  gone_is = f.gone_is;
  seen = starts_trans long round.history p.seen more f.seen;
  ended = λ k e at. let h = f.ended k e at in record {
    below = h.below;
    unowned = h.unowned;
    part = part_on long round.history e more (same e.job (λ is. some-ne-none id (sym is ∙ h.unowned))) h.part;
  };
  apart = f.apart;
}
grew m round long id j (Asks p) other mine more same f = record {
  opening_is = f.opening_is;
  owns = f.owns;
  part = part_on long round.history p more (same p.job (λ is. other (some-injective j id (sym f.owns ∙ is)))) f.part;
}
grew m round long id j (HasTurn p found) other mine more same f = absurd (other (f.is_holder ∙ sym mine))
grew m round long id j Spent other mine more same f = tt

-- the turn ends, with this history
gives_back : (m : State) (id : ℕ) (p p' : Pass) (found long : List Entry) (kept : RecordedMonitor) (s : Board) (r : Kept m s) → get_elem? s.views id ≡ some (HasTurn p found) → Held m id p found s r
    → IsHistory m long → Records m long kept → StartsWith long r.round.history → ((job : ℕ) → r.round.owner job ≢ some id → part_of job long ≡ part_of job r.round.history) → Fits m long r.round.owner id p'
    → Kept m (stepped s 0 0 id ((0, Some kept) ∷ []) (Asks p') gives)
gives_back m id p p' found long kept s r at h is_history records more same fits =
    let count = out_set s.views id (HasTurn p found) (Asks p') at in
    let total = r.counted in
    record {
      round = after_turn r.round long;
      is_history = is_history;
      placed = record {
        turn = ap (λ (l : List ℕ). set l 0 0) h.away.turn;
        kept = kept;
        slot = ap (λ (l : List (Option (Maybe RecordedMonitor))). set l 0 (some (Some kept))) h.away.slot;
        records = records;
      };
      counted = omega arith;
      bounded = r.bounded;
      unmade = λ job above. let u = r.unmade job above in (u.0, same job (λ e. some-ne-none id (sym e ∙ u.0)) ∙ u.1);
      each = each_set (Knowing m (after_turn r.round long)) s.views id (Asks p') fits
          (λ j u other e. grew m r.round long id j u other h.turn.is_holder more same (r.each j u e));
    }

-- no entry was added
pub ends_as_found : (m : State) (slots id : ℕ) (hand : Hand) (p : Pass) (found : List Entry) (kept : RecordedMonitor) → hand ≡ (HasTurn p found, (0, Some kept) ∷ []) → Records p.opening found kept
    → Allows (Kept m) slots id hand 0 (λ _. 0) (ended_as_found any hand)
ends_as_found m slots id hand p found kept is records = subst (λ (x : Hand). Allows (Kept m) slots id x 0 (λ _. 0) (ended_as_found any x)) (sym is) (λ s r _ at _.
    let h = holds_it m id p found s r at in
    let f = h.turn in (
      Asks p,
      gives,
      tt,
      gives_back m id p p found r.round.history kept s r at h r.is_history
          (record { items = records.items ∙ f.found_is; state = records.state ∙ (λ i. after (f.fits.opening_is i) (f.found_is i)) })
          (starts_all r.round.history) (λ job _. refl) f.fits,
      refl,
    ))

-- one entry was added
pub ends_with_entry : (m : State) (slots id : ℕ) (hand : Hand) (p : Pass) (found : List Entry) (entry : Entry) (kept : RecordedMonitor) → hand ≡ (HasTurn p found, (0, Some kept) ∷ []) → entry.job ≡ p.job
    → IsHistory p.opening (found ++ entry ∷ []) → Records p.opening (found ++ entry ∷ []) kept → Allows (Kept m) slots id hand 0 (λ _. 0) (ended_with_entry any hand)
ends_with_entry m slots id hand p found entry kept is job is_history records = subst (λ (x : Hand). Allows (Kept m) slots id x 0 (λ _. 0) (ended_with_entry any x)) (sym is) (λ s r _ at _.
    let h = holds_it m id p found s r at in
    let f = h.turn in
    let long = found ++ entry ∷ [] in
    let p' = grown p kept.history.items in (
      Asks p',
      gives,
      tt,
      gives_back m id p p' found long kept s r at h
          (subst (λ (x : State). IsHistory x long) f.fits.opening_is is_history)
          (record { items = records.items; state = records.state ∙ ap (λ (x : State). after x long) f.fits.opening_is })
          (entry ∷ [], ap (λ (l : List Entry). l ++ entry ∷ []) f.found_is)
          (λ other ne. part_push_other other found entry (λ same. ne (ap r.round.owner (sym same ∙ job) ∙ f.fits.owns)) ∙ ap (part_of other) f.found_is)
          (record {
            opening_is = f.fits.opening_is;
            owns = f.fits.owns;
            part = record {
              seen = ([], sym (append-nil long) ∙ ap (λ (l : List Entry). l ++ []) (sym records.items));
              mine = ap (part_of p.job) (sym records.items);
            };
          }),
      refl,
    ))
