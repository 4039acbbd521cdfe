-- What an input says, and the result of its replay.
use Rattle.std.proofs.Common.{◌≡◌, ℕ, List, Ok, Err, inl, refl, sym, ap, subst, ◌∙◌, arith}
use Rattle.monitor_calls.specs.declared.calls.Entry.{Entry}
use Rattle.deck_model.specs.Deck.{Deck}
use Rattle.deck_model.specs.Spelling.{Spelled}
use Rattle.deck_model.specs.Refusals.{Refused}
use Rattle.deck_model.specs.Reading.{Yields}
use Rattle.deck_model.specs.declared.faults.DeckFault.{DeckFault}
use Rattle.deck_model.proofs.ReadingLaws.{spelled_told}
use Rattle.rsts_io.specs.Ends.{SourceState}
use Rattle.time_sharing.specs.declared.outcomes.HistoryFault.{HistoryFault}
use Rattle.time_sharing.specs.declared.outcomes.Failure.TheVariants as failure
use Rattle.time_sharing.specs.declared.replays.InputFault.{InputFault}
use Rattle.time_sharing.specs.declared.replays.InputFault.TheVariants as faults
use Rattle.rsts_io.specs.declared.whole.TheConstants.{REPLAY_LIMIT}
use Rattle.time_sharing.specs.Disputes.{Disputes}
use Rattle.time_sharing.specs.InputEnds.{TellsFault, fault_failure}
use Rattle.time_sharing.specs.Inputs.{line_behind}
use Rattle.time_sharing.specs.Replays.{Retells, BehindDeck, TellsRun, TellsDispute, TellsNoDeck, ToldInput, Replays}
use Rattle.rsts_io.specs.Whole.{IsInput, IsOverLimit, Written, BrokeOff}
use Rattle.time_sharing.specs.TwoEnds.{Ends, NothingGiven}
use Rattle.time_sharing.proofs.DisputeLemmas.{one_dispute, never_disputed}
use Rattle.time_sharing.proofs.InputLemmas.{one_division}
use Rattle.time_sharing.proofs.SystemLemmas.{read_is, never_both, same_fault}

-- VERDICTS ON AN INPUT

same_deck : (bytes : List ℕ) (deck other : Deck) → Spelled bytes deck → Spelled bytes other → deck ≡ other
same_deck bytes deck other s t = let e = sym (spelled_told bytes deck s) ∙ spelled_told bytes other t in deck_is deck other e
  where
    deck_is : (d d' : Deck) → Yields d ≡ Yields d' → d ≡ d'
    deck_is d d' e = cc

-- two facts about what follows the deck of one input are about the same deck and text
module _ (P Q : Deck → List ℕ → ℕ → Type 0) (input : List ℕ) (a : BehindDeck P input) (b : BehindDeck Q input) where
  parts : (a.part ≡ b.part) × (a.text ≡ b.text)
  parts = one_division input a.part a.text b.part b.text a.divided b.divided

  deck_is : b.deck ≡ a.deck
  deck_is = same_deck a.part b.deck a.deck (subst (λ (part : List ℕ). Spelled part b.deck) (sym parts.0) b.spelled) a.spelled

  other_so : Q a.deck a.text (line_behind a.part)
  other_so =
      subst (λ (part : List ℕ). Q a.deck a.text (line_behind part)) (sym parts.0)
      (subst (λ (text : List ℕ). Q a.deck text (line_behind b.part)) (sym parts.1)
      (subst (λ (deck : Deck). Q deck b.text (line_behind b.part)) deck_is b.is_so))

deck_or_none : (P : Deck → List ℕ → ℕ → Type 0) (input : List ℕ) (fault : DeckFault) → BehindDeck P input → TellsNoDeck fault input → ⊥
deck_or_none P input fault a b =
    let same = one_division input a.part a.text b.part b.text a.divided b.divided in
    never_both a.part a.deck fault a.spelled (subst (λ (part : List ℕ). Refused part fault.line fault.cause) (sym same.0) b.refused)

one_refusal : (input : List ℕ) (fault other : DeckFault) → TellsNoDeck fault input → TellsNoDeck other input → fault ≡ other
one_refusal input fault other a b =
    let same = one_division input a.part a.text b.part b.text a.divided b.divided in
    same_fault a.part fault other a.refused (subst (λ (part : List ℕ). Refused part other.line other.cause) (sym same.0) b.refused)

run_or_dispute : (input : List ℕ) (history : List Entry) (output : List ℕ) (fault : HistoryFault) → TellsRun history output input → TellsDispute fault input → ⊥
run_or_dispute input history output fault a b =
    let told : Retells history output a.deck a.text = a.is_so in
    let disputed = other_so (λ deck text first. Retells history output deck text) (Disputes fault) input a b in
    never_disputed a.deck a.text (line_behind a.part) history output fault told disputed

one_dispute_told : (input : List ℕ) (fault other : HistoryFault) → TellsDispute fault input → TellsDispute other input → fault ≡ other
one_dispute_told input fault other a b = one_dispute a.deck a.text (line_behind a.part) fault other a.is_so (other_so (Disputes fault) (Disputes other) input a b)

-- THE RESULT

-- what an input had, and what it says
told_so : (IsSo : List ℕ → Type 0) (read : List ℕ) (old new : SourceState) → IsInput REPLAY_LIMIT read old new → ToldInput IsSo old new → IsSo read
told_so IsSo read old new input told = subst IsSo (read_is read told.read old.left new.left input.all told.told.told) told.is_so

not_over : (limit : ℕ) (read : List ℕ) (old new : SourceState) → IsInput limit read old new → IsOverLimit limit old new → ⊥
not_over limit read old new input over = omega (arith, input.count, input.most, over)

-- if the input was read to its end
module _ (read : List ℕ) (before after : Ends) (input : IsInput REPLAY_LIMIT read before.source after.source) where
  over_never : IsOverLimit REPLAY_LIMIT before.source after.source → ⊥
  over_never over = not_over REPLAY_LIMIT read before.source after.source input over

  -- what is so of the input that the source reports is so of what was read
  read_so : (IsSo : List ℕ → Type 0) → ToldInput IsSo before.source after.source → IsSo read
  read_so IsSo told = told_so IsSo read before.source after.source input told

  -- the input has a run
  module _ (history : List Entry) (output : List ℕ) (run : TellsRun history output read) where
    not_refused : (fault : DeckFault) → ToldInput (TellsNoDeck fault) before.source after.source → ⊥
    not_refused fault told = deck_or_none (λ deck text first. Retells history output deck text) read fault run (read_so (TellsNoDeck fault) told)

    not_disputed : (fault : HistoryFault) → ToldInput (TellsDispute fault) before.source after.source → ⊥
    not_disputed fault told = run_or_dispute read history output fault run (read_so (TellsDispute fault) told)

    pub replayed_answers : Written output before.sink after.sink → Replays before after (Ok history)
    replayed_answers written = record {
      ok = record { output = output; found = record { read = read; input = input; is_so = run }; written = written };
      failed = tt;
      must_be_too_long = λ over. absurd (over_never over);
      must_refuse = λ fault told. absurd (not_refused fault told);
      must_dispute = λ fault told. absurd (not_disputed fault told);
      completes = λ fair. inl refl;
    }

    pub report_broke_answers : BrokeOff output before.sink after.sink → Replays before after (Err failure.WriteFault)
    report_broke_answers broke = record {
      ok = tt;
      failed = record { history = history; output = output; found = record { read = read; input = input; is_so = run }; broke_off = broke };
      must_be_too_long = λ over. absurd (over_never over);
      must_refuse = λ fault told. absurd (not_refused fault told);
      must_dispute = λ fault told. absurd (not_disputed fault told);
      completes = λ fair. absurd (fair.sink broke.fault);
    }

  no_deck_answers : (fault : DeckFault) → TellsNoDeck fault read → NothingGiven before after → Replays before after (Err (failure.Deck fault))
  no_deck_answers fault none given = record {
    ok = tt;
    failed = record { found = record { read = read; input = input; is_so = none }; given = given };
    must_be_too_long = λ over. absurd (over_never over);
    must_refuse = λ other told. inl (ap (λ (f : DeckFault). Err (failure.Deck f)) (one_refusal read fault other none (read_so (TellsNoDeck other) told)));
    must_dispute = λ other told. absurd (deck_or_none (Disputes other) read fault (read_so (TellsDispute other) told) none);
    completes = λ fair. absurd (deck_or_none (λ deck text first. Retells fair.history fair.output deck text) read fault (read_so (TellsRun fair.history fair.output) fair.source) none);
  }

  disputed_answers : (fault : HistoryFault) → TellsDispute fault read → NothingGiven before after → Replays before after (Err (failure.History fault))
  disputed_answers fault disputed given = record {
    ok = tt;
    failed = record { found = record { read = read; input = input; is_so = disputed }; given = given };
    must_be_too_long = λ over. absurd (over_never over);
    must_refuse = λ other told. absurd (deck_or_none (Disputes fault) read other disputed (read_so (TellsNoDeck other) told));
    must_dispute = λ other told. inl (ap (λ (f : HistoryFault). Err (failure.History f)) (one_dispute_told read fault other disputed (read_so (TellsDispute other) told)));
    completes = λ fair. absurd (run_or_dispute read fair.history fair.output fault (read_so (TellsRun fair.history fair.output) fair.source) disputed);
  }

  pub fault_answers : (fault : InputFault) → TellsFault fault read → NothingGiven before after → Replays before after (Err (fault_failure fault))
  fault_answers (faults.Deck fault) none given = no_deck_answers fault none given
  fault_answers (faults.History fault) disputed given = disputed_answers fault disputed given
