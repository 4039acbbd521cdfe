-- What was read, and what a run leaves for its report.
use Rattle.std.proofs.Common.{◌≡◌, ℕ, true, false, List, ◌∷◌, [], map, Option, Some, None, Ok, Err, inl, inr, ⊎_elim, refl, sym, ap, ◌∙◌}
use Rattle.std.specs.Prelude.{Result, IsOk}
use Rattle.deck_model.specs.declared.faults.DeckCause.{DeckCause}
use Rattle.deck_model.specs.declared.faults.DeckFault.{DeckFault}
use Rattle.deck_model.specs.Deck as model
use Rattle.deck_model.specs.Spelling.{Spelled}
use Rattle.deck_model.specs.Refusals.{Refused}
use Rattle.deck_model.specs.Reading.{Yields, Refuses as RefusesAt}
use Rattle.deck_model.proofs.ReadingLaws.{spelled_told, refused_told}
use Rattle.deck_reader.specs.declared.decks.Deck.{Deck}
use Rattle.deck_reader.specs.declared.decks.Terminal.{Terminal}
use Rattle.time_sharing.specs.declared.outcomes.Failure.{Failure}
use Rattle.time_sharing.specs.declared.outcomes.Failure.TheVariants as failure
use Rattle.deck_reader.specs.Seen.{terminal_of, deck_of}
use Rattle.report_texts.specs.Names.{names_of}
use Rattle.time_sharing.specs.Headline.{FoundDeck, SpellsDeck, SpellsNone, DeckFails, Refuses, OverDeck}
use Rattle.time_sharing.specs.TwoEnds.{Ends, NothingGiven, OkOrLacked, EndsTooLong}
use Rattle.time_sharing.specs.SourceEnds.{WhyNone}
use Rattle.rsts_io.specs.declared.whole.TheConstants.{INPUT_LIMIT}
use Rattle.rsts_io.specs.Whole.{AreAll, IsOverLimit, BrokeOff}

-- what a source reports to be left is what was read of it to its end
pub read_is : (bytes read : List ℕ) (left left' : Option (List ℕ)) → AreAll bytes left left' → left ≡ Some read → read ≡ bytes
read_is bytes read None left' all told = absurd (cc)
read_is bytes read (Some left) left' all told =
    let same : left ≡ read = (cc) in
    sym same ∙ all.0

-- bytes that spell a deck are not rejected, and bytes that are rejected are for one cause at one
-- line
pub never_both : (bytes : List ℕ) (deck : model.Deck) (fault : DeckFault) → Spelled bytes deck → Refused bytes fault.line fault.cause → ⊥
never_both bytes deck fault s r = not_both deck fault.line fault.cause (sym (spelled_told bytes deck s) ∙ refused_told bytes fault.line fault.cause r)
  where
    not_both : (d : model.Deck) (l : ℕ) (why : DeckCause) → Yields d ≡ RefusesAt l why → ⊥
    not_both d l why e = cc

pub same_fault : (bytes : List ℕ) (fault other : DeckFault) → Refused bytes fault.line fault.cause → Refused bytes other.line other.cause → fault ≡ other
same_fault bytes fault other r q =
    let e = sym (refused_told bytes fault.line fault.cause r) ∙ refused_told bytes other.line other.cause q in
    λ i. record { line = line_is fault.line other.line fault.cause other.cause e i; cause = why_is fault.line other.line fault.cause other.cause e i }
  where
    line_is : (l m : ℕ) (x y : DeckCause) → RefusesAt l x ≡ RefusesAt m y → l ≡ m
    line_is l m x y e = cc

    why_is : (l m : ℕ) (x y : DeckCause) → RefusesAt l x ≡ RefusesAt m y → x ≡ y
    why_is l m x y e = cc

pub names_are : (terminals : List Terminal) → names_of terminals ≡ map (λ (terminal : model.Terminal). terminal.name) (map terminal_of terminals)
names_are [] = refl
names_are (terminal ∷ terminals) = ap (λ (names : List (List ℕ)). terminal.name ∷ names) (names_are terminals)

-- THE RESULT OF A WORD, a value of some type or a failure

err_of : (A : Type 0) → Failure → Result A Failure
err_of A why = Err why

ok_of : (A : Type 0) → A → Result A Failure
ok_of A done = Ok done

same_failure : (A : Type 0) (why other : Failure) → err_of A why ≡ err_of A other → why ≡ other
unfolding err_of
same_failure A why other e = cc

not_err : (A : Type 0) (done : A) (why : Failure) → ok_of A done ≡ err_of A why → ⊥
unfolding ok_of err_of
not_err A done why e = cc

not_ok : (A : Type 0) (why : Failure) → IsOk (err_of A why) → ⊥
unfolding err_of
not_ok A why ok =
    let e : false ≡ true = ok in
    cc

-- a failure with results of one type is that failure with those of another
err_is : (A B : Type 0) (why other : Failure) → err_of A why ≡ err_of A other → err_of B why ≡ err_of B other
err_is A B why other e = ap (err_of B) (same_failure A why other e)

-- IF THERE IS NO DECK

why_fails : (IsOutput : model.Deck → List ℕ → Type 0) (before after : Ends) (why : Failure) → WhyNone why before.source after.source → NothingGiven before after → DeckFails IsOutput before after why
why_fails IsOutput before after (failure.Deck fault) none given = record { found = none; given = given }
why_fails IsOutput before after failure.ReadFault rose given = record { fault = rose; given = given }
why_fails IsOutput before after failure.TooLong taken given = record { taken = taken; given = given }
why_fails IsOutput before after failure.NoMemory stayed given = record { no_fault = stayed; given = given }
why_fails IsOutput before after failure.WriteFault never given = absurd never
why_fails IsOutput before after (failure.History fault) never given = absurd never

-- the program reports that, and nothing else
pub stopped_answers : (A : Type 0) (Says : A → Type 0) (IsOutput : model.Deck → List ℕ → Type 0) (why : Failure) (before after : Ends) → WhyNone why before.source after.source → NothingGiven before after → EndsTooLong {A = Deck} INPUT_LIMIT before.source after.source (Err why)
    → (SpellsDeck before.source after.source → OkOrLacked {A = Deck} (Err why)) → Refuses {A = Deck} before.source after.source (Err why) → OverDeck {A = A} Says IsOutput before after (Err why)
unfolding err_of
stopped_answers A Says IsOutput why before after none given stop find refuse = record {
  ok = tt;
  failed = why_fails IsOutput before after why none given;
  must_be_too_long = λ over. err_is Deck A why failure.TooLong (stop over);
  must_refuse = λ fault told. ⊎_elim (λ refused. inl (err_is Deck A why (failure.Deck fault) refused)) (λ e. inr (err_is Deck A why failure.NoMemory e)) (refuse fault told);
  completes = λ fair. ⊎_elim (λ ok. absurd (not_ok Deck why ok)) (λ e. inr (err_is Deck A why failure.NoMemory e)) (find fair.source);
}

-- IF A DECK WAS FOUND

module _ (A : Type 0) (Says : A → Type 0) (IsOutput : model.Deck → List ℕ → Type 0) (deck : Deck) (before after : Ends) (stop : EndsTooLong {A = Deck} INPUT_LIMIT before.source after.source (Ok deck)) (refuse : Refuses {A = Deck} before.source after.source (Ok deck)) where
  not_too_long : IsOverLimit INPUT_LIMIT before.source after.source → ⊥
  unfolding ok_of err_of
  not_too_long over = not_err Deck deck failure.TooLong (stop over)

  not_refused : (fault : DeckFault) → SpellsNone fault before.source after.source → ⊥
  unfolding ok_of err_of
  not_refused fault none = ⊎_elim (not_err Deck deck (failure.Deck fault)) (not_err Deck deck failure.NoMemory) (refuse fault none)

  -- all was written of it
  pub wrote_answers : (done : A) → Says done → OverDeck {A = A} Says IsOutput before after (Ok done)
  wrote_answers done says = record {
    ok = says;
    failed = tt;
    must_be_too_long = λ over. absurd (not_too_long over);
    must_refuse = λ fault none. absurd (not_refused fault none);
    completes = λ fair. inl refl;
  }

  -- the sink failed
  pub broke_answers : (output : List ℕ) → FoundDeck (deck_of deck) before.source after.source → IsOutput (deck_of deck) output → BrokeOff output before.sink after.sink → OverDeck {A = A} Says IsOutput before after (Err failure.WriteFault)
  broke_answers output found is broke = record {
    ok = tt;
    failed = record { deck = deck_of deck; found = found; output = output; is_output = is; broke_off = broke };
    must_be_too_long = λ over. absurd (not_too_long over);
    must_refuse = λ fault none. absurd (not_refused fault none);
    completes = λ fair. absurd (fair.sink broke.fault);
  }

  -- memory ran out
  pub lacked_answers : FoundDeck (deck_of deck) before.source after.source → NothingGiven before after → OverDeck {A = A} Says IsOutput before after (Err failure.NoMemory)
  lacked_answers found given = record {
    ok = tt;
    failed = record { no_fault = found.input.no_fault; given = given };
    must_be_too_long = λ over. absurd (not_too_long over);
    must_refuse = λ fault none. inr refl;
    completes = λ fair. inr refl;
  }
