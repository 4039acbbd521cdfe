-- What one call does to the printer, and what follows from a successful call.
use Rattle.std.proofs.Common.{◌≡◌, ◌≢◌, ℕ, true, false, List, refl, sym, ap, ◌∙◌, subst, inl, inr, ◌⊎◌, None}
use Rattle.std.specs.Prelude.{◌==◌, ◌&&◌}
use Rattle.std.proofs.lemmas.Bool.{true≢false, not-false, and_parts, eqb-true}
use Rattle.monitor_calls.specs.declared.names.Account.{Account}
use Rattle.monitor_calls.specs.declared.calls.Entry.{Entry}
use Rattle.monitor_calls.specs.declared.calls.Request.{Request}
use Rattle.monitor_calls.specs.declared.calls.Request.TheVariants.{Logout, Assign, OpenPrinter, Print}
use Rattle.monitor_calls.specs.declared.calls.Reply.{Reply}
use Rattle.monitor_calls.specs.declared.calls.Reply.TheVariants.{Done, Failed, Expired}
use Rattle.monitor_model.specs.Jobs.{account_of}
use Rattle.monitor_model.specs.Printing.{Printer, is_printing, assign, open_printer, free_printer}
use Rattle.monitor_model.specs.State.{State}
use Rattle.monitor_model.specs.Answer.{refusals, done, answer_table, counted, next, reply}
use Rattle.monitor_model.specs.Good.{Good}
use Rattle.monitor_model.specs.History.{IsAnswered}
use Rattle.monitor_model.specs.Spans.{is_end}
use Rattle.monitor_model.specs.Listings.{is_finish, uses_printer}
use Rattle.monitor_model.proofs.Outcomes.{NoneApply, attempt_cases, Printing, assigns, deassigns, begins, finishes, table_is, Outcomes, answer_outcomes}
use Rattle.monitor_model.proofs.PrinterLemmas.{self, prints_has, has_not, one_has, none_else, freed, printed_before, prints_on, nobody_prints}

-- WHAT A CALL DOES TO THE PRINTER

pub data Turn (m : State) (job : ℕ) (request : Request) (answer : Reply) (printer : Printer) : Type 0 where
  -- it leaves the printer, since the job is not logged in
  visits : account_of m.jobs job ≡ None → printer ≡ m.printer → Turn m job request answer printer
  -- it leaves it, and ends no print job
  stays : is_finish request answer ≡ false → printer ≡ m.printer → Turn m job request answer printer
  -- it changes it
  changes : answer ≡ Done → Printing (counted m job) job request printer → Turn m job request answer printer
  -- it ends the job
  leaves : is_finish request answer ≡ true → printer ≡ free_printer m.printer job → Turn m job request answer printer

module _ (m : State) (job : ℕ) where
  abbrev Turned : Request → State × Reply → Type 0
  Turned request out = Turn m job request out.1 out.0.printer

  expired_finishes : (request : Request) → is_finish request Expired ≡ true
  expired_finishes Logout = refl
  expired_finishes request = refl

  -- a refusal ends no print job
  refused_goes : (request : Request) (n : ℕ) → is_end 0 request (Failed n) ≡ false → is_finish request (Failed n) ≡ false
  refused_goes Logout n e = absurd (cc)
  refused_goes request n e = refl

  turns : Outcomes m job Turned
  turns = record {
    turned_away = λ request none. visits none refl;
    leaves = λ none. visits none refl;
    logs_in = λ account password none right. stays refl refl;
    stops = λ caller some. leaves refl refl;
    expires = λ request caller some. leaves (expired_finishes request) refl;
    table = λ caller some more. table_is (counted m job) job caller Turned (record {
      idle = λ request reply mild goes fine. stays goes refl;
      posts = λ request reply mild goes fine receivers posting. stays goes refl;
      prints = λ request mild printer printing. changes refl printing;
      opens = λ channel name kind update code low free there right. stays refl refl;
      makes = λ channel name kind update code low free none h. stays refl refl;
      remakes = λ channel name kind update code low free there write unopened output. stays refl refl;
      closes = λ channel is. stays refl refl;
      gets = λ channel block is h. stays refl refl;
      puts = λ channel block page is h. stays refl refl;
      gets_record = λ channel block count is h. stays refl refl;
      puts_record = λ channel block pages is h. stays refl refl;
      unlocks = λ channel is. stays refl refl;
      kills = λ name h. stays refl refl;
      renames = λ old new code h. stays refl refl;
    }) (λ request n mild. stays (refused_goes request n (mild.no_end 0)) refl);
  }

  -- WHO PRINTS AFTER IT

  module _ (k : ℕ) (request : Request) where
    -- who printed, unless the call ended its print job
    on_changed : (printer : Printer) → Printing (counted m job) job request printer → is_printing m.printer k ≡ true → (job ≡ k → is_finish request Done ≡ false) → is_printing printer k ≡ true
    on_changed printer (assigns asked other is) prints goes =
        let same = none_else m.printer job k other prints in
        ap (λ p. is_printing p k) is ∙ subst (λ x. is_printing (assign m.printer x) k ≡ true) (sym same) (λ i. self k i && prints i)
    on_changed printer (deassigns asked own idle is) prints goes =
        let same = one_has m.printer job k own prints in
        absurd (true≢false (sym prints ∙ subst (λ x. is_printing m.printer x ≡ false) same idle))
    on_changed printer (begins asked other is) prints goes =
        let same = none_else m.printer job k other prints in
        ap (λ p. is_printing p k) is ∙ subst (λ x. is_printing (open_printer m.printer x) k ≡ true) (sym same) (ap (λ b. b && true) (self k))
    on_changed printer (finishes asked own is) prints goes =
        let same = one_has m.printer job k (prints_has m.printer job own) prints in
        absurd (true≢false (sym (ap (λ q. is_finish q Done) asked) ∙ goes same))

    goes_on_turn : (answer : Reply) (printer : Printer) → Turn m job request answer printer → is_printing m.printer k ≡ true → (job ≡ k → is_finish request answer ≡ false) → is_printing printer k ≡ true
    goes_on_turn answer printer (visits none same) prints goes = ap (λ p. is_printing p k) same ∙ prints
    goes_on_turn answer printer (stays quiet same) prints goes = ap (λ p. is_printing p k) same ∙ prints
    goes_on_turn answer printer (changes is printing) prints goes =
        on_changed printer printing prints (λ same. sym (ap (is_finish request) is) ∙ goes same)
    goes_on_turn answer printer (leaves ends same) prints goes =
        ap (λ p. is_printing p k) same ∙ prints_on m.printer job k (λ own. true≢false (sym ends ∙ goes own)) prints

    -- and nobody else, except the job that began a print job
    from_changed : (printer : Printer) → Printing (counted m job) job request printer → is_printing printer k ≡ true → (is_printing m.printer k ≡ true) ⊎ ((job ≡ k) × (request ≡ OpenPrinter))
    from_changed printer (assigns asked other is) prints =
        let parts = and_parts (job == k) (is_printing m.printer job) (sym (ap (λ p. is_printing p k) is) ∙ prints) in
        inl (subst (λ j. is_printing m.printer j ≡ true) (eqb-true job k parts.0) parts.1)
    from_changed printer (deassigns asked own idle is) prints =
        absurd (true≢false (sym prints ∙ ap (λ p. is_printing p k) is))
    from_changed printer (begins asked other is) prints =
        let parts = and_parts (job == k) true (sym (ap (λ p. is_printing p k) is) ∙ prints) in
        inr (eqb-true job k parts.0, asked)
    from_changed printer (finishes asked own is) prints =
        absurd (true≢false (sym prints ∙ ap (λ p. is_printing p k) is ∙ nobody_prints m.printer job k))

    from_turn : (answer : Reply) (printer : Printer) → Turn m job request answer printer → is_printing printer k ≡ true → (is_printing m.printer k ≡ true) ⊎ ((job ≡ k) × ((request ≡ OpenPrinter) × (answer ≡ Done)))
    from_turn answer printer (visits none same) prints = inl (sym (ap (λ p. is_printing p k) same) ∙ prints)
    from_turn answer printer (stays quiet same) prints = inl (sym (ap (λ p. is_printing p k) same) ∙ prints)
    from_turn answer printer (changes is printing) prints = began (from_changed printer printing prints) where
      began : (is_printing m.printer k ≡ true) ⊎ ((job ≡ k) × (request ≡ OpenPrinter)) → (is_printing m.printer k ≡ true) ⊎ ((job ≡ k) × ((request ≡ OpenPrinter) × (answer ≡ Done)))
      began (inl was) = inl was
      began (inr new) = inr (new.0, (new.1, is))
    from_turn answer printer (leaves ends same) prints =
        inl (printed_before m.printer job k (sym (ap (λ p. is_printing p k) same) ∙ prints))

  -- what ends a print job leaves the job none
  stopped_changed : (request : Request) (printer : Printer) → Printing (counted m job) job request printer → is_finish request Done ≡ true → is_printing printer job ≡ false
  stopped_changed request printer (assigns asked other is) ends =
      absurd (true≢false (sym ends ∙ ap (λ q. is_finish q Done) asked))
  stopped_changed request printer (deassigns asked own idle is) ends =
      absurd (true≢false (sym ends ∙ ap (λ q. is_finish q Done) asked))
  stopped_changed request printer (begins asked other is) ends =
      absurd (true≢false (sym ends ∙ ap (λ q. is_finish q Done) asked))
  stopped_changed request printer (finishes asked own is) ends =
      ap (λ p. is_printing p job) is ∙ nobody_prints m.printer job job

  stopped_turn : Good m → (request : Request) (answer : Reply) (printer : Printer) → Turn m job request answer printer → is_finish request answer ≡ true → is_printing printer job ≡ false
  stopped_turn g request answer printer (visits none same) ends =
      ap (λ p. is_printing p job) same ∙ has_not m.printer job (g.printer.known job none)
  stopped_turn g request answer printer (stays quiet same) ends = absurd (true≢false (sym ends ∙ quiet))
  stopped_turn g request answer printer (changes is printing) ends =
      stopped_changed request printer printing (sym (ap (is_finish request) is) ∙ ends)
  stopped_turn g request answer printer (leaves ended same) ends =
      ap (λ p. is_printing p job) same ∙ has_not (free_printer m.printer job) job (freed m.printer job)

  -- WHAT FOLLOWS FROM A SUCCESSFUL CALL: it passed the refusal tests of its table entry

  module _ (asked : Request) (P : State → Type 0) where
    abbrev WhereDone : Request → State × Reply → Type 0
    WhereDone request out = request ≡ asked → out.1 ≡ Done → P out.0

    by_row : uses_printer asked ≡ true → ((caller : Account) → NoneApply (refusals (counted m job) job caller asked) → P (done (counted m job) job caller asked).0) → Outcomes m job WhereDone
    by_row uses row = record {
      turned_away = λ request none is e. absurd (cc);
      leaves = λ none is e. absurd (true≢false (sym uses ∙ ap uses_printer (sym is)));
      logs_in = λ account password none right is e. absurd (true≢false (sym uses ∙ ap uses_printer (sym is)));
      stops = λ caller some is e. absurd (true≢false (sym uses ∙ ap uses_printer (sym is)));
      expires = λ request caller some is e. absurd (cc);
      table = λ caller some more request stays is.
          let s = counted m job in
          subst (λ q. (answer_table s job caller q).1 ≡ Done → P (answer_table s job caller q).0) (sym is)
          (attempt_cases (λ out. out.1 ≡ Done → P out.0) s (refusals s job caller asked) (done s job caller asked) (λ n e. absurd (cc)) (λ h e. row caller h));
    }

    pub where_done : uses_printer asked ≡ true → ((caller : Account) → NoneApply (refusals (counted m job) job caller asked) → P (done (counted m job) job caller asked).0) → (request : Request) → request ≡ asked → reply m job request ≡ Done → P (next m job request)
    where_done uses row request is told =
        answer_outcomes m job WhereDone (by_row uses row) request is told

  -- while another job prints, no request that uses the printer passes
  others_row : (k : ℕ) → is_printing m.printer k ≡ true → job ≢ k → (caller : Account) (request : Request) → uses_printer request ≡ true → NoneApply (refusals (counted m job) job caller request) → ⊥
  others_row k prints other caller Assign uses h = other (none_else m.printer job k h.0 prints)
  others_row k prints other caller OpenPrinter uses h = other (none_else m.printer job k h.0 prints)
  others_row k prints other caller (Print text) uses h =
      other (one_has m.printer job k (prints_has m.printer job (not-false _ h.0)) prints)
  others_row k prints other caller request uses h = absurd (cc)

-- ONE ENTRY OF A HISTORY

module _ (m : State) (entry : Entry) (answered : IsAnswered m entry) where
  abbrev job : ℕ
  job = entry.job

  abbrev new : State
  new = next m entry.job entry.request

  turned : Turn m job entry.request entry.reply new.printer
  turned =
      subst (λ r. Turn m job entry.request r new.printer) (sym answered.reply_is) (answer_outcomes m job (Turned m job) (turns m job) entry.request)

  pub goes_on : (k : ℕ) → is_printing m.printer k ≡ true → (job ≡ k → is_finish entry.request entry.reply ≡ false) → is_printing new.printer k ≡ true
  goes_on k = goes_on_turn m job k entry.request entry.reply new.printer turned

  pub came_from : (k : ℕ) → is_printing new.printer k ≡ true → (is_printing m.printer k ≡ true) ⊎ ((job ≡ k) × ((entry.request ≡ OpenPrinter) × (entry.reply ≡ Done)))
  came_from k = from_turn m job k entry.request entry.reply new.printer turned

  pub stopped : Good m → is_finish entry.request entry.reply ≡ true → is_printing new.printer job ≡ false
  stopped g = stopped_turn m job g entry.request entry.reply new.printer turned

  -- an OpenPrinter that was done: its job did not print, and does now
  pub begun : entry.request ≡ OpenPrinter → entry.reply ≡ Done → is_printing new.printer job ≡ true
  begun is told =
      where_done m job OpenPrinter (λ s. is_printing s.printer job ≡ true) refl (λ caller h. ap (λ b. b && true) (self job)) entry.request is (sym answered.reply_is ∙ told)

  pub begun_once : entry.request ≡ OpenPrinter → entry.reply ≡ Done → is_printing m.printer job ≡ false
  begun_once is told =
      where_done m job OpenPrinter (λ s. is_printing m.printer job ≡ false) refl (λ caller h. h.1.0) entry.request is (sym answered.reply_is ∙ told)

  -- a Print that was done: its job prints
  pub had_begun : (text : List ℕ) → entry.request ≡ Print text → entry.reply ≡ Done → is_printing m.printer job ≡ true
  had_begun text is told =
      where_done m job (Print text) (λ s. is_printing m.printer job ≡ true) refl (λ caller h. not-false _ h.0) entry.request is (sym answered.reply_is ∙ told)

  -- while another job prints, nothing that uses the printer is done
  pub not_done : (k : ℕ) → is_printing m.printer k ≡ true → job ≢ k → uses_printer entry.request ≡ true → entry.reply ≢ Done
  not_done k prints other uses told =
      where_done m job entry.request (λ s. ⊥) uses (λ caller. others_row m job k prints other caller entry.request uses) entry.request refl (sym answered.reply_is ∙ told)
