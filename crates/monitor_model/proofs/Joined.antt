-- The bytes of the print jobs, joined, are all that is printed.
use Rattle.std.proofs.Common.{◌≡◌, ◌≢◌, ℕ, ◌==◌, Bool, true, false, cond, List, [], ◌∷◌, ◌++◌, refl, sym, ap, ◌∙◌, subst, inl, inr, ◌⊎◌, Some, None}
use Rattle.std.specs.Prelude.{Option}
use Rattle.std.proofs.lemmas.Bool.{true≢false, eqb-true, eqb-false}
use Rattle.std.proofs.lemmas.List.{append_assoc}
use Rattle.monitor_calls.specs.declared.calls.Entry.{Entry}
use Rattle.monitor_calls.specs.declared.calls.Request.{Request}
use Rattle.monitor_calls.specs.declared.calls.Request.TheVariants.{OpenPrinter, Print}
use Rattle.monitor_calls.specs.declared.calls.Reply.{Reply}
use Rattle.monitor_calls.specs.declared.calls.Reply.TheVariants.{Done}
use Rattle.monitor_model.specs.Printing.{is_printing}
use Rattle.monitor_model.specs.State.{State}
use Rattle.monitor_model.specs.Answer.{next}
use Rattle.monitor_model.specs.Good.{Good}
use Rattle.monitor_model.specs.History.{IsAnswered, Legal}
use Rattle.monitor_model.specs.Listings.{is_finish, is_begin, printed_by, printed, listing, listings, joined, uses_printer}
use Rattle.monitor_model.specs.Laws.{ListingsAreAll}
use Rattle.monitor_model.proofs.Tools.{either, by_test}
use Rattle.monitor_model.proofs.GoodLaw.{good_after}
use Rattle.monitor_model.proofs.PrinterLemmas.{prints_has, one_has}
use Rattle.monitor_model.proofs.PrinterCalls.{goes_on, came_from, stopped, begun, begun_once, had_begun, not_done}

-- WHAT A CALL ADDS

begin_is : (request : Request) (answer : Reply) → is_begin request answer ≡ true → (request ≡ OpenPrinter) × (answer ≡ Done)
begin_is OpenPrinter Done e = (refl, refl)
begin_is request answer e = absurd (cc)

is_begun : (request : Request) (answer : Reply) → request ≡ OpenPrinter → answer ≡ Done → is_begin request answer ≡ true
is_begun request answer asked told = λ i. is_begin (asked i) (told i)

print_is : (request : Request) (answer : Reply) → (printed_by request answer ≡ []) ⊎ ((text : List ℕ) × ((request ≡ Print text) × (answer ≡ Done)))
print_is (Print text) Done = inr (text, (refl, refl))
print_is request answer = inl refl

-- FROM THE START: the job, if one prints, whose print job goes on

abbrev PrintsNow : State → Option ℕ → Type 0
PrintsNow m (Some k) = is_printing m.printer k ≡ true
PrintsNow m None = (k : ℕ) → is_printing m.printer k ≡ false

abbrev going_on : Option ℕ → List Entry → List ℕ
going_on None history = []
going_on (Some k) history = listing k history

-- what is printed is the rest of the print job that goes on, and the print jobs that begin
abbrev Adds : Option ℕ → List Entry → Type 0
Adds who history = printed history ≡ going_on who history ++ joined (listings history)

module _ (m : State) (g : Good m) (entry : Entry) (answered : IsAnswered m entry) (rest : List Entry) where
  abbrev job : ℕ
  job = entry.job

  abbrev new : State
  new = next m entry.job entry.request

  abbrev text : List ℕ
  text = printed_by entry.request entry.reply

  abbrev ends : Bool
  ends = is_finish entry.request entry.reply

  abbrev begins : Bool
  begins = is_begin entry.request entry.reply

  -- the two sides of the entry, by what it is
  abbrev goes : Bool → Bool → List ℕ → List ℕ
  goes own over more = cond own (cond over [] (text ++ more)) more

  abbrev starts : Bool → List ℕ
  starts b = joined (cond b ((job, listing job rest) ∷ listings rest) (listings rest))

  -- bytes are printed by a job that prints, whose print job goes on
  silent : (is_printing m.printer job ≡ true → ends ≡ false → ⊥) → text ≡ []
  silent never =
      either (print_is entry.request entry.reply) (λ none. none)
      (λ p. absurd (never (had_begun m entry answered p.0 p.1.0 p.1.1) (λ i. is_finish (p.1.0 i) (p.1.1 i))))

  -- a job that prints after the entry printed before it, if no print job began
  none_new : begins ≡ false → (k : ℕ) → is_printing new.printer k ≡ true → is_printing m.printer k ≡ true
  none_new off k now =
      either (came_from m entry answered k now) (λ was. was)
      (λ b. absurd (true≢false (sym (is_begun entry.request entry.reply b.1.0 b.1.1) ∙ off)))

  off_by : (entry.request ≡ OpenPrinter → entry.reply ≡ Done → ⊥) → begins ≡ false
  off_by never =
      by_test begins (λ is. let b = begin_is entry.request entry.reply is in absurd (never b.0 b.1)) (λ e. e)

  -- nobody printed
  from_none : PrintsNow m None → ((who : Option ℕ) → PrintsNow new who → Adds who rest) → Adds None (entry ∷ rest)
  from_none none adds =
      let empty : text ≡ [] = silent (λ was on. true≢false (sym was ∙ none job)) in
      ap (λ x. x ++ printed rest) empty ∙
      by_test begins
      (λ is. let b = begin_is entry.request entry.reply is in adds (Some job) (begun m entry answered b.0 b.1) ∙ sym (ap starts is))
      (λ off.
      let still : PrintsNow new None = λ k. by_test (is_printing new.printer k) (λ now. absurd (true≢false (sym (none_new off k now) ∙ none k))) (λ e. e) in
      adds None still ∙ sym (ap starts off))

  -- the job of the entry printed, and ends its print job
  from_ended : PrintsNow m (Some job) → ends ≡ true → begins ≡ false → ((who : Option ℕ) → PrintsNow new who → Adds who rest) → text ++ printed rest ≡ [] ++ starts begins
  from_ended was over off adds =
      let empty : text ≡ [] = silent (λ prints on. true≢false (sym over ∙ on)) in
      let still : PrintsNow new None = λ k. by_test (is_printing new.printer k)
      (λ now.
      let one : job ≡ k = one_has m.printer job k (prints_has m.printer job was) (none_new off k now) in
      absurd (true≢false (sym now ∙ subst (λ j. is_printing new.printer j ≡ false) one (stopped m entry answered g over))))
      (λ e. e) in
      ap (λ x. x ++ printed rest) empty ∙ adds None still ∙ sym (ap starts off)

  -- or goes on with it
  from_own : PrintsNow m (Some job) → ends ≡ false → begins ≡ false → ((who : Option ℕ) → PrintsNow new who → Adds who rest) → text ++ printed rest ≡ (text ++ listing job rest) ++ starts begins
  from_own was on off adds =
      ap (λ x. text ++ x) (adds (Some job) (goes_on m entry answered job was (λ same. on)))
      ∙ sym (append_assoc text (listing job rest) (joined (listings rest)))
      ∙ sym (ap (λ b. (text ++ listing job rest) ++ starts b) off)

  -- another job printed, and goes on
  from_other : (k : ℕ) → PrintsNow m (Some k) → job ≢ k → ((who : Option ℕ) → PrintsNow new who → Adds who rest) → text ++ printed rest ≡ listing k rest ++ starts begins
  from_other k was other adds =
      let empty : text ≡ [] = silent (λ prints on. other (one_has m.printer job k (prints_has m.printer job prints) was)) in
      let off : begins ≡ false = off_by (λ asked told. not_done m entry answered k was other (ap uses_printer asked) told) in
      ap (λ x. x ++ printed rest) empty ∙ adds (Some k) (goes_on m entry answered k was (λ same. absurd (other same)))
      ∙ sym (ap (λ b. listing k rest ++ starts b) off)

  from_some : (k : ℕ) → PrintsNow m (Some k) → ((who : Option ℕ) → PrintsNow new who → Adds who rest) → Adds (Some k) (entry ∷ rest)
  from_some k was adds =
      by_test (job == k)
      (λ own.
      let same : job ≡ k = eqb-true job k own in
      let mine : PrintsNow m (Some job) = subst (λ j. is_printing m.printer j ≡ true) (sym same) was in
      let off : begins ≡ false = off_by (λ asked told. true≢false (sym mine ∙ begun_once m entry answered asked told)) in
      let shows : (over : Bool) → ends ≡ over → goes (job == k) ends (listing k rest) ++ starts begins ≡ goes true over (listing job rest) ++ starts begins = λ over is i. goes (own i) (is i) (listing (sym same i) rest) ++ starts begins in
      by_test ends
      (λ over. from_ended mine over off adds ∙ sym (shows true over))
      (λ on. from_own mine on off adds ∙ sym (shows false on)))
      (λ not_own.
      from_other k was (eqb-false job k not_own) adds ∙ sym (ap (λ b. goes b ends (listing k rest) ++ starts begins) not_own))

adds_all : (history : List Entry) (m : State) → Good m → Legal m history → (who : Option ℕ) → PrintsNow m who → Adds who history
adds_all [] m g legal None now = refl
adds_all [] m g legal (Some k) now = refl
adds_all (entry ∷ history) m g legal None now =
    from_none m g entry legal.0 history now (adds_all history (next m entry.job entry.request) (good_after m entry.job entry.request g) legal.1)
adds_all (entry ∷ history) m g legal (Some k) now =
    from_some m g entry legal.0 history k now (adds_all history (next m entry.job entry.request) (good_after m entry.job entry.request g) legal.1)

pub listings_are_all : ListingsAreAll
listings_are_all m history g free legal =
    sym (adds_all history m g legal None (λ k. ap (λ p. is_printing p k) free))
