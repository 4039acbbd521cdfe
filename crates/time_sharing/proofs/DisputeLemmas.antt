-- The result of a text for a deck: a run, or one dispute.
use Rattle.std.proofs.Common.{◌≡◌, ℕ, zero, suc, ◌+◌, ◌<◌, List, [], ◌∷◌, ◌++◌, length, Some, refl, sym, ap, subst, ◌∙◌, arith}
use Rattle.std.specs.Prelude.{slice_get}
use Rattle.std.proofs.lemmas.Option.{slice_get_within}
use Rattle.monitor_calls.specs.declared.calls.Entry.{Entry}
use Rattle.monitor_calls.specs.Typing.{all_typed}
use Rattle.monitor_model.specs.State.{State}
use Rattle.monitor_model.specs.Answer.{next}
use Rattle.monitor_model.specs.History.{after, IsAnswered, Legal, part_of}
use Rattle.monitor_model.proofs.Histories.{legal_rest}
use Rattle.deck_model.specs.Deck.{Deck, Terminal}
use Rattle.history_reader.specs.HistoryReading.{TellsHistory}
use Rattle.history_reader.proofs.HistoryLaws.{history_is_one, wrong_place_is_one}
use Rattle.history_replay.specs.Disputes.{WrongReply, entry_position}
use Rattle.time_sharing.specs.declared.outcomes.HistoryCause.{HistoryCause}
use Rattle.time_sharing.specs.declared.outcomes.HistoryCause.TheVariants as cause
use Rattle.time_sharing.specs.declared.outcomes.HistoryFault.{HistoryFault}
use Rattle.time_sharing.specs.Disputes.{WrongForm, AtEntry, TalksOtherwise, WrongRequest, DisputesFor, Disputes}
use Rattle.time_sharing.specs.Replays.{Retells}
use Rattle.time_sharing.specs.Runs.{IsRun, opening_of}
use Rattle.time_sharing.proofs.TalkLemmas.{same_unless, not_otherwise, one_otherwise}

-- LISTS

module _ {A : Type 0} where
  pub some_at : (xs : List A) (k : ℕ) → k < length xs → (x : A) × (slice_get xs k ≡ Some x)
  some_at [] k less = absurd (omega (arith, less))
  some_at (x ∷ xs) zero less = (x, refl)
  some_at (x ∷ xs) (suc k) less = some_at xs k (omega (arith, less))

  same_at : (xs : List A) (k : ℕ) (x y : A) → slice_get xs k ≡ Some x → slice_get xs k ≡ Some y → x ≡ y
  same_at xs k x y e f = cc

-- WRONG REPLIES

-- a wrong reply is in no legal history
reply_or_legal : (m : State) (history : List Entry) (place : ℕ) → WrongReply m history place → Legal m history → ⊥
reply_or_legal m history place w legal = w.wrong (legal_rest m w.before (w.entry ∷ w.behind) (subst (Legal m) w.split legal)).0

first_reply : (m : State) (before behind before' behind' : List Entry) (entry entry' : Entry) → before ++ entry ∷ behind ≡ before' ++ entry' ∷ behind' → Legal m before → Legal m before' → (IsAnswered (after m before) entry → ⊥) → (IsAnswered (after m before') entry' → ⊥) → length before ≡ length before'
first_reply m [] behind [] behind' entry entry' e legal legal' wrong wrong' = refl
first_reply m [] behind (other ∷ before') behind' entry entry' e legal legal' wrong wrong' =
    let same : other ≡ entry = cc in absurd (wrong (subst (IsAnswered m) same legal'.0))
first_reply m (first ∷ before) behind [] behind' entry entry' e legal legal' wrong wrong' =
    let same : first ≡ entry' = cc in absurd (wrong' (subst (IsAnswered m) same legal.0))
first_reply m (first ∷ before) behind (other ∷ before') behind' entry entry' e legal legal' wrong wrong' =
    let same : other ≡ first = cc in
    let goes_on : Legal (next m first.job first.request) before' = subst (λ (x : Entry). Legal (next m x.job x.request) before') same legal'.1 in
    let goes_wrong : IsAnswered (after (next m first.job first.request) before') entry' → ⊥ = subst (λ (x : Entry). IsAnswered (after (next m x.job x.request) before') entry' → ⊥) same wrong' in
    ap suc (first_reply (next m first.job first.request) before behind before' behind' entry entry' (cc) legal.1 goes_on wrong goes_wrong)

one_reply : (m : State) (history : List Entry) (p q : ℕ) → WrongReply m history p → WrongReply m history q → p ≡ q
one_reply m history p q w v =
    w.place_is ∙ first_reply m w.before w.behind v.before v.behind w.entry v.entry (sym w.split ∙ v.split) w.legal v.legal w.wrong v.wrong ∙ sym v.place_is

-- WRONG REQUESTS

-- a terminal whose session differs is not before one that has this session
job_later : (deck : Deck) (history : List Entry) (p q : ℕ) (w : WrongRequest deck history p) (v : WrongRequest deck history q) → w.job < v.job → ⊥
job_later deck history p q w v less =
    let talked = v.earlier w.job w.terminal less w.is_terminal in
    not_otherwise (all_typed w.terminal.keys) (part_of w.job history) talked.0 w.place talked.1 w.otherwise

one_request : (deck : Deck) (history : List Entry) (p q : ℕ) → WrongRequest deck history p → WrongRequest deck history q → p ≡ q
one_request deck history p q w v =
    let job : w.job ≡ v.job = same_unless w.job v.job (job_later deck history p q w v) (job_later deck history q p v w) in
    let terminal : w.terminal ≡ v.terminal = same_at deck.terminals v.job w.terminal v.terminal (subst (λ (j : ℕ). slice_get deck.terminals j ≡ Some w.terminal) job w.is_terminal) v.is_terminal in
    let there = subst (λ (j : ℕ). TalksOtherwise (all_typed w.terminal.keys) (part_of j history) w.place) job w.otherwise in
    let otherwise : TalksOtherwise (all_typed v.terminal.keys) (part_of v.job history) w.place = subst (λ (t : Terminal). TalksOtherwise (all_typed t.keys) (part_of v.job history) w.place) terminal there in
    let place : w.place ≡ v.place = one_otherwise (all_typed v.terminal.keys) (part_of v.job history) w.place v.place otherwise v.otherwise in
    w.entry_is ∙ (λ i. entry_position (job i) (place i) history) ∙ sym v.entry_is

-- in a run all terminals have their sessions
run_or_request : (deck : Deck) (history : List Entry) (screens : List (List ℕ)) (p : ℕ) → IsRun deck history screens → WrongRequest deck history p → ⊥
run_or_request deck history screens p run w =
    let within = slice_get_within deck.terminals w.job w.terminal w.is_terminal in
    let screen = some_at screens w.job (omega (arith, within, run.talks.as_many)) in
    not_otherwise (all_typed w.terminal.keys) (part_of w.job history) screen.0 w.place (run.talks.each w.job w.terminal screen.0 w.is_terminal screen.1) w.otherwise

-- ONE VERDICT ON A TEXT

no_form : (text : List ℕ) (history : List Entry) (first line : ℕ) → WrongForm text first line → TellsHistory text history → ⊥
no_form text history first line form tells = form.wrong.none history tells

-- two facts of the entries of one text
one_line : (P Q : List Entry → ℕ → Type 0) (text : List ℕ) (first line other : ℕ) → ((history : List Entry) (p q : ℕ) → P history p → Q history q → p ≡ q) → AtEntry P text first line → AtEntry Q text first other → line ≡ other
one_line P Q text first line other one a b =
    let same : b.history ≡ a.history = history_is_one text b.history a.history b.tells a.tells in
    let entry : a.entry ≡ b.entry = one a.history a.entry b.entry a.is_so (subst (λ (history : List Entry). Q history b.entry) same b.is_so) in
    a.line_is ∙ ap (λ (entry : ℕ). first + 1 + entry) entry ∙ sym b.line_is

never : (P Q : List Entry → ℕ → Type 0) (text : List ℕ) (first line other : ℕ) → ((history : List Entry) (p q : ℕ) → P history p → Q history q → ⊥) → AtEntry P text first line → AtEntry Q text first other → ⊥
never P Q text first line other none a b =
    let same : b.history ≡ a.history = history_is_one text b.history a.history b.tells a.tells in
    none a.history a.entry b.entry a.is_so (subst (λ (history : List Entry). Q history b.entry) same b.is_so)

module _ (deck : Deck) (text : List ℕ) (first : ℕ) where
  no_both : (line line' : ℕ) → AtEntry (WrongReply (opening_of deck)) text first line → AtEntry (WrongRequest deck) text first line' → ⊥
  no_both line line' a b =
      never (WrongReply (opening_of deck)) (WrongRequest deck) text first line line' (λ history p q w v. reply_or_legal (opening_of deck) history p w v.legal) a b

  one_for : (why why' : HistoryCause) (line line' : ℕ) → DisputesFor why deck text first line → DisputesFor why' deck text first line' → (why ≡ why') × (line ≡ line')
  one_for cause.Form cause.Form line line' a b = (refl, a.line_is ∙ ap (λ (good : ℕ). first + good) (wrong_place_is_one text a.good b.good a.wrong b.wrong) ∙ sym b.line_is)
  one_for cause.Form cause.Reply line line' a b = absurd (no_form text b.history first line a b.tells)
  one_for cause.Form cause.Meaning line line' a b = absurd (no_form text b.history first line a b.tells)
  one_for cause.Reply cause.Form line line' a b = absurd (no_form text a.history first line' b a.tells)
  one_for cause.Reply cause.Reply line line' a b = (refl, one_line (WrongReply (opening_of deck)) (WrongReply (opening_of deck)) text first line line' (one_reply (opening_of deck)) a b)
  one_for cause.Reply cause.Meaning line line' a b = absurd (no_both line line' a b)
  one_for cause.Meaning cause.Form line line' a b = absurd (no_form text a.history first line' b a.tells)
  one_for cause.Meaning cause.Reply line line' a b = absurd (no_both line' line b a)
  one_for cause.Meaning cause.Meaning line line' a b = (refl, one_line (WrongRequest deck) (WrongRequest deck) text first line line' (one_request deck) a b)

  -- a text is disputed at one line, for one cause
  pub one_dispute : (fault other : HistoryFault) → Disputes fault deck text first → Disputes other deck text first → fault ≡ other
  one_dispute fault other a b =
      let same = one_for fault.cause other.cause fault.line other.line a b in
      λ i. record { line = same.1 i; cause = same.0 i }

  never_for : (history : List Entry) (output : List ℕ) (why : HistoryCause) (line : ℕ) → Retells history output deck text → DisputesFor why deck text first line → ⊥
  never_for history output cause.Form line told a = no_form text history first line a told.tells
  never_for history output cause.Reply line told a =
      let same : a.history ≡ history = history_is_one text a.history history a.tells told.tells in
      reply_or_legal (opening_of deck) a.history a.entry a.is_so (subst (Legal (opening_of deck)) (sym same) told.run.legal)
  never_for history output cause.Meaning line told a =
      let same : a.history ≡ history = history_is_one text a.history history a.tells told.tells in
      run_or_request deck history told.screens a.entry told.run (subst (λ (h : List Entry). WrongRequest deck h a.entry) same a.is_so)

  -- a text of a run is not disputed
  pub never_disputed : (history : List Entry) (output : List ℕ) (fault : HistoryFault) → Retells history output deck text → Disputes fault deck text first → ⊥
  never_disputed history output fault told a = never_for history output fault.cause fault.line told a
