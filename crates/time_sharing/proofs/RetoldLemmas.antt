-- What a replay of the entries of a text says of the text.
use Rattle.std.proofs.Common.{◌≡◌, ℕ, suc, ◌<◌, ◌≤◌, Bool, true, false, eqb, List, [], ◌∷◌, ◌++◌, length, map, Err, codes, inl, inr, refl, ap, subst, ◌∙◌, arith}
use Rattle.std.specs.Prelude.{if◌then◌else◌}
use Rattle.std.specs.Fmt.{decimal}
use Rattle.std.proofs.lemmas.List.{length-append}
use Rattle.basic_values.specs.declared.failures.Trouble.{Trouble}
use Rattle.basic_values.specs.declared.failures.Trouble.TheVariants as trouble
use Rattle.monitor_calls.specs.declared.calls.Entry.{Entry}
use Rattle.monitor_calls.specs.Pairs.{Pair}
use Rattle.monitor_model.specs.State as monitor
use Rattle.monitor_model.specs.History.{Legal, part_of}
use Rattle.deck_model.specs.Deck as model
use Rattle.deck_model.specs.Histories.{request_text, reply_text, entry_line, entry_lines, count_text, history_text, journal_text, IsHistoryText}
use Rattle.deck_model.specs.Report.{report}
use Rattle.deck_reader.specs.declared.decks.Deck.{Deck}
use Rattle.deck_reader.specs.Seen.{deck_of, terminal_of}
use Rattle.history_reader.specs.EndedLines.{onto_line, ended_lines}
use Rattle.history_reader.specs.HistoryReading.{TellsHistory, WrongAt}
use Rattle.history_replay.specs.Disputes.{each_does, WrongReply, WrongMeaning, IsReplay, Replays}
use Rattle.history_replay.specs.declared.disputes.Dispute.{Dispute}
use Rattle.history_replay.specs.declared.disputes.Dispute.TheVariants as dispute
use Rattle.history_replay.proofs.Positions.{position-le}
use Rattle.time_sharing.specs.Sessions.{job_lines, typed_keys}
use Rattle.time_sharing.specs.Disputes.{WrongRequest, Disputes}
use Rattle.time_sharing.specs.InputEnds.{IsRetold, IsDisputed, RetoldBy, entry_of, fault_of}
use Rattle.time_sharing.specs.Replays.{Retells}
use Rattle.time_sharing.specs.Runs.{opening_of, names_in}
use Rattle.time_sharing.proofs.DisputeLemmas.{some_at}
use Rattle.time_sharing.proofs.RunLemmas.{Job, job_does, as_many, as_many_jobs, did_talk, all_talk, opening_is}
use Rattle.time_sharing.proofs.TalkLemmas.{departs_talk}

-- BOUNDS

onto_line_few : (byte : ℕ) (lines : List (List ℕ)) → length (onto_line byte lines) ≡ length lines
onto_line_few byte [] = refl
onto_line_few byte (line ∷ lines) = refl

ended_few : (text : List ℕ) → length (ended_lines text) ≤ length text
ended_few [] = omega arith
ended_few (byte ∷ text) =
    elim (eqb byte 10) as (λ (v : Bool). length (if v then [] ∷ ended_lines text else onto_line byte (ended_lines text)) ≤ suc (length text)) [
      | true ↦ let rest = ended_few text in omega arith
      | false ↦ let rest = ended_few text in let same = onto_line_few byte (ended_lines text) in omega arith
    ]

-- a text goes wrong within its bytes
pub wrong_within : (text : List ℕ) (good : ℕ) → WrongAt text good → good ≤ length text
wrong_within text good wrong = let few = wrong.few in let ended = ended_few text in omega arith

entry_some : (entry : Entry) → 0 < length (entry_line entry)
entry_some entry = omega (arith, length-append (decimal entry.job ++ codes " " ++ request_text entry.request ++ codes " = " ++ reply_text entry.reply) (codes "\n"))

entries_few : (history : List Entry) → length history ≤ length (entry_lines history)
entries_few [] = omega arith
entries_few (entry ∷ history) =
    let rest = entries_few history in
    let some = entry_some entry in
    let both = length-append (entry_line entry) (entry_lines history) in
    omega arith

-- a text has no more entries than bytes
pub entries_within : (text : List ℕ) (history : List Entry) → TellsHistory text history → length history ≤ length text
entries_within text history tells = within_either tells.is_text
  where
    few : length history ≤ length (entry_lines history)
    few = entries_few history

    within_either : IsHistoryText text history → length history ≤ length text
    within_either (inl e) =
        let both = length-append (codes "HISTORY " ++ count_text (length history) ++ codes "\n") (entry_lines history) in
        let same : length text ≡ length (history_text history) = ap length e in
        omega (arith, few)
    within_either (inr e) =
        let both = length-append (codes "HISTORY *\n") (entry_lines history) in
        let same : length text ≡ length (journal_text history) = ap length e in
        omega (arith, few)

pub disputed_within : (deck : model.Deck) (history : List Entry) (why : Dispute) → IsDisputed deck history why → entry_of why ≤ length history
disputed_within deck history (dispute.Reply entry) wrong =
    let all : length history ≡ length (wrong.before ++ wrong.entry ∷ wrong.behind) = ap length wrong.split in
    let both = length-append wrong.before (wrong.entry ∷ wrong.behind) in
    let place = wrong.place_is in
    omega arith
disputed_within deck history (dispute.Meaning job place entry) wrong =
    let within = position-le wrong.job wrong.place history in
    let is = wrong.entry_is in
    omega arith

-- DISPUTES

module _ (deck : Deck) (jobs : List Job) (opening : monitor.State) (number made : ℕ) (are : map job_lines jobs ≡ map typed_keys deck.terminals.items)
    (opened : opening ≡ monitor.opening deck.volume.accounts.items deck.volume.blocks deck.volume.files.items number) (count : number ≡ length deck.terminals.items) (many : made ≡ length jobs) where
  abbrev does : ℕ → List Pair → List ℕ → Type 0
  does job pairs screen = each_does job_does jobs job pairs screen

  state : opening ≡ opening_of (deck_of deck)
  state = opening_is deck opening number opened count

  wrong_request : (history : List Entry) (job place position : ℕ) → Legal opening history → WrongMeaning does history made job place position → WrongRequest (deck_of deck) history position
  wrong_request history job place position legal wrong =
      let within : job < length (map terminal_of deck.terminals.items) = let less = wrong.is_job in let all = as_many deck.terminals.items in let each = as_many_jobs deck jobs are in omega (arith, many) in
      let terminal = some_at (map terminal_of deck.terminals.items) job within in
      let departs = wrong.departs in
      record {
        legal = subst (λ (m : monitor.State). Legal m history) state legal;
        job = job;
        terminal = terminal.0;
        is_terminal = terminal.1;
        earlier = λ j other less is. let did = wrong.earlier j less in (did.0, did_talk deck jobs are j other (part_of j history) did.0 is did.1);
        place = place;
        otherwise = departs_talk terminal.0.keys departs.pairs (part_of job history) departs.screen place (did_talk deck jobs are job terminal.0 departs.pairs departs.screen terminal.1 departs.done) departs.common departs.within_pairs departs.differs;
        entry_is = wrong.position_is;
      }

  -- the result for entries, in the words of the deck
  pub retold : (history : List Entry) (screens : List (List ℕ)) → IsReplay does opening history made screens → IsRetold (deck_of deck) history screens
  retold history screens replayed = record {
    legal = subst (λ (m : monitor.State). Legal m history) state replayed.legal;
    talks = all_talk deck jobs are history screens (replayed.one_each ∙ many ∙ as_many_jobs deck jobs are) replayed.all_did;
  }

  pub disputed : (history : List Entry) (why : Dispute) → Replays does opening made history (Err (trouble.Refused why)) → IsDisputed (deck_of deck) history why
  disputed history (dispute.Reply entry) wrong = subst (λ (m : monitor.State). WrongReply m history entry) state wrong
  disputed history (dispute.Meaning job place entry) wrong = wrong_request history job place entry wrong.0 wrong.1

  pub undone : (history : List Entry) (error : Trouble Dispute) → Replays does opening made history (Err error) → RetoldBy (deck_of deck) history (Err error)
  undone history (trouble.Refused why) gone = disputed history why gone
  undone history trouble.NoMemory gone = tt

-- the dispute over a text, by that over its entries
pub disputes_by : (deck : model.Deck) (text : List ℕ) (first : ℕ) (history : List Entry) (why : Dispute) → TellsHistory text history → IsDisputed deck history why → Disputes (fault_of first why) deck text first
disputes_by deck text first history (dispute.Reply entry) tells wrong = record { history = history; tells = tells; entry = entry; is_so = wrong; line_is = refl }
disputes_by deck text first history (dispute.Meaning job place entry) tells wrong = record { history = history; tells = tells; entry = entry; is_so = wrong; line_is = refl }

-- the run of a text, by that of its entries
pub retells_by : (deck : model.Deck) (text : List ℕ) (history : List Entry) (screens : List (List ℕ)) (output : List ℕ) → TellsHistory text history → IsRetold deck history screens → output ≡ report (names_in deck) screens → Retells history output deck text
retells_by deck text history screens output tells told reported = record {
  tells = tells;
  screens = screens;
  run = record { legal = told.legal; proper = tells.proper; talks = told.talks };
  reported = reported;
}
