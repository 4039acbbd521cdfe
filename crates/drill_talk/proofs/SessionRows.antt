-- The session of the drill's keys, computed up to its program.
use Rattle.std.proofs.Common.{◌≡◌, ℕ, List, [], ◌∷◌, ◌++◌, subst, Option, Some, None}
use Rattle.monitor_calls.specs.declared.names.Account.{Account}
use Rattle.std.specs.Prelude.{codes, take, drop}
use Rattle.std.specs.Fmt.{digits}
use Rattle.basic_values.specs.Arithmetic.{repeated_product}
use Rattle.basic_values.specs.Messages.{fault_text}
use Rattle.basic_strings.specs.Places.{place_of}
use Rattle.basic_strings.specs.Readings.{value_read, item_read}
use Rattle.basic_tree.specs.Words.{keywords, signs}
use Rattle.basic_tree.specs.Tokens.{letter_front, digit_front, quote_front, sign_front, front_of, items_from, tokens_from}
use Rattle.grammar_machine.specs.MachineRun.{run}
use Rattle.grammar_machine.specs.MachineJudge.{verdict_of, judge_of}
use Rattle.file_names.specs.SpecFronts.{spec_in, bracketed_in, closed_code}
use Rattle.monitor_calls.specs.Typing.{all_typed}
use Rattle.basic_tree.specs.ProgramLines.{Lines}
use Rattle.monitor_calls.specs.declared.calls.Request.TheVariants.{Login}
use Rattle.monitor_calls.specs.declared.calls.Reply.{Reply}
use Rattle.monitor_calls.specs.declared.calls.Reply.TheVariants.{Done, Failed}
use Rattle.monitor_model.specs.Counters.{page_kept}
use Rattle.job_model.specs.Act.{◌then◌}
use Rattle.job_model.specs.Asking.{counts_as}
use Rattle.session_model.specs.Talk.{Session, SessionEnd, Step, session, no_name, opening, entered, is_ready, acts_for, says}
use Rattle.session_model.specs.Texts.{invalid_entry}
use Rattle.session_model.specs.Talk as talk
use Rattle.program_model.specs.Program.{Position}
use Rattle.drill_deck.specs.DrillDeck.{drill_account, drill_keys}
use Rattle.drill_talk.specs.Laws.{drill_counting}
use Rattle.drill_talk.proofs.DrillProgram.{drill_lines, drill_job}
use Rattle.drill_talk.proofs.Safe.{Safe, Post}

abbrev pub any : {A S : Type 0} → Post A S
any keys kept a s = Unit {0}

-- a session in which nobody is logged in, and one in which the drill's account is
abbrev visitor : List ℕ → Session Position
visitor screen = record { account = None; name = no_name; lines = []; job = record talk.new_job { screen = screen }; stop = None }

abbrev pub user : Lines → List ℕ → Session Position
user lines screen = record { account = Some drill_account; name = no_name; lines = lines; job = drill_job screen; stop = None }

abbrev pub IsSafe : ℕ → ℕ → Session Position → List (List ℕ) → Option (List ℕ) → Type 0
IsSafe most count s keys kept = Safe drill_counting any any (session judge_of most count s) (all_typed keys) kept

-- the lines are stored one after another
stores_10 : (most : ℕ) (screen : List ℕ) (keys : List (List ℕ)) (kept : Option (List ℕ)) → ((shown : List ℕ) → IsSafe most 15 (user (take 1 drill_lines) shown) keys kept) → IsSafe most 16 (user (take 0 drill_lines) screen) (codes "10 ON ERROR GOTO 100" ∷ keys) kept
unfolding digits fault_text repeated_product place_of value_read item_read keywords signs letter_front digit_front quote_front sign_front front_of items_from tokens_from run verdict_of spec_in bracketed_in closed_code
stores_10 most screen keys kept later = later (screen ++ codes "10 ON ERROR GOTO 100\r\n")

stores_20 : (most : ℕ) (screen : List ℕ) (keys : List (List ℕ)) (kept : Option (List ℕ)) → ((shown : List ℕ) → IsSafe most 14 (user (take 2 drill_lines) shown) keys kept) → IsSafe most 15 (user (take 1 drill_lines) screen) (codes "20 OPEN \"COUNT.DAT\" AS FILE 1%, MODE 1%" ∷ keys) kept
unfolding digits fault_text repeated_product place_of value_read item_read keywords signs letter_front digit_front quote_front sign_front front_of items_from tokens_from run verdict_of spec_in bracketed_in closed_code
stores_20 most screen keys kept later = later (screen ++ codes "20 OPEN \"COUNT.DAT\" AS FILE 1%, MODE 1%\r\n")

stores_30 : (most : ℕ) (screen : List ℕ) (keys : List (List ℕ)) (kept : Option (List ℕ)) → ((shown : List ℕ) → IsSafe most 13 (user (take 3 drill_lines) shown) keys kept) → IsSafe most 14 (user (take 2 drill_lines) screen) (codes "30 FIELD #1%, 2% AS C$" ∷ keys) kept
unfolding digits fault_text repeated_product place_of value_read item_read keywords signs letter_front digit_front quote_front sign_front front_of items_from tokens_from run verdict_of spec_in bracketed_in closed_code
stores_30 most screen keys kept later = later (screen ++ codes "30 FIELD #1%, 2% AS C$\r\n")

stores_40 : (most : ℕ) (screen : List ℕ) (keys : List (List ℕ)) (kept : Option (List ℕ)) → ((shown : List ℕ) → IsSafe most 12 (user (take 4 drill_lines) shown) keys kept) → IsSafe most 13 (user (take 3 drill_lines) screen) (codes "40 FOR I%=1% TO 20%" ∷ keys) kept
unfolding digits fault_text repeated_product place_of value_read item_read keywords signs letter_front digit_front quote_front sign_front front_of items_from tokens_from run verdict_of spec_in bracketed_in closed_code
stores_40 most screen keys kept later = later (screen ++ codes "40 FOR I%=1% TO 20%\r\n")

stores_50 : (most : ℕ) (screen : List ℕ) (keys : List (List ℕ)) (kept : Option (List ℕ)) → ((shown : List ℕ) → IsSafe most 11 (user (take 5 drill_lines) shown) keys kept) → IsSafe most 12 (user (take 4 drill_lines) screen) (codes "50 GET #1%, RECORD 1%" ∷ keys) kept
unfolding digits fault_text repeated_product place_of value_read item_read keywords signs letter_front digit_front quote_front sign_front front_of items_from tokens_from run verdict_of spec_in bracketed_in closed_code
stores_50 most screen keys kept later = later (screen ++ codes "50 GET #1%, RECORD 1%\r\n")

stores_60 : (most : ℕ) (screen : List ℕ) (keys : List (List ℕ)) (kept : Option (List ℕ)) → ((shown : List ℕ) → IsSafe most 10 (user (take 6 drill_lines) shown) keys kept) → IsSafe most 11 (user (take 5 drill_lines) screen) (codes "60 LSET C$=CVT%$(CVT$%(C$)+1%)" ∷ keys) kept
unfolding digits fault_text repeated_product place_of value_read item_read keywords signs letter_front digit_front quote_front sign_front front_of items_from tokens_from run verdict_of spec_in bracketed_in closed_code
stores_60 most screen keys kept later = later (screen ++ codes "60 LSET C$=CVT%$(CVT$%(C$)+1%)\r\n")

stores_70 : (most : ℕ) (screen : List ℕ) (keys : List (List ℕ)) (kept : Option (List ℕ)) → ((shown : List ℕ) → IsSafe most 9 (user (take 7 drill_lines) shown) keys kept) → IsSafe most 10 (user (take 6 drill_lines) screen) (codes "70 PUT #1%, RECORD 1%" ∷ keys) kept
unfolding digits fault_text repeated_product place_of value_read item_read keywords signs letter_front digit_front quote_front sign_front front_of items_from tokens_from run verdict_of spec_in bracketed_in closed_code
stores_70 most screen keys kept later = later (screen ++ codes "70 PUT #1%, RECORD 1%\r\n")

stores_80 : (most : ℕ) (screen : List ℕ) (keys : List (List ℕ)) (kept : Option (List ℕ)) → ((shown : List ℕ) → IsSafe most 8 (user (take 8 drill_lines) shown) keys kept) → IsSafe most 9 (user (take 7 drill_lines) screen) (codes "80 NEXT I%" ∷ keys) kept
unfolding digits fault_text repeated_product place_of value_read item_read keywords signs letter_front digit_front quote_front sign_front front_of items_from tokens_from run verdict_of spec_in bracketed_in closed_code
stores_80 most screen keys kept later = later (screen ++ codes "80 NEXT I%\r\n")

stores_90 : (most : ℕ) (screen : List ℕ) (keys : List (List ℕ)) (kept : Option (List ℕ)) → ((shown : List ℕ) → IsSafe most 7 (user (take 9 drill_lines) shown) keys kept) → IsSafe most 8 (user (take 8 drill_lines) screen) (codes "90 CLOSE 1% : GOTO 130" ∷ keys) kept
unfolding digits fault_text repeated_product place_of value_read item_read keywords signs letter_front digit_front quote_front sign_front front_of items_from tokens_from run verdict_of spec_in bracketed_in closed_code
stores_90 most screen keys kept later = later (screen ++ codes "90 CLOSE 1% : GOTO 130\r\n")

stores_100 : (most : ℕ) (screen : List ℕ) (keys : List (List ℕ)) (kept : Option (List ℕ)) → ((shown : List ℕ) → IsSafe most 6 (user (take 10 drill_lines) shown) keys kept) → IsSafe most 7 (user (take 9 drill_lines) screen) (codes "100 IF ERR<>19% THEN ON ERROR GOTO 0" ∷ keys) kept
unfolding digits fault_text repeated_product place_of value_read item_read keywords signs letter_front digit_front quote_front sign_front front_of items_from tokens_from run verdict_of spec_in bracketed_in closed_code
stores_100 most screen keys kept later = later (screen ++ codes "100 IF ERR<>19% THEN ON ERROR GOTO 0\r\n")

stores_110 : (most : ℕ) (screen : List ℕ) (keys : List (List ℕ)) (kept : Option (List ℕ)) → ((shown : List ℕ) → IsSafe most 5 (user (take 11 drill_lines) shown) keys kept) → IsSafe most 6 (user (take 10 drill_lines) screen) (codes "110 K%=0% : K%=K%+1% WHILE K%<1000%" ∷ keys) kept
unfolding digits fault_text repeated_product place_of value_read item_read keywords signs letter_front digit_front quote_front sign_front front_of items_from tokens_from run verdict_of spec_in bracketed_in closed_code
stores_110 most screen keys kept later = later (screen ++ codes "110 K%=0% : K%=K%+1% WHILE K%<1000%\r\n")

stores_120 : (most : ℕ) (screen : List ℕ) (keys : List (List ℕ)) (kept : Option (List ℕ)) → ((shown : List ℕ) → IsSafe most 4 (user (take 12 drill_lines) shown) keys kept) → IsSafe most 5 (user (take 11 drill_lines) screen) (codes "120 SLEEP 1% : RESUME" ∷ keys) kept
unfolding digits fault_text repeated_product place_of value_read item_read keywords signs letter_front digit_front quote_front sign_front front_of items_from tokens_from run verdict_of spec_in bracketed_in closed_code
stores_120 most screen keys kept later = later (screen ++ codes "120 SLEEP 1% : RESUME\r\n")

stores_130 : (most : ℕ) (screen : List ℕ) (keys : List (List ℕ)) (kept : Option (List ℕ)) → ((shown : List ℕ) → IsSafe most 3 (user (take 13 drill_lines) shown) keys kept) → IsSafe most 4 (user (take 12 drill_lines) screen) (codes "130 END" ∷ keys) kept
unfolding digits fault_text repeated_product place_of value_read item_read keywords signs letter_front digit_front quote_front sign_front front_of items_from tokens_from run verdict_of spec_in bracketed_in closed_code
stores_130 most screen keys kept later = later (screen ++ codes "130 END\r\n")

-- BYE, whoever is logged in
pub leaves : (most : ℕ) (s : Session Position) (account : Option Account) (kept : Option (List ℕ)) → account ≡ s.account → IsSafe most 2 s (codes "BYE" ∷ []) kept
unfolding digits fault_text repeated_product place_of value_read item_read keywords signs letter_front digit_front quote_front sign_front front_of items_from tokens_from run verdict_of spec_in bracketed_in closed_code
leaves most s account kept is = subst (λ (a : Option Account). IsSafe most 2 (record s { account = a }) (codes "BYE" ∷ []) kept) is (leaves_as most s account kept)
  where
    leaves_as : (most : ℕ) (s : Session Position) (account : Option Account) (kept : Option (List ℕ)) → IsSafe most 2 (record s { account = account }) (codes "BYE" ∷ []) kept
    leaves_as most s None kept = tt
    leaves_as most s (Some account) kept = (tt, λ reply proper. tt)

-- HELLO is refused: every line says nothing, RUNNH too
pub stays_out : (most : ℕ) (screen : List ℕ) (kept : Option (List ℕ)) → IsSafe most 16 (visitor screen) (drop 1 drill_keys) kept
unfolding digits fault_text repeated_product place_of value_read item_read keywords signs letter_front digit_front quote_front sign_front front_of items_from tokens_from run verdict_of spec_in bracketed_in closed_code
stays_out most screen kept = tt

-- all lines are stored
pub stored_all : (most : ℕ) (screen : List ℕ) (kept : Option (List ℕ)) → ((shown : List ℕ) → IsSafe most 3 (user drill_lines shown) (drop 14 drill_keys) kept) → IsSafe most 16 (user [] screen) (drop 1 drill_keys) kept
stored_all most screen kept later =
    stores_10 most screen (drop 2 drill_keys) kept (λ s1.
    stores_20 most s1 (drop 3 drill_keys) kept (λ s2.
    stores_30 most s2 (drop 4 drill_keys) kept (λ s3.
    stores_40 most s3 (drop 5 drill_keys) kept (λ s4.
    stores_50 most s4 (drop 6 drill_keys) kept (λ s5.
    stores_60 most s5 (drop 7 drill_keys) kept (λ s6.
    stores_70 most s6 (drop 8 drill_keys) kept (λ s7.
    stores_80 most s7 (drop 9 drill_keys) kept (λ s8.
    stores_90 most s8 (drop 10 drill_keys) kept (λ s9.
    stores_100 most s9 (drop 11 drill_keys) kept (λ s10.
    stores_110 most s10 (drop 12 drill_keys) kept (λ s11.
    stores_120 most s11 (drop 13 drill_keys) kept (λ s12.
    stores_130 most s12 (drop 14 drill_keys) kept (λ s13.
    later s13)))))))))))))

-- HELLO: the reply decides
module _ (most : ℕ) (in_account : (screen : List ℕ) (kept : Option (List ℕ)) → IsSafe most 16 (user [] screen) (drop 1 drill_keys) kept) where
  entered_safe : (x : Reply) (kept : Option (List ℕ)) → Safe drill_counting any any (entered drill_account x (visitor (codes "HELLO 100,5;DEMO\r\n")) then λ _ s. session judge_of most 16 s) (all_typed (drop 1 drill_keys)) kept
  entered_safe Done kept = in_account (is_ready (acts_for drill_account (visitor (codes "HELLO 100,5;DEMO\r\n")))).job.screen kept
  entered_safe (Failed number) kept = stays_out most (says invalid_entry (visitor (codes "HELLO 100,5;DEMO\r\n"))).job.screen kept
  entered_safe x kept = tt

  pub hello_safe : IsSafe most 17 opening drill_keys None
  unfolding digits fault_text repeated_product place_of value_read item_read keywords signs letter_front digit_front quote_front sign_front front_of items_from tokens_from run verdict_of spec_in bracketed_in closed_code
  hello_safe = (tt, λ reply proper. entered_safe (counts_as (Login drill_account (codes "DEMO")) reply) (page_kept 1 None (Login drill_account (codes "DEMO")) reply))
