-- The deck of the drill: terminals at which one program counts in the first block of one file.
use Rattle.std.specs.Prelude.{ℕ, zero, suc, List, [], ◌∷◌, ◌++◌, codes}
use Rattle.std.specs.Fmt.{decimal}
use Rattle.basic_values.specs.declared.limits.TheConstants.{MOST_CALLS}
use Rattle.monitor_calls.specs.declared.names.Account.{Account}
use Rattle.monitor_calls.specs.declared.files.FileEntry.{FileEntry}
use Rattle.monitor_calls.specs.declared.volumes.AccountEntry.{AccountEntry}
use Rattle.monitor_calls.specs.Pages.{zeros}
use Rattle.deck_model.specs.Deck.{Deck, Terminal}

abbrev pub drill_account : Account
drill_account = record { project = 100; programmer = 5 }

-- ACCOUNT 100,5 DEMO 16384, whose quota is the whole disk
abbrev pub drill_entry : AccountEntry
drill_entry = record { account = drill_account; password = codes "DEMO"; limit = MOST_CALLS; quota = 8 }

-- FILE [100,5]COUNT.DAT<60> 1, without lines of content: its one page is of zeros
abbrev pub drill_file : FileEntry
drill_file = record {
  name = record { owner = drill_account; stem = codes "COUNT"; extension = codes "DAT" };
  code = 60;
  pages = zeros ∷ [];
}

-- the login, the program, RUNNH and BYE
abbrev pub drill_keys : List (List ℕ)
drill_keys =
    codes "HELLO 100,5;DEMO"
    ∷ codes "10 ON ERROR GOTO 100"
    ∷ codes "20 OPEN \"COUNT.DAT\" AS FILE 1%, MODE 1%"
    ∷ codes "30 FIELD #1%, 2% AS C$"
    ∷ codes "40 FOR I%=1% TO 20%"
    ∷ codes "50 GET #1%, RECORD 1%"
    ∷ codes "60 LSET C$=CVT%$(CVT$%(C$)+1%)"
    ∷ codes "70 PUT #1%, RECORD 1%"
    ∷ codes "80 NEXT I%"
    ∷ codes "90 CLOSE 1% : GOTO 130"
    ∷ codes "100 IF ERR<>19% THEN ON ERROR GOTO 0"
    ∷ codes "110 K%=0% : K%=K%+1% WHILE K%<1000%"
    ∷ codes "120 SLEEP 1% : RESUME"
    ∷ codes "130 END"
    ∷ codes "RUNNH"
    ∷ codes "BYE" ∷ []

-- TERMINAL T and its number
abbrev pub drill_terminal : ℕ → Terminal
drill_terminal number = record { name = codes "T" ++ decimal number; keys = drill_keys }

-- T1 and so on
abbrev pub drill_terminals : ℕ → List Terminal
drill_terminals zero = []
drill_terminals (suc jobs) = drill_terminals jobs ++ drill_terminal (suc jobs) ∷ []

-- DISK 8, the account, the file, and this many terminals
abbrev pub drill_deck : ℕ → Deck
drill_deck jobs = record {
  blocks = 8;
  accounts = drill_entry ∷ [];
  files = drill_file ∷ [];
  terminals = drill_terminals jobs;
}
