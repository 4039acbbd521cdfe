-- What was written of a request is read of its words.
use Rattle.std.proofs.Common.{◌≡◌, ℕ, ◌<◌, ◌^◌, Bool, true, List, [], ◌∷◌, ◌++◌, Option, Some, refl, ◌∙◌, arith}
use Rattle.std.specs.Prelude.{codes}
use Rattle.monitor_calls.specs.declared.names.Account.{Account}
use Rattle.monitor_calls.specs.declared.files.FileName.{FileName}
use Rattle.monitor_calls.specs.declared.files.OpenKind.{OpenKind}
use Rattle.monitor_calls.specs.declared.calls.Request.{Request}
use Rattle.monitor_calls.specs.declared.calls.Request.TheVariants.{Login, Logout, OpenFile, CloseFile, Get, Put, GetRecord, PutRecord, Unlock, Kill, Rename, Directory, Declare, Remove, Send, Receive, Sleep, Tick, Assign, Deassign, OpenPrinter, Print, ClosePrinter, Status}
use Rattle.monitor_calls.specs.Proper.{IsProperRequest}
use Rattle.std.specs.Fmt.{decimal}
use Rattle.deck_model.specs.Histories.{hex_or_dash, pages_text, account_digits, truth_text, number_or_dash, letters_or_dash, printed_name, kind_text, fields, request_text}
use Rattle.history_reader.specs.LineForms.{with_rest, bare_read, login_read, open_read, close_read, get_read, put_read, getrec_read, putrec_read, unlock_read, kill_read, rename_read, directory_read, declare_read, send_read, sleep_read, print_read, job_request_read, block_request_read, file_request_read, request_read}
use Rattle.history_reader.proofs.WordLaws.{joined, is_plain, ArePlain, decimal_plain, word_again}
use Rattle.history_reader.proofs.FieldLaws.{byte_field, half_field, account_plain, account_field, short_plain, letters_field, printed_plain, name_field, truth_plain, truth_field, kind_plain, kind_field, code_plain, code_field, dash_plain, password_field, message_field, page_field, pages_plain, pages_field}

-- ---- the word of a request, and its fields

abbrev pub request_word : Request → List ℕ
request_word (Login account password) = codes "LOGIN"
request_word Logout = codes "LOGOUT"
request_word (OpenFile channel name kind update code) = codes "OPEN"
request_word (CloseFile channel) = codes "CLOSE"
request_word (Get channel block) = codes "GET"
request_word (Put channel block page) = codes "PUT"
request_word (GetRecord channel block count) = codes "GETREC"
request_word (PutRecord channel block pages) = codes "PUTREC"
request_word (Unlock channel) = codes "UNLOCK"
request_word (Kill name) = codes "KILL"
request_word (Rename old new code) = codes "RENAME"
request_word (Directory owner index) = codes "DIRECTORY"
request_word (Declare name most) = codes "DECLARE"
request_word Remove = codes "REMOVE"
request_word (Send name text) = codes "SEND"
request_word Receive = codes "RECEIVE"
request_word (Sleep seconds) = codes "SLEEP"
request_word Tick = codes "TICK"
request_word Assign = codes "ASSIGN"
request_word Deassign = codes "DEASSIGN"
request_word OpenPrinter = codes "LPOPEN"
request_word (Print text) = codes "LPPRINT"
request_word ClosePrinter = codes "LPCLOSE"
request_word Status = codes "STATUS"

abbrev pub request_fields : Request → List (List ℕ)
request_fields (Login account password) = account_digits account ∷ hex_or_dash password ∷ []
request_fields (OpenFile channel name kind update code) = decimal channel ∷ printed_name name ∷ kind_text kind ∷ truth_text update ∷ number_or_dash code ∷ []
request_fields (CloseFile channel) = decimal channel ∷ []
request_fields (Get channel block) = decimal channel ∷ decimal block ∷ []
request_fields (Put channel block page) = decimal channel ∷ decimal block ∷ hex_or_dash page ∷ []
request_fields (GetRecord channel block count) = decimal channel ∷ decimal block ∷ decimal count ∷ []
request_fields (PutRecord channel block pages) = decimal channel ∷ decimal block ∷ pages_text pages ∷ []
request_fields (Unlock channel) = decimal channel ∷ []
request_fields (Kill name) = printed_name name ∷ []
request_fields (Rename old new code) = printed_name old ∷ printed_name new ∷ number_or_dash code ∷ []
request_fields (Directory owner index) = account_digits owner ∷ decimal index ∷ []
request_fields (Declare name most) = letters_or_dash name ∷ decimal most ∷ []
request_fields (Send name text) = letters_or_dash name ∷ hex_or_dash text ∷ []
request_fields (Sleep seconds) = decimal seconds ∷ []
request_fields (Print text) = hex_or_dash text ∷ []
request_fields other = []

pub request_written : (r : Request) → request_text r ≡ request_word r ++ fields (request_fields r)
request_written (Login account password) = refl
request_written r = refl

-- ---- no word has a space or a LF

short_number : (n : ℕ) → n < 2 ^ 32 → is_plain (decimal n) ≡ true
short_number n small = decimal_plain n (omega arith)

pub request_plain : (r : Request) → IsProperRequest r → ArePlain (request_word r ∷ request_fields r)
request_plain (Login account password) good = (refl, (account_plain account good.0, (dash_plain password, tt)))
request_plain Logout good = (refl, tt)
request_plain (OpenFile channel name kind update code) good = (refl, (short_number channel (omega arith), (printed_plain name good.1.0, (kind_plain kind, (truth_plain update, (code_plain code good.1.1, tt))))))
request_plain (CloseFile channel) good = (refl, (short_number channel (omega arith), tt))
request_plain (Get channel block) good = (refl, (short_number channel (omega arith), (short_number block (omega arith), tt)))
request_plain (Put channel block page) good = (refl, (short_number channel (omega arith), (short_number block (omega arith), (dash_plain page, tt))))
request_plain (GetRecord channel block count) good = (refl, (short_number channel (omega arith), (short_number block (omega arith), (short_number count (omega arith), tt))))
request_plain (PutRecord channel block pages) good = (refl, (short_number channel (omega arith), (short_number block (omega arith), (pages_plain pages, tt))))
request_plain (Unlock channel) good = (refl, (short_number channel (omega arith), tt))
request_plain (Kill name) good = (refl, (printed_plain name good, tt))
request_plain (Rename old new code) good = (refl, (printed_plain old good.0, (printed_plain new good.1.0, (code_plain code good.1.1, tt))))
request_plain (Directory owner index) good = (refl, (account_plain owner good.0, (short_number index (omega arith), tt)))
request_plain (Declare name most) good = (refl, (short_plain name good.0, (short_number most (omega arith), tt)))
request_plain Remove good = (refl, tt)
request_plain (Send name text) good = (refl, (short_plain name good.0, (dash_plain text, tt)))
request_plain Receive good = (refl, tt)
request_plain (Sleep seconds) good = (refl, (short_number seconds (omega arith), tt))
request_plain Tick good = (refl, tt)
request_plain Assign good = (refl, tt)
request_plain Deassign good = (refl, tt)
request_plain OpenPrinter good = (refl, tt)
request_plain (Print text) good = (refl, (dash_plain text, tt))
request_plain ClosePrinter good = (refl, tt)
request_plain Status good = (refl, tt)

-- ---- what is read of the fields

login_again : (account : Account) (password : List ℕ) (words : List (List ℕ)) → IsProperRequest (Login account password) → login_read (joined (account_digits account ∷ hex_or_dash password ∷ words)) ≡ Some (Login account password, joined words)
unfolding login_read
login_again account password words good =
    rw (account_field account (hex_or_dash password ∷ words) good.0, password_field password words good.1) refl

open_again : (channel : ℕ) (name : FileName) (kind : OpenKind) (update : Bool) (code : Option ℕ) (words : List (List ℕ)) → IsProperRequest (OpenFile channel name kind update code) → open_read (joined (decimal channel ∷ printed_name name ∷ kind_text kind ∷ truth_text update ∷ number_or_dash code ∷ words)) ≡ Some (OpenFile channel name kind update code, joined words)
unfolding open_read
open_again channel name kind update code words good =
    rw (byte_field channel (printed_name name ∷ kind_text kind ∷ truth_text update ∷ number_or_dash code ∷ words) good.0, name_field name (kind_text kind ∷ truth_text update ∷ number_or_dash code ∷ words) good.1.0, kind_field kind (truth_text update ∷ number_or_dash code ∷ words), truth_field update (number_or_dash code ∷ words), code_field code words good.1.1) refl

close_again : (channel : ℕ) (words : List (List ℕ)) → IsProperRequest (CloseFile channel) → close_read (joined (decimal channel ∷ words)) ≡ Some (CloseFile channel, joined words)
unfolding close_read
close_again channel words good =
    rw (byte_field channel words good) refl

get_again : (channel : ℕ) (block : ℕ) (words : List (List ℕ)) → IsProperRequest (Get channel block) → get_read (joined (decimal channel ∷ decimal block ∷ words)) ≡ Some (Get channel block, joined words)
unfolding get_read
get_again channel block words good =
    rw (byte_field channel (decimal block ∷ words) good.0, half_field block words good.1) refl

put_again : (channel : ℕ) (block : ℕ) (page : List ℕ) (words : List (List ℕ)) → IsProperRequest (Put channel block page) → put_read (joined (decimal channel ∷ decimal block ∷ hex_or_dash page ∷ words)) ≡ Some (Put channel block page, joined words)
unfolding put_read
put_again channel block page words good =
    rw (byte_field channel (decimal block ∷ hex_or_dash page ∷ words) good.0, half_field block (hex_or_dash page ∷ words) good.1.0, page_field page words good.1.1) refl

getrec_again : (channel : ℕ) (block : ℕ) (count : ℕ) (words : List (List ℕ)) → IsProperRequest (GetRecord channel block count) → getrec_read (joined (decimal channel ∷ decimal block ∷ decimal count ∷ words)) ≡ Some (GetRecord channel block count, joined words)
unfolding getrec_read
getrec_again channel block count words good =
    rw (byte_field channel (decimal block ∷ decimal count ∷ words) good.0, half_field block (decimal count ∷ words) good.1.0, byte_field count words good.1.1) refl

putrec_again : (channel : ℕ) (block : ℕ) (pages : List (List ℕ)) (words : List (List ℕ)) → IsProperRequest (PutRecord channel block pages) → putrec_read (joined (decimal channel ∷ decimal block ∷ pages_text pages ∷ words)) ≡ Some (PutRecord channel block pages, joined words)
unfolding putrec_read
putrec_again channel block pages words good =
    rw (byte_field channel (decimal block ∷ pages_text pages ∷ words) good.0, half_field block (pages_text pages ∷ words) good.1.0, pages_field pages words good.1.1) refl

unlock_again : (channel : ℕ) (words : List (List ℕ)) → IsProperRequest (Unlock channel) → unlock_read (joined (decimal channel ∷ words)) ≡ Some (Unlock channel, joined words)
unfolding unlock_read
unlock_again channel words good =
    rw (byte_field channel words good) refl

kill_again : (name : FileName) (words : List (List ℕ)) → IsProperRequest (Kill name) → kill_read (joined (printed_name name ∷ words)) ≡ Some (Kill name, joined words)
unfolding kill_read
kill_again name words good =
    rw (name_field name words good) refl

rename_again : (old : FileName) (new : FileName) (code : Option ℕ) (words : List (List ℕ)) → IsProperRequest (Rename old new code) → rename_read (joined (printed_name old ∷ printed_name new ∷ number_or_dash code ∷ words)) ≡ Some (Rename old new code, joined words)
unfolding rename_read
rename_again old new code words good =
    rw (name_field old (printed_name new ∷ number_or_dash code ∷ words) good.0, name_field new (number_or_dash code ∷ words) good.1.0, code_field code words good.1.1) refl

directory_again : (owner : Account) (index : ℕ) (words : List (List ℕ)) → IsProperRequest (Directory owner index) → directory_read (joined (account_digits owner ∷ decimal index ∷ words)) ≡ Some (Directory owner index, joined words)
unfolding directory_read
directory_again owner index words good =
    rw (account_field owner (decimal index ∷ words) good.0, half_field index words good.1) refl

declare_again : (name : List ℕ) (most : ℕ) (words : List (List ℕ)) → IsProperRequest (Declare name most) → declare_read (joined (letters_or_dash name ∷ decimal most ∷ words)) ≡ Some (Declare name most, joined words)
unfolding declare_read
declare_again name most words good =
    rw (letters_field name (decimal most ∷ words) good.0, byte_field most words good.1) refl

send_again : (name : List ℕ) (text : List ℕ) (words : List (List ℕ)) → IsProperRequest (Send name text) → send_read (joined (letters_or_dash name ∷ hex_or_dash text ∷ words)) ≡ Some (Send name text, joined words)
unfolding send_read
send_again name text words good =
    rw (letters_field name (hex_or_dash text ∷ words) good.0, message_field text words good.1) refl

sleep_again : (seconds : ℕ) (words : List (List ℕ)) → IsProperRequest (Sleep seconds) → sleep_read (joined (decimal seconds ∷ words)) ≡ Some (Sleep seconds, joined words)
unfolding sleep_read
sleep_again seconds words good =
    rw (half_field seconds words good) refl

print_again : (text : List ℕ) (words : List (List ℕ)) → IsProperRequest (Print text) → print_read (joined (hex_or_dash text ∷ words)) ≡ Some (Print text, joined words)
unfolding print_read
print_again text words good =
    rw (message_field text words good) refl

-- ---- what is read of the words

by_word : (word : List ℕ) (words : List (List ℕ)) → is_plain word ≡ true → request_read (joined (word ∷ words)) ≡ with_rest (bare_read word) (joined words) (file_request_read word (joined words))
unfolding request_read
by_word word words plain = rw (word_again word words plain) refl

pub request_again : (r : Request) (words : List (List ℕ)) → IsProperRequest r → request_read (joined (request_word r ∷ (request_fields r ++ words))) ≡ Some (r, joined words)
unfolding bare_read file_request_read block_request_read job_request_read
request_again (Login account password) words good = by_word (codes "LOGIN") (account_digits account ∷ hex_or_dash password ∷ words) refl ∙ login_again account password words good
request_again Logout words good = by_word (codes "LOGOUT") words refl
request_again (OpenFile channel name kind update code) words good = by_word (codes "OPEN") (decimal channel ∷ printed_name name ∷ kind_text kind ∷ truth_text update ∷ number_or_dash code ∷ words) refl ∙ open_again channel name kind update code words good
request_again (CloseFile channel) words good = by_word (codes "CLOSE") (decimal channel ∷ words) refl ∙ close_again channel words good
request_again (Get channel block) words good = by_word (codes "GET") (decimal channel ∷ decimal block ∷ words) refl ∙ get_again channel block words good
request_again (Put channel block page) words good = by_word (codes "PUT") (decimal channel ∷ decimal block ∷ hex_or_dash page ∷ words) refl ∙ put_again channel block page words good
request_again (GetRecord channel block count) words good = by_word (codes "GETREC") (decimal channel ∷ decimal block ∷ decimal count ∷ words) refl ∙ getrec_again channel block count words good
request_again (PutRecord channel block pages) words good = by_word (codes "PUTREC") (decimal channel ∷ decimal block ∷ pages_text pages ∷ words) refl ∙ putrec_again channel block pages words good
request_again (Unlock channel) words good = by_word (codes "UNLOCK") (decimal channel ∷ words) refl ∙ unlock_again channel words good
request_again (Kill name) words good = by_word (codes "KILL") (printed_name name ∷ words) refl ∙ kill_again name words good
request_again (Rename old new code) words good = by_word (codes "RENAME") (printed_name old ∷ printed_name new ∷ number_or_dash code ∷ words) refl ∙ rename_again old new code words good
request_again (Directory owner index) words good = by_word (codes "DIRECTORY") (account_digits owner ∷ decimal index ∷ words) refl ∙ directory_again owner index words good
request_again (Declare name most) words good = by_word (codes "DECLARE") (letters_or_dash name ∷ decimal most ∷ words) refl ∙ declare_again name most words good
request_again Remove words good = by_word (codes "REMOVE") words refl
request_again (Send name text) words good = by_word (codes "SEND") (letters_or_dash name ∷ hex_or_dash text ∷ words) refl ∙ send_again name text words good
request_again Receive words good = by_word (codes "RECEIVE") words refl
request_again (Sleep seconds) words good = by_word (codes "SLEEP") (decimal seconds ∷ words) refl ∙ sleep_again seconds words good
request_again Tick words good = by_word (codes "TICK") words refl
request_again Assign words good = by_word (codes "ASSIGN") words refl
request_again Deassign words good = by_word (codes "DEASSIGN") words refl
request_again OpenPrinter words good = by_word (codes "LPOPEN") words refl
request_again (Print text) words good = by_word (codes "LPPRINT") (hex_or_dash text ∷ words) refl ∙ print_again text words good
request_again ClosePrinter words good = by_word (codes "LPCLOSE") words refl
request_again Status words good = by_word (codes "STATUS") words refl
