-- What was written of a reply and of an entry is read of its words.
use Rattle.std.proofs.Common.{◌≡◌, ℕ, ◌<◌, ◌^◌, Bool, true, List, [], ◌∷◌, ◌++◌, Option, Some, refl, sym, ap, ◌∙◌, append_assoc, arith}
use Rattle.std.specs.Prelude.{codes}
use Rattle.std.specs.Fmt.{decimal}
use Rattle.monitor_calls.specs.declared.names.Account.{Account}
use Rattle.monitor_calls.specs.declared.files.FileName.{FileName}
use Rattle.monitor_calls.specs.declared.calls.Entry.{Entry}
use Rattle.monitor_calls.specs.declared.calls.Reply.{Reply}
use Rattle.monitor_calls.specs.declared.calls.Reply.TheVariants.{Done, Opened, Block, Record, Name, Message, State, Failed, Expired}
use Rattle.monitor_calls.specs.Proper.{IsProperReply, IsProperEntry}
use Rattle.deck_model.specs.Histories.{hex_or_dash, pages_text, account_digits, truth_text, number_or_dash, printed_name, fields, reply_text, entry_line}
use Rattle.basic_values.proofs.CutLaws.{Lacks}
use Rattle.history_reader.specs.LineForms.{opened_read, block_read, record_read, file_reply_read, letter_read, state_read, failed_read, told_reply_read, reply_by, reply_read, entry_read}
use Rattle.history_reader.proofs.WordLaws.{joined, joined_fields, joined_lacks, is_plain, ArePlain, plain_more, decimal_plain, word_again}
use Rattle.history_reader.proofs.FieldLaws.{byte_field, half_field, long_field, account_plain, account_field, printed_plain, name_field, truth_plain, truth_field, blocks_plain, blocks_field, dash_plain, message_field, page_field, pages_plain, pages_field}
use Rattle.history_reader.proofs.RequestLaws.{request_word, request_fields, request_written, request_plain, request_again}

abbrev pub reply_word : Reply → List ℕ
reply_word Done = codes "DONE"
reply_word (Opened blocks read write) = codes "OPENED"
reply_word (Block page) = codes "BLOCK"
reply_word (Record pages) = codes "RECORD"
reply_word (Name name code blocks) = codes "NAME"
reply_word (Message job account text) = codes "MESSAGE"
reply_word (State job account calls) = codes "STATE"
reply_word (Failed number) = codes "FAILED"
reply_word Expired = codes "EXPIRED"

abbrev pub reply_fields : Reply → List (List ℕ)
reply_fields Done = []
reply_fields (Opened blocks read write) = decimal blocks ∷ truth_text read ∷ truth_text write ∷ []
reply_fields (Block page) = hex_or_dash page ∷ []
reply_fields (Record pages) = pages_text pages ∷ []
reply_fields (Name name code blocks) = printed_name name ∷ decimal code ∷ number_or_dash blocks ∷ []
reply_fields (Message job account text) = decimal job ∷ account_digits account ∷ hex_or_dash text ∷ []
reply_fields (State job account calls) = decimal job ∷ account_digits account ∷ decimal calls ∷ []
reply_fields (Failed number) = decimal number ∷ []
reply_fields Expired = []

reply_written : (r : Reply) → reply_text r ≡ reply_word r ++ fields (reply_fields r)
reply_written Done = refl
reply_written r = refl

short_number : (n : ℕ) → n < 2 ^ 32 → is_plain (decimal n) ≡ true
short_number n small = decimal_plain n (omega arith)

reply_plain : (r : Reply) → IsProperReply r → ArePlain (reply_word r ∷ reply_fields r)
reply_plain Done good = (refl, tt)
reply_plain (Opened blocks read write) good = (refl, (short_number blocks (omega arith), (truth_plain read, (truth_plain write, tt))))
reply_plain (Block page) good = (refl, (dash_plain page, tt))
reply_plain (Record pages) good = (refl, (pages_plain pages, tt))
reply_plain (Name name code blocks) good = (refl, (printed_plain name good.0, (short_number code (omega arith), (blocks_plain blocks good.1.1, tt))))
reply_plain (Message job account text) good = (refl, (short_number job (omega arith), (account_plain account good.1.0, (dash_plain text, tt))))
reply_plain (State job account calls) good = (refl, (short_number job (omega arith), (account_plain account good.1.0, (short_number calls (omega arith), tt))))
reply_plain (Failed number) good = (refl, (short_number number (omega arith), tt))
reply_plain Expired good = (refl, tt)

opened_again : (blocks : ℕ) (read : Bool) (write : Bool) → IsProperReply (Opened blocks read write) → opened_read (joined (decimal blocks ∷ truth_text read ∷ truth_text write ∷ [])) ≡ Some (Opened blocks read write)
unfolding opened_read
opened_again blocks read write good = rw (half_field blocks (truth_text read ∷ truth_text write ∷ []) good, truth_field read (truth_text write ∷ []), truth_field write []) refl

block_again : (page : List ℕ) → IsProperReply (Block page) → block_read (joined (hex_or_dash page ∷ [])) ≡ Some (Block page)
unfolding block_read
block_again page good = rw (page_field page [] good) refl

record_again : (pages : List (List ℕ)) → IsProperReply (Record pages) → record_read (joined (pages_text pages ∷ [])) ≡ Some (Record pages)
unfolding record_read
record_again pages good = rw (pages_field pages [] good) refl

file_reply_again : (name : FileName) (code : ℕ) (blocks : Option ℕ) → IsProperReply (Name name code blocks) → file_reply_read (joined (printed_name name ∷ decimal code ∷ number_or_dash blocks ∷ [])) ≡ Some (Name name code blocks)
unfolding file_reply_read
file_reply_again name code blocks good = rw (name_field name (decimal code ∷ number_or_dash blocks ∷ []) good.0, byte_field code (number_or_dash blocks ∷ []) good.1.0, blocks_field blocks [] good.1.1) refl

letter_again : (job : ℕ) (account : Account) (text : List ℕ) → IsProperReply (Message job account text) → letter_read (joined (decimal job ∷ account_digits account ∷ hex_or_dash text ∷ [])) ≡ Some (Message job account text)
unfolding letter_read
letter_again job account text good = rw (long_field job (account_digits account ∷ hex_or_dash text ∷ []) good.0, account_field account (hex_or_dash text ∷ []) good.1.0, message_field text [] good.1.1) refl

state_again : (job : ℕ) (account : Account) (calls : ℕ) → IsProperReply (State job account calls) → state_read (joined (decimal job ∷ account_digits account ∷ decimal calls ∷ [])) ≡ Some (State job account calls)
unfolding state_read
state_again job account calls good = rw (long_field job (account_digits account ∷ decimal calls ∷ []) good.0, account_field account (decimal calls ∷ []) good.1.0, half_field calls [] good.1.1) refl

failed_again : (number : ℕ) → IsProperReply (Failed number) → failed_read (joined (decimal number ∷ [])) ≡ Some (Failed number)
unfolding failed_read
failed_again number good = rw (byte_field number [] good) refl

by_word : (word : List ℕ) (words : List (List ℕ)) → is_plain word ≡ true → reply_read (joined (word ∷ words)) ≡ reply_by word (joined words)
unfolding reply_read
by_word word words plain = rw (word_again word words plain) refl

reply_again : (r : Reply) → IsProperReply r → reply_read (joined (reply_word r ∷ reply_fields r)) ≡ Some r
unfolding reply_by told_reply_read
reply_again Done good = by_word (codes "DONE") [] refl
reply_again (Opened blocks read write) good = by_word (codes "OPENED") (decimal blocks ∷ truth_text read ∷ truth_text write ∷ []) refl ∙ opened_again blocks read write good
reply_again (Block page) good = by_word (codes "BLOCK") (hex_or_dash page ∷ []) refl ∙ block_again page good
reply_again (Record pages) good = by_word (codes "RECORD") (pages_text pages ∷ []) refl ∙ record_again pages good
reply_again (Name name code blocks) good = by_word (codes "NAME") (printed_name name ∷ decimal code ∷ number_or_dash blocks ∷ []) refl ∙ file_reply_again name code blocks good
reply_again (Message job account text) good = by_word (codes "MESSAGE") (decimal job ∷ account_digits account ∷ hex_or_dash text ∷ []) refl ∙ letter_again job account text good
reply_again (State job account calls) good = by_word (codes "STATE") (decimal job ∷ account_digits account ∷ decimal calls ∷ []) refl ∙ state_again job account calls good
reply_again (Failed number) good = by_word (codes "FAILED") (decimal number ∷ []) refl ∙ failed_again number good
reply_again Expired good = by_word (codes "EXPIRED") [] refl

-- ---- entries

abbrev behind_request : Entry → List (List ℕ)
behind_request e = codes "=" ∷ reply_word e.reply ∷ reply_fields e.reply

abbrev entry_words : Entry → List (List ℕ)
entry_words e = decimal e.job ∷ request_word e.request ∷ (request_fields e.request ++ behind_request e)

-- the line of an entry, without its LF
abbrev pub line_of : Entry → List ℕ
line_of e = joined (entry_words e)

entry_plain : (e : Entry) → IsProperEntry e → ArePlain (entry_words e)
entry_plain e good =
    let request = request_plain e.request good.1.0 in
    (short_number e.job good.0, (request.0, plain_more (request_fields e.request) (behind_request e) request.1 (refl, reply_plain e.reply good.1.1)))

pub line_lacks : (e : Entry) → IsProperEntry e → Lacks 10 (line_of e)
line_lacks e good = joined_lacks (entry_words e) (entry_plain e good)

fields_both : (xs ys : List (List ℕ)) → fields (xs ++ ys) ≡ fields xs ++ fields ys
fields_both [] ys = refl
fields_both (x ∷ xs) ys = ap (λ (t : List ℕ). 32 ∷ (x ++ t)) (fields_both xs ys) ∙ ap (λ (t : List ℕ). 32 ∷ t) (sym (append_assoc x (fields xs) (fields ys)))

regroup : (job word request reply : List ℕ) → ((((job ++ 32 ∷ []) ++ (word ++ request)) ++ 32 ∷ 61 ∷ 32 ∷ []) ++ reply) ++ 10 ∷ [] ≡ (job ++ 32 ∷ (word ++ (request ++ 32 ∷ 61 ∷ 32 ∷ reply))) ++ 10 ∷ []
regroup job word request reply = simp append_assoc

pub line_feed : (e : Entry) → entry_line e ≡ line_of e ++ 10 ∷ []
line_feed e =
    let job : List ℕ = decimal e.job in
    let word : List ℕ = request_word e.request in
    let request : List ℕ = fields (request_fields e.request) in
    let reply : List ℕ = reply_word e.reply ++ fields (reply_fields e.reply) in
    (λ i. ((((job ++ 32 ∷ []) ++ request_written e.request i) ++ 32 ∷ 61 ∷ 32 ∷ []) ++ reply_written e.reply i) ++ 10 ∷ [])
    ∙ regroup job word request reply
    ∙ ap (λ (t : List ℕ). (job ++ 32 ∷ (word ++ t)) ++ 10 ∷ []) (sym (fields_both (request_fields e.request) (behind_request e)))
    ∙ ap (λ (t : List ℕ). t ++ 10 ∷ []) (joined_fields job (word ∷ (request_fields e.request ++ behind_request e)))

pub entry_again : (e : Entry) → IsProperEntry e → entry_read (line_of e) ≡ Some e
unfolding entry_read
entry_again e good =
    rw (long_field e.job (request_word e.request ∷ (request_fields e.request ++ behind_request e)) good.0, request_again e.request (behind_request e) good.1.0, word_again (codes "=") (reply_word e.reply ∷ reply_fields e.reply) refl, reply_again e.reply good.1.1) refl
