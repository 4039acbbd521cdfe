-- What the table has is read: from the start, code by code.
use Rattle.std.proofs.Common.{◌≡◌, ℕ, suc, ◌≤◌, ◌+◌, ◌-◌, true, false, cond, eqb, List, [], ◌∷◌, ◌++◌, length, get_or, take, drop, Option, Some, None, refl, sym, ap, ◌∙◌, arith, eq-eqb}
use Rattle.std.specs.Prelude.{◌&&◌, nat_le}
use Rattle.std.proofs.lemmas.Bool.{le-leb, ne_eqb}
use Rattle.std.proofs.lemmas.List.{take_at, drop_at, take_rest, length-append}
use Rattle.basic_values.proofs.CutLaws.{and_both}
use Rattle.basic_values.specs.declared.limits.TheConstants.{LONGEST_MESSAGE, MOST_LETTERS}
use Rattle.monitor_calls.specs.declared.calls.Request.TheVariants.{Declare, Remove, Send, Receive, Status}
use Rattle.sys_calls.specs.declared.calls.TheConstants.{MOST_COMMON}
use Rattle.sys_calls.specs.declared.calls.SysCall.{SysCall}
use Rattle.sys_calls.specs.declared.calls.SysCall.TheVariants.{ReadCommon, WriteCommon, ErrorText, Ask}
use Rattle.sys_calls.specs.Table.{SaysReceiver, SaysCall}
use Rattle.sys_calls.specs.CallFronts.{receiver_in, declared_as, declare_in, sent_to, send_in, by_code, message_call_of, monitor_call_of, call_of, call_in}
use Rattle.sys_calls.proofs.ReceiverLemmas.{then_found, receiver_found, six_bytes_long}

-- ---- a code at the start

pub not_empty : (n : ℕ) → eqb (suc n) 0 ≡ false
not_empty n = ne_eqb (suc n) 0 (λ e. omega arith)

pub code_off : (read : ℕ → List ℕ → Option SysCall) (code : ℕ) (rest : List ℕ) → by_code read (code ∷ rest) ≡ read code rest
code_off read code rest = ap (λ b. cond b None (read code rest)) (not_empty (length rest))

-- ---- Declare

last_of : (xs : List ℕ) (n : ℕ) → get_or (xs ++ n ∷ []) (length xs) 0 ≡ n
last_of [] n = refl
last_of (x ∷ xs) n = last_of xs n

declare_read : (six name : List ℕ) (most : ℕ) → SaysReceiver six name → 1 ≤ most → most ≤ MOST_LETTERS → declare_in (six ++ most ∷ []) ≡ Some (Ask (Declare name most))
declare_read six name most named least greatest =
    let rest : List ℕ = six ++ most ∷ [] in
    let long : length six ≡ 6 = six_bytes_long six name named in
    let seven : length rest ≡ 7 = length-append six (most ∷ []) ∙ ap (λ k. k + 1) long in
    let front : take 6 rest ≡ six = take_at six (most ∷ []) 6 long in
    let end : get_or rest 6 0 ≡ most = ap (λ k. get_or rest k 0) (sym long) ∙ last_of six most in
    let within : (nat_le 1 most && nat_le most MOST_LETTERS) ≡ true =
    and_both (nat_le 1 most) (nat_le most MOST_LETTERS) (le-leb 1 most least) (le-leb most MOST_LETTERS greatest) in
    then_found (eqb (length rest) 7) (declared_as (receiver_in (take 6 rest)) (get_or rest 6 0)) (eq-eqb (length rest) 7 seven)
    ∙ (λ i. declared_as (receiver_in (front i)) (end i))
    ∙ ap (λ o. declared_as o most) (receiver_found six name named)
    ∙ then_found (nat_le 1 most && nat_le most MOST_LETTERS) (Some (Ask (Declare name most))) within

-- ---- Send

send_long : (rest : List ℕ) → 6 ≤ length rest → length rest ≤ 6 + LONGEST_MESSAGE → send_in rest ≡ sent_to (receiver_in (take 6 rest)) (drop 6 rest)
send_long rest least greatest =
    then_found (nat_le 6 (length rest) && nat_le (length rest) (6 + LONGEST_MESSAGE)) (sent_to (receiver_in (take 6 rest)) (drop 6 rest))
    (and_both (nat_le 6 (length rest)) (nat_le (length rest) (6 + LONGEST_MESSAGE)) (le-leb 6 (length rest) least) (le-leb (length rest) (6 + LONGEST_MESSAGE) greatest))

-- the same if the name was found, with the message as a slice to the end
pub send_found : (rest name : List ℕ) → 6 ≤ length rest → length rest ≤ 6 + LONGEST_MESSAGE → receiver_in (take 6 rest) ≡ Some name → send_in rest ≡ sent_to (Some name) (take (length rest - 6) (drop 6 rest))
send_found rest name least greatest found =
    send_long rest least greatest
    ∙ ap (λ o. sent_to o (drop 6 rest)) found
    ∙ ap (sent_to (Some name)) (sym (take_rest rest 6))

send_read : (six name message : List ℕ) → SaysReceiver six name → length message ≤ LONGEST_MESSAGE → send_in (six ++ message) ≡ Some (Ask (Send name message))
send_read six name message named short =
    let long : length six ≡ 6 = six_bytes_long six name named in
    let whole : length (six ++ message) ≡ length six + length message = length-append six message in
    let front : take 6 (six ++ message) ≡ six = take_at six message 6 long in
    let end : drop 6 (six ++ message) ≡ message = drop_at six message 6 long in
    send_long (six ++ message) (omega (arith, long, whole)) (omega (arith, long, whole, short))
    ∙ (λ i. sent_to (receiver_in (front i)) (end i))
    ∙ ap (λ o. sent_to o message) (receiver_found six name named)

-- ---- every call

pub said_is_read : (text : List ℕ) (call : SysCall) → SaysCall text call → call_in text ≡ Some call
unfolding message_call_of monitor_call_of call_of
said_is_read text ReadCommon says = ap call_in says
said_is_read text (WriteCommon common) says =
    ap call_in says.0
    ∙ code_off call_of 8 common
    ∙ then_found (nat_le (length common) MOST_COMMON) (Some (WriteCommon common)) (le-leb (length common) MOST_COMMON says.1)
said_is_read text (ErrorText number) says = ap call_in says
said_is_read text (Ask (Declare name most)) says =
    ap call_in says.is
    ∙ code_off call_of 6 (22 ∷ 1 ∷ says.six ++ most ∷ [])
    ∙ code_off monitor_call_of 22 (1 ∷ says.six ++ most ∷ [])
    ∙ code_off message_call_of 1 (says.six ++ most ∷ [])
    ∙ declare_read says.six name most says.named says.least says.greatest
said_is_read text (Ask Remove) says = ap call_in says
said_is_read text (Ask (Send name message)) says =
    ap call_in says.is
    ∙ code_off call_of 6 (22 ∷ 255 ∷ says.six ++ message)
    ∙ code_off monitor_call_of 22 (255 ∷ says.six ++ message)
    ∙ code_off message_call_of 255 (says.six ++ message)
    ∙ send_read says.six name message says.named says.short
said_is_read text (Ask Receive) says = ap call_in says
said_is_read text (Ask Status) says = ap call_in says
said_is_read text call says = absurd says
