-- What is read is an entry of the table. A chain of tests on a code is split by a lemma with a Bool
-- for each test.
use Rattle.std.proofs.Common.{◌≡◌, ℕ, ◌≤◌, ◌+◌, Bool, true, false, cond, eqb, List, [], ◌∷◌, ◌++◌, length, get_or, take, drop, Option, Some, None, refl, sym, ap, subst, ◌∙◌, arith}
use Rattle.std.specs.Prelude.{◌&&◌, nat_le}
use Rattle.std.proofs.lemmas.Bool.{eqb-true, leb-true, ne_eqb}
use Rattle.std.proofs.lemmas.List.{take_all, take_more, take-append-drop, append-nil, length-append, length-take-le}
use Rattle.basic_values.proofs.CutLaws.{and_left, and_right}
use Rattle.basic_values.specs.declared.limits.TheConstants.{LONGEST_MESSAGE, MOST_LETTERS}
use Rattle.monitor_calls.specs.declared.calls.Request.TheVariants.{Declare, Remove, Send, Receive, Status}
use Rattle.sys_calls.specs.declared.calls.TheConstants.{MOST_COMMON}
use Rattle.sys_calls.specs.declared.calls.SysCall.{SysCall}
use Rattle.sys_calls.specs.declared.calls.SysCall.TheVariants.{ReadCommon, WriteCommon, ErrorText, Ask}
use Rattle.sys_calls.specs.Table.{SaysDeclare, SaysSend, SaysCall}
use Rattle.sys_calls.specs.CallFronts.{receiver_in, only_call, common_in, error_in, declared_as, declare_in, sent_to, send_in, message_call_of, message_call_in, monitor_call_of, monitor_call_in, call_of, call_in}
use Rattle.sys_calls.proofs.ReceiverLemmas.{some_is, if_found, receiver_said}
use Rattle.sys_calls.proofs.SaidIsRead.{not_empty, code_off}

pub none_found : {A : Type 0} (x : A) → Some x ≡ None → ⊥
none_found x e = absurd cc

-- the call that was found in place of the one that it is
said_as : (text : List ℕ) (a b : SysCall) → Some a ≡ Some b → SaysCall text a → SaysCall text b
said_as text a b e says = subst (λ (call : SysCall). SaysCall text call) (some_is a b e) says

-- ---- what follows the codes

only_takes : (a b : SysCall) (rest : List ℕ) → only_call a rest ≡ Some b → (rest ≡ []) × (Some a ≡ Some b)
only_takes a b [] e = (refl, e)
only_takes a b (x ∷ rest) e =
    absurd (none_found b (sym e ∙ ap (λ c. cond c (Some a) None) (not_empty (length rest))))

only_said : (codes : List ℕ) (a b : SysCall) (rest : List ℕ) → SaysCall codes a → only_call a rest ≡ Some b → SaysCall (codes ++ rest) b
only_said codes a b rest says e =
    let only = only_takes a b rest e in
    let front : SaysCall (codes ++ []) a = subst (λ (t : List ℕ). SaysCall t a) (sym (append-nil codes)) says in
    said_as (codes ++ rest) a b only.1 (subst (λ (r : List ℕ). SaysCall (codes ++ r) a) (sym only.0) front)

common_said : (rest : List ℕ) (call : SysCall) → common_in rest ≡ Some call → SaysCall (8 ∷ rest) call
common_said rest call e =
    let found = if_found (nat_le (length rest) MOST_COMMON) (Some (WriteCommon rest)) call e in
    said_as (8 ∷ rest) (WriteCommon rest) call found.1 (refl, leb-true (length rest) MOST_COMMON found.0)

error_said : (rest : List ℕ) (call : SysCall) → error_in rest ≡ Some call → SaysCall (6 ∷ 9 ∷ rest) call
error_said [] call e = absurd cc
error_said (n ∷ []) call e = said_as (6 ∷ 9 ∷ n ∷ []) (ErrorText n) call e refl
error_said (a ∷ b ∷ rest) call e =
    absurd (none_found call (sym e ∙ ap (λ c. cond c (Some (ErrorText a)) None) (ne_eqb (length (a ∷ b ∷ rest)) 1 (λ long. omega (arith, long)))))

-- ---- Declare

record Declared (name : Option (List ℕ)) (most : ℕ) (call : SysCall) : Type 0 where
  who : List ℕ
  is : name ≡ Some who
  least : 1 ≤ most
  greatest : most ≤ MOST_LETTERS
  asks : Some (Ask (Declare who most)) ≡ Some call

declared_takes : (name : Option (List ℕ)) (most : ℕ) (call : SysCall) → declared_as name most ≡ Some call → Declared name most call
declared_takes None most call e = absurd cc
declared_takes (Some name) most call e =
    let found = if_found (nat_le 1 most && nat_le most MOST_LETTERS) (Some (Ask (Declare name most))) call e in
    record {
      who = name;
      is = refl;
      least = leb-true 1 most (and_left (nat_le 1 most) (nat_le most MOST_LETTERS) found.0);
      greatest = leb-true most MOST_LETTERS (and_right (nat_le 1 most) (nat_le most MOST_LETTERS) found.0);
      asks = found.1;
    }

declare_said : (rest : List ℕ) (call : SysCall) → declare_in rest ≡ Some call → SaysCall (6 ∷ 22 ∷ 1 ∷ rest) call
declare_said rest call e =
    let most : ℕ = get_or rest 6 0 in
    let found = if_found (eqb (length rest) 7) (declared_as (receiver_in (take 6 rest)) most) call e in
    let long : length rest ≡ 7 = eqb-true (length rest) 7 found.0 in
    let declared = declared_takes (receiver_in (take 6 rest)) most call found.1 in
    let whole : rest ≡ take 6 rest ++ most ∷ [] =
    sym (take_all 7 rest (omega (arith, long))) ∙ take_more rest 6 0 (omega (arith, long)) in
    let says : SaysDeclare (6 ∷ 22 ∷ 1 ∷ rest) declared.who most = record {
      six = take 6 rest;
      named = receiver_said (take 6 rest) declared.who (length-take-le 6 rest (omega (arith, long))) declared.is;
      is = ap (λ (r : List ℕ). 6 ∷ 22 ∷ 1 ∷ r) whole;
      least = declared.least;
      greatest = declared.greatest;
    } in
    said_as (6 ∷ 22 ∷ 1 ∷ rest) (Ask (Declare declared.who most)) call declared.asks says

-- ---- Send

sent_takes : (name : Option (List ℕ)) (message : List ℕ) (call : SysCall) → sent_to name message ≡ Some call → (who : List ℕ) × (name ≡ Some who) × (Some (Ask (Send who message)) ≡ Some call)
sent_takes None message call e = absurd cc
sent_takes (Some name) message call e = (name, refl, e)

send_said : (rest : List ℕ) (call : SysCall) → send_in rest ≡ Some call → SaysCall (6 ∷ 22 ∷ 255 ∷ rest) call
send_said rest call e =
    let most : ℕ = 6 + LONGEST_MESSAGE in
    let found = if_found (nat_le 6 (length rest) && nat_le (length rest) most) (sent_to (receiver_in (take 6 rest)) (drop 6 rest)) call e in
    let least : 6 ≤ length rest = leb-true 6 (length rest) (and_left (nat_le 6 (length rest)) (nat_le (length rest) most) found.0) in
    let greatest : length rest ≤ most = leb-true (length rest) most (and_right (nat_le 6 (length rest)) (nat_le (length rest) most) found.0) in
    let sent = sent_takes (receiver_in (take 6 rest)) (drop 6 rest) call found.1 in
    let whole : take 6 rest ++ drop 6 rest ≡ rest = take-append-drop 6 rest in
    let front : length (take 6 rest) ≡ 6 = length-take-le 6 rest least in
    let sum : length (take 6 rest) + length (drop 6 rest) ≡ length rest =
    sym (length-append (take 6 rest) (drop 6 rest)) ∙ ap length whole in
    let says : SaysSend (6 ∷ 22 ∷ 255 ∷ rest) sent.0 (drop 6 rest) = record {
      six = take 6 rest;
      named = receiver_said (take 6 rest) sent.0 front sent.1;
      is = ap (λ (r : List ℕ). 6 ∷ 22 ∷ 255 ∷ r) (sym whole);
      short = omega (arith, front, sum, greatest);
    } in
    said_as (6 ∷ 22 ∷ 255 ∷ rest) (Ask (Send sent.0 (drop 6 rest))) call sent.2 says

-- ---- the codes

-- the code that was tested is the first one
code_is : (codes rest : List ℕ) (wanted code : ℕ) (call : SysCall) → eqb code wanted ≡ true → SaysCall (codes ++ wanted ∷ rest) call → SaysCall (codes ++ code ∷ rest) call
code_is codes rest wanted code call e says =
    subst (λ (c : ℕ). SaysCall (codes ++ c ∷ rest) call) (sym (eqb-true code wanted e)) says

abbrev message_tests : Bool → Bool → Bool → Bool → List ℕ → Option SysCall
message_tests a b c d rest =
    cond a (only_call (Ask Remove) rest) (cond b (declare_in rest) (cond c (only_call (Ask Receive) rest) (cond d (send_in rest) None)))

message_by : (code : ℕ) (rest : List ℕ) (call : SysCall) (a b c d : Bool) → eqb code 0 ≡ a → eqb code 1 ≡ b → eqb code 2 ≡ c → eqb code 255 ≡ d → message_tests a b c d rest ≡ Some call → SaysCall (6 ∷ 22 ∷ code ∷ rest) call
message_by code rest call true b c d ea eb ec ed e =
    code_is (6 ∷ 22 ∷ []) rest 0 code call ea (only_said (6 ∷ 22 ∷ 0 ∷ []) (Ask Remove) call rest refl e)
message_by code rest call false true c d ea eb ec ed e =
    code_is (6 ∷ 22 ∷ []) rest 1 code call eb (declare_said rest call e)
message_by code rest call false false true d ea eb ec ed e =
    code_is (6 ∷ 22 ∷ []) rest 2 code call ec (only_said (6 ∷ 22 ∷ 2 ∷ []) (Ask Receive) call rest refl e)
message_by code rest call false false false true ea eb ec ed e =
    code_is (6 ∷ 22 ∷ []) rest 255 code call ed (send_said rest call e)
message_by code rest call false false false false ea eb ec ed e = absurd cc

message_said : (text : List ℕ) (call : SysCall) → message_call_in text ≡ Some call → SaysCall (6 ∷ 22 ∷ text) call
unfolding message_call_of
message_said [] call e = absurd (none_found call (sym e))
message_said (code ∷ rest) call e =
    message_by code rest call (eqb code 0) (eqb code 1) (eqb code 2) (eqb code 255) refl refl refl refl (sym (code_off message_call_of code rest) ∙ e)

abbrev monitor_tests : Bool → Bool → Bool → List ℕ → Option SysCall
monitor_tests a b c rest =
    cond a (error_in rest) (cond b (message_call_in rest) (cond c (only_call (Ask Status) rest) None))

monitor_by : (code : ℕ) (rest : List ℕ) (call : SysCall) (a b c : Bool) → eqb code 9 ≡ a → eqb code 22 ≡ b → eqb code 128 ≡ c → monitor_tests a b c rest ≡ Some call → SaysCall (6 ∷ code ∷ rest) call
monitor_by code rest call true b c ea eb ec e = code_is (6 ∷ []) rest 9 code call ea (error_said rest call e)
monitor_by code rest call false true c ea eb ec e = code_is (6 ∷ []) rest 22 code call eb (message_said rest call e)
monitor_by code rest call false false true ea eb ec e =
    code_is (6 ∷ []) rest 128 code call ec (only_said (6 ∷ 128 ∷ []) (Ask Status) call rest refl e)
monitor_by code rest call false false false ea eb ec e = absurd cc

monitor_said : (text : List ℕ) (call : SysCall) → monitor_call_in text ≡ Some call → SaysCall (6 ∷ text) call
unfolding monitor_call_of
monitor_said [] call e = absurd (none_found call (sym e))
monitor_said (code ∷ rest) call e =
    monitor_by code rest call (eqb code 9) (eqb code 22) (eqb code 128) refl refl refl (sym (code_off monitor_call_of code rest) ∙ e)

abbrev call_tests : Bool → Bool → Bool → List ℕ → Option SysCall
call_tests a b c rest =
    cond a (monitor_call_in rest) (cond b (only_call ReadCommon rest) (cond c (common_in rest) None))

call_by : (code : ℕ) (rest : List ℕ) (call : SysCall) (a b c : Bool) → eqb code 6 ≡ a → eqb code 7 ≡ b → eqb code 8 ≡ c → call_tests a b c rest ≡ Some call → SaysCall (code ∷ rest) call
call_by code rest call true b c ea eb ec e = code_is [] rest 6 code call ea (monitor_said rest call e)
call_by code rest call false true c ea eb ec e =
    code_is [] rest 7 code call eb (only_said (7 ∷ []) ReadCommon call rest refl e)
call_by code rest call false false true ea eb ec e = code_is [] rest 8 code call ec (common_said rest call e)
call_by code rest call false false false ea eb ec e = absurd cc

pub read_is_said : (text : List ℕ) (call : SysCall) → call_in text ≡ Some call → SaysCall text call
unfolding call_of
read_is_said [] call e = absurd (none_found call (sym e))
read_is_said (code ∷ rest) call e =
    call_by code rest call (eqb code 6) (eqb code 7) (eqb code 8) refl refl refl (sym (code_off call_of code rest) ∙ e)
