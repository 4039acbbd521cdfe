-- Accounts and terminals to which one more is added: they stay good exactly if no cause applies.
use Rattle.std.proofs.Common.{◌≡◌, ℕ, ◌<◌, ◌≤◌, Bool, true, false, eqb, List, [], ◌∷◌, ◌++◌, length, refl, sym, ap, subst, ◌∙◌, arith}
use Rattle.std.specs.Prelude.{◌&&◌, ◌||◌, not, nat_le, bytes_eq}
use Rattle.std.specs.List.{list_all, AllByRecursion}
use Rattle.std.specs.Cmp.Lexicographic.{bytes_decides}
use Rattle.std.proofs.lemmas.Bool.{leb-true, le-leb, eqb-true, eq-eqb}
use Rattle.std.proofs.lemmas.List.{length-append}
use Rattle.std.proofs.lemmas.List.Folds.{list_any-append, list_all-append}
use Rattle.monitor_calls.specs.declared.names.Account.{Account}
use Rattle.monitor_calls.specs.declared.volumes.AccountEntry.{AccountEntry}
use Rattle.monitor_calls.specs.declared.files.FileEntry.{FileEntry}
use Rattle.monitor_calls.specs.Names.{is_password}
use Rattle.monitor_calls.specs.Volumes.{same_account, has_account, are_apart, is_between, is_good_entry, are_good_accounts, are_in_quota, are_good_files, is_good_volume}
use Rattle.deck_model.specs.Deck.{Terminal, IsTerminal, AreTerminals, has_terminal, are_named_apart}
use Rattle.basic_values.proofs.CutLaws.{and_left, and_right, and_both}

-- ---- tests

pub or_false : (b : Bool) → (b || false) ≡ b
or_false true = refl
or_false false = refl

pub and_true : (b : Bool) → (b && true) ≡ b
and_true true = refl
and_true false = refl

pub not_or : (a b : Bool) → not (a || b) ≡ (not a && not b)
not_or true b = refl
not_or false b = refl

pub not_true : (b : Bool) → not b ≡ true → b ≡ false
not_true true e = absurd (cc)
not_true false e = refl

pub false_not : (b : Bool) → b ≡ false → not b ≡ true
false_not b e = rw e refl

pub and_swap : (a b c d : Bool) → ((a && b) && (c && d)) ≡ ((a && c) && (b && d))
and_swap true true c d = refl
and_swap true false true d = refl
and_swap true false false d = refl
and_swap false b c d = refl

pub or_none : (a b : Bool) → (a || b) ≡ false → (a ≡ false) × (b ≡ false)
or_none true b e = absurd (cc)
or_none false b e = (refl, e)

pub same_sides : (a b : Bool) → (a ≡ true → b ≡ true) → (b ≡ true → a ≡ true) → a ≡ b
same_sides true true f g = refl
same_sides true false f g = absurd (let e : false ≡ true = f refl in cc)
same_sides false true f g = absurd (let e : false ≡ true = g refl in cc)
same_sides false false f g = refl

-- ---- accounts

pub eq_turned : (a b : ℕ) → eqb a b ≡ eqb b a
eq_turned a b = same_sides (eqb a b) (eqb b a) (λ e. eq-eqb b a (sym (eqb-true a b e))) (λ e. eq-eqb a b (sym (eqb-true b a e)))

pub account_turned : (a b : Account) → same_account a b ≡ same_account b a
account_turned a b = λ i. eq_turned a.project b.project i && eq_turned a.programmer b.programmer i

pub account_same : (a b : Account) → same_account a b ≡ true → a ≡ b
account_same a b same =
    let project : a.project ≡ b.project = eqb-true _ _ (and_left (eqb a.project b.project) (eqb a.programmer b.programmer) same) in
    let programmer : a.programmer ≡ b.programmer = eqb-true _ _ (and_right (eqb a.project b.project) (eqb a.programmer b.programmer) same) in
    λ i. record { project = project i; programmer = programmer i }

apart_push : (xs : List AccountEntry) (e : AccountEntry) → are_apart (xs ++ e ∷ []) ≡ (are_apart xs && not (has_account xs e.account))
apart_push [] e = refl
apart_push (x ∷ xs) e =
    let here : has_account (xs ++ e ∷ []) x.account ≡ (has_account xs x.account || same_account x.account e.account) =
    list_any-append (λ (entry : AccountEntry). same_account entry.account x.account) xs (e ∷ [])
    ∙ ap (λ (b : Bool). has_account xs x.account || b) (or_false (same_account e.account x.account) ∙ account_turned e.account x.account) in
    (λ i. not (here i) && apart_push xs e i)
    ∙ ap (λ (b : Bool). b && (are_apart xs && not (has_account xs e.account))) (not_or (has_account xs x.account) (same_account x.account e.account))
    ∙ and_swap (not (has_account xs x.account)) (not (same_account x.account e.account)) (are_apart xs) (not (has_account xs e.account))
    ∙ ap (λ (b : Bool). (not (has_account xs x.account) && are_apart xs) && b) (sym (not_or (same_account x.account e.account) (has_account xs e.account)))

apart_front : (xs ys : List AccountEntry) → are_apart (xs ++ ys) ≡ true → are_apart xs ≡ true
apart_front [] ys e = refl
apart_front (x ∷ xs) ys e =
    let split : has_account (xs ++ ys) x.account ≡ (has_account xs x.account || has_account ys x.account) = list_any-append (λ (entry : AccountEntry). same_account entry.account x.account) xs ys in
    let none : not (has_account xs x.account || has_account ys x.account) ≡ true = subst (λ (b : Bool). not b ≡ true) split (and_left (not (has_account (xs ++ ys) x.account)) (are_apart (xs ++ ys)) e) in
    and_both (not (has_account xs x.account)) (are_apart xs)
    (and_left (not (has_account xs x.account)) (not (has_account ys x.account)) (sym (not_or (has_account xs x.account) (has_account ys x.account)) ∙ none))
    (apart_front xs ys (and_right (not (has_account (xs ++ ys) x.account)) (are_apart (xs ++ ys)) e))

-- the ranges of an account
pub record IsOwner (a : Account) : Type 0 where
  pub least : nat_le 1 a.project ≡ true
  pub project : nat_le a.project 254 ≡ true
  pub programmer : nat_le a.programmer 254 ≡ true

entry_owner : (e : AccountEntry) → is_good_entry e ≡ true → IsOwner e.account
entry_owner e good =
    let p : Bool = is_between 1 254 e.account.project in
    let n : Bool = nat_le e.account.programmer 254 in
    let w : Bool = is_password e.password in
    let l : Bool = is_between 1 16384 e.limit in
    let b = and_left (p && n) w (and_left (p && n && w) l (and_left (p && n && w && l) (nat_le e.quota 16384) good)) in
    record {
      least = and_left (nat_le 1 e.account.project) (nat_le e.account.project 254) (and_left p n b);
      project = and_right (nat_le 1 e.account.project) (nat_le e.account.project 254) (and_left p n b);
      programmer = and_right p n b;
    }

same_owner : (a b : Account) → same_account a b ≡ true → IsOwner a → IsOwner b
same_owner a b same owner = subst IsOwner (account_same a b same) owner

-- an account among good ones is in its ranges
pub owner_ranges : (accounts : List AccountEntry) (a : Account) → list_all is_good_entry accounts ≡ true → has_account accounts a ≡ true → IsOwner a
owner_ranges [] a each has = absurd (cc)
owner_ranges (e ∷ es) a each has =
    go (same_account e.account a) refl (λ other. owner_ranges es a (and_right (is_good_entry e) (list_all is_good_entry es) each) (ap (λ (b : Bool). b || has_account es a) (sym other) ∙ has))
  where
    go : (b : Bool) → same_account e.account a ≡ b → (same_account e.account a ≡ false → IsOwner a) → IsOwner a
    go true same among = same_owner e.account a same (entry_owner e (and_left (is_good_entry e) (list_all is_good_entry es) each))
    go false other among = among other

-- the parts of a good volume
pub record GoodVolume (blocks : ℕ) (accounts : List AccountEntry) : Type 0 where
  pub size : is_between 1 16384 blocks ≡ true
  pub few : length accounts ≤ 512
  pub each : list_all is_good_entry accounts ≡ true
  pub apart : are_apart accounts ≡ true

pub volume_parts : (blocks : ℕ) (accounts : List AccountEntry) (files : List FileEntry) → is_good_volume blocks accounts files ≡ true → GoodVolume blocks accounts × (are_good_files blocks accounts files ≡ true)
volume_parts blocks accounts files good =
    let size = is_between 1 16384 blocks in
    let few = nat_le (length accounts) 512 in
    let each = list_all is_good_entry accounts in
    let lead = and_left (size && are_good_accounts accounts) (are_good_files blocks accounts files) good in
    let all = and_right size (are_good_accounts accounts) lead in
    let a = and_left (few && each) (are_apart accounts) all in (
      record {
        size = and_left size (are_good_accounts accounts) lead;
        few = leb-true _ _ (and_left few each a);
        each = and_right few each a;
        apart = and_right (few && each) (are_apart accounts) all;
      },
      and_right (size && are_good_accounts accounts) (are_good_files blocks accounts files) good,
    )

none_owned : (accounts : List AccountEntry) → are_in_quota accounts [] ≡ true
none_owned [] = refl
none_owned (e ∷ es) = and_both (nat_le 0 e.quota) (are_in_quota es []) (le-leb 0 e.quota (omega arith)) (none_owned es)

pub no_files : (blocks : ℕ) (accounts : List AccountEntry) → are_good_files blocks accounts [] ≡ true
no_files blocks accounts = and_both (nat_le 0 blocks) (are_in_quota accounts []) (le-leb 0 blocks (omega arith)) (none_owned accounts)

pub volume_whole : (blocks : ℕ) (accounts : List AccountEntry) (files : List FileEntry) → GoodVolume blocks accounts → are_good_files blocks accounts files ≡ true → is_good_volume blocks accounts files ≡ true
volume_whole blocks accounts files v good = rw (v.size, le-leb (length accounts) 512 v.few, v.each, v.apart) good

pub volume_front : (blocks : ℕ) (xs ys : List AccountEntry) → GoodVolume blocks (xs ++ ys) → GoodVolume blocks xs
volume_front blocks xs ys v =
    record {
      size = v.size;
      few = omega (arith, length-append xs ys, v.few);
      each = and_left (list_all is_good_entry xs) (list_all is_good_entry ys) (sym (list_all-append is_good_entry xs ys) ∙ v.each);
      apart = apart_front xs ys v.apart;
    }

-- what one account more has to meet
pub record FitsIn (accounts : List AccountEntry) (entry : AccountEntry) : Type 0 where
  pub good : is_good_entry entry ≡ true
  pub new : has_account accounts entry.account ≡ false
  pub room : length accounts < 512

pub volume_push : (blocks : ℕ) (xs : List AccountEntry) (e : AccountEntry) → GoodVolume blocks xs → FitsIn xs e → GoodVolume blocks (xs ++ e ∷ [])
volume_push blocks xs e v fits =
    record {
      size = v.size;
      few = omega (arith, length-append xs (e ∷ []), fits.room);
      each = list_all-append is_good_entry xs (e ∷ []) ∙ and_both (list_all is_good_entry xs) (is_good_entry e && true) v.each (and_true (is_good_entry e) ∙ fits.good);
      apart = apart_push xs e ∙ and_both (are_apart xs) (not (has_account xs e.account)) v.apart (false_not _ fits.new);
    }

pub volume_last : (blocks : ℕ) (xs : List AccountEntry) (e : AccountEntry) → GoodVolume blocks (xs ++ e ∷ []) → FitsIn xs e
volume_last blocks xs e v =
    record {
      good = sym (and_true (is_good_entry e)) ∙ and_right (list_all is_good_entry xs) (is_good_entry e && true) (sym (list_all-append is_good_entry xs (e ∷ [])) ∙ v.each);
      new = not_true _ (and_right (are_apart xs) (not (has_account xs e.account)) (sym (apart_push xs e) ∙ v.apart));
      room = omega (arith, length-append xs (e ∷ []), v.few);
    }

-- ---- terminals

pub all_append : {X : Type 0} (P : X → Type 0) (xs ys : List X) → AllByRecursion P xs → AllByRecursion P ys → AllByRecursion P (xs ++ ys)
all_append P [] ys a b = b
all_append P (x ∷ xs) ys a b = (a.0, all_append P xs ys a.1 b)

pub all_front : {X : Type 0} (P : X → Type 0) (xs ys : List X) → AllByRecursion P (xs ++ ys) → AllByRecursion P xs
all_front P [] ys a = tt
all_front P (x ∷ xs) ys a = (a.0, all_front P xs ys a.1)

pub all_back : {X : Type 0} (P : X → Type 0) (xs ys : List X) → AllByRecursion P (xs ++ ys) → AllByRecursion P ys
all_back P [] ys a = a
all_back P (x ∷ xs) ys a = all_back P xs ys a.1

pub bytes_turned : (a b : List ℕ) → bytes_eq a b ≡ bytes_eq b a
bytes_turned a b = same_sides (bytes_eq a b) (bytes_eq b a) (λ e. (bytes_decides b a).1 (sym ((bytes_decides a b).0 e))) (λ e. (bytes_decides a b).1 (sym ((bytes_decides b a).0 e)))

named_push : (ts : List Terminal) (t : Terminal) → are_named_apart (ts ++ t ∷ []) ≡ (are_named_apart ts && not (has_terminal ts t.name))
named_push [] t = refl
named_push (u ∷ ts) t =
    let here : has_terminal (ts ++ t ∷ []) u.name ≡ (has_terminal ts u.name || bytes_eq u.name t.name) =
    list_any-append (λ (terminal : Terminal). bytes_eq terminal.name u.name) ts (t ∷ [])
    ∙ ap (λ (b : Bool). has_terminal ts u.name || b) (or_false (bytes_eq t.name u.name) ∙ bytes_turned t.name u.name) in
    (λ i. not (here i) && named_push ts t i)
    ∙ ap (λ (b : Bool). b && (are_named_apart ts && not (has_terminal ts t.name))) (not_or (has_terminal ts u.name) (bytes_eq u.name t.name))
    ∙ and_swap (not (has_terminal ts u.name)) (not (bytes_eq u.name t.name)) (are_named_apart ts) (not (has_terminal ts t.name))
    ∙ ap (λ (b : Bool). (not (has_terminal ts u.name) && are_named_apart ts) && b) (sym (not_or (bytes_eq u.name t.name) (has_terminal ts t.name)))

named_front : (ts us : List Terminal) → are_named_apart (ts ++ us) ≡ true → are_named_apart ts ≡ true
named_front [] us e = refl
named_front (t ∷ ts) us e =
    let split : has_terminal (ts ++ us) t.name ≡ (has_terminal ts t.name || has_terminal us t.name) = list_any-append (λ (terminal : Terminal). bytes_eq terminal.name t.name) ts us in
    let none : not (has_terminal ts t.name || has_terminal us t.name) ≡ true = subst (λ (b : Bool). not b ≡ true) split (and_left (not (has_terminal (ts ++ us) t.name)) (are_named_apart (ts ++ us)) e) in
    and_both (not (has_terminal ts t.name)) (are_named_apart ts)
    (and_left (not (has_terminal ts t.name)) (not (has_terminal us t.name)) (sym (not_or (has_terminal ts t.name) (has_terminal us t.name)) ∙ none))
    (named_front ts us (and_right (not (has_terminal (ts ++ us) t.name)) (are_named_apart (ts ++ us)) e))

pub terminals_front : (ts us : List Terminal) → AreTerminals (ts ++ us) → AreTerminals ts
terminals_front ts us a =
    record {
      each = all_front IsTerminal ts us a.each;
      apart = named_front ts us a.apart;
      few = omega (arith, length-append ts us, a.few);
    }

-- what one terminal more has to meet
pub record FitsAmong (terminals : List Terminal) (terminal : Terminal) : Type 0 where
  pub good : IsTerminal terminal
  pub new : has_terminal terminals terminal.name ≡ false
  pub room : length terminals < 63

pub terminals_push : (ts : List Terminal) (t : Terminal) → AreTerminals ts → FitsAmong ts t → AreTerminals (ts ++ t ∷ [])
terminals_push ts t a fits =
    record {
      each = all_append IsTerminal ts (t ∷ []) a.each (fits.good, tt);
      apart = named_push ts t ∙ and_both (are_named_apart ts) (not (has_terminal ts t.name)) a.apart (false_not _ fits.new);
      few = omega (arith, length-append ts (t ∷ []), fits.room);
    }

pub terminals_last : (ts : List Terminal) (t : Terminal) → AreTerminals (ts ++ t ∷ []) → FitsAmong ts t
terminals_last ts t a =
    record {
      good = (all_back IsTerminal ts (t ∷ []) a.each).0;
      new = not_true _ (and_right (are_named_apart ts) (not (has_terminal ts t.name)) (sym (named_push ts t) ∙ a.apart));
      room = omega (arith, length-append ts (t ∷ []), a.few);
    }
