-- The accounts, blocks and files after a proper history from a good volume are a good volume.
use Rattle.std.proofs.Common.{◌≡◌, ℕ, ◌≤◌, Bool, true, false, cond, List, [], ◌∷◌, length, map, refl, sym, ap, ◌∙◌, subst, arith, le-leb, Some, None}
use Rattle.std.specs.Prelude.{not, ◌&&◌, ◌||◌, nat_le, is_some}
use Rattle.std.specs.List.{list_all, AllByRecursion}
use Rattle.std.proofs.lemmas.Bool.{and_parts, and_from, leb-true, true≢false}
use Rattle.std.proofs.lemmas.List.{length-map}
use Rattle.monitor_calls.specs.declared.names.Account.{Account}
use Rattle.monitor_calls.specs.declared.volumes.AccountEntry.{AccountEntry}
use Rattle.monitor_calls.specs.declared.files.FileName.{FileName}
use Rattle.monitor_calls.specs.declared.files.FileEntry.{FileEntry}
use Rattle.monitor_calls.specs.FileNames.{same_account, same_name}
use Rattle.monitor_calls.specs.Volumes.{has_account, is_between, are_apart, are_good_accounts, is_good_name, is_good_file, has_file, are_files_apart, are_good_files, are_in_quota, is_good_volume, blocks_of as volume_blocks, blocks_owned as volume_owned}
use Rattle.monitor_calls.proofs.FileNameLemmas.{same_name-self, Decides-same_account}
use Rattle.monitor_model.specs.Files.{File, file_at, is_file, blocks_of, blocks_owned, AreApart}
use Rattle.monitor_model.specs.State.{State, file_of, volume_file, entry_of, quota_in, quota_of, opening}
use Rattle.monitor_model.specs.Answer.{next, reply}
use Rattle.monitor_model.specs.Good.{GoodFiles}
use Rattle.monitor_model.specs.History.{after}
use Rattle.monitor_model.specs.Laws.{AccountsStay, HasWholePages, ClosingIsVolume}
use Rattle.monitor_model.specs.Spans.{is_end}
use Rattle.monitor_model.proofs.GoodLaw.{all_good}
use Rattle.monitor_model.proofs.Moves.{Keeps, answer_keeps}
use Rattle.monitor_model.proofs.Opening.{opening_good}
use Rattle.monitor_model.proofs.WholeFiles.{IsWholeFile, AllWhole, whole_after}

-- ACCOUNTS AND BLOCKS

abbrev IsOn : List AccountEntry → ℕ → State → Type 0
IsOn accounts blocks s = (s.accounts ≡ accounts) × (s.blocks ≡ blocks)

accounts_keep : (job : ℕ) (F : ℕ → Type 0) (accounts : List AccountEntry) (blocks : ℕ) → Keeps job F (IsOn accounts blocks)
accounts_keep job F accounts blocks = record {
  logs_in = λ m account password none right is. is;
  counts = λ m caller some more is. is;
  ends = λ m all is. is;
  opens = λ m c entry caller low some none there is. is;
  makes = λ m name code none known few is. is;
  remakes = λ m name code there unopened is. is;
  removes = λ m name there unopened is. is;
  renames = λ m old new code same there unopened fresh is. is;
  posts = λ m caller receivers some posting is. is;
  prints = λ m caller request printer some printing is. is;
  closes = λ m c caller f some is. is;
  releases = λ m c f is. is;
  adds = λ m c at first count opened update read few none free is. is;
  stores = λ m c at block page opened write some free room is. is;
}

pub accounts_stay : AccountsStay
accounts_stay m [] = (refl, refl)
accounts_stay m (entry ∷ history) =
    let rest = accounts_stay (next m entry.job entry.request) history in
    let one = answer_keeps entry.job (IsOn m.accounts m.blocks) m entry.request (accounts_keep entry.job (λ channel. is_end channel entry.request (reply m entry.job entry.request) ≡ true) m.accounts m.blocks) (refl, refl) in
    (rest.0 ∙ one.0, rest.1 ∙ one.1)

-- FILES

-- the files of the volume are opened as the files that they were
pub files_again : (files : List File) → map file_of (map volume_file files) ≡ files
files_again [] = refl
files_again (file ∷ files) = ap (λ (fs : List File). file ∷ fs) (files_again files)

none_named : (files : List File) (name : FileName) → file_at files name ≡ None → has_file (map volume_file files) name ≡ false
none_named [] name none = refl
none_named (file ∷ files) name none =
    elim (same_name file.name name) as (λ v. cond v (Some file) (file_at files name) ≡ None → (v || has_file (map volume_file files) name) ≡ false) [
      | true ↦ λ none. absurd (cc)
      | false ↦ λ none. none_named files name none
    ] none

files_apart : (files : List File) → AreApart files → are_files_apart (map volume_file files) ≡ true
files_apart [] apart = refl
files_apart (file ∷ files) apart =
    and_from (not (has_file (map volume_file files) file.name)) (are_files_apart (map volume_file files)) (ap not (none_named files file.name apart.0)) (files_apart files apart.1)

volume_blocks_are : (files : List File) → volume_blocks (map volume_file files) ≡ blocks_of files
volume_blocks_are [] = refl
volume_blocks_are (file ∷ files) = omega (arith, volume_blocks_are files)

volume_owned_are : (files : List File) (owner : Account) → volume_owned (map volume_file files) owner ≡ blocks_owned files owner
volume_owned_are [] owner = refl
volume_owned_are (file ∷ files) owner = omega (arith, volume_owned_are files owner)

good_file : (accounts : List AccountEntry) (file : File) → IsWholeFile file → has_account accounts file.name.owner ≡ true → is_good_file accounts (volume_file file) ≡ true
good_file accounts file whole known =
    rw (whole.name, le-leb file.code 255 (omega (arith, whole.code)), known) refl

all_good_files : (accounts : List AccountEntry) (files : List File) → AllWhole files → ((name : FileName) → is_file files name ≡ true → has_account accounts name.owner ≡ true) → list_all (is_good_file accounts) (map volume_file files) ≡ true
all_good_files accounts [] all owners = refl
all_good_files accounts (file ∷ files) all owners =
    and_from (is_good_file accounts (volume_file file)) (list_all (is_good_file accounts) (map volume_file files))
    (good_file accounts file all.0 (owners file.name (ap (λ b. is_some (cond b (Some file) (file_at files file.name))) (same_name-self file.name))))
    (all_good_files accounts files all.1 (λ name is. owners name (behind name is)))
  where
    behind : (name : FileName) → is_file files name ≡ true → is_file (file ∷ files) name ≡ true
    behind name is =
        elim (same_name file.name name) as (λ v. is_some (cond v (Some file) (file_at files name)) ≡ true) [ true ↦ refl | false ↦ is ]

-- QUOTAS

same_self : (account : Account) → same_account account account ≡ true
same_self account = (Decides-same_account account account).1 refl

-- each account's files are within its quota if no two accounts have the same number
in_quota : (accounts : List AccountEntry) (files : List FileEntry) → are_apart accounts ≡ true → ((owner : Account) → has_account accounts owner ≡ true → volume_owned files owner ≤ quota_of accounts owner) → are_in_quota accounts files ≡ true
in_quota [] files apart fits = refl
in_quota (entry ∷ accounts) files apart fits =
    let parts = and_parts (not (has_account accounts entry.account)) (are_apart accounts) apart in
    and_from (nat_le (volume_owned files entry.account) entry.quota) (are_in_quota accounts files)
    (le-leb (volume_owned files entry.account) entry.quota
    (subst (λ b. volume_owned files entry.account ≤ quota_in (cond b (Some entry) (entry_of accounts entry.account))) (same_self entry.account)
    (fits entry.account (ap (λ b. b || has_account accounts entry.account) (same_self entry.account)))))
    (in_quota accounts files parts.1 (λ owner known. others owner known parts.0))
  where
    others : (owner : Account) → has_account accounts owner ≡ true → not (has_account accounts entry.account) ≡ true → volume_owned files owner ≤ quota_of accounts owner
    others owner known alone =
        elim (same_account entry.account owner) as (λ v. same_account entry.account owner ≡ v → ((v || has_account accounts owner) ≡ true → volume_owned files owner ≤ quota_in (cond v (Some entry) (entry_of accounts owner))) → volume_owned files owner ≤ quota_of accounts owner) [
          | true ↦ λ same fits. absurd (true≢false (sym alone ∙ ap not (subst (λ o. has_account accounts o ≡ true) (sym ((Decides-same_account entry.account owner).0 same)) known)))
          | false ↦ λ other fits. fits known
        ] refl (fits owner)

-- THE VOLUME

good_volume : (m : State) → GoodFiles m → AllWhole m.files → is_between 1 16384 m.blocks ≡ true → are_good_accounts m.accounts ≡ true → are_apart m.accounts ≡ true → is_good_volume m.blocks m.accounts (map volume_file m.files) ≡ true
good_volume m good whole sized known apart =
    let files = map volume_file m.files in
    let few : nat_le (length files) 512 ≡ true = le-leb (length files) 512 (omega (arith, length-map m.files volume_file, good.few)) in
    let owned : list_all (is_good_file m.accounts) files ≡ true = all_good_files m.accounts m.files whole good.owners in
    let fits : nat_le (volume_blocks files) m.blocks ≡ true = le-leb (volume_blocks files) m.blocks (omega (arith, volume_blocks_are m.files, good.fits)) in
    let quotas : are_in_quota m.accounts files ≡ true = in_quota m.accounts files apart (λ owner is. omega (arith, volume_owned_are m.files owner, good.quotas owner is)) in
    rw (sized, known, few, owned, files_apart m.files good.apart, fits, quotas) refl

-- the files of a good volume, as a monitor opens them
whole_opening : (accounts : List AccountEntry) (files : List FileEntry) → list_all (is_good_file accounts) files ≡ true → AllByRecursion HasWholePages files → AllWhole (map file_of files)
whole_opening accounts [] good whole = tt
whole_opening accounts (file ∷ files) good whole =
    let each = and_parts (is_good_file accounts file) (list_all (is_good_file accounts) files) good in
    let owned = and_parts (is_good_name file.name && nat_le file.code 255) (has_account accounts file.name.owner) each.0 in
    let named = and_parts (is_good_name file.name) (nat_le file.code 255) owned.0 in
    let code = leb-true file.code 255 named.1 in
    (record { name = named.0; code = omega (arith, code); pages = whole.0 }, whole_opening accounts files each.1 whole.1)

whole_pages : (files : List File) → AllWhole files → AllByRecursion HasWholePages (map volume_file files)
whole_pages [] all = tt
whole_pages (file ∷ files) all = (all.0.pages, whole_pages files all.1)

pub closing_is_volume : ClosingIsVolume
closing_is_volume accounts blocks files jobs history volume proper =
    let first = opening accounts blocks files jobs in
    let m = after first history in
    let parts = and_parts (is_between 1 16384 blocks && are_good_accounts accounts) (are_good_files blocks accounts files) volume.good in
    let size = and_parts (is_between 1 16384 blocks) (are_good_accounts accounts) parts.0 in
    let names : Bool = nat_le (length files) 512 && list_all (is_good_file accounts) files in
    let fits : Bool = names && are_files_apart files && nat_le (volume_blocks files) blocks in
    let kept = and_parts fits (are_in_quota accounts files) parts.1 in
    let counted = and_parts (names && are_files_apart files) (nat_le (volume_blocks files) blocks) kept.0 in
    let named = and_parts names (are_files_apart files) counted.0 in
    let each = (and_parts (nat_le (length files) 512) (list_all (is_good_file accounts) files) named.0).1 in
    let whole = whole_after first history (whole_opening accounts files each volume.whole) proper in
    let good = all_good first history (opening_good accounts blocks files jobs volume.good) in
    let stay = accounts_stay first history in
    record {
      good = good_volume m good.files whole
          (ap (is_between 1 16384) stay.1 ∙ size.0)
          (ap are_good_accounts stay.0 ∙ size.1)
          good.accounts.apart;
      whole = whole_pages m.files whole;
    }
