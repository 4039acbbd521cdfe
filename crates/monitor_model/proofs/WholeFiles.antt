-- Every answer to a proper request keeps the names, codes and pages of the files in the ranges of
-- their types.
use Rattle.std.proofs.Common.{◌≡◌, ℕ, ◌-◌, zero, suc, true, false, cond, List, [], ◌∷◌, ◌++◌, replicate, set, refl, lit<, Some, None}
use Rattle.std.specs.Prelude.{Option, is_some, unwrap_or}
use Rattle.std.specs.List.{AllByRecursion}
use Rattle.std.proofs.lemmas.List.{length-replicate}
use Rattle.monitor_calls.specs.declared.names.Account.{Account}
use Rattle.monitor_calls.specs.declared.files.FileName.{FileName}
use Rattle.monitor_calls.specs.declared.calls.Entry.{Entry}
use Rattle.monitor_calls.specs.declared.calls.Request.{Request}
use Rattle.monitor_calls.specs.declared.calls.Reply.{Reply}
use Rattle.monitor_calls.specs.FileNames.{same_name}
use Rattle.monitor_calls.specs.Pages.{zeros}
use Rattle.monitor_calls.specs.Proper.{IsByte, IsOptionalByte, IsName, IsPage, IsProperRequest, Proper}
use Rattle.monitor_calls.specs.Volumes.{is_good_name}
use Rattle.monitor_model.specs.Files.{File, size, file_at, is_file, the_file, empty_file, remove, replace, written, put, put_all}
use Rattle.monitor_model.specs.Jobs.{the_channel}
use Rattle.monitor_model.specs.State.{State}
use Rattle.monitor_model.specs.Answer.{code_or_60, counted, next}
use Rattle.monitor_model.specs.History.{after}
use Rattle.monitor_model.proofs.Outcomes.{Deeds, table_is, Outcomes, answer_outcomes}

-- LISTS

module _ {A : Type 0} (P : A → Type 0) where
  pub all_push : (xs : List A) (x : A) → AllByRecursion P xs → P x → AllByRecursion P (xs ++ x ∷ [])
  all_push [] x all is = (is, tt)
  all_push (y ∷ xs) x all is = (all.0, all_push xs x all.1 is)

  all_append : (xs ys : List A) → AllByRecursion P xs → AllByRecursion P ys → AllByRecursion P (xs ++ ys)
  all_append [] ys all more = more
  all_append (x ∷ xs) ys all more = (all.0, all_append xs ys all.1 more)

  all_set : (xs : List A) (i : ℕ) (x : A) → AllByRecursion P xs → P x → AllByRecursion P (set xs i x)
  all_set [] i x all is = tt
  all_set (y ∷ xs) zero x all is = (is, all.1)
  all_set (y ∷ xs) (suc i) x all is = (all.0, all_set xs i x all.1 is)

  all_replicate : (n : ℕ) (x : A) → P x → AllByRecursion P (replicate n x)
  all_replicate zero x is = tt
  all_replicate (suc n) x is = (is, all_replicate n x is)

-- FILES

-- its name, its code and its pages are of their types
pub record IsWholeFile (file : File) : Type 0 where
  pub name : is_good_name file.name ≡ true
  pub code : IsByte file.code
  pub pages : AllByRecursion IsPage file.pages

abbrev pub AllWhole : List File → Type 0
AllWhole files = AllByRecursion IsWholeFile files

zeros_page : IsPage zeros
unfolding zeros
zeros_page = (length-replicate {A = ℕ} 512 0, all_replicate IsByte 512 0 (lit< tt))

module _ (name : FileName) where
  all_remove : (files : List File) → AllWhole files → AllWhole (remove files name)
  all_remove [] all = tt
  all_remove (file ∷ files) all =
      elim (same_name file.name name) as (λ v. AllWhole (cond v files (file ∷ remove files name))) [ true ↦ all.1 | false ↦ (all.0, all_remove files all.1) ]

  -- a file takes the place of another, if there is one
  all_replace : (files : List File) (new : File) → AllWhole files → (is_file files name ≡ true → IsWholeFile new) → AllWhole (replace files name new)
  all_replace [] new all is = tt
  all_replace (file ∷ files) new all is =
      elim (same_name file.name name) as (λ v. (is_some (cond v (Some file) (file_at files name)) ≡ true → IsWholeFile new) → AllWhole (cond v (new ∷ files) (file ∷ replace files name new))) [
        | true ↦ λ is. (is refl, all.1)
        | false ↦ λ is. (all.0, all_replace files new all.1 is)
      ] is

  whole_at : (files : List File) → AllWhole files → is_file files name ≡ true → IsWholeFile (the_file files name)
  whole_at [] all there = absurd (cc)
  whole_at (file ∷ files) all there =
      elim (same_name file.name name) as (λ v. is_some (cond v (Some file) (file_at files name)) ≡ true → IsWholeFile (unwrap_or (cond v (Some file) (file_at files name)) (empty_file name 0))) [
        | true ↦ λ there. all.0
        | false ↦ λ there. whole_at files all.1 there
      ] there

  -- one that is not there has no pages and the code 0
  code_at : (files : List File) → AllWhole files → IsByte (the_file files name).code
  code_at [] all = lit< tt
  code_at (file ∷ files) all =
      elim (same_name file.name name) as (λ v. IsByte (unwrap_or (cond v (Some file) (file_at files name)) (empty_file name 0)).code) [ true ↦ all.0.code | false ↦ code_at files all.1 ]

  pages_at : (files : List File) → AllWhole files → AllByRecursion IsPage (the_file files name).pages
  pages_at [] all = tt
  pages_at (file ∷ files) all =
      elim (same_name file.name name) as (λ v. AllByRecursion IsPage (unwrap_or (cond v (Some file) (file_at files name)) (empty_file name 0)).pages) [ true ↦ all.0.pages | false ↦ pages_at files all.1 ]

whole_written : (file : File) (block : ℕ) (page : List ℕ) → IsWholeFile file → IsPage page → IsWholeFile (written file block page)
unfolding written
whole_written file block page whole is = record {
  name = whole.name;
  code = whole.code;
  pages = all_set IsPage _ (block - 1) page (all_append IsPage file.pages _ whole.pages (all_replicate IsPage (block - size file) zeros zeros_page)) is;
}

all_put : (files : List File) (name : FileName) (block : ℕ) (page : List ℕ) → AllWhole files → IsPage page → AllWhole (put files name block page)
all_put files name block page all is =
    all_replace name files _ all (λ there. whole_written (the_file files name) block page (whole_at name files all there) is)

all_put_all : (files : List File) (name : FileName) (block : ℕ) (pages : List (List ℕ)) → AllWhole files → AllByRecursion IsPage pages → AllWhole (put_all files name block pages)
all_put_all files name block [] all are = all
all_put_all files name block (page ∷ pages) all are =
    all_put (put_all files name (suc block) pages) name block page (all_put_all files name (suc block) pages all are.1) are.0

code_given : (code : Option ℕ) (other : ℕ) → IsOptionalByte code → IsByte other → IsByte (unwrap_or code other)
code_given None other given is = is
code_given (Some n) other given is = given

good_name : (name : FileName) → IsName name → is_good_name name ≡ true
good_name name named = rw (named.1.0, named.1.1) refl

whole_empty : (name : FileName) (code : Option ℕ) → IsName name → IsOptionalByte code → IsWholeFile (empty_file name (code_or_60 code))
whole_empty name code named coded =
    record { name = good_name name named; code = code_given code 60 coded (lit< tt); pages = tt }

-- ANSWERS

module _ (job : ℕ) where
  abbrev Kept : Request → State × Reply → Type 0
  Kept request out = IsProperRequest request → AllWhole out.0.files

  deeds_keep : (s : State) (caller : Account) → AllWhole s.files → Deeds s job caller Kept
  deeds_keep s caller all = record {
    idle = λ request reply mild goes fine is. all;
    posts = λ request reply mild goes fine receivers posting is. all;
    prints = λ request mild printer printing is. all;
    opens = λ channel name kind update code low free there right is. all;
    makes = λ channel name kind update code low free none h is.
        all_push IsWholeFile s.files _ all (whole_empty name code is.1.0 is.1.1);
    remakes = λ channel name kind update code low free there write unopened output is.
        all_push IsWholeFile (remove s.files name) _ (all_remove name s.files all) (whole_empty name code is.1.0 is.1.1);
    closes = λ channel opened is. all;
    gets = λ channel block opened h is. all;
    puts = λ channel block page opened h is.
        all_put s.files (the_channel s.jobs job channel).name block page all is.1.1;
    gets_record = λ channel block count opened h is. all;
    puts_record = λ channel block pages opened h is.
        all_put_all s.files (the_channel s.jobs job channel).name block pages all is.1.1;
    unlocks = λ channel opened is. all;
    kills = λ name h is. all_remove name s.files all;
    renames = λ old new code h is.
        all_push IsWholeFile (remove s.files old) _ (all_remove old s.files all) (record {
          name = good_name new is.1.0;
          code = code_given code (the_file s.files old).code is.1.1 (code_at old s.files all);
          pages = pages_at old s.files all;
        });
  }

  outcomes_keep : (m : State) → AllWhole m.files → Outcomes m job Kept
  outcomes_keep m all = record {
    turned_away = λ request none is. all;
    leaves = λ none is. all;
    logs_in = λ account password none right is. all;
    stops = λ caller some is. all;
    expires = λ request caller some is. all;
    table = λ caller some more.
        table_is (counted m job) job caller Kept (deeds_keep (counted m job) caller all) (λ request n mild is. all);
  }

pub whole_after : (m : State) (history : List Entry) → AllWhole m.files → Proper history → AllWhole (after m history).files
whole_after m [] all proper = all
whole_after m (entry ∷ history) all proper =
    whole_after (next m entry.job entry.request) history (answer_outcomes m entry.job (Kept entry.job) (outcomes_keep entry.job m all) entry.request proper.0.1.0) proper.1
