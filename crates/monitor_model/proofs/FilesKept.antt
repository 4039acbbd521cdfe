-- Every move keeps the files good, and the files of open channels.
use Rattle.std.proofs.Common.{◌≡◌, ℕ, ◌+◌, ◌-◌, ◌≤◌, true, false, cond, List, [], ◌∷◌, length, refl, sym, ap, ◌∙◌, subst, inl, inr, ◌⊎◌, arith, Some, None}
use Rattle.std.specs.Prelude.{not, ◌&&◌, is_some}
use Rattle.std.proofs.lemmas.Bool.{true≢false, leb-false}
use Rattle.std.proofs.lemmas.List.{length-append}
use Rattle.monitor_calls.specs.declared.names.Account.{Account}
use Rattle.monitor_calls.specs.declared.files.FileName.{FileName}
use Rattle.monitor_calls.specs.FileNames.{same_account, same_name}
use Rattle.monitor_calls.specs.Volumes.{has_account}
use Rattle.monitor_calls.proofs.FileNameLemmas.{same_name-true, same_name-false, cases_name, Decides-same_account}
use Rattle.monitor_model.specs.declared.entries.ChannelEntry.{ChannelEntry}
use Rattle.monitor_model.specs.Files.{File, size, size_for, file_at, is_file, the_file, blocks_of, blocks_owned, make, remove, replace, empty_file, renamed, written, AreApart}
use Rattle.monitor_model.specs.Jobs.{channel_of, is_open_file}
use Rattle.monitor_model.specs.State.{State, quota_of}
use Rattle.monitor_model.specs.Answer.{free, left_to, lacks_room}
use Rattle.monitor_model.specs.Good.{GoodFiles}
use Rattle.monitor_model.proofs.Tools.{either, by_test, none_of}
use Rattle.monitor_model.proofs.JobLemmas.{channel_of-log_in, channel_of-count, ended_was, set_channel_or, close_channel_or, is_open_file_at}
use Rattle.monitor_model.proofs.FileLemmas.{file_there, none_remove, file_at-make_new, apart_make, apart_remove, apart_replace, removed_gone}
use Rattle.monitor_model.proofs.PageLemmas.{the_file-name, written_name, replace_none, is_file-make, is_file-remove_other, is_file-put, blocks-make, blocks-remove, blocks-replace, length-replace, size-written}
use Rattle.monitor_model.proofs.OwnerLemmas.{own_size, other_size, at_most_size, fewer_owned, owned-make, owned-remove, owned-replace}
use Rattle.monitor_model.proofs.RecordLemmas.{room_there}
use Rattle.monitor_model.proofs.Moves.{Keeps}

-- THE ORIGIN OF A FILE

-- a file that exists after one was made existed before, or has the new name
made_or : (files : List File) (new : File) (name : FileName) → is_file (make files new) name ≡ true → (is_file files name ≡ true) ⊎ (new.name ≡ name)
made_or files new name is = by_test (is_file files name) (λ was. inl was)
    (λ no. by_test (same_name new.name name) (λ same. inr (same_name-true new.name name same))
    (λ differs. absurd (true≢false (sym is ∙ ap is_some (file_at-make_new files new name (none_of (file_at files name) no) ∙ ap (λ b. cond b (Some new) None) differs)))))

-- one that exists after one was deleted existed before
removed_was : (files : List File) (gone name : FileName) → AreApart files → is_file (remove files gone) name ≡ true → is_file files name ≡ true
removed_was files gone name apart is = either (cases_name name gone)
    (λ same. absurd (true≢false (sym is ∙ ap is_some (subst (λ n. file_at (remove files n) name ≡ None) same (removed_gone files name apart)))))
    (λ ne. sym (is_file-remove_other files gone name ne) ∙ is)

-- the new name of a file is free once the file is taken out
new_is_free : (files : List File) (old new : FileName) → AreApart files → (is_file files new && not (same_name new old)) ≡ false → file_at (remove files old) new ≡ None
new_is_free files old new apart fresh = either (cases_name new old)
    (λ same. subst (λ n. file_at (remove files old) n ≡ None) (sym same) (removed_gone files old apart))
    (λ ne. by_test (is_file files new)
    (λ is. absurd (true≢false (sym (λ i. is i && not (same_name-false new old ne i)) ∙ fresh)))
    (λ no. none_remove files old new (none_of (file_at files new) no)))

-- GOOD FILES

as_before : (m new : State) → new.files ≡ m.files → new.blocks ≡ m.blocks → new.accounts ≡ m.accounts → GoodFiles m → GoodFiles new
as_before m new files blocks accounts g = record {
  apart = subst AreApart (sym files) g.apart;
  few = subst (λ fs. length fs ≤ 512) (sym files) g.few;
  fits = subst (λ fs. blocks_of fs ≤ new.blocks) (sym files) (subst (λ n. blocks_of m.files ≤ n) (sym blocks) g.fits);
  owners = λ name is. subst (λ a. has_account a name.owner ≡ true) (sym accounts) (g.owners name (subst (λ fs. is_file fs name ≡ true) files is));
  quotas = λ owner known. subst (λ fs. blocks_owned fs owner ≤ quota_of new.accounts owner) (sym files) (subst (λ a. blocks_owned m.files owner ≤ quota_of a owner) (sym accounts) (g.quotas owner (subst (λ a. has_account a owner ≡ true) accounts known)));
}

-- a file is taken out, and one with no more blocks is made
module _ (m : State) (g : GoodFiles m) (old : FileName) (is : is_file m.files old ≡ true) where
  fewer : (blocks_of (remove m.files old) + size (the_file m.files old) ≡ blocks_of m.files) × (length (remove m.files old) + 1 ≡ length m.files)
  fewer = blocks-remove m.files old (the_file m.files old) (file_there m.files old is)

  fewer_left : (owner : Account) → blocks_owned (remove m.files old) owner + size_for (the_file m.files old) owner ≡ blocks_owned m.files owner
  fewer_left owner = owned-remove owner m.files old (the_file m.files old) (file_there m.files old is)

  removed : GoodFiles (record m { files = remove m.files old })
  removed = record {
    apart = apart_remove m.files old g.apart;
    few = omega (arith, fewer.1, g.few);
    fits = omega (arith, fewer.0, g.fits);
    owners = λ name is. g.owners name (removed_was m.files old name g.apart is);
    quotas = λ owner known. omega (arith, fewer_left owner, g.quotas owner known);
  }

  made_anew : (new : File) → size new ≤ size (the_file m.files old) → new.name.owner ≡ old.owner → file_at (remove m.files old) new.name ≡ None → has_account m.accounts new.name.owner ≡ true → GoodFiles (record m { files = make (remove m.files old) new })
  made_anew new small same free known = record {
    apart = apart_make (remove m.files old) new (apart_remove m.files old g.apart) free;
    few = omega (arith, length-append (remove m.files old) (new ∷ []), fewer.1, g.few);
    fits = omega (arith, blocks-make (remove m.files old) new, fewer.0, g.fits, small);
    owners = λ name is. either (made_or (remove m.files old) new name is)
        (λ was. g.owners name (removed_was m.files old name g.apart was))
        (λ same. subst (λ n. has_account m.accounts n.owner ≡ true) same known);
    quotas = λ owner known. omega (arith, owned-make owner (remove m.files old) new, fewer_left owner, g.quotas owner known, fewer_owned owner (the_file m.files old) new (same ∙ sym (ap (λ n. n.owner) (the_file-name m.files old))) small);
  }

-- a page is put if there is space
room_kept : (after before old new block blocks : ℕ) → after + old ≡ before + new → new ≡ old + (block - old) → block - old ≤ blocks - before → before ≤ blocks → after ≤ blocks
room_kept after before old new block blocks e f g h = omega arith

-- no account gets more blocks by a page than its quota
quota_kept : (m : State) → GoodFiles m → (name : FileName) (block : ℕ) (page : List ℕ) → lacks_room m name block ≡ false → (owner : Account) → has_account m.accounts owner ≡ true → blocks_owned (replace m.files name (written (the_file m.files name) block page)) owner ≤ quota_of m.accounts owner
quota_kept m g name block page room owner known =
    let file = the_file m.files name in
    let new = written file block page in
    let quota = quota_of m.accounts owner in
    let before = blocks_owned m.files owner in
    let after = blocks_owned (replace m.files name new) owner in
    let was : same_account file.name.owner owner ≡ same_account name.owner owner = ap (λ n. same_account n.owner owner) (the_file-name m.files name) in
    let will : same_account new.name.owner owner ≡ same_account name.owner owner = ap (λ n. same_account n.owner owner) (written_name m.files name block page) in
    by_test (is_file m.files name)
    (λ is.
    let changed = owned-replace owner m.files name file new (file_there m.files name is) in
    by_test (same_account name.owner owner)
    (λ own.
    let one : name.owner ≡ owner = (Decides-same_account name.owner owner).0 own in
    let enough : block - size file ≤ quota - before = subst (λ o. block - size file ≤ left_to m o) one (room_there m name block room).1 in
    quota_reached after before (size_for file owner) (size_for new owner) (size file) (size new) block quota changed (own_size owner file (was ∙ own)) (own_size owner new (will ∙ own)) (size-written file block page) enough (g.quotas owner known))
    (λ other. as_many after before (size_for file owner) (size_for new owner) quota changed (other_size owner file (was ∙ other)) (other_size owner new (will ∙ other)) (g.quotas owner known)))
    (λ no. subst (λ fs. blocks_owned fs owner ≤ quota) (sym (replace_none m.files name new (none_of (file_at m.files name) no))) (g.quotas owner known)) where
      quota_reached : (after before x y old new block quota : ℕ) → after + x ≡ before + y → x ≡ old → y ≡ new → new ≡ old + (block - old) → block - old ≤ quota - before → before ≤ quota → after ≤ quota
      quota_reached after before x y old new block quota e f g h i j = omega arith

      as_many : (after before x y quota : ℕ) → after + x ≡ before + y → x ≡ 0 → y ≡ 0 → before ≤ quota → after ≤ quota
      as_many after before x y quota e f g h = omega arith

pub files_keep : (job : ℕ) (F : ℕ → Type 0) → Keeps job F GoodFiles
files_keep job F = record {
  logs_in = λ m account password none right g. as_before m _ refl refl refl g;
  counts = λ m caller some more g. as_before m _ refl refl refl g;
  ends = λ m all g. as_before m _ refl refl refl g;
  opens = λ m c entry caller low some none there g. as_before m _ refl refl refl g;
  makes = λ m name code none known few g. record {
    apart = apart_make m.files (empty_file name code) g.apart (none_of (file_at m.files name) none);
    few = omega (arith, length-append m.files (empty_file name code ∷ []), leb-false 512 (length m.files) few);
    fits = omega (arith, blocks-make m.files (empty_file name code), g.fits);
    owners = λ n is. either (made_or m.files (empty_file name code) n is) (λ was. g.owners n was) (λ same. subst (λ x. has_account m.accounts x.owner ≡ true) same known);
    quotas = λ owner known. omega (arith, owned-make owner m.files (empty_file name code), at_most_size owner (empty_file name code), g.quotas owner known);
  };
  remakes = λ m name code is unopened g. made_anew m g name is (empty_file name code) (omega arith) refl (removed_gone m.files name g.apart) (g.owners name is);
  removes = λ m name is unopened g. removed m g name is;
  renames = λ m old new code same is unopened fresh g.
      let owner : old.owner ≡ new.owner = (Decides-same_account old.owner new.owner).0 same in
      made_anew m g old is (renamed (the_file m.files old) new code) (omega arith) (sym owner) (new_is_free m.files old new g.apart fresh) (subst (λ o. has_account m.accounts o ≡ true) owner (g.owners old is));
  posts = λ m caller receivers some posting g. as_before m _ refl refl refl g;
  prints = λ m caller request printer some printing g. as_before m _ refl refl refl g;
  closes = λ m c caller f some g. as_before m _ refl refl refl g;
  releases = λ m c f g. as_before m _ refl refl refl g;
  adds = λ m c at first count is update read few none free g. as_before m _ refl refl refl g;
  stores = λ m c at block page is write some free room g.
      let file = the_file m.files at.name in
      let new = written file block page in
      let named = written_name m.files at.name block page in
      record {
        apart = apart_replace m.files at.name new named g.apart;
        few = omega (arith, length-replace m.files at.name new, g.few);
        fits = by_test (is_file m.files at.name)
            (λ is. room_kept (blocks_of (replace m.files at.name new)) (blocks_of m.files) (size file) (size new) block m.blocks (blocks-replace m.files at.name file new (file_there m.files at.name is)) (size-written file block page) (room_there m at.name block room).0 g.fits)
            (λ no. subst (λ fs. blocks_of fs ≤ m.blocks) (sym (replace_none m.files at.name new (none_of (file_at m.files at.name) no))) g.fits);
        owners = λ n is. g.owners n (sym (is_file-put m.files at.name block page n) ∙ is);
        quotas = quota_kept m g at.name block page room;
      };
}

-- THE FILES OF OPEN CHANNELS

abbrev pub AllThere : State → Type 0
AllThere m =
    (job channel : ℕ) (entry : ChannelEntry) → channel_of m.jobs job channel ≡ Some entry → is_file m.files entry.name ≡ true

pub there_keep : (job : ℕ) (F : ℕ → Type 0) → Keeps job F AllThere
there_keep job F = record {
  logs_in = λ m account password none right t k d e is. t k d e (sym (channel_of-log_in m.jobs job account k d) ∙ is);
  counts = λ m caller some more t k d e is. t k d e (sym (channel_of-count m.jobs job k d) ∙ is);
  ends = λ m all t k d e is. t k d e (ended_was m.jobs job k d e is).0;
  opens = λ m c new caller low some none here t k d e is. either (set_channel_or m.jobs job c new k d e is)
      (λ same. subst (λ x. is_file m.files x.name ≡ true) same here)
      (λ was. t k d e was);
  makes = λ m name code none known few t k d e is. is_file-make m.files (empty_file name code) e.name (t k d e is);
  remakes = λ m name code here unopened t k d e is. is_file-make (remove m.files name) (empty_file name code) e.name (kept m name unopened t k d e is);
  removes = λ m name here unopened t. kept m name unopened t;
  renames = λ m old new code same here unopened fresh t k d e is. is_file-make (remove m.files old) (renamed (the_file m.files old) new code) e.name (kept m old unopened t k d e is);
  posts = λ m caller receivers some posting t. t;
  prints = λ m caller request printer some printing t. t;
  closes = λ m c caller f some t k d e is. t k d e (close_channel_or m.jobs job c k d e is).0;
  releases = λ m c f t. t;
  adds = λ m c at first count is update read few none free t. t;
  stores = λ m c at block page is write some free room t k d e opened. is_file-put m.files at.name block page e.name ∙ t k d e opened;
} where
  kept : (m : State) (gone : FileName) → is_open_file m.jobs gone ≡ false → AllThere m → (k d : ℕ) (e : ChannelEntry) → channel_of m.jobs k d ≡ Some e → is_file (remove m.files gone) e.name ≡ true
  kept m gone unopened t k d e is =
      is_file-remove_other m.files gone e.name (is_open_file_at m.jobs k d e gone is unopened) ∙ t k d e is
