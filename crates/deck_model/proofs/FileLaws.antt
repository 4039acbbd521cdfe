-- One more file: the files stay good exactly if no cause applies.
use Rattle.std.proofs.Common.{◌≡◌, ℕ, zero, suc, ◌+◌, ◌<◌, ◌≤◌, Bool, true, false, cond, List, [], ◌∷◌, ◌++◌, length, drop, refl, sym, ap, subst, ◌∙◌, arith}
use Rattle.std.specs.Prelude.{◌&&◌, ◌||◌, not, nat_le, nat_lt}
use Rattle.std.specs.List.{list_all}
use Rattle.std.proofs.lemmas.Bool.{leb-true, le-leb, ltb-false, le-ltb}
use Rattle.std.proofs.lemmas.List.{length-append}
use Rattle.std.proofs.lemmas.List.Folds.{list_any-append, list_all-append}
use Rattle.monitor_calls.specs.declared.names.Account.{Account}
use Rattle.monitor_calls.specs.declared.volumes.AccountEntry.{AccountEntry}
use Rattle.monitor_calls.specs.declared.files.FileName.{FileName}
use Rattle.monitor_calls.specs.declared.files.FileEntry.{FileEntry}
use Rattle.monitor_calls.specs.FileNames.{same_name}
use Rattle.monitor_calls.specs.Volumes.{same_account, is_good_file, has_file, are_files_apart, blocks_of, blocks_for, blocks_owned, are_in_quota, are_good_files}
use Rattle.deck_model.specs.Files.{File, contents_of, pages_of, file_entry}
use Rattle.deck_model.specs.Refusals.{passes_quota}
use Rattle.basic_values.proofs.CutLaws.{and_left, and_right, and_both}
use Rattle.deck_model.proofs.VolumeLaws.{or_false, and_true, not_or, not_true, false_not, and_swap, or_none, account_same, account_turned, bytes_turned}

-- ---- names

name_turned : (a b : FileName) → same_name a b ≡ same_name b a
unfolding same_name
name_turned a b = λ i. account_turned a.owner b.owner i && bytes_turned a.stem b.stem i && bytes_turned a.extension b.extension i

apart_push : (fs : List FileEntry) (f : FileEntry) → are_files_apart (fs ++ f ∷ []) ≡ (are_files_apart fs && not (has_file fs f.name))
apart_push [] f = refl
apart_push (g ∷ fs) f =
    let here : has_file (fs ++ f ∷ []) g.name ≡ (has_file fs g.name || same_name g.name f.name) =
    list_any-append (λ (file : FileEntry). same_name file.name g.name) fs (f ∷ [])
    ∙ ap (λ (b : Bool). has_file fs g.name || b) (or_false (same_name f.name g.name) ∙ name_turned f.name g.name) in
    (λ i. not (here i) && apart_push fs f i)
    ∙ ap (λ (b : Bool). b && (are_files_apart fs && not (has_file fs f.name))) (not_or (has_file fs g.name) (same_name g.name f.name))
    ∙ and_swap (not (has_file fs g.name)) (not (same_name g.name f.name)) (are_files_apart fs) (not (has_file fs f.name))
    ∙ ap (λ (b : Bool). (not (has_file fs g.name) && are_files_apart fs) && b) (sym (not_or (same_name g.name f.name) (has_file fs f.name)))

apart_front : (fs gs : List FileEntry) → are_files_apart (fs ++ gs) ≡ true → are_files_apart fs ≡ true
apart_front [] gs e = refl
apart_front (f ∷ fs) gs e =
    let split : has_file (fs ++ gs) f.name ≡ (has_file fs f.name || has_file gs f.name) = list_any-append (λ (file : FileEntry). same_name file.name f.name) fs gs in
    let none : not (has_file fs f.name || has_file gs f.name) ≡ true = subst (λ (b : Bool). not b ≡ true) split (and_left (not (has_file (fs ++ gs) f.name)) (are_files_apart (fs ++ gs)) e) in
    and_both (not (has_file fs f.name)) (are_files_apart fs)
    (and_left (not (has_file fs f.name)) (not (has_file gs f.name)) (sym (not_or (has_file fs f.name) (has_file gs f.name)) ∙ none))
    (apart_front fs gs (and_right (not (has_file (fs ++ gs) f.name)) (are_files_apart (fs ++ gs)) e))

-- ---- blocks

pub length-pages : (pages : ℕ) (bytes : List ℕ) → length (pages_of pages bytes) ≡ pages
unfolding pages_of
length-pages zero bytes = refl
length-pages (suc pages) bytes = ap suc (length-pages pages (drop 512 bytes))

blocks-append : (fs gs : List FileEntry) → blocks_of (fs ++ gs) ≡ blocks_of fs + blocks_of gs
blocks-append [] gs = omega arith
blocks-append (f ∷ fs) gs = let more = blocks-append fs gs in omega arith

blocks_more : (fs : List FileEntry) (f : File) → blocks_of (fs ++ file_entry f ∷ []) ≡ blocks_of fs + f.blocks
blocks_more fs f =
    let more = blocks-append fs (file_entry f ∷ []) in
    let own = length-pages f.blocks (contents_of f) in
    omega (arith, more, own)

-- ---- quotas

owned-append : (fs gs : List FileEntry) (owner : Account) → blocks_owned (fs ++ gs) owner ≡ blocks_owned fs owner + blocks_owned gs owner
owned-append [] gs owner = omega arith
owned-append (f ∷ fs) gs owner = let more = owned-append fs gs owner in omega arith

within_front : (accounts : List AccountEntry) (fs gs : List FileEntry) → are_in_quota accounts (fs ++ gs) ≡ true → are_in_quota accounts fs ≡ true
within_front [] fs gs all = refl
within_front (e ∷ es) fs gs all =
    let most : blocks_owned (fs ++ gs) e.account ≤ e.quota = leb-true _ _ (and_left _ (are_in_quota es (fs ++ gs)) all) in
    let rest = within_front es fs gs (and_right (nat_le (blocks_owned (fs ++ gs) e.account) e.quota) _ all) in
    and_both _ _ (le-leb (blocks_owned fs e.account) e.quota (omega (arith, most, owned-append fs gs e.account))) rest

-- one account and one more file
module _ (e : AccountEntry) (fs : List FileEntry) (f : File) where
  abbrev is_mine : Bool
  is_mine = same_account e.account f.name.owner

  abbrev passes : Bool
  passes = nat_lt e.quota (blocks_owned fs f.name.owner + f.blocks)

  abbrev is_within : List FileEntry → Bool
  is_within files = nat_le (blocks_owned files e.account) e.quota

  owned_more : blocks_owned (fs ++ file_entry f ∷ []) e.account ≡ blocks_owned fs e.account + blocks_for (file_entry f) e.account
  owned_more = let more = owned-append fs (file_entry f ∷ []) e.account in omega (arith, more)

  blocks_are : (b : Bool) → is_mine ≡ b → blocks_for (file_entry f) e.account ≡ cond b f.blocks 0
  blocks_are b same = λ i. cond ((account_turned f.name.owner e.account ∙ same) i) (length-pages f.blocks (contents_of f) i) 0

  owned_are : is_mine ≡ true → blocks_owned fs e.account ≡ blocks_owned fs f.name.owner
  owned_are same = ap (blocks_owned fs) (account_same e.account f.name.owner same)

  one_within : is_within fs ≡ true → (is_mine && passes) ≡ false → is_within (fs ++ file_entry f ∷ []) ≡ true
  one_within before none = go is_mine refl none
    where
      go : (b : Bool) → is_mine ≡ b → (b && passes) ≡ false → is_within (fs ++ file_entry f ∷ []) ≡ true
      go true same fits = le-leb _ _ (omega (arith, owned_more, blocks_are true same, owned_are same, ltb-false _ _ fits))
      go false other fits = le-leb _ _ (omega (arith, owned_more, blocks_are false other, leb-true _ _ before))

  one_fits : is_within (fs ++ file_entry f ∷ []) ≡ true → (is_mine && passes) ≡ false
  one_fits within = go is_mine refl
    where
      go : (b : Bool) → is_mine ≡ b → (b && passes) ≡ false
      go true same = le-ltb _ _ (omega (arith, owned_more, blocks_are true same, owned_are same, leb-true _ _ within))
      go false other = refl

within_push : (accounts : List AccountEntry) (fs : List FileEntry) (f : File) → are_in_quota accounts fs ≡ true → passes_quota accounts fs f ≡ false → are_in_quota accounts (fs ++ file_entry f ∷ []) ≡ true
within_push [] fs f all none = refl
within_push (e ∷ es) fs f all none =
    let parts = or_none (is_mine e fs f && passes e fs f) (passes_quota es fs f) none in
    and_both _ _ (one_within e fs f (and_left _ (are_in_quota es fs) all) parts.0) (within_push es fs f (and_right (is_within e fs f fs) _ all) parts.1)

within_last : (accounts : List AccountEntry) (fs : List FileEntry) (f : File) → are_in_quota accounts (fs ++ file_entry f ∷ []) ≡ true → passes_quota accounts fs f ≡ false
within_last [] fs f all = refl
within_last (e ∷ es) fs f all =
    let here = one_fits e fs f (and_left _ (are_in_quota es (fs ++ file_entry f ∷ [])) all) in
    rw here (within_last es fs f (and_right (is_within e fs f (fs ++ file_entry f ∷ [])) _ all))

-- the parts of good files
pub record GoodFiles (blocks : ℕ) (accounts : List AccountEntry) (files : List FileEntry) : Type 0 where
  pub few : length files ≤ 512
  pub each : list_all (is_good_file accounts) files ≡ true
  pub apart : are_files_apart files ≡ true
  pub fit : blocks_of files ≤ blocks
  pub within : are_in_quota accounts files ≡ true

pub files_parts : (blocks : ℕ) (accounts : List AccountEntry) (es : List FileEntry) → are_good_files blocks accounts es ≡ true → GoodFiles blocks accounts es
files_parts blocks accounts es good =
    let few = nat_le (length es) 512 in
    let each = list_all (is_good_file accounts) es in
    let fit = nat_le (blocks_of es) blocks in
    let quotas = are_in_quota accounts es in
    let all = and_left (few && each && are_files_apart es && fit) quotas good in
    let a = and_left (few && each && are_files_apart es) fit all in
    let b = and_left (few && each) (are_files_apart es) a in
    record {
      few = leb-true _ _ (and_left few each b);
      each = and_right few each b;
      apart = and_right (few && each) (are_files_apart es) a;
      fit = leb-true _ _ (and_right (few && each && are_files_apart es) fit all);
      within = and_right (few && each && are_files_apart es && fit) quotas good;
    }

pub files_whole : (blocks : ℕ) (accounts : List AccountEntry) (es : List FileEntry) → GoodFiles blocks accounts es → are_good_files blocks accounts es ≡ true
files_whole blocks accounts es v = rw (le-leb (length es) 512 v.few, v.each, v.apart, le-leb (blocks_of es) blocks v.fit, v.within) refl

pub files_front : (blocks : ℕ) (accounts : List AccountEntry) (fs gs : List FileEntry) → GoodFiles blocks accounts (fs ++ gs) → GoodFiles blocks accounts fs
files_front blocks accounts fs gs v =
    let good = is_good_file accounts in
    record {
      few = omega (arith, length-append fs gs, v.few);
      each = and_left (list_all good fs) (list_all good gs) (sym (list_all-append good fs gs) ∙ v.each);
      apart = apart_front fs gs v.apart;
      fit = omega (arith, v.fit, blocks-append fs gs);
      within = within_front accounts fs gs v.within;
    }

-- what one more file has to meet
pub record FitsFile (blocks : ℕ) (accounts : List AccountEntry) (files : List FileEntry) (file : File) : Type 0 where
  pub good : is_good_file accounts (file_entry file) ≡ true
  pub new : has_file files file.name ≡ false
  pub room : length files < 512
  pub fit : blocks_of files + file.blocks ≤ blocks
  pub within : passes_quota accounts files file ≡ false

pub files_push : (blocks : ℕ) (accounts : List AccountEntry) (fs : List FileEntry) (f : File) → GoodFiles blocks accounts fs → FitsFile blocks accounts fs f → GoodFiles blocks accounts (fs ++ file_entry f ∷ [])
files_push blocks accounts fs f v fits =
    let good = is_good_file accounts in
    record {
      few = omega (arith, length-append fs (file_entry f ∷ []), fits.room);
      each = list_all-append good fs (file_entry f ∷ [])
          ∙ and_both (list_all good fs) (good (file_entry f) && true) v.each (and_true (good (file_entry f)) ∙ fits.good);
      apart = apart_push fs (file_entry f) ∙ and_both (are_files_apart fs) (not (has_file fs f.name)) v.apart (false_not _ fits.new);
      fit = omega (arith, blocks_more fs f, fits.fit);
      within = within_push accounts fs f v.within fits.within;
    }

pub files_last : (blocks : ℕ) (accounts : List AccountEntry) (fs : List FileEntry) (f : File) → GoodFiles blocks accounts (fs ++ file_entry f ∷ []) → FitsFile blocks accounts fs f
files_last blocks accounts fs f v =
    let good = is_good_file accounts in
    record {
      good = sym (and_true (good (file_entry f)))
          ∙ and_right (list_all good fs) (good (file_entry f) && true) (sym (list_all-append good fs (file_entry f ∷ [])) ∙ v.each);
      new = not_true _ (and_right (are_files_apart fs) (not (has_file fs f.name)) (sym (apart_push fs (file_entry f)) ∙ v.apart));
      room = omega (arith, length-append fs (file_entry f ∷ []), v.few);
      fit = omega (arith, blocks_more fs f, v.fit);
      within = within_last accounts fs f v.within;
    }
