-- The blocks of a record, one by one.
use Rattle.std.proofs.Common.{◌≡◌, ℕ, ◌+◌, ◌-◌, ◌<◌, ◌≤◌, ◌^◌, true, false, List, [], ◌∷◌, ◌++◌, length, take, drop, slice_get, zero, suc, refl, sym, ap, ◌∙◌, arith, Some, None}
use Rattle.std.specs.Prelude.{Option, ◌&&◌, not, is_some, unwrap_or, option_map}
use Rattle.std.proofs.lemmas.Bool.{true≢false, cases_lt}
use Rattle.std.proofs.lemmas.List.{take_all, length-drop, length-take-le}
use Rattle.std.proofs.lemmas.Option.{slice_get_within}
use Rattle.monitor_calls.specs.declared.files.FileName.{FileName}
use Rattle.monitor_model.specs.Files.{File, size, size_at, the_file, page_of, pages_of, empty_file}
use Rattle.monitor_model.specs.Good.{GoodHolds}
use Rattle.monitor_model.specs.Holds.{HoldMap, holder, is_channel, is_held, any_held}
use Rattle.monitor_model.specs.State.{State}
use Rattle.monitor_model.specs.Answer.{is_record}
use Rattle.monitor_model.proofs.Tools.{either, by_test}
use Rattle.monitor_model.proofs.RecordLemmas.{block_above, record_few, record_some, none_held, one_held, page_among, page_in}
use Rattle.monitor_core.specs.Records.{IsRecordRead}

pub size_found : (o : Option File) (name : FileName) → unwrap_or (option_map size o) 0 ≡ size (unwrap_or o (empty_file name 0))
size_found None name = refl
size_found (Some file) name = refl

pub block_within : (file : File) (block : ℕ) → is_some (page_of file block) ≡ true → block ≤ size file
block_within file zero e = omega arith
block_within file (suc k) e = by_look (slice_get file.pages k) refl e where
  by_look : (o : Option (List ℕ)) → slice_get file.pages k ≡ o → is_some o ≡ true → suc k ≤ length file.pages
  by_look None is e = absurd (cc)
  by_look (Some page) is e = let lt = slice_get_within file.pages k page is in omega (arith, lt)

pub less_read : (file : File) (block count left : ℕ) → is_some (page_of file block) ≡ true → is_record count ≡ true → size file < 2 ^ 16 → left ≡ size file - (block - 1) → left < count → IsRecordRead file block count left
unfolding pages_of
less_read file block count left there rec small is lt =
    let some = block_above file block there in
    let inside = block_within file block there in
    let rest = drop (block - 1) file.pages in
    let long : length rest ≡ left = length-drop (block - 1) file.pages ∙ sym is in
    let most = record_few count rec in
    let all : take count rest ≡ rest = take_all count rest (omega (arith, long, lt)) in
    record {
      number = ap length all ∙ long;
      pages = take_all left rest (omega (arith, long)) ∙ sym all;
      short = (omega (arith, is, some, inside), (omega (arith, lt, most), omega (arith, is, some, inside, small)));
    }

pub all_read : (file : File) (block count left : ℕ) → is_some (page_of file block) ≡ true → is_record count ≡ true → size file < 2 ^ 16 → left ≡ size file - (block - 1) → count ≤ left → IsRecordRead file block count count
unfolding pages_of
all_read file block count left there rec small is le =
    let some = block_above file block there in
    let inside = block_within file block there in
    let rest = drop (block - 1) file.pages in
    let long : length rest ≡ left = length-drop (block - 1) file.pages ∙ sym is in
    record {
      number = length-take-le count rest (omega (arith, long, le));
      pages = refl;
      short = (record_some count rec, (record_few count rec, omega (arith, is, some, inside, small, le)));
    }

-- nobody holds a block that a file does not have
pub none_beyond : (m : State) (job channel : ℕ) (name : FileName) (block : ℕ) → GoodHolds m → size_at m.files name < block → is_held m.holds job channel name block ≡ false
none_beyond m job channel name block good past = by_look (holder m.holds name block) refl where
  by_look : (o : Option (ℕ × ℕ)) → holder m.holds name block ≡ o → (is_some o && not (is_channel job channel o)) ≡ false
  by_look None e = refl
  by_look (Some at) e =
      let it = good.held name block at.0 at.1 e in
      let inside = block_within (the_file m.files name) block (ap is_some it.1.page_is) in
      absurd (omega (arith, past, inside))

-- one block more that no other channel holds
pub one_more_free : (h : HoldMap) (job channel : ℕ) (name : FileName) (block n : ℕ) → any_held h job channel name block n ≡ false → is_held h job channel name (block + n) ≡ false → any_held h job channel name block (n + 1) ≡ false
one_more_free h job channel name block n none here =
    by_test (any_held h job channel name block (n + 1))
    (λ is.
    let one = one_held h job channel name (n + 1) block is in
    absurd (either (cases_lt one.0 (block + n))
    (λ lt. true≢false (sym one.1.1.1 ∙ none_held h job channel name n block one.0 none one.1.0 lt))
    (λ le. let same : one.0 ≡ block + n = omega (arith, le, one.1.1.0) in true≢false (sym one.1.1.1 ∙ ap (is_held h job channel name) same ∙ here))))
    (λ no. no)

take_more : {X : Type 0} (n : ℕ) (xs : List X) (x : X) → slice_get xs n ≡ Some x → take (suc n) xs ≡ take n xs ++ x ∷ []
take_more n [] x e = absurd (cc)
take_more zero (y ∷ xs) x e = let one : y ≡ x = cc in ap (λ z. z ∷ []) one
take_more (suc n) (y ∷ xs) x e = ap (λ zs. y ∷ zs) (take_more n xs x e)

drop_at : {X : Type 0} (n : ℕ) (xs : List X) (i : ℕ) → slice_get (drop n xs) i ≡ slice_get xs (n + i)
drop_at zero xs i = let same : i ≡ 0 + i = omega arith in ap (slice_get xs) same
drop_at (suc n) [] i = refl
drop_at (suc n) (y ∷ xs) i = let same : suc (n + i) ≡ suc n + i = omega arith in drop_at n xs i ∙ ap (slice_get (y ∷ xs)) same

pub pages_none : (file : File) (block : ℕ) → pages_of file block 0 ≡ []
unfolding pages_of
pages_none file block = refl

pub pages_more : (file : File) (block n : ℕ) (page : List ℕ) → 1 ≤ block → page_of file (block + n) ≡ Some page → pages_of file block (n + 1) ≡ pages_of file block n ++ page ∷ []
unfolding pages_of
pages_more file block n page some e =
    let place : block + n ≡ suc ((block - 1) + n) = omega (arith, some) in
    let one : n + 1 ≡ suc n = omega arith in
    ap (λ k. take k (drop (block - 1) file.pages)) one ∙ take_more n (drop (block - 1) file.pages) page (drop_at (block - 1) file.pages n ∙ ap (page_of file) (sym place) ∙ e)

pub there_at : (file : File) (block count n : ℕ) → 1 ≤ block → length (pages_of file block count) ≡ count → n < count → is_some (page_of file (block + n)) ≡ true
there_at file block count n some long lt =
    let page = page_among (pages_of file block count) block (block + n) (omega arith) (omega (arith, long, lt)) in
    ap is_some (page_in file block count (block + n) page.0 some (omega arith) page.1)
