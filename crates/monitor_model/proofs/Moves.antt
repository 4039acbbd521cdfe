-- Each answer is a few moves of the state. What every move keeps, every answer keeps.
use Rattle.std.proofs.Common.{◌≡◌, ℕ, ◌+◌, ◌-◌, ◌≤◌, ◌∙◌, true, false, cond, List, [], ◌∷◌, length, suc, refl, sym, ap, subst, arith, Some, None, eqb}
use Rattle.std.specs.Prelude.{not, ◌&&◌, ◌==◌, nat_le, is_some, unwrap_or}
use Rattle.std.proofs.lemmas.Bool.{not-false, eq-eqb, or_parts}
use Rattle.monitor_calls.specs.declared.names.Account.{Account}
use Rattle.monitor_calls.specs.declared.files.FileName.{FileName}
use Rattle.monitor_calls.specs.declared.calls.Request.{Request}
use Rattle.monitor_calls.specs.declared.calls.Request.TheVariants.{Logout}
use Rattle.monitor_calls.specs.declared.calls.Reply.{Reply}
use Rattle.monitor_calls.specs.declared.calls.Reply.TheVariants.{Done, Failed, Expired}
use Rattle.monitor_calls.specs.FileNames.{same_account, same_name}
use Rattle.monitor_calls.specs.Volumes.{has_account}
use Rattle.monitor_model.specs.declared.entries.ChannelEntry.{ChannelEntry}
use Rattle.monitor_model.specs.Files.{is_file, is_block, the_file, pages_of, make, remove, remake, rename, put, put_all, empty_file}
use Rattle.monitor_model.specs.Jobs.{account_of, channel_of, log_in, set_channel, is_open, is_open_file, the_channel, closed}
use Rattle.monitor_model.specs.Holds.{HoldMap, holder, is_held, add, hold, release}
use Rattle.monitor_model.specs.Printing.{Printer}
use Rattle.monitor_model.specs.Queues.{Receiver}
use Rattle.monitor_model.specs.State.{State, entry_of}
use Rattle.monitor_model.specs.Answer.{is_password_of, code_or_60, is_record, lacks_room, to_put_record, written_by, unlocked, closed_by, counted, ended, is_last, answer, next, reply}
use Rattle.monitor_model.specs.Spans.{is_end, IsAmong}
use Rattle.monitor_model.proofs.Tools.{some_of}
use Rattle.monitor_model.proofs.JobLemmas.{account_of-count}
use Rattle.monitor_model.proofs.PageLemmas.{is_file-made}
use Rattle.monitor_model.proofs.HoldLemmas.{released_none, released_free}
use Rattle.monitor_model.proofs.RecordLemmas.{above_zero, few_read, page_in, page_among, block_above, record_few, record_some, none_held, room_before}
use Rattle.monitor_model.proofs.Outcomes.{NoneApply, Posting, Printing, Deeds, table_is, Outcomes, answer_outcomes}

-- the channel holds nothing
abbrev pub HoldsNone : HoldMap → ℕ → ℕ → Type 0
HoldsNone holds job channel =
    (name : FileName) (block : ℕ) → holder holds name block ≡ Some (job, channel) → ⊥

-- P is kept by each move that a call of the job may make, given that the refusals before it did not
-- apply. A move that frees what a channel holds is made for the channels of F alone
pub record Keeps (job : ℕ) (F : ℕ → Type 0) (P : State → Type 0) : Type 0 where
  pub logs_in : (m : State) (account : Account) (password : List ℕ) → account_of m.jobs job ≡ None → is_password_of password (entry_of m.accounts account) ≡ true → P m → P (record m { jobs = log_in m.jobs job account })
  pub counts : (m : State) (caller : Account) → account_of m.jobs job ≡ Some caller → is_last m job caller ≡ false → P m → P (counted m job)
  pub ends : (m : State) → ((channel : ℕ) → F channel) → P m → P (ended m job)
  pub opens : (m : State) (channel : ℕ) (entry : ChannelEntry) (caller : Account) → channel ≤ 12 → account_of m.jobs job ≡ Some caller → channel_of m.jobs job channel ≡ None → is_file m.files entry.name ≡ true → P m → P (record m { jobs = set_channel m.jobs job channel (Some entry) })
  pub makes : (m : State) (name : FileName) (code : ℕ) → is_file m.files name ≡ false → has_account m.accounts name.owner ≡ true → nat_le 512 (length m.files) ≡ false → P m → P (record m { files = make m.files (empty_file name code) })
  pub remakes : (m : State) (name : FileName) (code : ℕ) → is_file m.files name ≡ true → is_open_file m.jobs name ≡ false → P m → P (record m { files = remake m.files name code })
  pub removes : (m : State) (name : FileName) → is_file m.files name ≡ true → is_open_file m.jobs name ≡ false → P m → P (record m { files = remove m.files name })
  pub renames : (m : State) (old new : FileName) (code : ℕ) → same_account old.owner new.owner ≡ true → is_file m.files old ≡ true → is_open_file m.jobs old ≡ false → (is_file m.files new && not (same_name new old)) ≡ false → P m → P (record m { files = rename m.files old new code })
  pub posts : (m : State) (caller : Account) (receivers : List Receiver) → account_of m.jobs job ≡ Some caller → Posting m job caller receivers → P m → P (record m { receivers = receivers })
  pub prints : (m : State) (caller : Account) (request : Request) (printer : Printer) → account_of m.jobs job ≡ Some caller → Printing m job request printer → P m → P (record m { printer = printer })
  pub closes : (m : State) (channel : ℕ) (caller : Account) → F channel → account_of m.jobs job ≡ Some caller → P m → P (closed_by m job channel)
  pub releases : (m : State) (channel : ℕ) → F channel → P m → P (unlocked m job channel)
  pub adds : (m : State) (channel : ℕ) (entry : ChannelEntry) (first count : ℕ) → channel_of m.jobs job channel ≡ Some entry → entry.update ≡ true → entry.read ≡ true → count ≤ 3 → HoldsNone m.holds job channel → ((block : ℕ) → IsAmong first count block → (is_block m.files entry.name block ≡ true) × (holder m.holds entry.name block ≡ None)) → P m → P (record m { holds = add m.holds job channel entry.name first count })
  pub stores : (m : State) (channel : ℕ) (entry : ChannelEntry) (block : ℕ) (page : List ℕ) → channel_of m.jobs job channel ≡ Some entry → entry.write ≡ true → 1 ≤ block → holder m.holds entry.name block ≡ None → lacks_room m entry.name block ≡ false → P m → P (record m { files = put m.files entry.name block page })

module _ (job : ℕ) (P : State → Type 0) where
  abbrev Frees : Request → Reply → ℕ → Type 0
  Frees request answer channel = is_end channel request answer ≡ true

  abbrev Kept : Request → State × Reply → Type 0
  Kept request out = Keeps job (Frees request out.1) P → P out.0

  self : (n : ℕ) → eqb n n ≡ true
  self n = eq-eqb n n refl

  open_entry : (s : State) (channel : ℕ) → is_open s.jobs job channel ≡ true → channel_of s.jobs job channel ≡ Some (the_channel s.jobs job channel)
  open_entry s channel is = some_of (channel_of s.jobs job channel) closed is

  -- what is read is held if the channel is for update
  took : {F : ℕ → Type 0} → Keeps job F P → (s : State) → P s → (channel : ℕ) (at : ChannelEntry) (first count : ℕ) → F channel → channel_of s.jobs job channel ≡ Some at → at.read ≡ true → count ≤ 3 → ((block : ℕ) → IsAmong first count block → (is_block s.files at.name block ≡ true) × (is_held s.holds job channel at.name block ≡ false)) → P (record s { holds = cond (at.update) (hold s.holds job channel at.name first count) s.holds })
  took k s p channel at first count f opened read few free =
      elim (at.update) as (λ v. at.update ≡ v → P (record s { holds = cond v (hold s.holds job channel at.name first count) s.holds })) [
        | true ↦ λ update. k.adds (unlocked s job channel) channel at first count opened update read few (released_none s.holds job channel) (λ b among. ((free b among).0, released_free s.holds job channel at.name b (free b among).1)) (k.releases s channel f p)
        | false ↦ λ update. p
      ] refl

  -- pages are stored, the last one first
  stored : {F : ℕ → Type 0} → Keeps job F P → (channel : ℕ) (at : ChannelEntry) (page : List ℕ) (pages : List (List ℕ)) (s : State) (first : ℕ) → channel_of s.jobs job channel ≡ Some at → at.write ≡ true → 1 ≤ first → ((block : ℕ) → IsAmong first (length (page ∷ pages)) block → holder s.holds at.name block ≡ None) → lacks_room s at.name (first + length (page ∷ pages) - 1) ≡ false → P s → P (record s { files = put_all s.files at.name first (page ∷ pages) })
  stored k channel at page [] s first opened write some free room p =
      let last : first + 1 - 1 ≡ first = omega arith in
      k.stores s channel at first page opened write some (free first (omega arith, omega arith)) (subst (λ n. lacks_room s at.name n ≡ false) last room) p
  stored k channel at page (next ∷ pages) s first opened write some free room p =
      let last : first + length (page ∷ next ∷ pages) - 1 ≡ suc first + length (next ∷ pages) - 1 = omega arith in
      let behind = subst (λ n. lacks_room s at.name n ≡ false) last room in
      k.stores (record s { files = put_all s.files at.name (suc first) (next ∷ pages) }) channel at first page opened write some (free first (omega arith, omega arith)) (room_before s at.name first next pages behind)
      (stored k channel at next pages s (suc first) opened write (omega arith) (λ b among. free b (omega (arith, among.0), omega (arith, among.1))) behind p)

  wrote : {F : ℕ → Type 0} → Keeps job F P → (s : State) → P s → (channel : ℕ) (at : ChannelEntry) (first : ℕ) (page : List ℕ) (pages : List (List ℕ)) → F channel → channel_of s.jobs job channel ≡ Some at → at.write ≡ true → 1 ≤ first → ((block : ℕ) → IsAmong first (length (page ∷ pages)) block → is_held s.holds job channel at.name block ≡ false) → lacks_room s at.name (first + length (page ∷ pages) - 1) ≡ false → P (record s { files = put_all s.files at.name first (page ∷ pages); holds = release s.holds job channel })
  wrote k s p channel at first page pages f opened write some free room =
      stored k channel at page pages (unlocked s job channel) first opened write some (λ b among. released_free s.holds job channel at.name b (free b among)) room (k.releases s channel f p)

  deeds_keep : (s : State) (caller : Account) → account_of s.jobs job ≡ Some caller → ((F : ℕ → Type 0) → Keeps job F P → P s) → Deeds s job caller Kept
  deeds_keep s caller some base = record {
    idle = λ request reply mild goes fine k. base (Frees request reply) k;
    posts = λ request reply mild goes fine receivers posting k. k.posts s caller receivers some posting (base (Frees request reply) k);
    prints = λ request mild printer printing k. k.prints s caller request printer some printing (base (Frees request Done) k);
    opens = λ channel name kind update code low free there right k.
        k.opens s channel _ caller low some free there (base _ k);
    makes = λ channel name kind update code low free none h k.
        let file = empty_file name (code_or_60 code) in
        k.opens (record s { files = make s.files file }) channel _ caller low some free (is_file-made s.files file) (k.makes s name (code_or_60 code) none (not-false _ h.0) h.1.1.0 (base _ k));
    remakes = λ channel name kind update code low free there write unopened output k.
        let file = empty_file name (code_or_60 code) in
        k.opens (record s { files = remake s.files name (code_or_60 code) }) channel _ caller low some free (is_file-made (remove s.files name) file) (k.remakes s name (code_or_60 code) there unopened (base _ k));
    closes = λ channel is k. k.closes s channel caller (self channel) some (base _ k);
    gets = λ channel block is h k.
        let at = the_channel s.jobs job channel in
        took k s (base _ k) channel at block 1 (self channel) (open_entry s channel is) (not-false _ h.0) (omega arith) (λ b among.
        let here : block ≡ b = omega (arith, among.0, among.1) in
        subst (λ b. (is_block s.files at.name b ≡ true) × (is_held s.holds job channel at.name b ≡ false)) here (not-false _ h.1.0, h.1.1.0));
    puts = λ channel block page is h k.
        let at = the_channel s.jobs job channel in
        wrote k s (base _ k) channel at block page [] (self channel) (open_entry s channel is) (not-false _ h.0) (above_zero block h.1.0) (λ b among.
        let here : block ≡ b = omega (arith, among.0, among.1) in
        subst (λ b. is_held s.holds job channel at.name b ≡ false) here h.1.1.0)
        (let last : block + 1 - 1 ≡ block = omega arith in subst (λ n. lacks_room s at.name n ≡ false) (sym last) h.1.1.1.0);
    gets_record = λ channel block count is h k.
        let at = the_channel s.jobs job channel in
        let file = the_file s.files at.name in
        let there : is_block s.files at.name block ≡ true = not-false _ h.1.1.0 in
        let pages = pages_of file block count in
        let few = few_read file block count in
        let most = record_few count (not-false _ h.1.0) in
        took k s (base _ k) channel at block (length pages) (self channel) (open_entry s channel is) (not-false _ h.0) (omega (arith, few, most)) (λ b among.
        let page = page_among pages block b among.0 among.1 in
        (ap is_some (page_in file block count b page.0 (block_above file block there) among.0 page.1), none_held s.holds job channel at.name (length pages) block b h.1.1.1.0 among.0 among.1));
    puts_record = λ channel block pages is h k. by_pages k channel block pages (self channel) (base _ k) is h;
    unlocks = λ channel is k. k.releases s channel (self channel) (base _ k);
    kills = λ name h k. k.removes s name (not-false _ h.0) h.1.1.0 (base _ k);
    renames = λ old new code h k. k.renames s old new (unwrap_or code (the_file s.files old).code) (not-false _ h.0) (not-false _ h.1.0) h.1.1.1.0 h.1.1.1.1.0 (base _ k);
  } where
    by_pages : {F : ℕ → Type 0} → Keeps job F P → (channel first : ℕ) (pages : List (List ℕ)) → F channel → P s → is_open s.jobs job channel ≡ true → NoneApply (to_put_record s job channel first (length pages)) → P (written_by s job channel first pages)
    by_pages k channel first [] f p is h =
        let parts = or_parts (first == 0) (not (is_record 0)) h.1.0 in
        let none = record_some 0 (not-false _ parts.1) in
        absurd (omega (arith, none))
    by_pages k channel first (page ∷ pages) f p is h =
        let at = the_channel s.jobs job channel in
        let parts = or_parts (first == 0) (not (is_record (length (page ∷ pages)))) h.1.0 in
        wrote k s p channel at first page pages f (open_entry s channel is) (not-false _ h.0) (above_zero first parts.0) (λ b among. none_held s.holds job channel at.name (length (page ∷ pages)) first b h.1.1.0 among.0 among.1) h.1.1.1.0

  expired_ends : (request : Request) (channel : ℕ) → is_end channel request Expired ≡ true
  expired_ends Logout channel = refl
  expired_ends request channel = refl

  outcomes_keep : (m : State) → P m → Outcomes m job Kept
  outcomes_keep m p = record {
    turned_away = λ request none k. p;
    leaves = λ none k. p;
    logs_in = λ account password none right k. k.logs_in m account password none right p;
    stops = λ caller some k. k.ends m (λ channel. refl) p;
    expires = λ request caller some k. k.ends m (expired_ends request) p;
    table = λ caller some more.
        let base : (F : ℕ → Type 0) → Keeps job F P → P (counted m job) = λ F k. k.counts m caller some more p in
        table_is (counted m job) job caller Kept (deeds_keep (counted m job) caller (account_of-count m.jobs job job ∙ some) base) (λ request n mild k. base (Frees request (Failed n)) k);
  }

  -- what every move keeps, every answer keeps
  pub answer_keeps : (m : State) (request : Request) → Keeps job (λ channel. is_end channel request (reply m job request) ≡ true) P → P m → P (next m job request)
  answer_keeps m request k p = answer_outcomes m job Kept (outcomes_keep m p) request k
