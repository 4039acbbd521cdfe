-- A call of the table in a state and in its twin, if it is made through no channel on the names.
use Rattle.std.proofs.Common.{◌≡◌, ◌≢◌, ℕ, ◌≤◌, ◌+◌, ◌-◌, Bool, true, false, cond, List, [], ◌∷◌, ◌++◌, length, refl, sym, ap, ◌∙◌, subst, arith}
use Rattle.std.specs.Prelude.{not, ◌&&◌, ◌||◌, ◌==◌, nat_le, nat_lt}
use Rattle.std.proofs.lemmas.Bool.{not-false}
use Rattle.monitor_calls.specs.declared.names.Account.{Account}
use Rattle.monitor_calls.specs.declared.files.FileName.{FileName}
use Rattle.monitor_calls.specs.declared.files.OpenKind.{OpenKind}
use Rattle.monitor_calls.specs.declared.files.OpenKind.TheVariants.{Input, Output, Either, Fresh}
use Rattle.monitor_calls.specs.declared.calls.Request.{Request}
use Rattle.monitor_calls.specs.declared.calls.Request.TheVariants.{OpenFile, Get, Put, GetRecord, PutRecord, Kill, Rename, Directory}
use Rattle.monitor_calls.specs.declared.calls.Reply.{Reply}
use Rattle.monitor_calls.specs.declared.calls.Reply.TheVariants.{Failed}
use Rattle.monitor_calls.specs.FileNames.{same_name}
use Rattle.monitor_model.specs.declared.entries.ChannelEntry.{ChannelEntry}
use Rattle.monitor_model.specs.declared.rights.Right.TheVariants.{Write}
use Rattle.monitor_model.specs.Files.{File, the_file, is_file, is_block, size_at, pages_of, nth_of}
use Rattle.monitor_model.specs.Jobs.{is_open, the_channel}
use Rattle.monitor_model.specs.Holds.{is_held, any_held}
use Rattle.monitor_model.specs.State.{State}
use Rattle.monitor_model.specs.Answer.{attempt, making, to_open_there, to_open_new, free, left_to, is_record, lacks_room, refusals, done, answer_table}
use Rattle.monitor_model.specs.Masking.{has_name}
use Rattle.monitor_model.proofs.Tools.{by_test}
use Rattle.monitor_model.proofs.RecordLemmas.{room_there, room_told}
use Rattle.monitor_model.proofs.Outcomes.{NoneApply}
use Rattle.monitor_model.proofs.Refusing.{fails, first_held}
use Rattle.monitor_model.proofs.Alike.{Alike, both_there, alike-is_file, alike_nth, alike-length}
use Rattle.monitor_model.proofs.Twins.{Parallel, parallel_itself, parallel_behind, twin, may-twin, has_right-twin, pages-twin, is_block-twin, is_held-twin, any_held-twin, pages_of-twin, more_free, more_left}

module _ (names : List FileName) (s : State) (gs : List File) (alike : Alike names s.files gs) (job : ℕ) (caller : Account) where
  abbrev t : State
  t = twin names s gs

  -- the channel is open on none of the names
  abbrev Clear : ℕ → Type 0
  Clear channel =
      is_open s.jobs job channel ≡ true → has_name names (the_channel s.jobs job channel).name ≡ false

  abbrev pub Outside : Request → Type 0
  Outside (Get channel block) = Clear channel
  Outside (Put channel block page) = Clear channel
  Outside (GetRecord channel block count) = Clear channel
  Outside (PutRecord channel block pages) = Clear channel
  Outside request = Unit {0}

  -- WHAT REFUSES

  making_parallel : (name : FileName) → Parallel (making s caller name) (making t caller name)
  making_parallel name =
      (refl, (refl, λ known. (refl, (refl, λ may. (ap (nat_le 512) (alike-length names s.files gs alike), (refl, λ few. tt))))))

  there_parallel : (kind : OpenKind) (name : FileName) → Parallel (to_open_there kind s caller name) (to_open_there kind t caller name)
  there_parallel Input name = (ap not (has_right-twin names s gs alike caller name), (refl, λ right. tt))
  there_parallel Either name = (ap not (has_right-twin names s gs alike caller name), (refl, λ right. tt))
  there_parallel Output name =
      (ap not (may-twin names s gs alike caller name Write), (refl, λ may. (refl, (refl, λ unopened. tt))))
  there_parallel Fresh name = parallel_itself ((true, 16) ∷ [])

  new_parallel : (kind : OpenKind) (name : FileName) → Parallel (to_open_new kind s caller name) (to_open_new kind t caller name)
  new_parallel Input name = parallel_itself ((true, 5) ∷ [])
  new_parallel Either name = making_parallel name
  new_parallel Output name = making_parallel name
  new_parallel Fresh name = making_parallel name

  open_parallel : (kind : OpenKind) (name : FileName) → Parallel (cond (is_file s.files name) (to_open_there kind s caller name) (to_open_new kind s caller name)) (cond (is_file gs name) (to_open_there kind t caller name) (to_open_new kind t caller name))
  open_parallel kind name =
      subst (λ b. Parallel (cond (is_file s.files name) (to_open_there kind s caller name) (to_open_new kind s caller name)) (cond b (to_open_there kind t caller name) (to_open_new kind t caller name))) (sym (alike-is_file names s.files gs name alike))
      (elim (is_file s.files name) as (λ v. Parallel (cond v (to_open_there kind s caller name) (to_open_new kind s caller name)) (cond v (to_open_there kind t caller name) (to_open_new kind t caller name))) [ true ↦ there_parallel kind name | false ↦ new_parallel kind name ])

  -- a write that has space has space in the twin, which has more
  room : (name : FileName) (last : ℕ) → has_name names name ≡ false → lacks_room s name last ≡ false → lacks_room t name last ≡ false
  room name last out e =
      let enough = room_there s name last e in
      let same : last - size_at gs name ≡ last - size_at s.files name = ap (λ pages. last - length pages) (pages-twin names s gs alike name out) in
      room_told t name last
      (at_most _ (free s) (free t) _ enough.0 (more_free names s gs alike) same, at_most _ (left_to s name.owner) (left_to t name.owner) _ enough.1 (more_left names s gs alike name.owner) same) where
        at_most : (w f g v : ℕ) → w ≤ f → f ≤ g → v ≡ w → v ≤ g
        at_most w f g v p q e = omega arith

  -- the tests of a read and of a write that name no block of the file
  abbrev reading : ℕ → List (Bool × ℕ)
  reading channel =
      (nat_lt 12 channel, 46) ∷ (not (is_open s.jobs job channel), 9) ∷ (not (the_channel s.jobs job channel).read, 10) ∷ []

  abbrev writing : ℕ → Bool → List (Bool × ℕ)
  writing channel wrong =
      (nat_lt 12 channel, 46) ∷ (not (is_open s.jobs job channel), 9) ∷ (not (the_channel s.jobs job channel).write, 10) ∷ (wrong, 31) ∷ []

  -- a write that is not refused with 4, its last number, has space
  has_room_left : (channel last : ℕ) (wrong held : Bool) (done : State × Reply) → (attempt s (writing channel wrong ++ (held, 19) ∷ (lacks_room s (the_channel s.jobs job channel).name last, 4) ∷ []) done).1 ≢ Failed 4 → NoneApply (writing channel wrong) → held ≡ false → lacks_room s (the_channel s.jobs job channel).name last ≡ false
  has_room_left channel last wrong held done has_room h free_now =
      let full : Bool = lacks_room s (the_channel s.jobs job channel).name last in
      let tests : List (Bool × ℕ) = writing channel wrong ++ (held, 19) ∷ [] in
      by_test full
      (λ yes. absurd (has_room (fails 4 s (writing channel wrong ++ (held, 19) ∷ (full, 4) ∷ []) done (first_held tests [] full 4 (h.0, (h.1.0, (h.1.1.0, (h.1.1.1.0, (free_now, tt))))) yes))))
      (λ no. no)

  writes_parallel : (channel last : ℕ) (wrong held also : Bool) (done : State × Reply) → Clear channel → (has_name names (the_channel s.jobs job channel).name ≡ false → also ≡ held) → (attempt s (writing channel wrong ++ (held, 19) ∷ (lacks_room s (the_channel s.jobs job channel).name last, 4) ∷ []) done).1 ≢ Failed 4 → Parallel (writing channel wrong ++ (held, 19) ∷ (lacks_room s (the_channel s.jobs job channel).name last, 4) ∷ []) (writing channel wrong ++ (also, 19) ∷ (lacks_room t (the_channel s.jobs job channel).name last, 4) ∷ [])
  writes_parallel channel last wrong held also done clear same has_room =
      let at : ChannelEntry = the_channel s.jobs job channel in
      parallel_behind (writing channel wrong)
      ((held, 19) ∷ (lacks_room s at.name last, 4) ∷ [])
      ((also, 19) ∷ (lacks_room t at.name last, 4) ∷ [])
      (λ h.
      let out = clear (not-false _ h.1.0) in
      let enough = has_room_left channel last wrong held done has_room h in
      (same out, (refl, λ free_now. (room at.name last out (enough free_now) ∙ sym (enough free_now), (refl, λ has. tt)))))

  get_parallel : (channel block : ℕ) → Clear channel → Parallel (refusals s job caller (Get channel block)) (refusals t job caller (Get channel block))
  get_parallel channel block clear =
      let at : ChannelEntry = the_channel s.jobs job channel in
      parallel_behind (reading channel)
      ((not (is_block s.files at.name block), 11) ∷ (is_held s.holds job channel at.name block, 19) ∷ [])
      ((not (is_block gs at.name block), 11) ∷ (is_held t.holds job channel at.name block, 19) ∷ [])
      (λ h.
      let out = clear (not-false _ h.1.0) in
      (ap not (is_block-twin names s gs alike at.name block out), (refl, λ there. (is_held-twin names s gs alike job channel at.name block out, (refl, λ free_now. tt)))))

  get_record_parallel : (channel block count : ℕ) → Clear channel → Parallel (refusals s job caller (GetRecord channel block count)) (refusals t job caller (GetRecord channel block count))
  get_record_parallel channel block count clear =
      let at : ChannelEntry = the_channel s.jobs job channel in
      let pages = pages_of (the_file s.files at.name) block count in
      let others = pages_of (the_file gs at.name) block count in
      parallel_behind (reading channel)
      ((not (is_record count), 31) ∷ (not (is_block s.files at.name block), 11) ∷ (any_held s.holds job channel at.name block (length pages), 19) ∷ [])
      ((not (is_record count), 31) ∷ (not (is_block gs at.name block), 11) ∷ (any_held t.holds job channel at.name block (length others), 19) ∷ [])
      (λ h.
      let out = clear (not-false _ h.1.0) in
      let same = ap (λ ps. any_held t.holds job channel at.name block (length ps)) (pages_of-twin names s gs alike at.name block count out) in
      (refl, (refl, λ right. (ap not (is_block-twin names s gs alike at.name block out), (refl, λ there. (same ∙ any_held-twin names s gs alike job channel at.name block (length pages) out, (refl, λ free_now. tt)))))))

  put_parallel : (channel block : ℕ) (page : List ℕ) → Clear channel → (answer_table s job caller (Put channel block page)).1 ≢ Failed 4 → Parallel (refusals s job caller (Put channel block page)) (refusals t job caller (Put channel block page))
  put_parallel channel block page clear has_room =
      let at : ChannelEntry = the_channel s.jobs job channel in
      writes_parallel channel block (block == 0) (is_held s.holds job channel at.name block) (is_held t.holds job channel at.name block) (done s job caller (Put channel block page)) clear (is_held-twin names s gs alike job channel at.name block) has_room

  put_record_parallel : (channel block : ℕ) (pages : List (List ℕ)) → Clear channel → (answer_table s job caller (PutRecord channel block pages)).1 ≢ Failed 4 → Parallel (refusals s job caller (PutRecord channel block pages)) (refusals t job caller (PutRecord channel block pages))
  put_record_parallel channel block pages clear has_room =
      let at : ChannelEntry = the_channel s.jobs job channel in
      writes_parallel channel (block + length pages - 1) (block == 0 || not (is_record (length pages))) (any_held s.holds job channel at.name block (length pages)) (any_held t.holds job channel at.name block (length pages)) (done s job caller (PutRecord channel block pages)) clear (any_held-twin names s gs alike job channel at.name block (length pages)) has_room

  pub parallel : (request : Request) → Outside request → (answer_table s job caller request).1 ≢ Failed 4 → Parallel (refusals s job caller request) (refusals t job caller request)
  parallel (OpenFile channel name kind update code) outside has_room =
      (refl, (refl, λ low. (refl, (refl, λ free_now. open_parallel kind name))))
  parallel (Get channel block) outside has_room = get_parallel channel block outside
  parallel (Put channel block page) outside has_room = put_parallel channel block page outside has_room
  parallel (GetRecord channel block count) outside has_room = get_record_parallel channel block count outside
  parallel (PutRecord channel block pages) outside has_room = put_record_parallel channel block pages outside has_room
  parallel (Kill name) outside has_room =
      (ap not (alike-is_file names s.files gs name alike), (refl, λ there. (ap not (may-twin names s gs alike caller name Write), (refl, λ may. (refl, (refl, λ unopened. tt))))))
  parallel (Rename old new code) outside has_room =
      (refl, (refl, λ one. (ap not (alike-is_file names s.files gs old alike), (refl, λ there. (ap not (may-twin names s gs alike caller old Write), (refl, λ may. (refl, (refl, λ unopened. (ap (λ b. b && not (same_name new old)) (alike-is_file names s.files gs new alike), (refl, λ fresh. tt))))))))))
  parallel (Directory owner index) outside has_room =
      (ap not (both_there names (nth_of s.files owner index) (nth_of gs owner index) (alike_nth names s.files gs owner index alike)), (refl, λ there. tt))
  parallel request outside has_room = parallel_itself (refusals s job caller request)
