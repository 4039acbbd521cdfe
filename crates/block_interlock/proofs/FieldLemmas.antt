-- What the fields and the index hold after each change.
use Rattle.std.proofs.Common.{◌≡◌, ◌≢◌, ℕ, ◌+◌, ◌*◌, ◌<◌, ◌≤◌, zero, suc, Bool, true, false, cond, List, [], ◌∷◌, length, length-set, get_or, set, replicate, Some, None, refl, sym, ap, ◌∙◌, subst, arith, inl, inr, ◌⊎◌}
use Rattle.std.specs.Prelude.{Option, IfSome, not, is_some, ◌&&◌, ◌==◌, ◌↔◌, nat_le, nat_lt}
use Rattle.std.proofs.lemmas.Bool.{true≢false, cases_eq, and_parts, and_from, eqb-true, eq-eqb, leb-true, ltb-true, le-leb, lt-ltb}
use Rattle.std.proofs.lemmas.Bool.Decides.{nat_tests}
use Rattle.std.proofs.lemmas.List.{get_or-set_same, get_or-set_other, length-replicate}
use Rattle.monitor_calls.specs.declared.files.FileName.{FileName}
use Rattle.monitor_calls.specs.FileNames.{same_name}
use Rattle.monitor_calls.proofs.FileNameLemmas.{Decides-same_name}
use Rattle.monitor_model.specs.Holds.{holder, is_channel, is_job, is_held, any_held, release, release_job, add, hold}
use Rattle.monitor_model.proofs.HoldLemmas.{same_holds, holder-release, holder-release_job, holder-add_in, holder-add_out}
use Rattle.monitor_model.proofs.RecordLemmas.{none_held}
use Rattle.block_interlock.specs.declared.index.Hold.{Hold}
use Rattle.block_interlock.specs.declared.runs.Run.{Run}
use Rattle.block_interlock.specs.Index.{look, map_of, AreFree, DropsAll, HeldByOne, AddsAll}
use Rattle.block_interlock.specs.Fields.{slot, field_at, AreShort, held_count, HasField, IsKept, LetsGo, LetGoBelow, is_below, AreHolds}
use Rattle.block_interlock.specs.Interlock.{IsHeldBy}
use Rattle.block_interlock.specs.Runs.{IsShort, has_block, tells_block}
use Rattle.block_interlock.proofs.IndexLemmas.{holder-map_of}

-- SMALL FACTS

channel_is : (job channel : ℕ) (o : Option (ℕ × ℕ)) → is_channel job channel o ≡ true → o ≡ Some (job, channel)
channel_is job channel None e = absurd (cc)
channel_is job channel (Some p) e =
    let parts = and_parts (p.0 == job) (p.1 == channel) e in
    let first : p.0 ≡ job = eqb-true p.0 job parts.0 in
    let second : p.1 ≡ channel = eqb-true p.1 channel parts.1 in
    λ i. Some (first i, second i)

is_own : (job channel : ℕ) (o : Option (ℕ × ℕ)) → o ≡ Some (job, channel) → is_channel job channel o ≡ true
is_own job channel o e = ap (is_channel job channel) e ∙ both (eq-eqb job job refl) (eq-eqb channel channel refl) where
  both : {a b : Bool} → a ≡ true → b ≡ true → (a && b) ≡ true
  both p q = (λ i. p i && q i)

first_of_pair : (j c k d : ℕ) → ◌≡◌ {A = Option (ℕ × ℕ)} (Some (j, c)) (Some (k, d)) → (j ≡ k) × (c ≡ d)
first_of_pair j c k d e =
    let at : Option (ℕ × ℕ) → ℕ × ℕ = λ o. elim o [ Some p ↦ p | None ↦ (0, 0) ] in
    (ap (λ o. (at o).0) e, ap (λ o. (at o).1) e)

kept_out : {X : Type 0} (v : Bool) (o : Option X) (x : X) → cond v None o ≡ Some x → (v ≡ false) × (o ≡ Some x)
kept_out true o x e = absurd (cc)
kept_out false o x e = (refl, e)

-- a block of a run
block_parts : (run : Run) (name : FileName) (block : ℕ) → has_block run name block ≡ true → (name ≡ run.name) × ((run.block ≤ block) × (block < run.block + run.count))
block_parts run name block e =
    let parts = and_parts (same_name name run.name) _ e in
    let range = and_parts (nat_le run.block block) (nat_lt block (run.block + run.count)) parts.1 in
    ((Decides-same_name name run.name).0 parts.0, (leb-true run.block block range.0, ltb-true block (run.block + run.count) range.1))

block_from : (run : Run) (name : FileName) (block : ℕ) → name ≡ run.name → run.block ≤ block → block < run.block + run.count → has_block run name block ≡ true
block_from run name block same lo hi =
    and_from (same_name name run.name) _ ((Decides-same_name name run.name).1 same) (and_from (nat_le run.block block) _ (le-leb run.block block lo) (lt-ltb block (run.block + run.count) hi))

-- COUNTS

count_less : (fields : List (Option Run)) (i : ℕ) (run : Run) → get_or fields i None ≡ Some run → held_count fields ≡ held_count (set fields i None) + run.count
count_less [] i run e = absurd (cc)
count_less (None ∷ fields) zero run e = absurd (cc)
count_less (Some h ∷ fields) zero run e = let one : h ≡ run = cc in ap (λ (r : Run). held_count fields + r.count) one
count_less (None ∷ fields) (suc i) run e = count_less fields i run e
count_less (Some h ∷ fields) (suc i) run e = let r = count_less fields i run e in omega (arith, r)

count_more : (fields : List (Option Run)) (i : ℕ) (run : Run) → i < length fields → get_or fields i None ≡ None → held_count (set fields i (Some run)) ≡ held_count fields + run.count
count_more [] i run lt e = absurd (omega (arith, lt))
count_more (None ∷ fields) zero run lt e = refl
count_more (Some h ∷ fields) zero run lt e = absurd (cc)
count_more (None ∷ fields) (suc i) run lt e = count_more fields i run (omega (arith, lt)) e
count_more (Some h ∷ fields) (suc i) run lt e = let r = count_more fields i run (omega (arith, lt)) e in omega (arith, r)

count_most : (fields : List (Option Run)) → AreShort fields → held_count fields ≤ length fields * 3
count_most [] s = omega arith
count_most (None ∷ fields) s = let r = count_most fields s in omega (arith, r)
count_most (Some h ∷ fields) s = let r = count_most fields s.1 in omega (arith, r, s.0.1.0)

count_below : (fields : List (Option Run)) (i : ℕ) → AreShort fields → i < length fields → get_or fields i None ≡ None → held_count fields + 3 ≤ length fields * 3
count_below [] i s lt e = absurd (omega (arith, lt))
count_below (None ∷ fields) zero s lt e = let r = count_most fields s in omega (arith, r)
count_below (Some h ∷ fields) zero s lt e = absurd (cc)
count_below (None ∷ fields) (suc i) s lt e = let r = count_below fields i s (omega (arith, lt)) e in omega (arith, r)
count_below (Some h ∷ fields) (suc i) s lt e = let r = count_below fields i s.1 (omega (arith, lt)) e in omega (arith, r, s.0.1.0)

count_none : (n : ℕ) → held_count (replicate {A = Option Run} n None) ≡ 0
count_none zero = refl
count_none (suc n) = count_none n

none_at : (n i : ℕ) → get_or (replicate {A = Option Run} n None) i None ≡ None
none_at zero i = refl
none_at (suc n) zero = refl
none_at (suc n) (suc i) = none_at n i

-- SHORT RUNS

none_short : (n : ℕ) → AreShort (replicate {A = Option Run} n None)
none_short zero = tt
none_short (suc n) = none_short n

pub short_at : (fields : List (Option Run)) (i : ℕ) (run : Run) → AreShort fields → get_or fields i None ≡ Some run → IsShort run.block run.count
short_at [] i run s e = absurd (cc)
short_at (None ∷ fields) zero run s e = absurd (cc)
short_at (Some h ∷ fields) zero run s e = let one : h ≡ run = cc in subst (λ (r : Run). IsShort r.block r.count) one s.0
short_at (None ∷ fields) (suc i) run s e = short_at fields i run s e
short_at (Some h ∷ fields) (suc i) run s e = short_at fields i run s.1 e

short_less : (fields : List (Option Run)) (i : ℕ) → AreShort fields → AreShort (set fields i None)
short_less [] i s = s
short_less (None ∷ fields) zero s = s
short_less (Some h ∷ fields) zero s = s.1
short_less (None ∷ fields) (suc i) s = short_less fields i s
short_less (Some h ∷ fields) (suc i) s = (s.0, short_less fields i s.1)

short_more : (fields : List (Option Run)) (i : ℕ) (run : Run) → IsShort run.block run.count → AreShort fields → AreShort (set fields i (Some run))
short_more [] i run r s = s
short_more (None ∷ fields) zero run r s = (r, s)
short_more (Some h ∷ fields) zero run r s = (r, s.1)
short_more (None ∷ fields) (suc i) run r s = short_more fields i run r s
short_more (Some h ∷ fields) (suc i) run r s = (s.0, short_more fields i run r s.1)

-- CHANGES

module _ (fields : List (Option Run)) (index : List Hold) (room : ℕ) (k : IsKept fields index room) (job channel : ℕ) (f : HasField fields job channel) where
  -- a field that is there has its place in a changed list, and the other way round
  wider : (x : Option Run) (j c : ℕ) → HasField (set fields (slot job channel) x) j c → HasField fields j c
  wider x j c g = (omega (arith, g.0, length-set fields (slot job channel) x), g.1)

  narrower : (x : Option Run) (j c : ℕ) → HasField fields j c → HasField (set fields (slot job channel) x) j c
  narrower x j c g = (omega (arith, g.0, length-set fields (slot job channel) x), g.1)

  own_slot : (j c : ℕ) → HasField fields j c → slot j c ≡ slot job channel → (j ≡ job) × (c ≡ channel)
  own_slot j c g e = (omega (arith, e, g.1, f.1), omega (arith, e, g.1, f.1))

  own_field : (x : Option Run) → field_at (set fields (slot job channel) x) job channel ≡ x
  own_field x = get_or-set_same fields (slot job channel) x None f.0

  other_field : (x : Option Run) (j c : ℕ) → slot j c ≢ slot job channel → field_at (set fields (slot job channel) x) j c ≡ field_at fields j c
  other_field x j c ne = get_or-set_other fields (slot job channel) (slot j c) x None ne

  -- what the changed field says
  own_says : (x : Option Run) (j c : ℕ) (name : FileName) (block : ℕ) → slot j c ≡ slot job channel → tells_block (field_at (set fields (slot job channel) x) j c) name block ≡ tells_block x name block
  own_says x j c name block same =
      ap (λ s. tells_block (get_or (set fields (slot job channel) x) s None) name block) same ∙ ap (λ o. tells_block o name block) (own_field x)

  other_says : (x : Option Run) (j c : ℕ) (name : FileName) (block : ℕ) → slot j c ≢ slot job channel → tells_block (field_at (set fields (slot job channel) x) j c) name block ≡ tells_block (field_at fields j c) name block
  other_says x j c name block ne = ap (λ o. tells_block o name block) (other_field x j c ne)

  here_held : (name : FileName) (block : ℕ) → is_channel job channel (look index name block) ≡ true → tells_block (field_at fields job channel) name block ≡ true
  here_held name block is = (k.told job channel name block f).1 (channel_is job channel (look index name block) is)

  pub let_go_nothing : field_at fields job channel ≡ None → LetsGo job channel index fields index
  let_go_nothing none = record {
    empty = none;
    looks = λ name block.
        elim (is_channel job channel (look index name block)) as (λ v. is_channel job channel (look index name block) ≡ v → look index name block ≡ cond v None (look index name block)) [
          | true ↦ λ is. absurd (true≢false (sym (here_held name block is) ∙ ap (λ o. tells_block o name block) none))
          | false ↦ λ is. refl
        ] refl;
  }

  module _ (run : Run) (there : field_at fields job channel ≡ Some run) (left : List Hold) (d : DropsAll run index left) where
    -- what the field says, the index says
    held_here : (name : FileName) (block : ℕ) → has_block run name block ≡ true → look index name block ≡ Some (job, channel)
    held_here name block is = (k.told job channel name block f).0 (ap (λ o. tells_block o name block) there ∙ is)

    -- a block that is left is another
    left_is : (j c : ℕ) (name : FileName) (block : ℕ) → look left name block ≡ Some (j, c) → (has_block run name block ≡ false) × (look index name block ≡ Some (j, c))
    left_is j c name block e = kept_out (has_block run name block) (look index name block) (j, c) (sym (d.looks name block) ∙ e)

    forth : (j c : ℕ) (name : FileName) (block : ℕ) → HasField fields j c → (slot j c ≡ slot job channel) ⊎ (slot j c ≢ slot job channel) → tells_block (field_at (set fields (slot job channel) None) j c) name block ≡ true → look left name block ≡ Some (j, c)
    forth j c name block g (inl same) e = absurd (true≢false (sym e ∙ own_says None j c name block same))
    forth j c name block g (inr ne) e =
        let was = (k.told j c name block g).0 (sym (other_says None j c name block ne) ∙ e) in
        d.looks name block
        ∙ (elim (has_block run name block) as (λ v. has_block run name block ≡ v → cond v None (look index name block) ≡ Some (j, c)) [
          | true ↦ λ is. absurd (let pair = first_of_pair j c job channel (sym was ∙ held_here name block is) in ne (λ i. slot (pair.0 i) (pair.1 i)))
          | false ↦ λ is. was
        ] refl)

    back : (j c : ℕ) (name : FileName) (block : ℕ) → HasField fields j c → (slot j c ≡ slot job channel) ⊎ (slot j c ≢ slot job channel) → look left name block ≡ Some (j, c) → tells_block (field_at (set fields (slot job channel) None) j c) name block ≡ true
    back j c name block g (inl same) e =
        let l = left_is j c name block e in
        let here : has_block run name block ≡ true = sym (ap (λ s. tells_block (get_or fields s None) name block) same ∙ ap (λ o. tells_block o name block) there) ∙ (k.told j c name block g).1 l.1 in
        absurd (true≢false (sym here ∙ l.0))
    back j c name block g (inr ne) e = other_says None j c name block ne ∙ (k.told j c name block g).1 (left_is j c name block e).1

    all_there : (name : FileName) (block : ℕ) → has_block run name block ≡ true → look index name block ≢ None
    all_there name block is none = let clash : ◌≡◌ {A = Option (ℕ × ℕ)} (Some (job, channel)) None = sym (held_here name block is) ∙ none in absurd (cc)

    pub let_go_kept : (after : ℕ) → room ≤ after → IsKept (set fields (slot job channel) None) left after
    let_go_kept after more = record {
      rises = d.rises;
      told = λ j c name block g. (forth j c name block (wider None j c g) (cases_eq (slot j c) (slot job channel)), back j c name block (wider None j c g) (cases_eq (slot j c) (slot job channel)));
      within = λ j c name block e. narrower None j c (k.within j c name block (left_is j c name block e).1);
      all = omega (arith, k.all, d.less all_there, count_less fields (slot job channel) run there);
      short = short_less fields (slot job channel) k.short;
      fits = omega (arith, k.fits, more, length-set fields (slot job channel) None);
    }

    pub let_go_gone : LetsGo job channel index (set fields (slot job channel) None) left
    let_go_gone = record {
      empty = own_field None;
      looks = λ name block. d.looks name block
          ∙ (elim (has_block run name block) as (λ v. has_block run name block ≡ v → cond v None (look index name block) ≡ cond (is_channel job channel (look index name block)) None (look index name block)) [
            | true ↦ λ is. sym (ap (λ v. cond v None (look index name block)) (is_own job channel (look index name block) (held_here name block is)))
            | false ↦ λ is. elim (is_channel job channel (look index name block)) as (λ v. is_channel job channel (look index name block) ≡ v → look index name block ≡ cond v None (look index name block)) [
              | true ↦ λ own. absurd (true≢false (sym (here_held name block own) ∙ ap (λ o. tells_block o name block) there ∙ is))
              | false ↦ λ own. refl
            ] refl
          ] refl);
    }

  module _ (run : Run) (none : field_at fields job channel ≡ None) (short : IsShort run.block run.count) (free : AreFree run index) where
    pub has_room : length index + run.count ≤ room
    has_room = omega (arith, k.all, k.fits, short.1.0, count_below fields (slot job channel) k.short f.0 none)

    module _ (grown : List Hold) (a : AddsAll run job channel index grown) where
      new_block : (j c : ℕ) (name : FileName) (block : ℕ) → look index name block ≡ Some (j, c) → has_block run name block ≡ false
      new_block j c name block e =
          elim (has_block run name block) as (λ v. has_block run name block ≡ v → v ≡ false) [
            | true ↦ λ is. absurd (let clash : ◌≡◌ {A = Option (ℕ × ℕ)} (Some (j, c)) None = sym e ∙ free name block is in cc)
            | false ↦ λ is. refl
          ] refl

      gain : (j c : ℕ) (name : FileName) (block : ℕ) → HasField fields j c → (slot j c ≡ slot job channel) ⊎ (slot j c ≢ slot job channel) → tells_block (field_at (set fields (slot job channel) (Some run)) j c) name block ≡ true → look grown name block ≡ Some (j, c)
      gain j c name block g (inl same) e =
          let pair = own_slot j c g same in
          let here : has_block run name block ≡ true = sym (own_says (Some run) j c name block same) ∙ e in
          a.looks name block ∙ ap (λ v. cond v (Some (job, channel)) (look index name block)) here ∙ (λ i. Some (sym pair.0 i, sym pair.1 i))
      gain j c name block g (inr ne) e =
          let was = (k.told j c name block g).0 (sym (other_says (Some run) j c name block ne) ∙ e) in
          a.looks name block ∙ ap (λ v. cond v (Some (job, channel)) (look index name block)) (new_block j c name block was) ∙ was

      -- a block that is held now was held, or is a new one
      data IsGrown (j c : ℕ) (name : FileName) (block : ℕ) : Type 0 where
        is_new : has_block run name block ≡ true → job ≡ j → channel ≡ c → IsGrown j c name block
        is_old : look index name block ≡ Some (j, c) → IsGrown j c name block

      grown_is : (j c : ℕ) (name : FileName) (block : ℕ) → look grown name block ≡ Some (j, c) → IsGrown j c name block
      grown_is j c name block e =
          elim (has_block run name block) as (λ v. has_block run name block ≡ v → cond v (Some (job, channel)) (look index name block) ≡ Some (j, c) → IsGrown j c name block) [
            | true ↦ λ is h. let pair = first_of_pair job channel j c h in is_new is pair.0 pair.1
            | false ↦ λ is h. is_old h
          ] refl (sym (a.looks name block) ∙ e)

      lose : (j c : ℕ) (name : FileName) (block : ℕ) → HasField fields j c → (slot j c ≡ slot job channel) ⊎ (slot j c ≢ slot job channel) → IsGrown j c name block → tells_block (field_at (set fields (slot job channel) (Some run)) j c) name block ≡ true
      lose j c name block g s (is_new is p q) =
          own_says (Some run) j c name block (λ i. slot (sym p i) (sym q i)) ∙ is
      lose j c name block g (inl same) (is_old h) =
          absurd (true≢false (sym ((k.told j c name block g).1 h) ∙ ap (λ s. tells_block (get_or fields s None) name block) same ∙ ap (λ o. tells_block o name block) none))
      lose j c name block g (inr ne) (is_old h) = other_says (Some run) j c name block ne ∙ (k.told j c name block g).1 h

      inside : (j c : ℕ) (name : FileName) (block : ℕ) → IsGrown j c name block → HasField fields j c
      inside j c name block (is_new is p q) = subst (λ x. HasField fields x c) p (subst (λ y. HasField fields job y) q f)
      inside j c name block (is_old h) = k.within j c name block h

      pub take_up_kept : (after : ℕ) → room ≤ after → IsKept (set fields (slot job channel) (Some run)) grown after
      take_up_kept after wide = record {
        rises = a.rises;
        told = λ j c name block g. (gain j c name block (wider (Some run) j c g) (cases_eq (slot j c) (slot job channel)), λ e. lose j c name block (wider (Some run) j c g) (cases_eq (slot j c) (slot job channel)) (grown_is j c name block e));
        within = λ j c name block e. narrower (Some run) j c (inside j c name block (grown_is j c name block e));
        all = omega (arith, k.all, a.more, count_more fields (slot job channel) run f.0 none);
        short = short_more fields (slot job channel) run short k.short;
        fits = omega (arith, k.fits, wide, length-set fields (slot job channel) (Some run));
      }

-- AS MAPS

pub map_released : (job channel : ℕ) (fields : List (Option Run)) (index left : List Hold) → LetsGo job channel index fields left → map_of left ≡ release (map_of index) job channel
map_released job channel fields index left g =
    same_holds (map_of left) (release (map_of index) job channel) (λ name block.
    holder-map_of left name block ∙ g.looks name block
    ∙ sym (holder-release (map_of index) job channel name block ∙ ap (λ o. cond (is_channel job channel o) None o) (holder-map_of index name block)))

pub map_held : (job channel : ℕ) (run : Run) (fields : List (Option Run)) (index left grown : List Hold) → LetsGo job channel index fields left → HeldByOne run job channel left grown → map_of grown ≡ hold (map_of index) job channel run.name run.block run.count
map_held job channel run fields index left grown g looks =
    let old = map_of index in
    let freed = release old job channel in
    same_holds (map_of grown) (add freed job channel run.name run.block run.count) (λ name block.
    holder-map_of grown name block ∙ looks name block
    ∙ (elim (has_block run name block) as (λ v. has_block run name block ≡ v → cond v (Some (job, channel)) (look left name block) ≡ holder (add freed job channel run.name run.block run.count) name block) [
      | true ↦ λ is.
          let parts = block_parts run name block is in
          sym (ap (λ n. holder (add freed job channel run.name run.block run.count) n block) parts.0 ∙ holder-add_in run.count freed job channel run.name run.block block parts.1.0 parts.1.1)
      | false ↦ λ is.
          sym (holder-add_out run.count freed job channel run.name run.block name block (λ same lo hi. true≢false (sym (block_from run name block same lo hi) ∙ is))
          ∙ ap (λ h. holder h name block) (sym (map_released job channel fields index left g)) ∙ holder-map_of left name block)
    ] refl))

-- what no other channel holds is free once the channel has released it
pub let_go_free : (job channel : ℕ) (fields : List (Option Run)) (index left : List Hold) (name : FileName) (block : ℕ) → LetsGo job channel index fields left → is_held (map_of index) job channel name block ≡ false → look left name block ≡ None
let_go_free job channel fields index left name block g free =
    g.looks name block ∙ freed (look index name block) (ap (λ o. is_some o && not (is_channel job channel o)) (sym (holder-map_of index name block)) ∙ free) where
      cleared : {X : Type 0} (v : Bool) (x : X) → (true && not v) ≡ false → cond v None (Some x) ≡ None
      cleared true x e = refl
      cleared false x e = absurd (cc)

      freed : (o : Option (ℕ × ℕ)) → (is_some o && not (is_channel job channel o)) ≡ false → cond (is_channel job channel o) None o ≡ None
      freed None e = refl
      freed (Some p) e = cleared (is_channel job channel (Some p)) p e

-- and so are all blocks of a run
pub let_go_all_free : (job channel : ℕ) (fields : List (Option Run)) (index left : List Hold) (run : Run) → LetsGo job channel index fields left → any_held (map_of index) job channel run.name run.block run.count ≡ false → AreFree run left
let_go_all_free job channel fields index left run g free name block is =
    let parts = block_parts run name block is in
    let_go_free job channel fields index left name block g
    (ap (λ n. is_held (map_of index) job channel n block) parts.0 ∙ none_held (map_of index) job channel run.name run.count run.block block free parts.1.0 parts.1.1)

-- WHOLE

pub new_holds : (jobs room : ℕ) (fields : List (Option Run)) (index : List Hold) → jobs ≤ 63 → jobs * 13 * 3 ≤ room → fields ≡ replicate {A = Option Run} (jobs * 13) None → index ≡ [] → AreHolds jobs fields index room
new_holds jobs room fields index few fits is none =
    subst (λ fs. AreHolds jobs fs index room) (sym is) (subst (λ hs. AreHolds jobs (replicate {A = Option Run} (jobs * 13) None) hs room) (sym none) (record {
      kept = record {
        rises = tt;
        told = λ j c name block g. (λ e. absurd (true≢false (sym e ∙ ap (λ o. tells_block o name block) (none_at (jobs * 13) (slot j c)))), λ e. absurd (cc));
        within = λ j c name block e. absurd (cc);
        all = sym (count_none (jobs * 13));
        short = none_short (jobs * 13);
        fits = omega (arith, fits, length-replicate {A = Option Run} (jobs * 13) None);
      };
      width = length-replicate {A = Option Run} (jobs * 13) None;
      few = few;
    }))

pub has_field : (jobs : ℕ) (fields : List (Option Run)) (index : List Hold) (room : ℕ) → AreHolds jobs fields index room → (job channel : ℕ) → job < jobs → channel < 13 → HasField fields job channel
has_field jobs fields index room h job channel lt small = (omega (arith, lt, small, h.width), small)

-- ALL CHANNELS OF A JOB

-- a job's channels are those below 13
pub all_released : (job : ℕ) (fields : List (Option Run)) (index left : List Hold) (room : ℕ) → IsKept fields index room → LetGoBelow job 13 index left → map_of left ≡ release_job (map_of index) job
all_released job fields index left room k gone =
    same_holds (map_of left) (release_job (map_of index) job) (λ name block.
    holder-map_of left name block ∙ gone name block ∙ by name block (look index name block) refl
    ∙ sym (holder-release_job (map_of index) job name block ∙ ap (λ o. cond (is_job job o) None o) (holder-map_of index name block))) where
      small : (p : ℕ × ℕ) → p.1 < 13 → (p.0 == job && nat_lt p.1 13) ≡ (p.0 == job)
      small p lt = grind (arith, nat_tests)

      by : (name : FileName) (block : ℕ) (o : Option (ℕ × ℕ)) → look index name block ≡ o → cond (is_below job 13 o) None o ≡ cond (is_job job o) None o
      by name block None is = refl
      by name block (Some p) is = ap (λ b. cond b None (Some p)) (small p (k.within p.0 p.1 name block is).1)

-- WHAT A CHANNEL HOLDS

module _ (fields : List (Option Run)) (index : List Hold) (room : ℕ) (k : IsKept fields index room) (job channel : ℕ) where
  -- what its field says
  pub held_by_field : HasField fields job channel → IsHeldBy (map_of index) job channel (field_at fields job channel)
  held_by_field f = record {
    short = few (field_at fields job channel) refl;
    blocks = λ name block.
        let told = k.told job channel name block f in
        (λ e. holder-map_of index name block ∙ told.0 e, λ e. told.1 (sym (holder-map_of index name block) ∙ e));
  } where
    few : (o : Option Run) → field_at fields job channel ≡ o → IfSome o (λ run. IsShort run.block run.count)
    few None e = tt
    few (Some run) e = short_at fields (slot job channel) run k.short e

  -- and nothing, if it has none
  pub held_by_nobody : (HasField fields job channel → ⊥) → IsHeldBy (map_of index) job channel None
  held_by_nobody none = record {
    short = tt;
    blocks = λ name block. (λ e. absurd (cc), λ e. absurd (none (k.within job channel name block (sym (holder-map_of index name block) ∙ e))));
  }
