-- The index after each block of a run that is removed or added: what is true of the first blocks of
-- the run is true of one block more.
use Rattle.std.proofs.Common.{◌≡◌, ◌≢◌, ℕ, ◌+◌, ◌<◌, Bool, true, false, cond, List, length, Some, None, refl, sym, ap, ◌∙◌, arith}
use Rattle.std.specs.Prelude.{Option, ◌&&◌, ◌||◌, ◌==◌, nat_le, nat_lt}
use Rattle.std.proofs.lemmas.Bool.Decides.{nat_tests}
use Rattle.monitor_calls.specs.declared.files.FileName.{FileName}
use Rattle.monitor_calls.specs.FileNames.{same_name}
use Rattle.monitor_calls.proofs.FileNameLemmas.{same_name-self}
use Rattle.block_interlock.specs.declared.index.Hold.{Hold}
use Rattle.block_interlock.specs.declared.runs.Run.{Run}
use Rattle.block_interlock.specs.Index.{look, is_block, nth_block, Rises, AreFree, AreHeld, Drops, Adds, DropsAll, AddsAll}
use Rattle.block_interlock.specs.Runs.{has_block}
use Rattle.block_interlock.proofs.IndexLemmas.{is_self}

-- the first blocks of a run
abbrev pub first : Run → ℕ → Run
first run count = record { name = run.name; block = run.block; count = count }

-- WHICH BLOCKS THESE ARE

-- one block more is that block, or one of those before
has_more :
    (run : Run) (n : ℕ) (name : FileName) (block : ℕ) →
    has_block (first run (n + 1)) name block
    ≡ (is_block name block (nth_block run n) || has_block (first run n) name block)
has_more run n name block = by run.block (same_name name run.name) where
  by : (from : ℕ) (same : Bool)
      → (same && (nat_le from block && nat_lt block (from + (n + 1))))
      ≡ ((same && block == from + n) || (same && (nat_le from block && nat_lt block (from + n))))
  by from true = grind (arith, nat_tests)
  by from false = refl

has_none : (run : Run) (name : FileName) (block : ℕ) → has_block (first run 0) name block ≡ false
has_none run name block = by run.block (same_name name run.name) where
  by : (from : ℕ) (same : Bool)
      → (same && (nat_le from block && nat_lt block (from + 0))) ≡ false
  by from true = grind (arith, nat_tests)
  by from false = refl

-- the next block is none of those before, and one of the run
next_is_new : (run : Run) (n : ℕ) → has_block (first run n) run.name (run.block + n) ≡ false
next_is_new run n = by run.block (same_name run.name run.name) where
  by : (from : ℕ) (same : Bool)
      → (same && (nat_le from (from + n) && nat_lt (from + n) (from + n))) ≡ false
  by from true = grind (arith, nat_tests)
  by from false = refl

next_is_own : (run : Run) (n : ℕ) → n < run.count → has_block run run.name (run.block + n) ≡ true
next_is_own run n lt = by run.block run.count lt (same_name run.name run.name) (same_name-self run.name) where
  by : (from count : ℕ) → n < count → (same : Bool) → same ≡ true
      → (same && (nat_le from (from + n) && nat_lt (from + n) (from + count))) ≡ true
  by from count lt true e = grind (arith, nat_tests)
  by from count lt false e = absurd (cc)

-- a choice by two tests, one after the other
by_either : {X : Type 0} (a b : Bool) (x y : X) → cond a x (cond b x y) ≡ cond (a || b) x y
by_either true b x y = refl
by_either false b x y = refl

or_right : (a b : Bool) → b ≡ true → (a || b) ≡ true
or_right true b e = refl
or_right false b e = e

-- REMOVED

pub drops_none : (run : Run) (old : List Hold) → Rises old → DropsAll (first run 0) old old
drops_none run old rises = record {
  rises = rises;
  looks = λ name block. sym (ap (λ v. cond v None (look old name block)) (has_none run name block));
  less = λ held. omega arith;
}

pub drops_more :
    (run : Run) (n : ℕ) (old mid new : List Hold) →
    DropsAll (first run n) old mid → Drops (nth_block run n) mid new → DropsAll (first run (n + 1)) old new
drops_more run n old mid new before step = record {
  rises = step.rises;
  looks = λ name block.
      let own = is_block name block (nth_block run n) in
      let was = look old name block in
      step.looks name block
      ∙ ap (λ o. cond own None o) (before.looks name block)
      ∙ by_either own (has_block (first run n) name block) None was
      ∙ ap (λ v. cond v None was) (sym (has_more run n name block));
  less = λ held.
      let at = run.block + n in
      let fewer = before.less (λ name block is. held name block (has_more run n name block ∙ or_right (is_block name block (nth_block run n)) (has_block (first run n) name block) is)) in
      let same : look mid run.name at ≡ look old run.name at =
      before.looks run.name at ∙ ap (λ v. cond v None (look old run.name at)) (next_is_new run n) in
      let there = held run.name at (has_more run n run.name at ∙ ap (λ v. v || has_block (first run n) run.name at) (is_self (nth_block run n))) in
      by_look (look mid run.name at) refl (λ none. there (sym same ∙ none)) fewer;
} where
  by_look :
      (o : Option (ℕ × ℕ)) → look mid run.name (run.block + n) ≡ o → (o ≢ None) →
      length old ≡ length mid + n → length old ≡ length new + (n + 1)
  by_look None is some fewer = absurd (some refl)
  by_look (Some p) is some fewer = omega (arith, fewer, step.less p.0 p.1 is)

-- ADDED

pub adds_none :
    (run : Run) (job channel : ℕ) (old : List Hold) →
    Rises old → AddsAll (first run 0) job channel old old
adds_none run job channel old rises = record {
  rises = rises;
  looks = λ name block.
      sym (ap (λ v. cond v (Some (job, channel)) (look old name block)) (has_none run name block));
  more = omega arith;
}

pub adds_more :
    (run : Run) (job channel n : ℕ) (old mid new : List Hold) →
    AddsAll (first run n) job channel old mid →
    Adds (record { held = nth_block run n; job = job; channel = channel }) mid new →
    AddsAll (first run (n + 1)) job channel old new
adds_more run job channel n old mid new before step = record {
  rises = step.rises;
  looks = λ name block.
      let own = is_block name block (nth_block run n) in
      let was = look old name block in
      let holding = Some (job, channel) in
      step.looks name block
      ∙ ap (λ o. cond own holding o) (before.looks name block)
      ∙ by_either own (has_block (first run n) name block) holding was
      ∙ ap (λ v. cond v holding was) (sym (has_more run n name block));
  more = omega (arith, step.more, before.more);
}

-- the next block is free
pub next_is_free :
    (run : Run) (job channel n : ℕ) (old mid : List Hold) → AreFree run old → n < run.count →
    AddsAll (first run n) job channel old mid → look mid run.name (run.block + n) ≡ None
next_is_free run job channel n old mid free lt before =
    let at = run.block + n in
    before.looks run.name at
    ∙ ap (λ v. cond v (Some (job, channel)) (look old run.name at)) (next_is_new run n)
    ∙ free run.name at (next_is_own run n lt)
