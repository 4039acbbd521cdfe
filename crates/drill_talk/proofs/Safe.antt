-- Trees whose every path counts.
use Rattle.std.specs.Prelude.{ℕ, List, Option, Some, None}
use Rattle.monitor_calls.specs.declared.calls.Reply.{Reply}
use Rattle.monitor_calls.specs.Proper.{IsProperReply}
use Rattle.monitor_calls.specs.Typing.{Typing, Line, Over, Open}
use Rattle.monitor_model.specs.Counters.{Counting, MayCount, page_kept}
use Rattle.job_model.specs.Act.{Act, Gives, Breaks, Asks, Types, Takes, Break}

-- what is so of the keys that are left, the page that is kept, and a value or a break with the state
abbrev pub Post : Type 0 → Type 0 → Type 1
Post A S = Typing → Option (List ℕ) → A → S → Type 0

-- what follows a key
abbrev pub on_key : (Option (List ℕ) → Typing → Type 0) → Typing → Type 0
on_key next (Line line keys) = next (Some line) keys
on_key next Over = next None Over
on_key next Open = Unit {0}

-- every path of the tree, with proper replies, asks only what a counting job may ask, and ends so
abbrev pub Safe : {L S A : Type 0} → Counting → Post A S → Post (Break L) S → Act L S A → Typing → Option (List ℕ) → Type 0
Safe c Q B (Gives a s) keys kept = Q keys kept a s
Safe c Q B (Breaks why s) keys kept = B keys kept why s
Safe c Q B (Asks r by) keys kept =
    MayCount c kept r
    × ((reply : Reply) → IsProperReply reply → Safe c Q B (by reply) keys (page_kept c.channel kept r reply))
Safe c Q B (Types by) keys kept = on_key (λ key left. Safe c Q B (by key) left kept) keys
Safe c Q B (Takes s rest) keys kept = Safe c Q B rest keys kept
