-- The views of sources and sinks in memory.
use Rattle.std.specs.Prelude.{ℕ, ◌==◌, Bool, List, Some}
use Rattle.std.specs.List.{list_any}
use Rattle.rsts_io.specs.Ends.{SourceState, SinkState}

-- how many bytes a sink in memory can hold: 16 MiB
abbrev pub sink_room : ℕ
sink_room = 16777216

-- the bytes that are left, and how many were taken
pub record PlainFeed : Type 0 where
  pub left : List ℕ
  pub taken : ℕ

-- the same, the calls that fail, how many calls were made, and how many failed
pub record Feed : Type 0 where
  pub left : List ℕ
  pub taken : ℕ
  pub failing : List ℕ
  pub calls : ℕ
  pub faults : ℕ

-- the bytes that were given, and how many calls failed
pub record PlainStore : Type 0 where
  pub given : List ℕ
  pub faults : ℕ

-- the same, the calls that fail, and how many calls were made
pub record Store : Type 0 where
  pub given : List ℕ
  pub failing : List ℕ
  pub calls : ℕ
  pub faults : ℕ

-- the bytes that are left, how many were taken, and the most that one call gives
pub record DribbleFeed : Type 0 where
  pub left : List ℕ
  pub taken : ℕ
  pub most : ℕ

-- the bytes that were given, how many calls failed, and the most that one call takes
pub record DribbleStore : Type 0 where
  pub given : List ℕ
  pub faults : ℕ
  pub most : ℕ

-- each as a source or a sink that reports its bytes
abbrev pub plain_feed_state : PlainFeed → SourceState
plain_feed_state feed = record { left = Some feed.left; taken = feed.taken; faults = 0 }

abbrev pub feed_state : Feed → SourceState
feed_state feed = record { left = Some feed.left; taken = feed.taken; faults = feed.faults }

abbrev pub plain_store_state : PlainStore → SinkState
plain_store_state store = record { given = Some store.given; faults = store.faults }

abbrev pub store_state : Store → SinkState
store_state store = record { given = Some store.given; faults = store.faults }

abbrev pub dribble_feed_state : DribbleFeed → SourceState
dribble_feed_state feed = record { left = Some feed.left; taken = feed.taken; faults = 0 }

abbrev pub dribble_store_state : DribbleStore → SinkState
dribble_store_state store = record { given = Some store.given; faults = store.faults }

-- whether a call is among those that fail
abbrev pub is_listed : ℕ → List ℕ → Bool
is_listed call failing = list_any (λ number. number == call) failing
