-- What is known of a channel's state, used in the interaction trees.
use Rattle.std.proofs.Common.{◌≡◌, ℕ, List, ap}
use Rattle.channels.specs.declared.states.Waiting.{Waiting}
use Rattle.channels.specs.Files.{Files, state_of}
use Rattle.channels.specs.Waiting.{stores_waiting, settles}

-- the files with other buffers
abbrev pub beside : List (List ℕ) → Files → Files
beside buffers files = record files { buffers = buffers }

-- an equation about channels without buffers is also true with them
pub told_beside : {a b : Files} (buffers : List (List ℕ)) → a ≡ b → beside buffers a ≡ beside buffers b
told_beside buffers is = ap (beside buffers) is

pub settles_by : (c : ℕ) (waiting : Waiting) (files : Files) → (state_of c files).waiting ≡ waiting → settles c files ≡ stores_waiting c waiting files
settles_by c waiting files is = ap (λ (w : Waiting). stores_waiting c w files) is
