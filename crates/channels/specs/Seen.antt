-- The code's values as the files of a job.
use Rattle.std.specs.Prelude.{ℕ, List}
use Rattle.channels.specs.declared.channels.Channels.{Channels}
use Rattle.channels.specs.declared.states.ChannelState.{ChannelState}
use Rattle.channels.specs.Files.{Files}

abbrev pub files : Channels → List (List ℕ) → Files
files channels buffers = record { channels = channels.states; recount = channels.recount; buffers = buffers }

-- the state of each channel
abbrev pub states_of : Channels → List ChannelState
states_of channels = channels.states

-- RECOUNT
abbrev pub recount_of : Channels → ℕ
recount_of channels = channels.recount
