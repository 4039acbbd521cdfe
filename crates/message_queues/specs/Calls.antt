-- The refusals of each call, in order.
use Rattle.std.specs.Prelude.{ℕ, Bool, not, ◌||◌, ◌==◌, List, [], ◌∷◌, length}
use Rattle.monitor_model.specs.Queues.{Receiver, is_receiver, has_receiver, is_full, letters_of}

-- the name is in use, or the job has a receiver
abbrev pub declare_refusals : List Receiver → ℕ → List ℕ → List (Bool × ℕ)
declare_refusals receivers job name =
    (is_receiver receivers name || has_receiver receivers job, 16) ∷ []

-- no such receiver; it is full
abbrev pub send_refusals : List Receiver → List ℕ → List (Bool × ℕ)
send_refusals receivers name =
    (not (is_receiver receivers name), 5) ∷ (is_full receivers name, 32) ∷ []

-- no letter waits
abbrev pub receive_refusals : List Receiver → ℕ → List (Bool × ℕ)
receive_refusals receivers job = (length (letters_of receivers job) == 0, 5) ∷ []
