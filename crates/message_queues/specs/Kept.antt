-- A receiver as it is kept: its letters are in a ring buffer for as many as it takes.
use Rattle.std.specs.Prelude.{List, map}
use Rattle.monitor_model.specs.Queues.{Receiver}
use Rattle.message_queues.specs.declared.queues.Queue.{Queue}

abbrev pub shown : Queue → Receiver
shown queue =
    record {
      name = queue.name;
      job = queue.job;
      most = queue.letters.capacity;
      letters = queue.letters.items;
    }

abbrev pub shown_all : List Queue → List Receiver
shown_all queues = map shown queues
