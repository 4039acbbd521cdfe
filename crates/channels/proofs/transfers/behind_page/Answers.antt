use Rattle.std.proofs.Common.{arith, sym}
use Rattle.std.proofs.Math.ListN.{drop_of_length-le}
use Rattle.std.proofs.lemmas.List.{take_rest}
use Rattle.channels.proofs.transfers.behind_page.Goals as goal

pub returns-then-bytes-lt-BLOCK_BYTES : goal.returns-then-bytes-lt-BLOCK_BYTES
returns-then-bytes-lt-BLOCK_BYTES c = sym (drop_of_length-le c.args.bytes.now {i = 512} (omega arith))

pub returns-else-bytes-lt-BLOCK_BYTES : goal.returns-else-bytes-lt-BLOCK_BYTES
returns-else-bytes-lt-BLOCK_BYTES c = take_rest c.args.bytes.now 512
