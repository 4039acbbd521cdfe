use Rattle.std.proofs.Common.{arith}
use Rattle.rsts_io.proofs.WholeLemmas.{took_more}
use Rattle.rsts_io.proofs.whole.read_through.Goals as goal

pub returns-then-len-count-clause-next : goal.returns-then-len-count-clause-next
returns-then-len-count-clause-next g c =
    let told = c.in-Bytes.ensures.told in
    let so_far = c.reading.invariant in
    took_more c.args.limit c.reading.bytes.items c.take_some.new.chunk c.in-Bytes.count (g.S.Source.state c.args.source.now) (g.S.Source.state c.reading.source) (g.S.Source.state c.take_some.new.source)
    (omega (arith, so_far.taken, c.reading.bytes.ok.0)) so_far.next told.1 told.2 told.3 (omega (arith, so_far.few, so_far.taken, c.in-Bytes.ensures.most, c.len.ensures, c.reading.bytes.ok.0))

pub returns-in_err-extend_from_slice-in-Bytes-clause-next : goal.returns-in_err-extend_from_slice-in-Bytes-clause-next
returns-in_err-extend_from_slice-in-Bytes-clause-next g c =
    let told = c.in-Bytes.ensures.told in
    let so_far = c.reading.invariant in
    took_more c.args.limit c.reading.bytes.items c.take_some.new.chunk c.in-Bytes.count (g.S.Source.state c.args.source.now) (g.S.Source.state c.reading.source) (g.S.Source.state c.take_some.new.source)
    (omega (arith, so_far.taken, c.reading.bytes.ok.0)) so_far.next told.1 told.2 told.3 (omega (arith, so_far.few, so_far.taken, c.in-Bytes.ensures.most, c.len.ensures, c.reading.bytes.ok.0))
