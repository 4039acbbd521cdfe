use Rattle.std.proofs.Common.{◌++◌, ◌∙◌, take}
use Rattle.rsts_io.proofs.WholeLemmas.{given_more, goes_on}
use Rattle.rsts_io.proofs.whole.give_piece.Goals as goal

pub loop-rest-preserved : goal.loop-rest-preserved
loop-rest-preserved g c =
    let so_far = c.loop-rest.invariant.given in
    let told = c.in-Bytes.ensures in
    record {
      given = (so_far.0 ++ take c.in-Bytes.count c.loop-rest.rest.now, goes_on c.args.piece.now so_far.0 c.loop-rest.rest.now c.in-Bytes.count so_far.1, given_more so_far.0 (take c.in-Bytes.count c.loop-rest.rest.now) (g.K.Sink.state c.args.sink.now).given (g.K.Sink.state c.loop-rest.sink).given (g.K.Sink.state c.give.new.self).given so_far.2 told.2);
      no_fault = told.3 ∙ c.loop-rest.invariant.no_fault;
    }
