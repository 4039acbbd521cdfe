use Rattle.std.proofs.Common.{sym, ◌∙◌, arith}
use Rattle.channels.proofs.Runs.{behind_first_shorter, run_too_long, run_taken, zero_skipped, feed_taken}
use Rattle.channels.proofs.lines.Line.take_from.Goals as goal

pub returns-then-run-room-clause-taken : goal.returns-then-run-room-clause-taken
returns-then-run-room-clause-taken c =
    let cut = c.split_at.ensures in
    sym (c.loop-rest.invariant.taken ∙ run_too_long c.loop-rest.line c.loop-rest.rest.now c.split_at.result.0.now c.split_at.result.1.now c.run_in_front.result c.run_in_front.ensures.count cut.front cut.back c.room-room.result c.room-room.ensures c.if-run-room.true)

pub loop-rest-preserved-then-behind-lt1 : goal.loop-rest-preserved-then-behind-lt1
loop-rest-preserved-then-behind-lt1 c =
    let cut = c.split_at.ensures in
    let none = c.in-empty.len_below in
    record {
      taken = c.loop-rest.invariant.taken ∙ run_taken c.loop-rest.line c.loop-rest.rest.now c.split_at.result.0.now c.split_at.result.1.now c.run_in_front.result c.run_in_front.ensures.count cut.front cut.back c.room-room.result c.push.new.self c.room-room.ensures (omega arith) c.in_ok-push.ensures;
      short = omega (arith, none);
    }

pub returns-then-byte-eq-LINE_FEED-clause-taken : goal.returns-then-byte-eq-LINE_FEED-clause-taken
returns-then-byte-eq-LINE_FEED-clause-taken c =
    let cut = c.split_at.ensures in
    sym (c.loop-rest.invariant.taken ∙ run_taken c.loop-rest.line c.loop-rest.rest.now c.split_at.result.0.now c.split_at.result.1.now c.run_in_front.result c.run_in_front.ensures.count cut.front cut.back c.room-room.result c.push.new.self c.room-room.ensures (omega arith) c.in_ok-push.ensures
    ∙ feed_taken c.push.new.self c.split_at.result.1.now c.in-len1-up.len_at_least c.if-byte-eq-LINE_FEED.true)

pub loop-rest-preserved : goal.loop-rest-preserved
loop-rest-preserved c =
    let cut = c.split_at.ensures in
    record {
      taken = c.loop-rest.invariant.taken ∙ run_taken c.loop-rest.line c.loop-rest.rest.now c.split_at.result.0.now c.split_at.result.1.now c.run_in_front.result c.run_in_front.ensures.count cut.front cut.back c.room-room.result c.push.new.self c.room-room.ensures (omega arith) c.in_ok-push.ensures
          ∙ zero_skipped c.loop-rest.line c.loop-rest.rest.now c.split_at.result.0.now c.split_at.result.1.now c.run_in_front.result c.run_in_front.ensures.count cut.front cut.back c.push.new.self c.in-len1-up.len_at_least c.if-byte-eq-LINE_FEED.false;
      short = (let fewer = behind_first_shorter c.split_at.result.1.now in let rest = cut.back_len in omega (arith, fewer, rest));
    }
