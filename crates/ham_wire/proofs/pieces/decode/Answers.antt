use Rattle.std.proofs.Common.{◌≡◌, ◌-◌, ◌≤◌, None, arith, length, get_or, take, drop}
use Rattle.ham_frame.specs.Decoding.{Reads}
use Rattle.ham_wire.proofs.Results.{ok_both}
use Rattle.ham_wire.proofs.Decoded.{IsReading, begun, read_more, piece_viable, few_read, all_read}
use Rattle.ham_wire.proofs.Cuts.{cut_at}
use Rattle.ham_wire.proofs.pieces.decode.Goals as goal

pub loop-cut-init : goal.loop-cut-init
loop-cut-init c = (begun c.args.bytes.now c.args.frames.now c.args.decoder.now c.requires.idle, c.requires.cuts, omega arith)

pub feed-requires-clause-room : goal.feed-requires-clause-room
feed-requires-clause-room c =
    let k = cut_at c.loop-cut.start c.args.cuts.now c.loop-cut.cut-index (length c.args.bytes.now) c.loop-cut-test.true c.loop-cut.invariant.1 in
    let le : c.loop-cut.start ≤ get_or c.args.cuts.now c.loop-cut.cut-index 0 = omega (arith, k.above) in
    let lt : get_or c.args.cuts.now c.loop-cut.cut-index 0 ≤ length c.args.bytes.now = omega (arith, k.below) in
    few_read c.args.bytes.now c.args.frames.now c.loop-cut.frames c.args.decoder.now c.loop-cut.decoder c.loop-cut.start (get_or c.args.cuts.now c.loop-cut.cut-index 0) le lt c.requires.room c.loop-cut.invariant.0

pub feed-requires-clause-working : goal.feed-requires-clause-working
feed-requires-clause-working c = c.loop-cut.invariant.0.fault

pub feed-requires-clause-viable : goal.feed-requires-clause-viable
feed-requires-clause-viable c =
    let k = cut_at c.loop-cut.start c.args.cuts.now c.loop-cut.cut-index (length c.args.bytes.now) c.loop-cut-test.true c.loop-cut.invariant.1 in
    let le : c.loop-cut.start ≤ get_or c.args.cuts.now c.loop-cut.cut-index 0 = omega (arith, k.above) in
    piece_viable c.spellings_are_apart.ensures c.args.bytes.now c.args.frames.now c.loop-cut.frames c.args.decoder.now c.loop-cut.decoder c.loop-cut.start (get_or c.args.cuts.now c.loop-cut.cut-index 0) le c.requires.idle.rest c.requires.stream c.loop-cut.invariant.0

pub loop-cut-preserved : goal.loop-cut-preserved
loop-cut-preserved c =
    let k = cut_at c.loop-cut.start c.args.cuts.now c.loop-cut.cut-index (length c.args.bytes.now) c.loop-cut-test.true c.loop-cut.invariant.1 in
    let le : c.loop-cut.start ≤ get_or c.args.cuts.now c.loop-cut.cut-index 0 = omega (arith, k.above) in
    let lt : get_or c.args.cuts.now c.loop-cut.cut-index 0 ≤ length c.args.bytes.now = omega (arith, k.below) in (
      read_more c.readings_join.ensures c.args.bytes.now c.args.frames.now c.loop-cut.frames c.feed.new.frames c.args.decoder.now c.loop-cut.decoder c.feed.new.decoder c.loop-cut.start (get_or c.args.cuts.now c.loop-cut.cut-index 0) le
          c.loop-cut.invariant.0 c.in_ok-feed.ensures.reads c.in_ok-feed.ensures.working c.feed.ensures.unfinished,
      k.rest,
      lt,
    )

last : (c : goal.After-feed-2) → Reads c.loop-cut.decoder c.feed-2.new.decoder c.loop-cut.frames c.feed-2.new.frames (take (length c.args.bytes.now - c.loop-cut.start) (drop c.loop-cut.start c.args.bytes.now)) → c.feed-2.new.decoder.fault ≡ None →
    IsReading c.args.bytes.now c.args.frames.now c.feed-2.new.frames c.args.decoder.now c.feed-2.new.decoder (length c.args.bytes.now)
last c r fault =
    read_more c.readings_join.ensures c.args.bytes.now c.args.frames.now c.loop-cut.frames c.feed-2.new.frames c.args.decoder.now c.loop-cut.decoder c.feed-2.new.decoder c.loop-cut.start (length c.args.bytes.now) c.loop-cut.invariant.2
    c.loop-cut.invariant.0 r fault c.feed-2.ensures.unfinished

pub feed-requires-2-clause-viable : goal.feed-requires-2-clause-viable
feed-requires-2-clause-viable c =
    piece_viable c.spellings_are_apart.ensures c.args.bytes.now c.args.frames.now c.loop-cut.frames c.args.decoder.now c.loop-cut.decoder c.loop-cut.start (length c.args.bytes.now) c.loop-cut.invariant.2 c.requires.idle.rest c.requires.stream c.loop-cut.invariant.0

pub returns-clause-read : goal.returns-clause-read
returns-clause-read c = ok_both c.feed-2.result (λ r. λ fault. (all_read c.frames_are_the_only_ones.ensures c.args.bytes.now c.args.frames.now c.feed-2.new.frames c.args.decoder.now c.feed-2.new.decoder c.requires.idle.rest (last c r fault)).0) c.feed-2.ensures.reads c.feed-2.ensures.working

pub returns-clause-idle : goal.returns-clause-idle
returns-clause-idle c = ok_both c.feed-2.result (λ r. λ fault. (all_read c.frames_are_the_only_ones.ensures c.args.bytes.now c.args.frames.now c.feed-2.new.frames c.args.decoder.now c.feed-2.new.decoder c.requires.idle.rest (last c r fault)).1 c.requires.stream) c.feed-2.ensures.reads c.feed-2.ensures.working
