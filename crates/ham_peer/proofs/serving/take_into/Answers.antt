use Rattle.ham_peer.proofs.Delivered.{piece_ends, piece_fails}
use Rattle.ham_peer.proofs.serving.take_into.Goals as goal

pub returns-in-Err-clause-off : goal.returns-in-Err-clause-off
returns-in-Err-clause-off g c = λ left.
    piece_ends _ _ _ _ _ _ _ left _ c.feed-fed.result c.args.decoder.now c.feed-fed.new.decoder c.args.frames.now c.feed-fed.new.into c.args.piece.now _ _ _ _ _ _
    c.requires.none c.feed-fed.ensures.feeds c.in-Err.ensures.off c.in-Err.ensures.causes

pub returns-in-Err-fed-clause-off : goal.returns-in-Err-fed-clause-off
returns-in-Err-fed-clause-off g c = λ left.
    piece_fails c.in-Err-fed.fault c.end_of.result _ _ _ _ _ _ left _ _ c.feed-fed.result c.args.decoder.now c.feed-fed.new.decoder c.args.frames.now c.feed-fed.new.into c.args.piece.now
    c.requires.none c.feed-fed.ensures.feeds c.in-Err-fed.is c.end_of.ensures c.in-Ok.ensures.on
