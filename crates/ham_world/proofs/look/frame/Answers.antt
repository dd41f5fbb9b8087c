use Rattle.std.proofs.Common.{ap, sym, ◌∙◌, ◌≡◌, ◌≤◌, length, map, arith}
use Rattle.std.proofs.lemmas.List.{length-map}
use Rattle.ham_frame.specs.Spelling.{spelling}
use Rattle.ham_turns.specs.Words.{numbered}
use Rattle.ham_runs.specs.Runs.{on_link}
use Rattle.ham_world.specs.Keeping.{notes_of}
use Rattle.ham_world.proofs.Kept.{in_range, links_64}
use Rattle.ham_world.proofs.Looked.{frame_bytes}
use Rattle.ham_world.proofs.look.frame.Goals as goal

pub link_at-link-requires-clause-from : goal.link_at-link-requires-clause-from
link_at-link-requires-clause-from c = in_range c.args.parts.now.object c.args.parts.now.plan c.args.parts.now.notes.items c.args.from c.requires.kept c.requires.from

pub link_at-link-requires-clause-to : goal.link_at-link-requires-clause-to
link_at-link-requires-clause-to c = in_range c.args.parts.now.object c.args.parts.now.plan c.args.parts.now.notes.items c.args.to c.requires.kept c.requires.to

pub link_at-link-requires-clause-links : goal.link_at-link-requires-clause-links
link_at-link-requires-clause-links c = links_64 c.args.parts.now.links.items (on_link (notes_of c.args.parts.now.object c.args.parts.now.plan c.args.parts.now.notes.items)) c.requires.keeps.linked

pub returns : goal.returns
returns c =
    let is = c.link_at-link.ensures (on_link (notes_of c.args.parts.now.object c.args.parts.now.plan c.args.parts.now.notes.items)) c.requires.keeps.linked in
    let in_it = c.is_sent.ensures.within c.if-not-is_sent.false in
    let few : c.args.frame ≤ length (on_link (notes_of c.args.parts.now.object c.args.parts.now.plan c.args.parts.now.notes.items) c.args.from c.args.to) = omega (arith, in_it.1, ap length is, length-map (on_link (notes_of c.args.parts.now.object c.args.parts.now.plan c.args.parts.now.notes.items) c.args.from c.args.to) spelling) in
    frame_bytes (on_link (notes_of c.args.parts.now.object c.args.parts.now.plan c.args.parts.now.notes.items) c.args.from c.args.to) c.link_at-link.result.now c.args.frame c.span.result.now is in_it.0 few c.span.ensures
