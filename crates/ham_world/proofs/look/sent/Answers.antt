use Rattle.std.proofs.Common.{ap, ◌∙◌, length}
use Rattle.std.proofs.lemmas.List.{length-map}
use Rattle.ham_frame.specs.Spelling.{spelling}
use Rattle.ham_runs.specs.Runs.{on_link}
use Rattle.ham_world.specs.Keeping.{notes_of}
use Rattle.ham_world.proofs.Kept.{in_range, links_64}
use Rattle.ham_world.proofs.look.sent.Goals as goal

pub link_at-requires-clause-from : goal.link_at-requires-clause-from
link_at-requires-clause-from c = in_range c.args.parts.now.object c.args.parts.now.plan c.args.parts.now.notes.items c.args.from c.requires.kept c.requires.from

pub link_at-requires-clause-to : goal.link_at-requires-clause-to
link_at-requires-clause-to c = in_range c.args.parts.now.object c.args.parts.now.plan c.args.parts.now.notes.items c.args.to c.requires.kept c.requires.to

pub link_at-requires-clause-links : goal.link_at-requires-clause-links
link_at-requires-clause-links c = links_64 c.args.parts.now.links.items (on_link (notes_of c.args.parts.now.object c.args.parts.now.plan c.args.parts.now.notes.items)) c.requires.keeps.linked

pub returns : goal.returns
returns c = c.len.ensures ∙ (ap length (c.link_at.ensures (on_link (notes_of c.args.parts.now.object c.args.parts.now.plan c.args.parts.now.notes.items)) c.requires.keeps.linked) ∙ length-map (on_link (notes_of c.args.parts.now.object c.args.parts.now.plan c.args.parts.now.notes.items) c.args.from c.args.to) spelling)
