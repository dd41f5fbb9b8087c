use Rattle.ham_plain.proofs.Forms.{not_whole}
use Rattle.ham_plain.proofs.plain.PlainReader.object.Goals as goal

pub unreachable-requires : goal.unreachable-requires
unreachable-requires c = not_whole c.args.self.draft c.in_default.not-Whole c.requires
