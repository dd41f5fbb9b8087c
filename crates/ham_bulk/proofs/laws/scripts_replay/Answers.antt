use Rattle.ham_bulk.proofs.Scripted.{scripts_replay}
use Rattle.ham_bulk.proofs.laws.scripts_replay.Goals as goal

pub returns : goal.returns
returns c = scripts_replay c.readings_are_computed.ensures.spelled c.printed_lines_are_read_back.ensures.spells
