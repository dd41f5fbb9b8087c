use Rattle.std.proofs.Common.{refl, arith}
use Rattle.ham_peer.proofs.greeting.hello.Goals as goal

pub returns-clause-fits : goal.returns-clause-fits
returns-clause-fits c = record {
  is_version = refl;
  long = c.are_bytes.ensures.long;
  each_byte = c.are_bytes.ensures.each;
  is_from = (c.requires.0, omega arith);
  is_of = (c.requires.1, c.requires.2);
}
