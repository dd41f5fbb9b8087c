-- A text that was made is what is played.
use Rattle.std.specs.Prelude.{◌≡◌}
use Rattle.ham_replay.specs.Replays.{Played}
use Rattle.ham_bulk.specs.declared.made.Made.{Made}

pub record IsMade (p : Played) (m : Made) : Type 0 where
  pub text : m.text ≡ p.text
  pub refused : m.refused ≡ p.refused
