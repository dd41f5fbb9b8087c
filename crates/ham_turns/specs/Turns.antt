-- A turn by the table: own work, then calls of the drain.
use Rattle.std.specs.Prelude.{◌≡◌, ◌↔◌, ℕ, Bool, List, ◌++◌, map, IsTrue}
use Rattle.ham_syntax.specs.declared.act.Place.{Place}
use Rattle.ham_syntax.specs.declared.act.Call.{Call}
use Rattle.ham_turns.specs.declared.turn.Out.{Out}
use Rattle.ham_turns.specs.declared.turn.What.{What}
use Rattle.ham_turns.specs.Settings.{Rules, Setting}
use Rattle.ham_turns.specs.Words.{ReplicaWords, Intake, place_of}
use Rattle.ham_turns.specs.Work.{answer_of, ruled_of, made_of, place_made, own_work}
use Rattle.ham_turns.specs.Sends.{sent_by}
use Rattle.ham_turns.specs.Ready.{LogsReady, IsSettled}

-- What replica r, with the words w, shows of a turn that took this in and left the words `after`: its answer, the places
-- that it logged, the frames that it sent, and whether nothing is ready any more. Without memory a drain may stop early.
pub record IsTurnOf (x : Rules) (y : Setting) (r : ℕ) (w after : ReplicaWords) (took : Intake)
    (what : What) (places : List Place) (frames : List Out) (done : Bool) : Type 0 where
  -- the calls of the drain
  pub calls : List Call
  pub drain : LogsReady x y (own_work x y w r took) calls after
  pub settled : IsTrue done ↔ IsSettled y after
  pub answer : what ≡ answer_of x y w r took
  -- the call that was decided here comes first
  pub logged : places ≡ place_made (made_of x y w r took) ++ map place_of calls
  pub sent : frames ≡ sent_by y w r took (answer_of x y w r took) (ruled_of x w took) (made_of x y w r took) after.log
