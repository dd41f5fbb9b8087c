use Rattle.ham_frame.proofs.Streams.{all_frames}
use Rattle.ham_frame.proofs.laws.frames_are_all.Goals as goal

pub returns : goal.returns
returns c = λ fs gs r more fit fits u e. all_frames fs gs r more fit fits u e
