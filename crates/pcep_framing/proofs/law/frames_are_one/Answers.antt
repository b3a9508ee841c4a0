use Rattle.pcep_framing.proofs.FrameLemmas.{frames_once}
use Rattle.pcep_framing.proofs.law.frames_are_one.Goals as goal

pub returns : goal.returns
returns c = frames_once
