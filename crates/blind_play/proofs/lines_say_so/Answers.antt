use Rattle.blind_play.proofs.SayingLemmas.{says_so}
use Rattle.blind_play.proofs.lines_say_so.Goals as goal

pub returns : goal.returns
returns c = λ n new end cues turns told given begun played. says_so n new end cues turns told given begun played
