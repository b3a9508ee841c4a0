use Rattle.plant_model.proofs.WireLaws.{wire_is_codec}
use Rattle.plant_model.specs.RealWire.{wire}
use Rattle.plant_laws.specs.Certified.{SolvesCertifyIn}
use Rattle.plant_laws.specs.Chains.{QuietIsAnsweredIn}
use Rattle.plant_laws.specs.Headline.{LeastAnswersIn, NoneAnswersIn}
use Rattle.plant_laws.specs.Replies.{LeastRepliesIn, NoneRepliesIn}
use Rattle.plant_laws.specs.UnderWay.{WaitsAreUnderWayIn}
use Rattle.plant_laws.proofs.Once.Answering as Answering
use Rattle.plant_laws.proofs.Once.Chained as Chained
use Rattle.plant_laws.proofs.WrittenForm.EveryWritten.{of_written_net, of_written_net_ids}
use Rattle.plant_laws.proofs.Keys.Expands as Expands
use Rattle.plant_laws.proofs.Least.OfRun as OfRun
use Rattle.plant_laws.proofs.Settled.UnderWayLaw as UnderWayLaw
use Rattle.plant_laws.proofs.laws_over_pcep.Goals as goal

pub returns : goal.returns
returns c = record {
  paths = of_written_net_ids LeastAnswersIn OfRun.least_answers_are wire wire_is_codec;
  none = of_written_net_ids NoneAnswersIn OfRun.none_answers_are wire wire_is_codec;
  told = of_written_net_ids LeastRepliesIn OfRun.least_replies_are wire wire_is_codec;
  told_none = of_written_net_ids NoneRepliesIn OfRun.none_replies_are wire wire_is_codec;
  certified = of_written_net SolvesCertifyIn OfRun.solves_certify wire wire_is_codec;
  quiet = of_written_net_ids QuietIsAnsweredIn UnderWayLaw.quiet_is_answered wire wire_is_codec;
  under_way = of_written_net_ids WaitsAreUnderWayIn UnderWayLaw.waits_are_under_way wire wire_is_codec;
  once = Answering.requests_are_answered_once wire wire_is_codec;
  chain = Chained.one_chain wire wire_is_codec;
  keys = Expands.expands_rightly wire wire_is_codec;
}
