use Rattle.plant_laws.proofs.plant_model.WireLaws.{wire_is_codec}
use Rattle.plant_laws.specs.plant_model.RealWire.{wire}
use Rattle.plant_laws.specs.Answered.{RequestsAreAnsweredOnceIn}
use Rattle.plant_laws.specs.Certified.{SolvesCertifyIn}
use Rattle.plant_laws.specs.Chains.{OneChainIn, QuietIsAnsweredIn}
use Rattle.plant_laws.specs.Headline.{LeastAnswersIn, NoneAnswersIn}
use Rattle.plant_laws.specs.Keys.{ExpandsRightlyIn}
use Rattle.plant_laws.specs.Replies.{LeastRepliesIn, NoneRepliesIn}
use Rattle.plant_laws.specs.UnderWay.{WaitsAreUnderWayIn}
use Rattle.plant_laws.proofs.Once.Answering as Answering
use Rattle.plant_laws.proofs.Once.Chained as Chained
use Rattle.plant_laws.proofs.WrittenForm.EveryWritten.{of_written_net, of_written_net_ids}
use Rattle.plant_laws.proofs.Keys.Expands as Expands
use Rattle.plant_laws.proofs.Least.OfRun as OfRun
use Rattle.plant_laws.proofs.Settled.UnderWayLaw as UnderWayLaw
use Rattle.run_laws.proofs.OctetLemmas.FewOctets.{of_few_octets}
use Rattle.run_laws.proofs.few_octets.laws_of_few_octets.Goals as goal

pub returns : goal.returns
returns c = record {
  paths = of_few_octets LeastAnswersIn (of_written_net_ids LeastAnswersIn OfRun.least_answers_are wire wire_is_codec);
  none = of_few_octets NoneAnswersIn (of_written_net_ids NoneAnswersIn OfRun.none_answers_are wire wire_is_codec);
  told = of_few_octets LeastRepliesIn (of_written_net_ids LeastRepliesIn OfRun.least_replies_are wire wire_is_codec);
  told_none = of_few_octets NoneRepliesIn (of_written_net_ids NoneRepliesIn OfRun.none_replies_are wire wire_is_codec);
  certified = of_few_octets SolvesCertifyIn (of_written_net SolvesCertifyIn OfRun.solves_certify wire wire_is_codec);
  quiet = of_few_octets QuietIsAnsweredIn (of_written_net_ids QuietIsAnsweredIn UnderWayLaw.quiet_is_answered wire wire_is_codec);
  under_way = of_few_octets WaitsAreUnderWayIn (of_written_net_ids WaitsAreUnderWayIn UnderWayLaw.waits_are_under_way wire wire_is_codec);
  once = of_few_octets RequestsAreAnsweredOnceIn (λ n net es s run short. Answering.requests_are_answered_once wire wire_is_codec n net es s run);
  chain = of_few_octets OneChainIn (λ n net es s run short. Chained.one_chain wire wire_is_codec n net es s run);
  keys = of_few_octets ExpandsRightlyIn (λ n net es s run short. Expands.expands_rightly wire wire_is_codec n net es s run);
}
