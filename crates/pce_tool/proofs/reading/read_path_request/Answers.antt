use Rattle.std.proofs.Common.{sym, ◌∙◌}
use Rattle.pce_tool.proofs.Beyond.{beyond}
use Rattle.pce_tool.proofs.reading.read_path_request.Goals as goal

pub returns : goal.returns
returns c =
    let asks = c.in-Ok-request_of.ensures in (
      c.in-Some.asked,
      record { message = c.in-Ok.message; spells = c.in-Ok.ensures; is_one = sym c.one_request.ensures ∙ c.in-Some.is },
      record { admitted = asks.accepted; beyond = beyond c.args.own.0 c.in-Some.asked.objects c.in-Ok-request_of.request.wish c.in-None.ensures asks.wish },
    )
