-- `pair-verify TOPO CERT`: whether a certificate of a pair holds.
use Rattle.te_links.specs.Rows.{Rows}
use Rattle.diverse_pairs.specs.Conditions.{Asked, asked_of}
use Rattle.pce_tool.specs.declared.pair_reading.PairRequest.{PairRequest}

-- the pair that the requests ask of the topology
abbrev pub pair_asked : Rows → PairRequest → Asked
pair_asked g r = asked_of g r.wanted.query r.wanted.source r.wanted.target
