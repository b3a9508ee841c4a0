-- What holds of each pending request of the parent holds after every message but a request, where it holds of one to which a reply was
-- added.
use Rattle.std.proofs.Common.{◌≡◌, true, List, Option}
use Rattle.plant_model.specs.Types.{Peer, Reply, Notice, ErrorReport, Held}
use Rattle.plant_model.specs.Wire.{Codec}
use Rattle.plant_model.specs.BorderGraph.{Found}
use Rattle.plant_model.specs.Parent.{Asking, AskingRow, Parent, each, among, gathered, take_reply, take_notice, take_report, stays, downed, commit}
use Rattle.plant_laws.specs.About.{told_in}
use Rattle.plant_laws.proofs.Runs.Rows.{In}
use Rattle.plant_laws.proofs.Runs.ParentTakesKept.{KeptAtEnds, KeptAtReplies, found_in, replies_after, notices_after, reports_after, commit_after}
use Rattle.plant_laws.proofs.Runs.TablesKept.{Keeps, in_rows, closed_keeps, filtered_keeps, written_keeps}

module _ (Q : Held Asking → Type 0) (c : Codec) (q : Peer) (rs0 : List Reply)
    (made : (h : Held Asking) (r : Reply) → In r rs0 → among q h.item.waits r.id ≡ true → Q h → Q (record h { item = gathered q r.id (told_in c h.item.wanted.query.metric r.answer) h.item })) where
  abbrev pub Holds : Parent → Type 0
  Holds k = Keeps Q k.pending

  ends : KeptAtEnds Holds
  ends n k holds = closed_keeps Q n k.pending holds

  adds : KeptAtReplies Holds c q rs0
  adds r h k i found holds =
      let there = found_in q r.id k.pending.rows h found in
      written_keeps Q h (gathered q r.id (told_in c h.1.item.wanted.query.metric r.answer) h.1.item)
      (made h.1 r i there.1 (in_rows Q h k.pending.rows holds.rows there.0)) k.pending there.0 holds

  pub replies_keep : (k : Parent) → Holds k → Holds (each (take_reply c q) rs0 k).parent
  replies_keep k holds = replies_after Holds ends c q rs0 adds k holds

  pub notices_keep : (notices : List Notice) (k : Parent) → Holds k → Holds (each (take_notice q) notices k).parent
  notices_keep notices k holds = notices_after Holds ends q notices k holds

  pub reports_keep : (reports : List ErrorReport) (k : Parent) → Holds k → Holds (each (take_report q) reports k).parent
  reports_keep reports k holds = reports_after Holds ends q reports k holds

  pub downed_keeps : (p : Peer) (k : Parent) → Holds k → Holds (downed p k).parent
  downed_keeps p k holds = filtered_keeps Q (stays p) k.pending holds

  pub commit_keeps : (h : AskingRow) (a : Option Found) (k : Parent) → Holds k → Holds (commit c h a k).parent
  commit_keeps h a k holds = commit_after Holds ends c h a k holds
