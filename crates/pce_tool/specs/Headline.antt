-- What holds for every run of a network that a command plays.
use Rattle.std.specs.Prelude.{◌≡◌, ◌≤◌, ℕ, true, List, [], ◌∷◌, ◌++◌, length, Option, Some}
use Rattle.dom_edge.specs.Stores.{Files}
use Rattle.line_text.specs.Lines.{NumberedLine, told_lines}
use Rattle.plant_text.specs.declared.line.LineEvent.TheVariants.{DiscloseOn}
use Rattle.client_laws.specs.plant_model.Types.{NetworkParts}
use Rattle.client_laws.specs.plant_model.Routes.{StaysInside}
use Rattle.plant_text.specs.Networks.{with_path}
use Rattle.plant_text.specs.Settings.{is_element}
use Rattle.client_laws.specs.plant_model.Blind.{blind_opened, heard}
use Rattle.client_laws.specs.plant_model.Plant.{Entry, Plant, deeds_of}
use Rattle.client_laws.specs.plant_model.RealWire.{wire}
use Rattle.client_laws.specs.plant_laws.Worlds.{DisclosedRun}
use Rattle.client_laws.specs.run_laws.Counting.{HasNoParent}
use Rattle.client_laws.specs.plant_play.Playing.{Cue, PlayedNetwork}
use Rattle.client_laws.specs.plant_play.Turns.{Turn, entries_of}
use Rattle.client_laws.specs.Disclosing.{shown_trace}
use Rattle.client_laws.specs.Headline.{HasIdsLeft, IsRight}
use Rattle.client_laws.specs.Asked.{AsksOnly}
use Rattle.client_laws.specs.Ended.{EndsAnswered}
use Rattle.client_laws.specs.Received.{AreReceived}
use Rattle.client_laws.specs.Told.{IsTold}
use Rattle.plant_client.specs.plant_play.transcript.Stops.{script_most}
use Rattle.plant_client.specs.plant_play.WholeScripts.{Playing}
use Rattle.plant_client.specs.Asking.{Asks}
use Rattle.plant_client.specs.declared.question.Question.{Question}
use Rattle.plant_client.specs.declared.requests.Demand.{Demand}
use Rattle.plant_client.specs.Bulk.{IsBulk, bulk_turns, client, network}
use Rattle.plant_client.specs.Requests.{requests_most}
use Rattle.blind_play.specs.Laws.{SaysSo}
use Rattle.blind_play.specs.Playing.{PlayedNetwork as BlindPlayed}
use Rattle.blind_play.specs.Turns.{Turn as BlindTurn, all_heard, trace_of}
use Rattle.blind_play.specs.WholeScripts.{Playing as BlindlyPlaying}
use Rattle.pce_tool.specs.declared.route.Route.{Route}
use Rattle.network_files.specs.Settings.{HasNetwork}
use Rattle.pce_tool.specs.Networks.{question_of}
use Rattle.pce_tool.specs.Tasks.{Task, Blind, Bulk, Path, Play, Replay}
use Rattle.plant_client.specs.plant_play.Replays.{Replaying, octets_of}
use Rattle.plant_client.specs.plant_play.declared.replaying.Span.{Span}

-- A run is right; and without a parent no id wraps around in it, so what is said of it then has no premise.
pub record IsWorth (n : NetworkParts) (turns : List Turn) (end : PlayedNetwork) : Type 0 where
  pub right : IsRight n (entries_of turns []) end.state
  pub short : HasNoParent n → HasIdsLeft n (entries_of turns [])

-- rows are shown from the first line on
abbrev pub ShowsRows : List Cue → Type 0
ShowsRows [] = ⊥
ShowsRows (c ∷ cs) = c.event ≡ DiscloseOn

-- The first lines of a script, however many, that are played on the network of these settings; and where rows are shown from the first
-- line on, the events with the rows that are shown of them are the trace that the run discloses.
abbrev pub PlaysAreWorth : Option Files → List ℕ → Type 0
PlaysAreWorth files net =
    (n : NetworkParts) (script : List ℕ) (done others : List NumberedLine) (turns : List Turn) (told : List ℕ) (end : PlayedNetwork)
    → HasNetwork files net n → length script ≤ script_most → told_lines script ≡ done ++ others → (p : Playing files n done turns told end)
    → IsWorth n turns end × (ShowsRows p.cues → DisclosedRun wire n (entries_of turns []) (shown_trace turns []) end.state)

-- The same of a script that is played as it comes, of as many lines as one may have that is read whole.
abbrev pub ReplaysAreWorth : Option Files → List ℕ → Option Span → Type 0
ReplaysAreWorth files net span =
    (n : NetworkParts) (lines : List (List ℕ)) (turns : List Turn) (told : List ℕ) (end : PlayedNetwork)
    → HasNetwork files net n → length (octets_of lines) ≤ script_most → Replaying files span n lines turns told end → IsWorth n turns end

-- A client asks once in a run, and receives this. It is told what the last message that was sent to it answers; each reply to a
-- request for a path among these messages is right; and each request that an element had from it is its question. Where no id wraps around
-- and paths go on through no outside peer, what it is told last is the answer to that, and not nothing.
pub record AnswerIsWorth (n : NetworkParts) (client : ℕ) (question : Question) (received : List ℕ) (turns : List Turn) (end : PlayedNetwork) : Type 0 where
  pub worth : IsWorth n turns end
  pub told : HasIdsLeft n (entries_of turns []) → IsTold n (entries_of turns []) client received
  pub asked : AsksOnly n (entries_of turns []) client question
  pub answered : HasIdsLeft n (entries_of turns []) → StaysInside n → EndsAnswered (entries_of turns []) client question received

-- What is played until the client of a route is answered, and what is told of that.
abbrev pub PathsAreWorth : Option Files → List ℕ → Route → Type 0
PathsAreWorth files net r =
    (n : NetworkParts) (received : List ℕ) → HasNetwork files net n → is_element n r.at ≡ true
    → (a : Asks files (with_path n r.at) (length n.peers) (question_of r) received) → AnswerIsWorth (with_path n r.at) (length n.peers) (question_of r) received a.lines.turns a.asked

-- The client of the drawn network asks one question behind the other in a run, and receives this for them. What is heard for each is what
-- the last message says that was sent to it since the one before; and each reply to a request for a path among all these is right.
pub record BulkIsWorth (received : List (List ℕ)) (turns : List Turn) (end : PlayedNetwork) : Type 0 where
  pub worth : IsWorth network turns end
  pub are_received : AreReceived network (entries_of turns []) client received

-- What is played of a drawn network and so many requests, whatever bandwidth they ask for, and what is counted of that.
abbrev pub BulksAreWorth : ℕ → Type 0
BulksAreWorth n = (d : Demand) (received : List (List ℕ)) → n ≤ requests_most → (b : IsBulk d n received) → BulkIsWorth received (bulk_turns b) b.end

-- The transcript of lines that are played on a network without topologies is what such a network says on the trace of their events. Where
-- that is what a run of a network with topologies discloses, it is what closed peers hear of that run once its links have begun.
pub record IsHeard (n : NetworkParts) (turns : List BlindTurn) (told : List ℕ) (end : BlindPlayed) : Type 0 where
  pub says : SaysSo n turns told end
  pub hears : (es : List Entry) (s : Plant) → DisclosedRun wire n es (trace_of turns []) s → heard wire n (deeds_of wire n es) ≡ heard wire n (blind_opened wire n).deeds ++ all_heard n turns

-- The first lines of a script, however many, that are played on the network of these settings without topologies.
abbrev pub BlindsAreHeard : Option Files → List ℕ → Type 0
BlindsAreHeard files net =
    (n : NetworkParts) (done : List NumberedLine) (turns : List BlindTurn) (told : List ℕ) (end : BlindPlayed) → HasNetwork files net n → BlindlyPlaying n done turns told end → IsHeard n turns told end

-- Of every run of a network that the words ask for: each path that a client is answered is feasible and of least cost among all walks
-- through the asked domains in order, each domain as it stood when its element took the request, or over what an outside peer told that
-- was asked for the rest of them; where a client is answered NO-PATH of nature 0, none exists; and what closed peers hear is a function of requests, policy and disclosed border costs alone.
abbrev pub RunsAreWorth : Option Files → Option Task → Type 0
RunsAreWorth files (Some (Play net)) = PlaysAreWorth files net
RunsAreWorth files (Some (Replay net span)) = ReplaysAreWorth files net span
RunsAreWorth files (Some (Blind net)) = BlindsAreHeard files net
RunsAreWorth files (Some (Path net r)) = PathsAreWorth files net r
RunsAreWorth files (Some (Bulk n)) = BulksAreWorth n
RunsAreWorth files task = Unit {0}
