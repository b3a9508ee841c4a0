-- What questions that are put to the drawn network feed, and what its runs are worth.
use Rattle.std.proofs.Common.{◌≡◌, ◌≤◌, ◌+◌, ◌*◌, ℕ, List, [], ◌∷◌, ◌++◌, map, length, Option, Some, refl, sym, subst, arith}
use Rattle.std.specs.List.{range_with_len}
use Rattle.std.proofs.lemmas.List.{append-nil}
use Rattle.std.proofs.lemmas.List.Elements.{All-nil, All-append}
use Rattle.std.proofs.lemmas.List.FromFn.{length-range_with_len}
use Rattle.dom_edge.specs.Stores.{Files, file_named}
use Rattle.client_laws.specs.plant_model.Types.{LineEvent, NetworkParts}
use Rattle.plant_text.specs.declared.line.LineEvent.TheVariants as line
use Rattle.client_laws.specs.plant_model.Events.{Answered}
use Rattle.client_laws.specs.plant_play.Playing.{Cue, PlayedNetwork}
use Rattle.client_laws.specs.plant_play.Scripts.{AllPlayed}
use Rattle.client_laws.specs.plant_play.Turns.{Turn, entries_of}
use Rattle.client_laws.specs.Headline.{HasIdsLeft, all_octets}
use Rattle.client_laws.specs.Laws.{FeedOctets, FeedsOctets}
use Rattle.client_laws.specs.run_laws.Counting.{HasNoParent}
use Rattle.client_laws.proofs.Rightly.{scripts_are_right}
use Rattle.client_laws.proofs.Clients.{path_is_client}
use Rattle.client_laws.proofs.Exchanging.{many_are_received}
use Rattle.plant_client.specs.declared.question.Question.{Question}
use Rattle.plant_client.specs.Asking.{ArePlayed, Exchanges, IsPlayed, asking_lines, opening_lines, session_lines, topologies}
use Rattle.plant_client.specs.Questions.{opening_text, question_text, sequence_most}
use Rattle.plant_client.proofs.AskingLemmas.{all_append}
use Rattle.plant_client.proofs.QuestionLemmas.{question_few}
use Rattle.plant_client.specs.declared.requests.Demand.{Demand}
use Rattle.plant_client.specs.Bulk.{AsksAll, bulk_turns, client, first_domain, network, turns_of}
use Rattle.network_files.specs.DrawnSettings.{settings}
use Rattle.plant_client.specs.Requests.{question, questions}
use Rattle.pce_tool.specs.Headline.{BulksAreWorth}
use Rattle.pce_tool.proofs.DrawnNetwork.{network_modelled}
use Rattle.pce_tool.proofs.HeadlineLemmas.{FeedAll, loads_feed, no_lines, one_line, opening_feeds}

-- ---- what lines feed

opening_lines_feed : (n : NetworkParts) (at : ℕ) → FeedAll (opening_lines n at) 16
opening_lines_feed n at =
    let feeds = line.Feed (Some at) opening_text ∷ [] in
    loads_feed (topologies n.elements) (session_lines at) 16
    (one_line line.Settle (line.Open (Some at) 0 ∷ feeds) 0 16 (tt, omega arith)
    (one_line (line.Open (Some at) 0) feeds 0 16 (tt, omega arith)
    (one_line (line.Feed (Some at) opening_text) [] 16 0 (opening_feeds at) no_lines)))

asking_feeds : (at : ℕ) (q : Question) → FeedsOctets (line.Feed (Some at) (question_text q)) → length q.sequence ≤ sequence_most → FeedAll (asking_lines at q) 132
asking_feeds at q octets few =
    one_line (line.Feed (Some at) (question_text q)) (line.Finish ∷ []) 132 0 (octets, question_few q few) (one_line line.Finish [] 0 0 (tt, omega arith) no_lines)

drain_feeds : (at : ℕ) → FeedAll (line.Drain (Some at) 0 ∷ []) 0
drain_feeds at = one_line (line.Drain (Some at) 0) [] 0 0 (tt, omega arith) no_lines

-- ---- lines that are played

-- some lines with these events, which feed so many octets at most
record IsScript (old new : PlayedNetwork) (turns : List Turn) (most : ℕ) : Type 0 where
  cues : List Cue
  told : List ℕ
  feeds : FeedOctets cues
  few : all_octets cues ≤ most
  played : AllPlayed old cues turns told new

of_lines : (files : Option Files) (es : List LineEvent) (old new : PlayedNetwork) (most : ℕ) → FeedAll es most → (p : ArePlayed files es old new) → IsScript old new p.turns most
of_lines files es old new most feeds p =
    let fed = feeds files p.cues p.are_cues in
    record { cues = p.cues; told = p.told; feeds = fed.0; few = fed.1; played = p.played }

of_played : (files : Option Files) (e : LineEvent) (old : PlayedNetwork) (answer : Answered) (new : PlayedNetwork) (most : ℕ) → FeedAll (e ∷ []) most → (p : IsPlayed files e old answer new) → IsScript old new p.turns most
of_played files e old answer new most feeds p =
    let fed = feeds files (p.cue ∷ []) (p.is_cue, tt) in
    record {
      cues = p.cue ∷ [];
      told = p.told;
      feeds = fed.0;
      few = fed.1;
      played = record {
        answer = answer;
        first = p.turns;
        said = p.told;
        mid = new;
        plays = p.plays;
        later = [];
        more = [];
        others = (refl, refl, refl);
        turns_are = sym (append-nil p.turns);
        told_is = sym (append-nil p.told);
      };
    }

octets_append : (cs ds : List Cue) → all_octets (cs ++ ds) ≡ all_octets cs + all_octets ds
octets_append [] ds = omega arith
octets_append (c ∷ cs) ds = omega (arith, octets_append cs ds)

both : (old mid new : PlayedNetwork) (turns more : List Turn) (a b : ℕ) → IsScript old mid turns a → IsScript mid new more b → IsScript old new (turns ++ more) (a + b)
both old mid new turns more a b p q = record {
  cues = p.cues ++ q.cues;
  told = p.told ++ q.told;
  feeds = All-append (λ (c : Cue). FeedsOctets c.event) p.cues q.cues p.feeds q.feeds;
  few = omega (arith, octets_append p.cues q.cues, p.few, q.few);
  played = all_append old mid new p.cues q.cues turns more p.told q.told p.played q.played;
}

exchange_script : (files : Option Files) (q : Question) (old new : PlayedNetwork) (came : List ℕ) → length q.sequence ≤ sequence_most → (x : Exchanges files client q old came new) → IsScript old new (turns_of x) 132
exchange_script files q old new came few x =
    let drains = x.receives.drains in
    both old x.asked new x.lines.turns drains.turns 132 0
    (of_lines files (asking_lines client q) old x.asked 132 (asking_feeds client q x.octets few) x.lines)
    (of_played files (line.Drain (Some client) 0) x.asked x.receives.answer new 0 (drain_feeds client) drains)

asks_script : (files : Option Files) (d : Demand) (ks : List ℕ) (old new : PlayedNetwork) (received : List (List ℕ)) (turns : List Turn) → AsksAll files client (map (question d) ks) old received turns new →
    IsScript old new turns (132 * length ks)
asks_script files d [] old new received turns p = record {
  cues = [];
  told = [];
  feeds = All-nil (λ (c : Cue). FeedsOctets c.event);
  few = omega arith;
  played = (p.1, refl, p.2);
}
asks_script files d (k ∷ ks) old new received turns p =
    let first = exchange_script files (question d k) old p.mid p.came (omega arith) p.exchange in
    let others = asks_script files d ks p.mid new p.later p.more p.others in
    let all = both old p.mid new (turns_of p.exchange) p.more 132 (132 * length ks) first others in
    record {
      cues = all.cues;
      told = all.told;
      feeds = all.feeds;
      few = omega (arith, all.few);
      played = subst (λ (ts : List Turn). AllPlayed old all.cues ts all.told new) (sym p.turns_are) all.played;
    }

pub bulks_are_worth : (n : ℕ) → BulksAreWorth n
bulks_are_worth n d received few b =
    let files : Option Files = Some (file_named b.files) in
    let opens = of_lines files (opening_lines network client) b.begins.start b.begun 16 (opening_lines_feed network client) b.begins.lines in
    let asks = asks_script files d (range_with_len 0 n) b.begun b.end received b.turns b.asks in
    let all = both b.begins.start b.begun b.end b.begins.lines.turns b.turns 16 (132 * length (range_with_len 0 n)) opens asks in
    let right = scripts_are_right network network_modelled b.begins.start b.end all.cues (bulk_turns b) all.told b.begins.new all.feeds all.played in
    let short : HasNoParent network → HasIdsLeft network (entries_of (bulk_turns b) []) = λ alone. right.1 alone (omega (arith, all.few, length-range_with_len 0 n, few)) in
    record {
      worth = record { right = right.0; short = short };
      are_received = many_are_received files network client (questions d n) received network_modelled (path_is_client settings first_domain) b.begun b.end b.begins b.turns b.asks right.0.run (short refl);
    }
