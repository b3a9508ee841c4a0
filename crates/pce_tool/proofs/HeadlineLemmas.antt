-- Every run of a network that a command plays is worth what is proved of runs.
use Rattle.std.proofs.Common.{◌≡◌, ◌≤◌, ◌<◌, ◌+◌, ℕ, true, List, [], ◌∷◌, ◌++◌, All, map, length, Option, Some, refl, sym, ap, subst, ◌∙◌, arith}
use Rattle.std.proofs.Math.Dec.{ltb}
use Rattle.std.proofs.lemmas.Bool.{ltb-true}
use Rattle.std.proofs.lemmas.List.Elements.{All-nil, All-cons, All-weaker}
use Rattle.std.proofs.lemmas.List.Sums.{AllPass-from_list_all}
use Rattle.std.specs.List.{list_all}
use Rattle.client_laws.specs.plant_model.Types.{As, LineEvent, NetworkParts}
use Rattle.dom_edge.specs.Stores.{Files}
use Rattle.line_text.specs.Lines.{NumberedLine, told_lines}
use Rattle.plant_text.specs.declared.line.LineEvent.TheVariants as line
use Rattle.plant_text.specs.Lines.{line_in}
use Rattle.plant_text.specs.Networks.{with_path}
use Rattle.client_laws.specs.run_laws.Sizes.{all_lengths}
use Rattle.client_laws.proofs.run_laws.TextLemmas.FedLengths.{feeds_short}
use Rattle.client_laws.proofs.run_laws.TextLemmas.FedOctets.{line_octets}
use Rattle.client_laws.proofs.run_laws.TextLemmas.ModelledNetworks.{client_is_modelled, settings_are_modelled}
use Rattle.client_laws.proofs.run_laws.TextLemmas.Lengths.{all_lengths_append, all_lengths_cons, told_lines_short}
use Rattle.client_laws.specs.plant_model.Laws.{IsNetwork}
use Rattle.client_laws.specs.plant_model.RealWire.{wire}
use Rattle.client_laws.specs.plant_laws.Worlds.{DisclosedRun}
use Rattle.client_laws.specs.plant_play.Playing.{Cue, IsNewNetwork, PlayedNetwork}
use Rattle.client_laws.specs.plant_play.Scripts.{AllPlayed}
use Rattle.client_laws.specs.plant_play.Turns.{Turn, entries_of}
use Rattle.client_laws.specs.Disclosing.{shown_trace}
use Rattle.client_laws.specs.Headline.{all_octets, fed_octets}
use Rattle.client_laws.specs.Laws.{FeedOctets, FeedsOctets}
use Rattle.client_laws.proofs.Disclosing.{shown_from_the_first}
use Rattle.client_laws.proofs.Rightly.{scripts_are_right}
use Rattle.plant_client.specs.plant_play.WholeScripts.{AreCues}
use Rattle.plant_client.specs.declared.question.Question.{Question}
use Rattle.plant_client.specs.Asking.{lines_of, load_line, question_lines, topologies}
use Rattle.plant_client.specs.Asking as asking
use Rattle.plant_client.specs.Questions.{opening_text, question_text, sequence_most}
use Rattle.plant_client.proofs.QuestionLemmas.{question_short}
use Rattle.client_laws.proofs.Asked.{one_is_asked}
use Rattle.client_laws.proofs.Asking.{clients_are_told}
use Rattle.client_laws.proofs.Clients.{path_is_client}
use Rattle.client_laws.proofs.Ended.{answer_is_told}
use Rattle.client_laws.proofs.Written.{IsInRange, question_written}
use Rattle.pce_tool.specs.declared.route.Route.{Route}
use Rattle.pce_tool.specs.Headline.{PathsAreWorth, PlaysAreWorth, ShowsRows}
use Rattle.pce_tool.specs.Networks.{question_of}

-- ---- what lines feed

-- octets, and few
abbrev pub Feeds : LineEvent → ℕ → Type 0
Feeds e most = FeedsOctets e × (fed_octets e ≤ most)

line_feeds : (n : NetworkParts) (text : List ℕ) (e : LineEvent) → line_in n text ≡ Some (Some e) → Feeds e (length text)
line_feeds n text (line.Load at name) says = (tt, omega arith)
line_feeds n text (line.Change at name) says = (tt, omega arith)
line_feeds n text (line.Open peer holder) says = (tt, omega arith)
line_feeds n text (line.Shut peer) says = (tt, omega arith)
line_feeds n text (line.Feed peer bytes) says = (line_octets n text (line.Feed peer bytes) says, feeds_short n text (line.Feed peer bytes) says)
line_feeds n text (line.Receive peer bytes) says = (line_octets n text (line.Receive peer bytes) says, feeds_short n text (line.Receive peer bytes) says)
line_feeds n text (line.Take peer) says = (tt, omega arith)
line_feeds n text (line.Carry a b) says = (tt, omega arith)
line_feeds n text (line.Break a b) says = (tt, omega arith)
line_feeds n text (line.Solve at k rows) says = (tt, omega arith)
line_feeds n text (line.Tick now) says = (tt, omega arith)
line_feeds n text (line.Drain peer holder) says = (tt, omega arith)
line_feeds n text line.Settle says = (tt, omega arith)
line_feeds n text line.Finish says = (tt, omega arith)
line_feeds n text line.CertifyOn says = (tt, omega arith)
line_feeds n text line.DiscloseOn says = (tt, omega arith)

pub script_feeds : (files : Option Files) (n : NetworkParts) (ls : List NumberedLine) (cs : List Cue) → AreCues files n ls cs → FeedOctets cs × (all_octets cs ≤ all_lengths ls)
script_feeds files n [] [] are = (All-nil (λ (c : Cue). FeedsOctets c.event), omega arith)
script_feeds files n [] (c ∷ cs) are = absurd are
script_feeds files n (l ∷ ls) [] are = absurd are
script_feeds files n (l ∷ ls) (c ∷ cs) are =
    let one = line_feeds n l.text c.event are.0.says in
    let others = script_feeds files n ls cs are.1 in
    (All-cons (λ (x : Cue). FeedsOctets x.event) c cs one.0 others.0, omega (arith, one.1, others.1, all_lengths_cons l ls))

shown_disclosed : (n : NetworkParts) (new end : PlayedNetwork) (cs : List Cue) (turns : List Turn) (told : List ℕ) → IsNewNetwork n new → FeedOctets cs → AllPlayed new cs turns told end → ShowsRows cs →
    DisclosedRun wire n (entries_of turns []) (shown_trace turns []) end.state
shown_disclosed n new end [] turns told is octets all on = absurd on
shown_disclosed n new end (c ∷ cs) turns told is octets all on = shown_from_the_first n new end c cs turns told is octets on all

pub plays_are_worth : (files : Option Files) (net : List ℕ) → PlaysAreWorth files net
plays_are_worth files net n script done others turns told end has within parts p =
    let feeds = script_feeds files n done p.cues p.are_cues in
    let right = scripts_are_right n (settings_are_modelled has.bytes n has.is_text) p.start end p.cues turns told p.new feeds.0 p.played in
    let all : all_lengths (told_lines script) ≡ all_lengths done + all_lengths others = ap all_lengths parts ∙ all_lengths_append done others in (
      record { right = right.0; short = λ alone. right.1 alone (omega (arith, feeds.1, all, told_lines_short script, within)) },
      shown_disclosed n p.start end p.cues turns told p.new feeds.0 p.played,
    )

-- ---- what a client's lines feed

-- the lines of a client feed octets, and so many
abbrev pub FeedAll : List LineEvent → ℕ → Type 0
FeedAll es most = (files : Option Files) (cs : List Cue) → asking.AreCues files es cs → FeedOctets cs × (all_octets cs ≤ most)

pub no_lines : FeedAll [] 0
no_lines files [] are = (All-nil (λ (c : Cue). FeedsOctets c.event), omega arith)
no_lines files (c ∷ cs) are = absurd are

pub one_line : (e : LineEvent) (es : List LineEvent) (first others : ℕ) → Feeds e first → FeedAll es others → FeedAll (e ∷ es) (first + others)
one_line e es first others feeds all files [] are = absurd are
one_line e es first others feeds all files (c ∷ cs) are =
    let here : Feeds c.event first = subst (λ (x : LineEvent). Feeds x first) (sym are.0.event) feeds in
    let rest = all files cs are.1 in
    (All-cons (λ (x : Cue). FeedsOctets x.event) c cs here.0 rest.0, omega (arith, here.1, rest.1))

pub loads_feed : (ts : List (As × List ℕ)) (es : List LineEvent) (most : ℕ) → FeedAll es most → FeedAll (map load_line ts ++ es) most
loads_feed [] es most all = all
loads_feed (t ∷ ts) es most all =
    let whole : 0 + most ≡ most = omega arith in
    subst (FeedAll (load_line t ∷ (map load_line ts ++ es))) whole (one_line (load_line t) (map load_line ts ++ es) 0 most (tt, omega arith) (loads_feed ts es most all))

below : (bytes : List ℕ) → list_all (λ (b : ℕ). ltb b 256) bytes ≡ true → All (λ (b : ℕ). b < 256) bytes
below bytes is =
    All-weaker (λ (b : ℕ). ltb b 256 ≡ true) (λ (b : ℕ). b < 256) (λ b yes. ltb-true b 256 yes) bytes (AllPass-from_list_all (λ (b : ℕ). ltb b 256) bytes is)

opening_octets : All (λ (b : ℕ). b < 256) opening_text
opening_octets = below opening_text refl

pub opening_feeds : (client : ℕ) → Feeds (line.Feed (Some client) opening_text) 16
opening_feeds client = (opening_octets, omega arith)

question_feeds : (n : NetworkParts) (client : ℕ) (q : Question) → FeedsOctets (line.Feed (Some client) (question_text q)) → length q.sequence ≤ sequence_most →
    FeedAll (lines_of n client q) (16 + 65532)
question_feeds n client q octets few =
    let last = line.Finish ∷ [] in
    let asks = line.Feed (Some client) (question_text q) ∷ last in
    let opens = line.Feed (Some client) opening_text ∷ asks in
    loads_feed (topologies n.elements) (question_lines client q) (16 + 65532)
    (one_line line.Settle (line.Open (Some client) 0 ∷ opens) 0 (16 + 65532) (tt, omega arith)
    (one_line (line.Open (Some client) 0) opens 0 (16 + 65532) (tt, omega arith)
    (one_line (line.Feed (Some client) opening_text) asks 16 65532 (opening_feeds client)
    (one_line (line.Feed (Some client) (question_text q)) last 65532 0 (octets, question_short q few)
    (one_line line.Finish [] 0 0 (tt, omega arith) no_lines)))))

pub paths_are_worth : (files : Option Files) (net : List ℕ) (r : Route) → IsInRange (question_of r) → PathsAreWorth files net r
paths_are_worth files net r fits n received has element a =
    let m = with_path n r.at in
    let i = length n.peers in
    let q = question_of r in
    let played = a.lines in
    let modelled : IsNetwork m = client_is_modelled has.bytes n r.at has.is_text element in
    let feeds = question_feeds m i q a.octets fits.few files played.cues played.are_cues in
    let right = scripts_are_right m modelled a.start a.asked played.cues played.turns played.told a.new feeds.0 played.played in
    record {
      worth = record { right = right.0; short = λ alone. right.1 alone (omega (arith, feeds.1)) };
      told = clients_are_told files m i q received modelled (path_is_client n r.at) a;
      asked = one_is_asked files m i q received modelled (path_is_client n r.at) (question_written q fits) a;
      answered = λ left inside. answer_is_told files m i q received modelled (path_is_client n r.at) (question_written q fits) inside a left;
    }
