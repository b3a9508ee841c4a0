-- Lines that are played one behind the other, and files that stop one of them.
use Rattle.std.proofs.Common.{◌≡◌, ◌≤◌, ◌<◌, ◌+◌, ◌∙◌, ℕ, Option, Some, Result, Ok, Err, List, [], ◌∷◌, ◌++◌, map, take, drop, length, refl, sym, ap, subst, arith, append_assoc, get_or}
use Rattle.std.specs.Result.{IfOk, OnOk}
use Rattle.std.proofs.lemmas.List.{append-nil, drop_more, map-append, take-append-drop, take_all, take_more}
use Rattle.plant_play.specs.plant_model.Types.{As, LineEvent, NetworkParts}
use Rattle.dom_edge.specs.Stores.{Files}
use Rattle.pcep_subobjects.specs.Subobjects.{AreOctets}
use Rattle.plant_text.specs.declared.line.LineEvent.TheVariants as line
use Rattle.plant_play.specs.plant_model.Events.{Answered}
use Rattle.plant_play.specs.Logs.{Told}
use Rattle.plant_play.specs.Playing.{Cue, IsNewNetwork, PlayedNetwork}
use Rattle.plant_play.specs.Scripts.{AllPlayed}
use Rattle.plant_play.specs.Turns.{Turn}
use Rattle.transcript.specs.declared.stop.Stop.{Stop}
use Rattle.transcript.specs.declared.stop.Stop.TheVariants as stop
use Rattle.plant_play.specs.Cues.{IsFileStop, PlaysCue}
use Rattle.plant_client.specs.Asking.{AreCues, ArePlayed, Asks, Begins, Exchanges, IsPlayed, LoadsStop, Receives, asking_lines, load_line, opening_lines, session_lines, topologies}
use Rattle.plant_client.specs.declared.question.Question.{Question}
use Rattle.plant_client.specs.Questions.{opening_text, question_text}

-- ---- one behind the other

abbrev Named : Type 0
Named = As × List ℕ

pub all_append : (old mid new : PlayedNetwork) (cs ds : List Cue) (ts us : List Turn) (told more : List ℕ) → AllPlayed old cs ts told mid → AllPlayed mid ds us more new → AllPlayed old (cs ++ ds) (ts ++ us) (told ++ more) new
all_append old mid new [] ds ts us told more p q =
    subst (λ (l : List Turn). AllPlayed old ds l (told ++ more) new) (sym (ap (λ (l : List Turn). l ++ us) p.0))
    (subst (λ (l : List ℕ). AllPlayed old ds us l new) (sym (ap (λ (l : List ℕ). l ++ more) p.1))
    (subst (λ (s : PlayedNetwork). AllPlayed s ds us more new) p.2 q))
all_append old mid new (c ∷ cs) ds ts us told more p q = record {
  answer = p.answer;
  first = p.first;
  said = p.said;
  mid = p.mid;
  plays = p.plays;
  later = p.later ++ us;
  more = p.more ++ more;
  others = all_append p.mid mid new cs ds p.later us p.more more p.others q;
  turns_are = ap (λ (l : List Turn). l ++ us) p.turns_are ∙ append_assoc p.first p.later us;
  told_is = ap (λ (l : List ℕ). l ++ more) p.told_is ∙ append_assoc p.said p.more more;
}

pub cues_append : (files : Option Files) (es fs : List LineEvent) (cs ds : List Cue) → AreCues files es cs → AreCues files fs ds → AreCues files (es ++ fs) (cs ++ ds)
cues_append files [] fs [] ds p q = q
cues_append files [] fs (c ∷ cs) ds p q = absurd p
cues_append files (e ∷ es) fs [] ds p q = absurd p
cues_append files (e ∷ es) fs (c ∷ cs) ds p q = (p.0, cues_append files es fs cs ds p.1 q)

-- the files stay the same
pub then_played : (files later : Option Files) (es fs : List LineEvent) (old mid new : PlayedNetwork) → later ≡ files → ArePlayed files es old mid → ArePlayed later fs mid new → ArePlayed files (es ++ fs) old new
then_played files later es fs old mid new same p q =
    let r = subst (λ (f : Option Files). ArePlayed f fs mid new) same q in
    record {
      cues = p.cues ++ r.cues;
      are_cues = cues_append files es fs p.cues r.cues p.are_cues r.are_cues;
      turns = p.turns ++ r.turns;
      told = p.told ++ r.told;
      played = all_append old mid new p.cues r.cues p.turns r.turns p.told r.told p.played r.played;
    }

pub none_played : (files : Option Files) (s : PlayedNetwork) → ArePlayed files [] s s
none_played files s = record { cues = []; are_cues = tt; turns = []; told = []; played = (refl, refl, refl) }

-- a session is opened, by its bytes; over files that stay the same
pub session_played : (files f g : Option Files) (client : ℕ) (opening : List ℕ) (s t u v : PlayedNetwork) (r : Result (Unit {0}) Stop) → opening ≡ opening_text → f ≡ files → g ≡ f →
    ArePlayed files (line.Settle ∷ []) s t → ArePlayed f (line.Open (Some client) 0 ∷ []) t u → OnOk r (ArePlayed g (line.Feed (Some client) opening ∷ []) u v) →
    OnOk r (ArePlayed files (session_lines client) s v)
session_played files f g client opening s t u v (Err why) o same next one two last = last
session_played files f g client opening s t u v (Ok done) o same next one two last =
    let feeds = subst (λ (l : List ℕ). ArePlayed g (line.Feed (Some client) l ∷ []) u v) o last in
    then_played files f (line.Settle ∷ []) (line.Open (Some client) 0 ∷ line.Feed (Some client) opening_text ∷ []) s t v same one
    (then_played f g (line.Open (Some client) 0 ∷ []) (line.Feed (Some client) opening_text ∷ []) t u v next two feeds)

-- a question that is put, by its bytes
pub asking_played : (files f : Option Files) (client : ℕ) (question : Question) (asked : List ℕ) (s t u : PlayedNetwork) (r : Result (Unit {0}) Stop) → asked ≡ question_text question → f ≡ files →
    ArePlayed files (line.Feed (Some client) asked ∷ []) s t → OnOk r (ArePlayed f (line.Finish ∷ []) t u) → OnOk r (ArePlayed files (asking_lines client question) s u)
asking_played files f client question asked s t u (Err why) a same one last = last
asking_played files f client question asked s t u (Ok done) a same one last =
    then_played files f (line.Feed (Some client) (question_text question) ∷ []) (line.Finish ∷ []) s t u same
    (subst (λ (l : List ℕ). ArePlayed files (line.Feed (Some client) l ∷ []) s t) a one) last

-- all topologies are loaded, and a session is opened
pub begin_played : (files f : Option Files) (n : NetworkParts) (client : ℕ) (found : List Named) (start loaded begun : PlayedNetwork) (r : Result (Unit {0}) Stop) → IsNewNetwork n start → found ≡ topologies n.elements →
    f ≡ files → ArePlayed files (map load_line found) start loaded → OnOk r (ArePlayed f (session_lines client) loaded begun) → OnOk r (Begins files n client begun)
begin_played files f n client found start loaded begun (Err why) new are same one last = last
begin_played files f n client found start loaded begun (Ok done) new are same one last = record {
  start = start;
  new = new;
  lines = then_played files f (map load_line (topologies n.elements)) (session_lines client) start loaded begun same
      (subst (λ (l : List Named). ArePlayed files (map load_line l) start loaded) are one) last;
}

-- a question is put, and the client receives
pub exchange_played : (files f : Option Files) (client : ℕ) (question : Question) (old asked new : PlayedNetwork) (r : Result (List ℕ) Stop) → f ≡ files → ArePlayed files (asking_lines client question) old asked →
    AreOctets (question_text question) → IfOk r (λ received. Receives f client asked received new) → IfOk r (λ received. Exchanges files client question old received new)
exchange_played files f client question old asked new (Err why) same lines octets last = last
exchange_played files f client question old asked new (Ok received) same lines octets last = record {
  asked = asked;
  lines = lines;
  octets = octets;
  receives = subst (λ (o : Option Files). Receives o client asked received new) same last;
}

-- a client that asks once
pub ask_played : (files f : Option Files) (n : NetworkParts) (client : ℕ) (question : Question) (begun new : PlayedNetwork) (r : Result (List ℕ) Stop) → f ≡ files → Begins files n client begun →
    IfOk r (λ received. Exchanges f client question begun received new) → IfOk r (λ received. Asks files n client question received)
ask_played files f n client question begun new (Err why) same b last = last
ask_played files f n client question begun new (Ok received) same b last =
    let x = subst (λ (o : Option Files). Exchanges o client question begun received new) same last in
    let loads = map load_line (topologies n.elements) in
    record {
      start = b.start;
      new = b.new;
      asked = x.asked;
      lines = subst (λ (l : List LineEvent). ArePlayed files l b.start x.asked) (append_assoc loads (session_lines client) (asking_lines client question))
          (then_played files files (opening_lines n client) (asking_lines client question) b.start begun x.asked refl b.lines x.lines);
      octets = x.octets;
      end = new;
      receives = x.receives;
    }

-- ---- topologies, one behind the other

pub next_load : (xs : List Named) (i : ℕ) (x : Named) → i < length xs → x ≡ get_or xs i x → map load_line (take (i + 1) xs) ≡ map load_line (take i xs) ++ load_line x ∷ []
next_load xs i x inside is =
    ap (λ (l : List Named). map load_line l) (take_more xs i x inside ∙ ap (λ (y : Named). take i xs ++ y ∷ []) (sym is)) ∙ map-append load_line (take i xs) (x ∷ [])

pub parts_at : (xs : List Named) (i : ℕ) (x : Named) → i < length xs → x ≡ get_or xs i x → xs ≡ take i xs ++ x ∷ drop (i + 1) xs
parts_at xs i x inside is =
    sym (take-append-drop i xs) ∙ ap (λ (l : List Named). take i xs ++ l) (drop_more xs i x inside ∙ ap (λ (y : Named). y ∷ drop (i + 1) xs) (sym is))

pub all_loaded : (files : Option Files) (xs : List Named) (i : ℕ) (old new : PlayedNetwork) → length xs ≤ i → ArePlayed files (map load_line (take i xs)) old new → ArePlayed files (map load_line xs) old new
all_loaded files xs i old new past p = subst (λ (l : List Named). ArePlayed files (map load_line l) old new) (take_all i xs past) p

-- one topology more
pub load_next : (files later : Option Files) (xs : List Named) (i : ℕ) (x : Named) (old mid new : PlayedNetwork) → i < length xs → x ≡ get_or xs i x → later ≡ files →
    ArePlayed files (map load_line (take i xs)) old mid → ArePlayed later (load_line x ∷ []) mid new → ArePlayed files (map load_line (take (i + 1) xs)) old new
load_next files later xs i x old mid new inside is same p q =
    subst (λ (l : List LineEvent). ArePlayed files l old new) (sym (next_load xs i x inside is)) (then_played files later (map load_line (take i xs)) (load_line x ∷ []) old mid new same p q)

-- ---- one line

pub is_played : (files : Option Files) (e : LineEvent) (answer : Answered) (old new : PlayedNetwork) (before after : Told) → PlaysCue files 0 e answer old new before after → IsPlayed files e old answer new
is_played files e answer old new before after p = record {
  cue = record { number = 0; event = e; file = p.file };
  is_cue = record { number = refl; event = refl; has = p.has };
  turns = p.turns;
  told = p.told;
  plays = p.plays;
}

pub if_played : (files : Option Files) (e : LineEvent) (old new : PlayedNetwork) (before after : Told) (r : Result Answered Stop) → IfOk r (λ answer. PlaysCue files 0 e answer old new before after) → IfOk r (λ answer. IsPlayed files e old answer new)
if_played files e old new before after (Ok answer) p = is_played files e answer old new before after p
if_played files e old new before after (Err why) p = p

pub one_played : (files : Option Files) (e : LineEvent) (answer : Answered) (old new : PlayedNetwork) → IsPlayed files e old answer new → ArePlayed files (e ∷ []) old new
one_played files e answer old new p = record {
  cues = p.cue ∷ [];
  are_cues = (p.is_cue, tt);
  turns = p.turns;
  told = p.told;
  played = record {
    answer = answer;
    first = p.turns;
    said = p.told;
    mid = new;
    plays = p.plays;
    later = [];
    more = [];
    others = (refl, refl, refl);
    turns_are = sym (append-nil p.turns);
    told_is = sym (append-nil p.told);
  };
}

-- ---- files that stop

-- the store had failed no more often before
pub stop_earlier : (files : Option Files) (name : List ℕ) (e : LineEvent) (old new : PlayedNetwork) (before mid now : ℕ) (failed_at : List ℕ) (why : Stop) → before ≤ mid → IsFileStop files name e old new (mid, now) failed_at why → IsFileStop files name e old new (before, now) failed_at why
stop_earlier files name e old new before mid now failed_at stop.ReadFault le p = (omega (arith, le, p.0), p.1)
stop_earlier files name e old new before mid now failed_at stop.WriteFault le p = p
stop_earlier files name e old new before mid now failed_at (stop.BadNetwork file line fault) le p = p
stop_earlier files name e old new before mid now failed_at (stop.BadLine line) le p = p
stop_earlier files name e old new before mid now failed_at (stop.TooLarge file) le p = p
stop_earlier files name e old new before mid now failed_at stop.NoMemory le p = p

loads_stop_by : (files : Option Files) (all before behind : List Named) (x : Named) (old mid new : PlayedNetwork) (counts : ℕ × ℕ) (failed_at : List ℕ) (why : Stop) →
    all ≡ before ++ x ∷ behind → ArePlayed files (map load_line before) old mid → IsFileStop files x.1 (load_line x) mid new counts failed_at why → LoadsStop files all old counts failed_at why
loads_stop_by files all before behind x old mid new counts failed_at stop.ReadFault parts played p = record { before = before; topology = x; behind = behind; parts = parts; loaded = mid; lines = played; end = new; stops = p }
loads_stop_by files all before behind x old mid new counts failed_at stop.WriteFault parts played p = absurd p
loads_stop_by files all before behind x old mid new counts failed_at (stop.BadNetwork file line fault) parts played p = record { before = before; topology = x; behind = behind; parts = parts; loaded = mid; lines = played; end = new; stops = p }
loads_stop_by files all before behind x old mid new counts failed_at (stop.BadLine line) parts played p = absurd p
loads_stop_by files all before behind x old mid new counts failed_at (stop.TooLarge file) parts played p = record { before = before; topology = x; behind = behind; parts = parts; loaded = mid; lines = played; end = new; stops = p }
loads_stop_by files all before behind x old mid new counts failed_at stop.NoMemory parts played p = tt

-- the files that were there before and the count before it serve as well
pub loads_stop : (files later : Option Files) (all before behind : List Named) (x : Named) (old mid new : PlayedNetwork) (first count now : ℕ) (failed_at : List ℕ) (why : Stop) →
    later ≡ files → first ≤ count → all ≡ before ++ x ∷ behind → ArePlayed files (map load_line before) old mid → IsFileStop later x.1 (load_line x) mid new (count, now) failed_at why →
    LoadsStop files all old (first, now) failed_at why
loads_stop files later all before behind x old mid new first count now failed_at why same le parts played p =
    let here = subst (λ (f : Option Files). IsFileStop f x.1 (load_line x) mid new (count, now) failed_at why) same p in
    loads_stop_by files all before behind x old mid new (first, now) failed_at why parts played (stop_earlier files x.1 (load_line x) mid new first count now failed_at why le here)
