-- Questions that are put one behind the other, and one more.
use Rattle.std.proofs.Common.{◌≡◌, ◌+◌, ◌∙◌, ℕ, Option, Some, Result, Ok, Err, List, [], ◌∷◌, ◌++◌, refl, sym, ap, subst, arith, append_assoc}
use Rattle.std.proofs.lemmas.List.{append-nil}
use Rattle.std.proofs.lemmas.List.FromFn.{map-range_with_len_more}
use Rattle.std.specs.Result.{IfOk}
use Rattle.plant_play.specs.plant_model.Types.{NoMemory}
use Rattle.dom_edge.specs.Stores.{Files, file_named}
use Rattle.network_files.specs.DrawnFiles.{AreFiles}
use Rattle.plant_play.specs.Playing.{PlayedNetwork}
use Rattle.plant_play.specs.Turns.{Turn}
use Rattle.plant_client.specs.declared.hearing.Heard.{Heard}
use Rattle.plant_client.specs.declared.question.Question.{Question}
use Rattle.plant_client.specs.Asking.{Begins, Exchanges}
use Rattle.plant_client.specs.Hearing.{heard_in}
use Rattle.plant_client.specs.declared.requests.Demand.{Demand}
use Rattle.plant_client.specs.declared.tally.Tally.{Tally}
use Rattle.plant_client.specs.Bulk.{AreTallied, AsksAll, IsTallied, client, network, turns_of}
use Rattle.plant_client.specs.Requests.{question, questions}
use Rattle.plant_client.specs.Tallies.{tally_of, with_heard}
use Rattle.plant_client.proofs.TallyLemmas.{tally_more}

-- the same question from the same stage
moved : (files : Option Files) (q : Question) (old mid new : PlayedNetwork) (came : List ℕ) → mid ≡ old → (x : Exchanges files client q mid came new) →
    (y : Exchanges files client q old came new) × (turns_of y ≡ turns_of x)
moved files q old mid new came same x = subst (λ (s : PlayedNetwork). (y : Exchanges files client q s came new) × (turns_of y ≡ turns_of x)) same (x, refl)

pub one_more : (files : Option Files) (qs : List Question) (q : Question) (old mid new : PlayedNetwork) (received : List (List ℕ)) (came : List ℕ) (turns : List Turn) →
    AsksAll files client qs old received turns mid → (x : Exchanges files client q mid came new) →
    AsksAll files client (qs ++ q ∷ []) old (received ++ came ∷ []) (turns ++ turns_of x) new
one_more files [] q old mid new received came turns p x =
    let y = moved files q old mid new came p.2 x in
    record {
      came = came;
      mid = new;
      exchange = y.0;
      later = [];
      more = [];
      others = (refl, refl, refl);
      received_are = ap (λ (l : List (List ℕ)). l ++ came ∷ []) p.0;
      turns_are = ap (λ (l : List Turn). l ++ turns_of x) p.1 ∙ (sym y.1 ∙ sym (append-nil (turns_of y.0)));
    }
one_more files (first ∷ qs) q old mid new received came turns p x = record {
  came = p.came;
  mid = p.mid;
  exchange = p.exchange;
  later = p.later ++ came ∷ [];
  more = p.more ++ turns_of x;
  others = one_more files qs q p.mid mid new p.later came p.more p.others x;
  received_are = ap (λ (l : List (List ℕ)). l ++ came ∷ []) p.received_are;
  turns_are = ap (λ (l : List Turn). l ++ turns_of x) p.turns_are ∙ append_assoc (turns_of p.exchange) p.more (turns_of x);
}

pub none_tallied : (files : Option Files) (s : PlayedNetwork) (tally : Tally) → tally ≡ tally_of [] → AreTallied files [] s s tally
none_tallied files s tally is = ([], [], (refl, refl, refl), is)

pub one_tallied_more : (files later : Option Files) (d : Demand) (k : ℕ) (old mid new : PlayedNetwork) (before after : Tally) (came : List ℕ) (heard : Heard) → later ≡ files →
    AreTallied files (questions d k) old mid before → Exchanges later client (question d k) mid came new → heard ≡ heard_in came → after ≡ with_heard before heard →
    AreTallied files (questions d (k + 1)) old new after
one_tallied_more files later d k old mid new before after came heard same p x hears counts =
    let y = subst (λ (f : Option Files). Exchanges f client (question d k) mid came new) same x in
    let place : 0 + k ≡ k = omega arith in
    let all = one_more files (questions d k) (question d k) old mid new p.0 came p.1 p.2 y in
    let tally : after ≡ tally_of (p.0 ++ came ∷ []) =
    counts ∙ (ap (λ (h : Heard). with_heard before h) hears ∙ (ap (λ (t : Tally). with_heard t (heard_in came)) p.3 ∙ sym (tally_more p.0 came))) in (
      p.0 ++ came ∷ [],
      p.1 ++ turns_of y,
      subst (λ (qs : List Question). AsksAll files client qs old (p.0 ++ came ∷ []) (p.1 ++ turns_of y) new) (sym (map-range_with_len_more (question d) 0 k k place)) all,
      tally,
    )

-- a run over files that are those of the drawn topologies
pub tallied_of : (files held : List (List ℕ × List ℕ)) (later : Option Files) (d : Demand) (n : ℕ) (begun end : PlayedNetwork) (r : Result Tally NoMemory) → AreFiles files → held ≡ files →
    later ≡ Some (file_named held) → Begins (Some (file_named held)) network client begun → IfOk r (AreTallied later (questions d n) begun end) → IfOk r (IsTallied d n)
tallied_of files held later d n begun end (Err why) drawn are same begins last = last
tallied_of files held later d n begun end (Ok tally) drawn are same begins last =
    let here = subst (λ (f : Option Files). AreTallied f (questions d n) begun end tally) same last in
    (here.0, record { files = held; drawn = subst AreFiles (sym are) drawn; begun = begun; begins = begins; turns = here.1; end = end; asks = here.2 }, here.3)
