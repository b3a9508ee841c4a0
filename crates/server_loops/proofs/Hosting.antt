-- The turns of a port.
use Rattle.std.proofs.Common.{◌≡◌, ◌⊎◌, inl, inr, ◌<◌, ◌≤◌, ◌+◌, ◌%◌, ◌^◌, ℕ, List, [], ◌∷◌, ◌++◌, None, Some, length, length-append, map, append-nil, zero-add, arith, refl, sym, ◌∙◌, ap, subst}
use Rattle.std.specs.declared.option.Option.{Option}
use Rattle.std.proofs.lemmas.List.{map-append}
use Rattle.dom_edge.specs.Causes.{HasCause, Rose}
use Rattle.dom_edge.specs.Streams.{Reading, Writing}
use Rattle.dom_edge.specs.declared.listener.Accepted.{Accepted}
use Rattle.dom_edge.specs.declared.listener.Accepted.TheVariants as accepted
use Rattle.server_loops.specs.Desks.{Call, Desked}
use Rattle.dom_edge.specs.Heeding.{HandsOut, Sides}
use Rattle.server_loops.specs.Sessions.{Serves, joined}
use Rattle.server_loops.specs.Serving.{Heard, IsHost, Hosts, links_of, calls_of, sessions_made, ServesPort}
use Rattle.server_loops.specs.Steps.{IsHosted}
use Rattle.server_loops.specs.declared.sessions.Ended.{Ended}
use Rattle.server_loops.specs.declared.port.Ran.TheVariants.{Turns, Spent}
use Rattle.server_loops.proofs.Turning.{on}
use Rattle.server_loops.proofs.Serving.{joined_on}

-- ---- one turn

module _ (peer holder : ℕ) (old new : Heard) where
  -- nobody came
  pub idle : {L : Type 0} (reading : L → Reading) (writing : L → Writing) (answer : Accepted L) (d : Desked) → (answer ≡ accepted.Quiet) ⊎ (answer ≡ accepted.Failed) →
      HasCause old.faults new.faults (answer ≡ accepted.Failed) → HasCause old.quiets new.quiets (answer ≡ accepted.Quiet) → HandsOut reading writing old.handed new.handed answer →
      holder < 2 ^ 32 → IsHosted peer holder holder d d old new
  idle {L} reading writing answer d none failed quiet handed small = record {
    turn = None;
    calls = sym (append-nil d.calls);
    host = record {
      later = record { faults = failed.later; quiets = quiet.later; handed = none_handed answer none handed ∙ sym (append-nil old.handed) };
      rose = risen none;
    };
    next = omega (arith, small);
  }
    where
      risen : (answer ≡ accepted.Quiet) ⊎ (answer ≡ accepted.Failed) → Rose old.faults new.faults ⊎ Rose old.quiets new.quiets
      risen (inl is) = inr (quiet.failed is)
      risen (inr is) = inl (failed.failed is)

      none_handed : (a : Accepted L) → (a ≡ accepted.Quiet) ⊎ (a ≡ accepted.Failed) → HandsOut reading writing old.handed new.handed a → new.handed ≡ old.handed
      none_handed (accepted.Link link) (inl is) handed = cc
      none_handed (accepted.Link link) (inr is) handed = cc
      none_handed accepted.Quiet none handed = handed
      none_handed accepted.Failed none handed = handed

  -- the link that was handed out was served
  pub hosted : (next : ℕ) (d e : Desked) (end : Ended) (link after : Sides) → Serves peer holder 18446744073709551615 end d e link after → old.faults ≤ new.faults → old.quiets ≤ new.quiets →
      new.handed ≡ old.handed ++ link ∷ [] → next ≡ (holder + 1) % 2 ^ 32 → IsHosted peer holder next d e old new
  hosted next d e end link after serves faults quiets handed is = record {
    turn = Some serves.made;
    calls = serves.calls;
    host = (link, record { faults = faults; quiets = quiets; handed = handed }, record { end = end; after = after; session = serves.over });
    next = is;
  }

-- ---- all turns

abbrev links : List (Option (List Call)) → ℕ
links [] = 0
links (turn ∷ turns) = links_of turn + links turns

-- so many turns so far
pub record IsHosting (peer later n : ℕ) (old new : Desked) (before after : Heard) : Type 0 where
  pub made : List (Option (List Call))
  pub calls : new.calls ≡ old.calls ++ sessions_made made
  pub hosts : Hosts peer 0 made before after
  pub count : length made ≡ n
  pub next : later ≡ links made % 2 ^ 32

pub none_hosted : (peer : ℕ) (d : Desked) (w : Heard) → IsHosting peer 0 0 d d w w
none_hosted peer d w = record { made = []; calls = sym (append-nil d.calls); hosts = refl; count = refl; next = refl }

hosts_more : (peer k : ℕ) (turns : List (Option (List Call))) (turn : Option (List Call)) (old mid new : Heard) → Hosts peer k turns old mid → IsHost peer ((k + links turns) % 2 ^ 32) turn mid new →
    Hosts peer k (turns ++ turn ∷ []) old new
hosts_more peer k [] turn old mid new same host =
    let none : k + 0 ≡ k = omega arith in
    let here : IsHost peer (k % 2 ^ 32) turn mid new = subst (λ n. IsHost peer (n % 2 ^ 32) turn mid new) none host in
    (new, subst (λ (w : Heard). IsHost peer (k % 2 ^ 32) turn w new) same here, refl)
hosts_more peer k (t ∷ ts) turn old mid new are host =
    let along : k + (links_of t + links ts) ≡ k + links_of t + links ts = omega arith in
    (are.0, are.1, hosts_more peer (k + links_of t) ts turn are.0 mid new are.2 (subst (λ n. IsHost peer (n % 2 ^ 32) turn mid new) along host))

links_more : (turns : List (Option (List Call))) (turn : Option (List Call)) → links (turns ++ turn ∷ []) ≡ links turns + links_of turn
links_more [] turn = omega arith
links_more (t ∷ ts) turn = omega (arith, links_more ts turn)

made_more : (turns : List (Option (List Call))) (turn : Option (List Call)) → sessions_made (turns ++ turn ∷ []) ≡ sessions_made turns ++ calls_of turn
made_more turns turn =
    ap joined (map-append calls_of turns (turn ∷ [])) ∙ joined_on (map calls_of turns) (calls_of turn ∷ []) ∙ ap (λ (cs : List Call). sessions_made turns ++ cs) (append-nil (calls_of turn))

module _ (peer holder n : ℕ) (old mid : Desked) (before between : Heard) (s : IsHosting peer holder n old mid before between) where
  pub one_hosted : (next : ℕ) (new : Desked) (after : Heard) → IsHosted peer holder next mid new between after → IsHosting peer next (n + 1) old new before after
  one_hosted next new after h = record {
    made = s.made ++ h.turn ∷ [];
    calls = on old mid new (sessions_made s.made) (calls_of h.turn) s.calls h.calls ∙ ap (λ (cs : List Call). old.calls ++ cs) (sym (made_more s.made h.turn));
    hosts = hosts_more peer 0 s.made h.turn before between after s.hosts (rw (zero-add (links s.made)) (rw (← s.next) h.host));
    count = length-append s.made (h.turn ∷ []) ∙ ap (λ k. k + 1) s.count;
    next = omega (arith, h.next, s.next, links_more s.made h.turn);
  }

  pub all_hosted : ServesPort peer n Turns old mid before between
  all_hosted = record { made = s.made; calls = s.calls; hosts = s.hosts; count = s.count }

  pub cut_hosted : (turns t : ℕ) → n ≤ turns → ServesPort peer turns (Spent t) old mid before between
  cut_hosted turns t less = record { made = s.made; calls = s.calls; hosts = s.hosts; count = omega (arith, s.count, less) }
