-- The histories of a server's lock are runs.
use Rattle.std.proofs.Common.{◌≡◌, ◌∙◌, ℕ, List, [], ◌∷◌, ◌++◌, Option, Some, ap, refl, subst, sym}
use Rattle.dom_edge.specs.Stores.{Files}
use Rattle.plant_lock.specs.History.{Legal, replay}
use Rattle.plant_lock.specs.Views.{LegalFrom}
use Rattle.plant_network.specs.plant_model.declared.event.Event.{Event}
use Rattle.plant_network.specs.plant_model.Events.{Answered}
use Rattle.plant_network.specs.plant_model.Plant.{Plant, Run}
use Rattle.plant_network.specs.plant_model.RealWire.{wire}
use Rattle.plant_network.specs.Histories.{AreGiven}
use Rattle.plant_network.specs.Topologies.{Held, whole}
use Rattle.plant_network.specs.Turns.{Admits, Allowed, left_by}
use Rattle.plant_network.proofs.HistoryLemmas.{histories_are_runs}
use Rattle.plant_text.specs.declared.settings.NetworkParts.{NetworkParts}
use Rattle.turn_desk.specs.Desks.{IsAtLock, Stand}
use Rattle.desk_laws.specs.Connections.{at_peer, is_at}
use Rattle.desk_laws.proofs.Closed.{put_is_said_blindly}
use Rattle.desk_laws.proofs.Streams.{filter_on}
use Rattle.desk_laws.proofs.Written.{written_was_put}
use Rattle.network_serving.specs.Bases.{IsReady, Server}
use Rattle.network_serving.specs.Loaded.{IsLoaded, Load, load_event, load_events}
use Rattle.network_serving.specs.Runs.{IsRun}

-- loads open, shut and drain nothing
loads_quiet : (i : ℕ) (ls : List Load) → at_peer i (load_events ls) ≡ []
loads_quiet i [] = refl
loads_quiet i (l ∷ ls) = filter_on (is_at i) (load_events ls) (load_event l ∷ []) ∙ ap (λ (es : List (Event × Answered)). es ++ []) (loads_quiet i ls)

module _ (files : Option Files) (n : NetworkParts) (x : Server) (ready : IsReady files n x) (s : Stand) (at : IsAtLock x.desk s) (given : AreGiven s.seen) where
  abbrev held : Held
  held = ready.held

  abbrev loaded : IsLoaded files n n.elements x.shown (whole held)
  loaded = ready.loaded

  starts : s.start ≡ Some held
  starts = at.start ∙ ap (λ (z : Stand). z.start) ready.opened

  legal : Legal Admits Allowed left_by (whole held) s.seen
  legal = subst (λ (o : Option Held). LegalFrom whole Admits Allowed left_by o s.seen) starts at.legal

  abbrev left : Plant
  left = (replay left_by (whole held) s.seen).state

  pub is_run : IsRun n loaded.entries s
  is_run =
      let run : Run wire (whole held).network loaded.entries (whole held).state = subst (λ (m : NetworkParts). Run wire m loaded.entries (whole held).state) (sym loaded.network) loaded.run in
      let on = histories_are_runs (whole held) loaded.entries s.seen given run legal in
      let goes : Run wire n (on.0 ++ loaded.entries) left = subst (λ (m : NetworkParts). Run wire m (on.0 ++ loaded.entries) left) loaded.network on.1 in
      record {
        newer = on.0;
        are_turns = on.2;
        left = left;
        run = goes;
        written = λ i alone front made back calls holder turns end before after over bytes wrote.
            written_was_put n on.0 loaded.entries left goes i (ap (at_peer i) loaded.are_loads ∙ loads_quiet i loaded.loads) s on.2 alone front made back calls holder turns end before after over bytes wrote;
        closed = λ i shut bytes put. put_is_said_blindly n (on.0 ++ loaded.entries) left goes i shut bytes put;
      }
