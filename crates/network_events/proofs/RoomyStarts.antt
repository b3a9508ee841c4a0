-- The words that sessions may say in an event, and room that stays where no queue has less.
use Rattle.std.proofs.Common.{◌≡◌, ◌≤◌, ◌<◌, ℕ, ◌+◌, ◌*◌, true, List, [], ◌∷◌, length, ap, sym, ◌∙◌, arith}
use Rattle.pce_common.specs.plant_model.Types.{As, Peer, NetworkParts}
use Rattle.plant_queues.specs.Messages.{Spare, total}
use Rattle.plant_queues.specs.Sents.{size_of}
use Rattle.plant_text.specs.Settings.{Adjacency, adjacencies, has_adjacency}
use Rattle.network_links.specs.Flow.{Flow}
use Rattle.pce_common.specs.Membership.{Membership}
use Rattle.pce_common.specs.Owed.{owed}
use Rattle.network_events.specs.Rooms.{is_talking, own_most}
use Rattle.network_events.specs.Roomy.{KeepsOn}
use Rattle.network_events.proofs.PassRoom.{NoLess, keeps_less}
use Rattle.network_events.proofs.RoomyPays.{live_like}
use Rattle.network_events.proofs.RoomyInputs.{KeepsWord}

-- what sessions may say in an event, where there is an outside peer or a link
pub words_at_peer : (n : NetworkParts) (i : ℕ) → i < length n.peers → 2 ≤ own_most n
words_at_peer n i within = omega (arith, within)

pub words_at_link : (n : NetworkParts) (a b : As) → has_adjacency a b (adjacencies n) ≡ true → 4 ≤ own_most n
words_at_link n a b linked = omega (arith, some (adjacencies n) linked)
  where
    some : (xs : List Adjacency) → has_adjacency a b xs ≡ true → 1 ≤ length xs
    some [] e = cc
    some (x ∷ xs) e = omega arith

module _ {P : Type 0} {S : Type 0} (n : NetworkParts) where
  -- no queue has less room, and no connection is used otherwise
  pub less_keeps : (own : ℕ) (ms : Membership P S) (f f' : Flow) → NoLess f f' → f'.said ≡ f.said → f'.room.said ≡ f.room.said → ((i : ℕ) → is_talking (f'.accesses i).connection ≡ is_talking (f.accesses i).connection) → KeepsOn own n ms f → KeepsOn own n ms f'
  less_keeps own ms f f' less said spare talking keeps = record {
    answers = record {
      live = λ at to live. keeps_less at to (owed at to ms) (32 * owed at to ms) (owed at to ms) (32 * owed at to ms) f f' less (omega arith) (omega arith) (keeps.answers.live at to (sym (live_like n f f' talking at to) ∙ live));
      dead = λ at to over. keeps.answers.dead at to (sym (live_like n f f' talking at to) ∙ over);
    };
    said = record { messages = omega (arith, ap (λ (s : Spare). s.messages) spare, keeps.said.messages); bytes = omega (arith, ap (λ (s : Spare). s.bytes) spare, keeps.said.bytes) };
    again = record {
      messages = omega (arith, ap (λ (s : Spare). s.messages) spare, ap length said, keeps.again.messages);
      bytes = omega (arith, ap (λ (s : Spare). s.bytes) spare, ap (total size_of) said, keeps.again.bytes);
    };
  }

  pub word_less : (at : As) (to : Peer) (ms : Membership P S) (f f' : Flow) → NoLess f f' → KeepsWord at to ms f → KeepsWord at to ms f'
  word_less at to ms f f' less keeps = keeps_less at to (1 + owed at to ms) (20 + 32 * owed at to ms) (1 + owed at to ms) (20 + 32 * owed at to ms) f f' less (omega arith) (omega arith) keeps
