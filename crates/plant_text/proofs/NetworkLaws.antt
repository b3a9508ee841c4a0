-- Networks, and the client that is added.
use Rattle.std.proofs.Common.{◌≡◌, ◌<◌, ◌≤◌, true, codes, length, take, drop, [], ◌∷◌, None, refl, arith, length-append}
use Rattle.std.proofs.lemmas.List.{take-append-le, drop-append-le, take_all, drop_all}
use Rattle.std.proofs.lemmas.List.Elements.{All-nil, All-cons, All-append}
use Rattle.dom_base.specs.declared.names.As.{As}
use Rattle.plant_text.specs.declared.network.Network.TheInside.{Inside}
use Rattle.plant_text.specs.declared.settings.NetworkParts.{NetworkParts}
use Rattle.plant_text.specs.Settings.{is_element}
use Rattle.plant_text.specs.Rules.{rules_of, sheet_of, peer_rules}
use Rattle.plant_text.specs.Faults.{first_of}
use Rattle.plant_text.specs.Networks.{IsAdded, ObeysRules, path_client, with_path, with_peers}
use Rattle.plant_text.specs.Fields.{HoldsRules}
use Rattle.plant_text.proofs.RuleLaws.{few_rows, obeyed_of}
use Rattle.plant_text.proofs.SheetLaws.{all_clear}

pub network_of : (n : Inside) → HoldsRules n → ObeysRules n.parts
network_of n holds = record {
  given = n.given;
  within = holds.within;
  obeyed = obeyed_of (rules_of (with_peers n.parts (take n.given n.parts.peers))) holds.unbroken;
  added = holds.added;
  few = holds.few;
}

pub few_peers : (n : NetworkParts) → first_of (rules_of n) ≡ None → length n.peers ≤ 256
few_peers n none = few_rows (codes "peer") 256 (peer_rules (sheet_of n)) n.peers None (all_clear (sheet_of n) none).peers_clear

-- settings that obey the rules, with nothing added
pub holds_new : (n : NetworkParts) → first_of (rules_of n) ≡ None → HoldsRules (record { parts = n; given = length n.peers })
holds_new n none = record {
  within = omega arith;
  unbroken = rw (take_all (length n.peers) n.peers (omega arith)) none;
  added = rw (drop_all (length n.peers) n.peers (omega arith)) (All-nil (IsAdded n));
  few = let few = few_peers n none in omega arith;
}

-- one more client
pub holds_more : (n : Inside) (at : As) → HoldsRules n → is_element n.parts at ≡ true → length n.parts.peers < 4294967295 → HoldsRules (record { parts = with_path n.parts at; given = n.given })
holds_more n at holds known room =
    let peers = n.parts.peers in
    let client = path_client at in
    record {
      within = rw (length-append peers (client ∷ [])) (let h = holds.within in omega arith);
      unbroken = rw (take-append-le n.given peers (client ∷ []) holds.within) holds.unbroken;
      added =
          rw (drop-append-le n.given peers (client ∷ []) holds.within)
          (All-append (IsAdded (with_path n.parts at)) (drop n.given peers) (client ∷ []) holds.added
          (All-cons (IsAdded (with_path n.parts at)) client [] (refl, known) (All-nil (IsAdded (with_path n.parts at)))));
      few = rw (length-append peers (client ∷ [])) (omega arith);
    }
