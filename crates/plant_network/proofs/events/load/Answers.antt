use Rattle.std.proofs.Common.{ℕ, Result, subst}
use Rattle.network_events.specs.plant_model.declared.outcome.Refused.{Refused}
use Rattle.network_members.specs.Loading.{Loads}
use Rattle.plant_network.specs.Topologies.{held}
use Rattle.plant_network.proofs.LoadLemmas.{load_accepted, load_refused}
use Rattle.plant_network.proofs.events.load.Goals as goal

pub returns-in-Ok : goal.returns-in-Ok
returns-in-Ok c =
    load_accepted c.args.at c.args.topology (held c.args.members.now c.args.traffic.now) c.in-Ok.number c.load.new.self c.clear_said.new.self c.requires.sound
    (subst (λ (r : Result ℕ Refused). Loads c.args.at c.args.topology c.args.members.now r c.load.new.self) c.in-Ok.is c.load.ensures) c.clear_said.ensures

pub returns-in-Err : goal.returns-in-Err
returns-in-Err c =
    load_refused c.args.at c.args.topology (held c.args.members.now c.args.traffic.now) c.in-Err.why c.load.new.self c.requires.sound
    (subst (λ (r : Result ℕ Refused). Loads c.args.at c.args.topology c.args.members.now r c.load.new.self) c.in-Err.is c.load.ensures)
