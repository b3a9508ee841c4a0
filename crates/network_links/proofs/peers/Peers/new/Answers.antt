use Rattle.std.proofs.Common.{◌≡◌, ◌++◌, ◌∷◌, ◌+◌, ℕ, [], List, arith, sym, subst}
use Rattle.network_links.specs.declared.access.Access.{Access}
use Rattle.network_links.proofs.FreshLemmas.{AreNew, new_guests, one_more_new}
use Rattle.network_links.proofs.peers.Peers.new.Goals as goal

pub loop-i-preserved : goal.loop-i-preserved
loop-i-preserved c =
    let i = c.loop-i._i in
    let rows = c.loop-i.rows.items in
    let pushed : c.push.new.self.items ≡ rows ++ c.new.result ∷ [] = c.in_ok-push.ensures.items in
    subst (λ (xs : List Access). AreNew (i + 1) xs) (sym pushed) (one_more_new i rows c.new.result c.loop-i.invariant c.new.ensures)

pub returns : goal.returns
returns c =
    let all : c.loop-i._i ≡ c.args.count = omega arith in
    new_guests c.args.count c.loop-i.rows.items (subst (λ (k : ℕ). AreNew k c.loop-i.rows.items) all c.loop-i.invariant)
