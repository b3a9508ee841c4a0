-- Where jobs last, a request that can be solved is the same as long as there is one of its number.
use Rattle.plant_model.specs.Parent as parent
use Rattle.plant_laws.specs.Lasting.{OrderGives, ElementsKeepJobs, ParentsKeepJobs, can_solve}
use Rattle.plant_laws.proofs.LastingLemmas.Tables.{has_given, same_request}

pub order_gives : OrderGives
order_gives s order = record { elements = λ d. has_given can_solve (s.elements d).pending (order.elements d); parent = has_given parent.is_ready s.parent.pending order.parent }

pub elements_keep_jobs : ElementsKeepJobs
elements_keep_jobs old new given jobs d k before after found ready now =
    same_request can_solve k (old.elements d).pending (new.elements d).pending before after (given.elements d) (jobs.elements d) found ready now

pub parents_keep_jobs : ParentsKeepJobs
parents_keep_jobs old new given jobs k before after found ready now =
    same_request parent.is_ready k old.parent.pending new.parent.pending before after given.parent jobs.parent found ready now
