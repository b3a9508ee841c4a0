-- The functions of the model are what the contracts of its parts say.
use Rattle.std.proofs.Common.{◌≡◌, ◌≤◌, ◌<◌, ℕ, Bool, true, false, cond, List, [], ◌∷◌, ◌++◌, Option, Some, None, Ok, Err, sym, ◌∙◌, ap, subst, refl}
use Rattle.plant_model.specs.Types.{Addr, Hop, Wish, Branch}
use Rattle.pcep_subobjects.specs.Hops.{strict_hop}
use Rattle.pcep_messages.specs.declared.message.Refusal.TheVariants as refusals
use Rattle.pcep_messages.specs.Said.{rp_of}
use Rattle.pcep_messages.specs.Refusals.{refusal_of}
use Rattle.pcep_messages.specs.Requests.{wish_of, without_bit}
use Rattle.vspt_tree.specs.Branches.{IsOnward}
use Rattle.vspt_tree.proofs.FirstLeast.{first_least_is}
use Rattle.plant_model.specs.Branches.{hops_of, onward}
use Rattle.plant_model.specs.Wire.{Wrong}
use Rattle.plant_model.specs.RealWire.{checked}
use Rattle.plant_model.specs.Meeting.{BranchMeets, CheckMeets}

-- ---- branches

onward_is : (down : List Branch) (exit : Addr) (head : Option Addr) (hs : List Hop) → IsOnward down exit head hs → hs ≡ onward exit head down
onward_is down exit None hs is = is
onward_is down exit (Some head) hs is = is.2 ∙ ap (λ (o : Option Branch). strict_hop exit ∷ hops_of o) (sym (first_least_is down head is.0 is.1))

pub branch_meets : BranchMeets
branch_meets down row own branch is = is.hops ∙ ap (λ (hs : List Hop). own ++ hs) (onward_is down row.exit row.head is.onward is.goes_on)

-- ---- requests

pub check_meets : CheckMeets
check_meets asked own (Ok r) is =
    ap (λ (o : Option (ℕ × ℕ)). checked o (refusal_of own.0 asked.objects) (wish_of own.0 asked.objects)) is.rp
    ∙ ap (λ (e : Option (ℕ × ℕ)). checked (Some (r.flags, r.id)) e (wish_of own.0 asked.objects)) is.accepted
    ∙ ap (λ (o : Option Wish). checked (Some (r.flags, r.id)) None o) is.wish
check_meets asked own (Err (refusals.Wire rp kind value)) is =
    ap (λ (e : Option (ℕ × ℕ)). checked (without_bit (rp_of asked.objects)) e (wish_of own.0 asked.objects)) is.0
    ∙ ap (λ (o : Option (ℕ × ℕ)). checked o (Some (kind, value)) (wish_of own.0 asked.objects)) (sym is.1)
    ∙ wrong rp
  where
    wrong : (o : Option (ℕ × ℕ)) → checked o (Some (kind, value)) (wish_of own.0 asked.objects) ≡ Wrong o kind value
    wrong None = refl
    wrong (Some x) = refl
check_meets asked own (Err refusals.NoMemory) is = tt
