-- Who is shown what stands behind a key (RFC 5520, section 3.2), over every run.
use Rattle.std.specs.Prelude.{◌≡◌, ◌≢◌, ◌⊎◌, ◌+◌, ◌≤◌, ◌<◌, ℕ, true, cond, List, [], ◌∷◌, AllPairs, All, Contains, None}
use Rattle.plant_model.specs.Types.{As, Addr, Peer, Asked, Answer, Request, Issued, NetworkParts}
use Rattle.pcep_messages.specs.declared.message.Answer.TheVariants.{Paths}
use Rattle.pcep_messages.specs.declared.message.Message.TheVariants as messages
use Rattle.pcep_messages.specs.declared.message.Wish.TheVariants as wishes
use Rattle.disclosure.specs.Policy.{can_expand}
use Rattle.disclosure.specs.Shown.{open_of}
use Rattle.path_keys.specs.Keys.{number_most}
use Rattle.plant_model.specs.declared.output.Output.{Output}
use Rattle.plant_text.specs.Names.{same_as, parent_as}
use Rattle.plant_model.specs.Wire.{Codec, Admitted}
use Rattle.plant_model.specs.Writing.{reply_message, no_key}
use Rattle.plant_text.specs.Settings.{class_of, life}
use Rattle.plant_model.specs.Settings.{place}
use Rattle.plant_model.specs.State.{Takes, Solves, Expires}
use Rattle.plant_model.specs.Plant.{Plant, Entry, Run, deeds_of, Segment}
use Rattle.plant_model.specs.Laws.{IsNetwork}
use Rattle.plant_laws.specs.Transcript.{Transcript, Within, opened}
use Rattle.plant_laws.specs.Runs.{InRuns}

-- the last tick
abbrev pub clock_at : Transcript → ℕ
clock_at [] = 0
clock_at (Expires now ∷ older) = now
clock_at (e ∷ older) = clock_at older

-- the keys of d after its last solve
abbrev pub last_keys : As → Transcript → List (Issued Segment)
last_keys d [] = []
last_keys d (Solves at k os keys ∷ older) = cond (same_as at d) keys (last_keys d older)
last_keys d (e ∷ older) = last_keys d older

-- The key is d's own, it is live, and the peer may have it expanded: it stands for this segment.
pub record MaySee (n : NetworkParts) (older : Transcript) (d : As) (p : Peer) (key : ℕ) (pce : Addr) (segment : Segment) : Type 0 where
  pub own : pce ≡ (place n d).id
  pub may : can_expand (class_of n p) ≡ true
  pub issued : Issued Segment
  pub is_issued : Contains (last_keys d older) issued
  pub number : issued.number ≡ key
  pub live : clock_at older < issued.at.0 + life n d
  pub stands : issued.segment ≡ segment

abbrev pub one_reply : Peer → Request → Answer → List Output
one_reply p r answer = record { to = p; message = reply_message r.flags r.id answer } ∷ []

abbrev pub shown_answer : Segment → Answer
shown_answer segment = Paths (record { hops = open_of segment; metric = None } ∷ [])

-- A request to expand a key gets the open segment where the peer may see it, and else one and the same refusal.
abbrev pub ExpandsRightlyIn : Codec → NetworkParts → List Entry → Plant → Type 0
ExpandsRightlyIn c n es s =
    (d : As) (p : Peer) (a : Asked) (os : List Output) (older : Transcript) → d ≢ parent_as → Within (Takes d p (messages.PcReq (a ∷ [])) os ∷ older) (deeds_of c n es) →
    (r : Request) (key : ℕ) (pce : Addr) → c.check a d ≡ Admitted r → r.wish ≡ wishes.Expand key pce → opened c d p r.id older ≡ None →
    ((segment : Segment) × MaySee n older d p key pce segment × (os ≡ one_reply p r (shown_answer segment)))
    ⊎ (((segment : Segment) → ¬ MaySee n older d p key pce segment) × (os ≡ one_reply p r no_key))

abbrev pub ExpandsRightly : Type 0
ExpandsRightly = InRuns ExpandsRightlyIn

-- The keys of an element have different numbers, which fit their field.
abbrev pub KeysDiffer : Type 0
KeysDiffer = (c : Codec) (n : NetworkParts) → IsNetwork n → (es : List Entry) (s : Plant) → Run c n es s →
    (d : As) (k : ℕ) (os : List Output) (keys : List (Issued Segment)) (older : Transcript) → Within (Solves d k os keys ∷ older) (deeds_of c n es) →
    AllPairs (λ x y. x.number ≢ y.number) keys × All (λ x. (1 ≤ x.number) × (x.number ≤ number_most)) keys
