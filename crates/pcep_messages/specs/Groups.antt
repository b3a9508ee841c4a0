-- Which objects of a message belong together (RFC 5440, 6.4 to 6.7).
use Rattle.std.specs.Prelude.{◌≡◌, ℕ, Bool, true, false, List, [], ◌∷◌, Option, Some, None, is_some, ◌&&◌, ◌||◌, if◌then◌else◌}
use Rattle.std.specs.List.{filter_map}
use Rattle.std.specs.Option.{option_or}
use Rattle.pcep_objects.specs.declared.object.Body.{Body}
use Rattle.pcep_objects.specs.declared.object.Body.TheVariants as bodies
use Rattle.pcep_objects.specs.declared.object.Object.{Object}
use Rattle.pcep_objects.specs.declared.object.OpenBody.{OpenBody}
use Rattle.pcep_messages.specs.declared.groups.Closer.{Closer}
use Rattle.pcep_messages.specs.declared.groups.Closer.TheVariants as closers
use Rattle.pcep_messages.specs.declared.message.Asked.{Asked}
use Rattle.pcep_messages.specs.declared.message.Reply.{Reply}
use Rattle.pcep_messages.specs.declared.message.Answer.{Answer}
use Rattle.pcep_messages.specs.declared.message.Answer.TheVariants as answers
use Rattle.pcep_messages.specs.declared.message.Path.{Path}
use Rattle.pcep_messages.specs.declared.message.Notice.{Notice}
use Rattle.pcep_messages.specs.declared.message.ErrorReport.{ErrorReport}

-- ---- what an object says

abbrev pub rp_in : Body → Option (ℕ × ℕ)
rp_in (bodies.Rp flags id) = Some (flags, id)
rp_in _ = None

abbrev pub notification_in : Body → Option (ℕ × ℕ)
notification_in (bodies.Notification kind value) = Some (kind, value)
notification_in _ = None

abbrev pub error_in : Body → Option (ℕ × ℕ)
error_in (bodies.Error kind value) = Some (kind, value)
error_in _ = None

abbrev pub opening_in : Body → Option OpenBody
opening_in (bodies.Open opening) = Some opening
opening_in _ = None

abbrev pub no_path_in : Body → Option (ℕ × ℕ)
no_path_in (bodies.NoPath nature vector) = Some (nature, vector)
no_path_in _ = None

abbrev pub is_rp : Object → Bool
is_rp o = is_some (rp_in o.body)

-- a NOTIFICATION or a PCEP-ERROR
abbrev pub is_report : Object → Bool
is_report o = is_some (notification_in o.body) || is_some (error_in o.body)

-- ---- groups

-- The rest of the group under way, and the groups behind it. A group begins at each RP behind an object that closes the
-- one before; `closed` says that the group under way has such an object.
abbrev pub begin_with : Object → List Object × List (List Object) → List Object × List (List Object)
begin_with o groups = ([], (o ∷ groups.0) ∷ groups.1)

abbrev pub go_on_with : Object → List Object × List (List Object) → List Object × List (List Object)
go_on_with o groups = (o ∷ groups.0, groups.1)

abbrev pub cut : (Object → Bool) → Bool → List Object → List Object × List (List Object)
cut closes closed [] = ([], [])
cut closes closed (o ∷ os) =
    if is_rp o && closed then begin_with o (cut closes (closes o) os) else go_on_with o (cut closes (closed || closes o) os)

-- what closes a group: an RP, or a NOTIFICATION or PCEP-ERROR
abbrev pub closes_by : Closer → Object → Bool
closes_by closers.Rp o = is_rp o
closes_by closers.Report o = is_report o

abbrev pub all_groups : List Object × List (List Object) → List (List Object)
all_groups groups = groups.0 ∷ groups.1

-- objects are one group, which begins with its RP
pub record AreOneGroup (closes : Object → Bool) (os : List Object) : Type 0 where
  pub first : Object
  pub rest : List Object
  pub are : os ≡ first ∷ rest
  pub begins : is_rp first ≡ true
  pub goes_on : cut closes (closes first) rest ≡ (rest, [])

-- ---- requests (6.4): from the first object on, and from each RP behind another

abbrev pub asked_of : List Object → Asked
asked_of os = record { objects = os }

abbrev pub requests_of : List Object → List (List Object)
requests_of os = all_groups (cut (closes_by closers.Rp) false os)

-- ---- replies (6.5): from each RP on; objects before the first RP are dropped

abbrev pub reply_groups : List Object → List (List Object)
reply_groups os = (cut (closes_by closers.Rp) true os).1

-- ---- notices and reports (6.6, 6.7): from the first object on, and from each RP behind a NOTIFICATION or PCEP-ERROR

abbrev pub report_groups : List Object → List (List Object)
report_groups [] = []
report_groups (o ∷ os) = all_groups (cut (closes_by closers.Report) false (o ∷ os))

abbrev pub notice_of : List Object → Notice
notice_of os = record { ids = filter_map (λ o. rp_in o.body) os; kinds = filter_map (λ o. notification_in o.body) os }

-- the first that objects say
abbrev pub first_said : {X : Type 0} → (Body → Option X) → List Object → Option X
first_said what [] = None
first_said what (o ∷ os) = option_or (what o.body) (first_said what os)

abbrev pub report_of : List Object → ErrorReport
report_of os = record { ids = filter_map (λ o. rp_in o.body) os; errors = filter_map (λ o. error_in o.body) os; opening = first_said opening_in os }

-- ---- the answer of a reply: a NO-PATH where one follows, else a path from each ERO on, with the first METRIC behind it

abbrev pub metric_behind : Body → Option (ℕ × ℕ) → Option (ℕ × ℕ)
metric_behind (bodies.Metric bound computed kind word) other = Some (kind, word)
metric_behind (bodies.Ero route) other = None
metric_behind _ other = other

abbrev pub first_metric : List Object → Option (ℕ × ℕ)
first_metric [] = None
first_metric (o ∷ os) = metric_behind o.body (first_metric os)

abbrev pub path_from : Body → Option (ℕ × ℕ) → List Path → List Path
path_from (bodies.Ero route) metric others = record { hops = route; metric = metric } ∷ others
path_from _ metric others = others

abbrev pub paths_of : List Object → List Path
paths_of [] = []
paths_of (o ∷ os) = path_from o.body (first_metric os) (paths_of os)

abbrev pub answer_by : Option (ℕ × ℕ) → List Path → Answer
answer_by (Some n) paths = answers.NoPath n.0 n.1
answer_by None paths = answers.Paths paths

abbrev pub answer_of : List Object → Answer
answer_of os = answer_by (first_said no_path_in os) (paths_of os)

-- the reply of a group, which begins with its RP
abbrev pub reply_with : Option (ℕ × ℕ) → Answer → Option Reply
reply_with (Some rp) answer = Some (record { flags = rp.0; id = rp.1; answer = answer })
reply_with None answer = None

abbrev pub reply_of : List Object → Option Reply
reply_of [] = None
reply_of (o ∷ os) = reply_with (rp_in o.body) (answer_of os)
