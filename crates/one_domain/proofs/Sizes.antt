-- A reply to a client fits one message.
use Rattle.std.proofs.Common.{◌≡◌, ◌≤◌, ◌+◌, ◌*◌, inl, inr, ℕ, List, [], ◌∷◌, length, arith, refl, ap, length-append, Some}
use Rattle.std.proofs.lemmas.Bool.Decides.{eqb_tells}
use Rattle.std.proofs.lemmas.List.{length-map}
use Rattle.std.proofs.lemmas.List.Concat.{flat_map-cons}
use Rattle.dom_base.specs.declared.addr.Addr.{Addr}
use Rattle.dom_base.specs.declared.addr.Addr.TheVariants.{V4, V6}
use Rattle.dom_base.specs.declared.link.Link.{Link}
use Rattle.dom_base.specs.declared.query.Query.{Query}
use Rattle.te_links.specs.Rows.{Rows, IsTopology}
use Rattle.walk_laws.specs.Labels.{IsLabel}
use Rattle.walk_laws.proofs.Short.{segment_short}
use Rattle.pcep_subobjects.specs.declared.hop.Hop.{Hop}
use Rattle.pcep_subobjects.specs.Hops.{hop_text, hops_text}
use Rattle.pcep_messages.specs.declared.message.Answer.{Answer}
use Rattle.pcep_messages.specs.declared.message.Answer.TheVariants as answers
use Rattle.pcep_messages.specs.declared.message.Message.{Message}
use Rattle.pcep_messages.specs.declared.message.Message.TheVariants as messages
use Rattle.pcep_messages.specs.declared.message.Wanted.{Wanted}
use Rattle.pcep_messages.specs.Spelling.{message_text}
use Rattle.one_domain.specs.Domain.{target_seeds, ShowsLeast}
use Rattle.pcep_subobjects.specs.Hops.{strict_hop}
use Rattle.disclosure.specs.Shown.{open_of}
use Rattle.pcep_messages.specs.Requests.{type_of_metric}
use Rattle.one_domain.specs.Replies.{IsAnswer}
use Rattle.one_domain.proofs.OneSeed.{joins_label}

-- ---- the path is short

-- what is shown is the label of the source
shows_label : (g : Rows) (q : Query) (s t : Addr) (hops : List Addr) (total : ℕ) → ShowsLeast g q s t hops total →
    IsLabel g q (target_seeds t) s (Some (record { cost = total; exit = t }))
shows_label g q s t hops total sh =
    joins_label g q t s (record { cost = total; exit = t }) (record { links = sh.links; least = sh.least; sum = sh.is_cost; exit = refl })

pub few_hops : (g : Rows) (q : Query) (s t : Addr) (hops : List Addr) (total : ℕ) → IsTopology g → ShowsLeast g q s t hops total → length hops ≤ 1025
few_hops g q s t hops total valid sh =
    let short = segment_short g q (target_seeds t) valid sh.links s (record { cost = total; exit = t }) (shows_label g q s t hops total sh) sh.chosen in
    omega (arith, short, valid.few_nodes, ap length sh.shown, length-map {A = Link} {B = Addr} sh.links (λ l. l.far))

-- ---- its text is short

hop_short : (a : Addr) → length (hop_text (strict_hop a)) ≤ 20
hop_short (V4 n) = omega arith
hop_short (V6 n) = omega arith

hops_short : (addrs : List Addr) → length (hops_text (open_of addrs)) ≤ 20 * length addrs
hops_short [] = omega arith
hops_short (a ∷ addrs) =
    omega (
      arith,
      ap length (flat_map-cons hop_text (strict_hop a) (open_of addrs)),
      length-append (hop_text (strict_hop a)) (hops_text (open_of addrs)),
      hop_short a,
      hops_short addrs,
    )

abbrev reply_of : ℕ → ℕ → Answer → Message
reply_of flags id answer = messages.PcRep (record { flags = flags; id = id; answer = answer } ∷ [])

path_text : (flags id kind word : ℕ) (hops : List Hop) →
    length (message_text (reply_of flags id (answers.Paths (record { hops = hops; metric = Some (kind, word) } ∷ [])))) ≡ 32 + length (hops_text hops)
path_text flags id kind word hops = simp (length-append) (omega arith)

none_text : (flags id vector : ℕ) → length (message_text (reply_of flags id (answers.NoPath 0 vector))) ≤ 32
none_text flags id vector = elim (eqb_tells vector 0) [ inl t ↦ rw t.0 (omega arith) | inr f ↦ rw f.0 (omega arith) ]

pub reply_fits : (g : Rows) (w : Wanted) (flags id : ℕ) (answer : Answer) → IsTopology g → IsAnswer g w answer → length (message_text (reply_of flags id answer)) ≤ 65532
reply_fits g w flags id answer valid (inl a) =
    let few = few_hops g w.query w.source w.target a.addrs a.cost valid a.shows in
    rw a.is (omega (arith, few, path_text flags id (type_of_metric w.query.metric) a.word (open_of a.addrs), hops_short a.addrs))
reply_fits g w flags id answer valid (inr n) = rw n.is (omega (arith, none_text flags id n.vector))
