-- What the theorems require of the wire and of the settings.
use Rattle.std.specs.Prelude.{◌≡◌, ◌≢◌, ◌≤◌, ◌<◌, ◌⊎◌, ◌^◌, ℕ, false, true, is_some, List, [], ◌∷◌, length, AllPairs, All, Contains, Option, Some, None, bit_and}
use Rattle.std.specs.List.{AllByRecursion}
use Rattle.plant_model.specs.Types.{As, Addr, ParentLink, Link, Asked, OpenBody, Reply, ErrorReport, Message, Request, Wanted, NetworkParts, ElementRow, PeerRow}
use Rattle.dom_base.specs.declared.limits.TheConstants.{COST_MAX}
use Rattle.pcep_codes.specs.declared.kinds.TheConstants as object_types
use Rattle.pcep_codes.specs.declared.flags.TheConstants as rp_flags
use Rattle.pcep_codes.specs.declared.errors.TheConstants as errors
use Rattle.pcep_subobjects.specs.Addresses.{IsAddr, bits_of}
use Rattle.te_links.specs.Rows.{IsMetric}
use Rattle.walk_laws.specs.Crossing.{query_in}
use Rattle.pcep_objects.specs.Spelling.{IsWord}
use Rattle.pcep_session.specs.Reports.{first_opening_of}
use Rattle.pcep_messages.specs.declared.message.Message.TheVariants as messages
use Rattle.pcep_messages.specs.declared.message.Wish.TheVariants as wishes
use Rattle.pcep_messages.specs.Spelling.{IsWritten, kind_of}
use Rattle.pcep_framing.specs.Frames.{Framing, FeedsTo}
use Rattle.disclosure.specs.declared.class.Class.TheVariants.{Neighbour}
use Rattle.outside_part.specs.Ranges.{AreInRange}
use Rattle.plant_text.specs.declared.limits.TheConstants.{ELEMENTS_MAX, PARENT_LINKS_MAX, KEY_LIFE_MAX}
use Rattle.pcep_messages.specs.declared.limits.TheConstants.{SEQUENCE_MAX}
use Rattle.plant_text.specs.Names.{parent_as}
use Rattle.plant_model.specs.Wire.{Bytes, Codec, Checked, Admitted, Wrong}
use Rattle.plant_model.specs.Writing.{ends_kind, asked_of, request_message, vspt_flag}
use Rattle.pcep_subobjects.specs.Subobjects.{AreOctets}
use Rattle.plant_text.specs.Settings.{is_element}
use Rattle.plant_model.specs.Plant.{IsLinkInRange}

-- a sequence that begins with a domain: few, each once, and each the number of a domain
pub record IsSequence (own : As) (rest : List As) : Type 0 where
  pub few : length (own ∷ rest) ≤ SEQUENCE_MAX
  pub differ : AllPairs (λ (a b : As). a ≢ b) (own ∷ rest)
  pub real : All (λ (a : As). 1 ≤ a.0) (own ∷ rest)

-- a request admitted at a domain
abbrev pub Admits : Codec → Asked → As → ℕ → ℕ → Wanted → Type 0
Admits c a own flags id w = c.check a own ≡ Admitted (record { flags = flags; id = id; wish = wishes.Path w })

-- the numbers of a request that came as bytes
pub record IsRequestInRange (flags id : ℕ) (w : Wanted) : Type 0 where
  pub flags_fit : flags < 2 ^ 32
  pub id_some : 1 ≤ id
  pub id_fits : id < 2 ^ 32
  pub source : IsAddr w.source
  pub target : IsAddr w.target
  pub kinds : bits_of w.source ≡ bits_of w.target
  pub sequence : All (λ (a : As). a.0 < 2 ^ 16) w.sequence

-- it can be sent on as bytes, under any id, to any end and along any sequence
abbrev pub CanBeSent : Wanted → Type 0
CanBeSent w = (id : ℕ) (t : Addr) (sequence : List As) → id < 2 ^ 32 → IsAddr t → bits_of w.source ≡ bits_of t → length sequence ≤ SEQUENCE_MAX → All (λ (a : As). a.0 < 2 ^ 16) sequence →
    IsWritten (request_message id w t sequence)

-- flags and an id have 32 bits
abbrev pub AreWords : ℕ × ℕ → Type 0
AreWords rp = (rp.0 < 2 ^ 32) × (rp.1 < 2 ^ 32)

abbrev pub HasWords : Option (ℕ × ℕ) → Type 0
HasWords None = Unit {0}
HasWords (Some rp) = AreWords rp

-- a checked request has numbers that can be said back
abbrev pub HasNumbers : Checked → Type 0
HasNumbers (Admitted r) = AreWords (r.flags, r.id)
HasNumbers (Wrong rp kind value) = HasWords rp × (kind < 256) × (value < 256)

-- the timers of an OPEN are octets
abbrev pub HasTimers : Option OpenBody → Type 0
HasTimers None = Unit {0}
HasTimers (Some body) = (body.offer.keepalive < 256) × (body.offer.dead < 256)

-- the text of a message in written form is octets, and is read as that message
pub record ReadsTexts (c : Codec) : Type 0 where
  pub reads : (m : Message) → IsWritten m → c.read (c.text m) ≡ Some m
  pub kinds : (m other : Message) → c.read (c.text m) ≡ Some other → kind_of m ≡ kind_of other
  pub bytes : (m : Message) → IsWritten m → AreOctets (c.text m)

-- a stream is cut into frames as it comes, and a frame into messages of one request or reply each
pub record CutsStreams (c : Codec) : Type 0 where
  pub frames : (framing : Framing) (piece : Bytes) → FeedsTo framing piece (c.feed framing piece).frames (c.feed framing piece).framing
  pub splits : (frame bytes : Bytes) (asks : List Asked) → Contains (c.split frame) bytes → c.read bytes ≡ Some (messages.PcReq asks) → length asks ≡ 1
  pub splits_replies : (frame bytes : Bytes) (replies : List Reply) → Contains (c.split frame) bytes → c.read bytes ≡ Some (messages.PcRep replies) → length replies ≤ 1
  pub splits_bytes : (frame bytes : Bytes) → AreOctets frame → Contains (c.split frame) bytes → AreOctets bytes

-- a request that was admitted can be sent on, and asks for the same at the next element; the parent serves IPv4 alone
pub record AdmitsOnward (c : Codec) : Type 0 where
  pub own : (a : Asked) (own : As) (flags x : ℕ) (w : Wanted) → Admits c a own flags x w →
      (w.query.own ≡ own) × (w.query.cap ≤ COST_MAX) × ((w.sequence ≡ []) ⊎ ((rest : List As) × (w.sequence ≡ own ∷ rest) × IsSequence own rest))
  pub sends : (bytes : Bytes) (a : Asked) (own : As) (flags x : ℕ) (w : Wanted) → AreOctets bytes → c.read bytes ≡ Some (messages.PcReq (a ∷ [])) → Admits c a own flags x w →
      IsRequestInRange flags x w × CanBeSent w
  pub admits : (a : Asked) (own : As) (flags x : ℕ) (w : Wanted) → Admits c a own flags x w →
      (id : ℕ) (t : Addr) (next : As) (rest : List As) → 1 ≤ id → id < 2 ^ 32 → IsSequence next rest →
      Admits c (asked_of id w t (next ∷ rest)) next vspt_flag id (record w { target = t; query = query_in w.query next; sequence = next ∷ rest })
  pub admits_upward : (a : Asked) (own : As) (flags x : ℕ) (w : Wanted) → Admits c a own flags x w → ends_kind w.source w.target ≡ object_types.FIRST → (id : ℕ) → 1 ≤ id → id < 2 ^ 32 →
      Admits c (asked_of id w w.target []) parent_as vspt_flag id (record w { query = query_in w.query parent_as; sequence = [] })
  pub admits_ipv4 : (bytes : Bytes) (a : Asked) (flags x : ℕ) (w : Wanted) → AreOctets bytes → c.read bytes ≡ Some (messages.PcReq (a ∷ [])) → Admits c a parent_as flags x w →
      bits_of w.source ≡ 32
  pub refuses_upward : (w : Wanted) (id : ℕ) → ends_kind w.source w.target ≡ object_types.END_POINTS_IPV6 →
      c.check (asked_of id w w.target []) parent_as ≡ Wrong (Some (vspt_flag, id)) errors.KIND_NOT_SERVED.0 errors.KIND_NOT_SERVED.1

-- a message that came as octets has numbers that can be said back; a request to expand a key has the flag of one
pub record SaysBack (c : Codec) : Type 0 where
  pub checks : (bytes : Bytes) (a : Asked) (own : As) → AreOctets bytes → c.read bytes ≡ Some (messages.PcReq (a ∷ [])) → HasNumbers (c.check a own)
  pub replies : (bytes : Bytes) (replies : List Reply) → AreOctets bytes → c.read bytes ≡ Some (messages.PcRep replies) → AllByRecursion (λ (r : Reply). AreWords (r.flags, r.id)) replies
  pub hops : (bytes : Bytes) (replies : List Reply) → AreOctets bytes → c.read bytes ≡ Some (messages.PcRep replies) → AllByRecursion (λ (r : Reply). AreInRange r.answer) replies
  pub openings : (bytes : Bytes) (reports : List ErrorReport) → AreOctets bytes → c.read bytes ≡ Some (messages.PcErr reports) → HasTimers (first_opening_of reports)
  pub expands : (a : Asked) (own : As) (r : Request) (key : ℕ) (pce : Addr) → c.check a own ≡ Admitted r → r.wish ≡ wishes.Expand key pce → bit_and r.flags rp_flags.PATH_KEY ≢ 0

-- costs keep their value as words
pub record KeepsCosts (c : Codec) : Type 0 where
  pub words : (n : ℕ) → n ≤ COST_MAX → IsWord (c.word n)
  pub costs : (n : ℕ) → n ≤ COST_MAX → c.units (c.word n) ≡ Some n

-- Messages in written form are read as they were meant, a request sent on asks for the same at the next element, and costs keep their
-- value.
pub record IsCodec (c : Codec) : Type 0 where
  pub texts : ReadsTexts c
  pub stream : CutsStreams c
  pub onward : AdmitsOnward c
  pub numbers : SaysBack c
  pub costs : KeepsCosts c

-- the parent serves IPv4 alone
pub record IsIpv4Link (l : Link) : Type 0 where
  pub from : bits_of l.from ≡ 32
  pub to : bits_of l.to ≡ 32
  pub near : bits_of l.near ≡ 32
  pub far : bits_of l.far ≡ 32

-- a link between two domains, as the settings of the parent have it
pub record IsParentLink (l : ParentLink) : Type 0 where
  pub from_as : l.from_as.0 < 2 ^ 16
  pub to_as : l.to_as.0 < 2 ^ 16
  pub link : IsLinkInRange l.link
  pub ipv4 : IsIpv4Link l.link
  pub igp : IsMetric l.link.igp
  pub te : IsMetric l.link.te

pub record IsElement (a : ElementRow) : Type 0 where
  pub real : 1 ≤ a.own.0
  pub own : a.own.0 < 2 ^ 16
  pub id : IsAddr a.id
  pub life : 1 ≤ a.key_life
  pub life_most : a.key_life ≤ KEY_LIFE_MAX

-- a peer that paths go on through is a neighbour whose domain is no element's
abbrev pub LeadsOut : NetworkParts → PeerRow → Type 0
LeadsOut n p = p.down ≡ true → (a : As) × (p.class ≡ Neighbour a) × (is_element n a ≡ false)

-- and two such peers of an element lead to different domains
abbrev pub LeadApart : PeerRow → PeerRow → Type 0
LeadApart p q = p.down ≡ true → q.down ≡ true → p.at ≡ q.at → p.class ≢ q.class

-- The rules of the settings that the theorems rest on.
pub record IsNetwork (n : NetworkParts) : Type 0 where
  pub elements_differ : AllPairs (λ (a b : ElementRow). (a.own ≢ b.own) × (a.id ≢ b.id)) n.elements
  pub elements : All IsElement n.elements
  pub few : length n.elements ≤ ELEMENTS_MAX
  pub has_parent : All (λ (a : ElementRow). a.parent ≡ true → is_some n.parent ≡ true) n.elements
  pub links : All (λ (p : As × As). (is_element n p.0 ≡ true) × (is_element n p.1 ≡ true) × (p.0 ≢ p.1)) n.links
  pub links_differ : AllPairs (λ (p q : As × As). ((p.0 ≡ q.0) × (p.1 ≡ q.1) → ⊥) × ((p.0 ≡ q.1) × (p.1 ≡ q.0) → ⊥)) n.links
  pub peers : All (λ r. is_element n r.at ≡ true) n.peers
  pub downs : All (LeadsOut n) n.peers
  pub downs_differ : AllPairs LeadApart n.peers
  pub few_parent_links : length n.parent_links ≤ PARENT_LINKS_MAX
  pub parent_links : All IsParentLink n.parent_links
  pub parent_links_differ : AllPairs (λ (l m : ParentLink). (l.link.far ≢ m.link.far) × (l.link.near ≢ m.link.near)) n.parent_links
