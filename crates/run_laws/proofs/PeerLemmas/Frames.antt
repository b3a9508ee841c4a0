-- A stream that grows keeps its frames, and a framer that was fed it holds the rest.
use Rattle.std.proofs.Common.{◌≡◌, Bool, true, false, List, [], ◌∷◌, ◌++◌, Option, Some, None, map, subst, inl, inr}
use Rattle.std.specs.Prelude.{Contains}
use Rattle.std.proofs.lemmas.List.Elements.{Contains-append_cases, Contains-append_left, Contains-append_right}
use Rattle.border_costs.proofs.Members.{contains_cases, contains_head, contains_none, contains_tail}
use Rattle.pcep_framing.specs.Feeding.{feed_of}
use Rattle.pcep_framing.specs.Frames.{Framing, HasFed}
use Rattle.pcep_framing.proofs.FeedLemmas.{feed_feeds}
use Rattle.pcep_framing.proofs.FrameLemmas.{fed_more, fed_nothing, frames_once}
use Rattle.pcep_messages.specs.Splitting.{split_of}
use Rattle.plant_laws.specs.plant_model.Events.{bad_item, split_all}
use Rattle.plant_laws.specs.plant_model.RealWire.{wire}
use Rattle.plant_laws.specs.plant_model.Wire.{Bytes}
use Rattle.run_laws.specs.Inlets.{IsPart}
use Rattle.run_laws.specs.Received.{framed}

fresh : Framing
fresh = record { held = []; bad = false }

-- one piece more
pub piece_fed : (k : Framing) (stream piece : Bytes) (ms : List Bytes) → HasFed k stream ms → HasFed (feed_of k piece).framing (stream ++ piece) (ms ++ (feed_of k piece).frames)
piece_fed k stream piece ms fed = fed_more k (feed_of k piece).framing stream piece ms (feed_of k piece).frames fed (feed_feeds k piece)

whole_fed : (stream : Bytes) → HasFed (framed stream).framing stream (framed stream).frames
whole_fed stream = piece_fed (record { held = []; bad = false }) [] stream [] fed_nothing

pub frames_are : (k : Framing) (stream : Bytes) (ms : List Bytes) → HasFed k stream ms → ms ≡ (framed stream).frames
frames_are k stream ms fed = (frames_once stream ms (framed stream).frames k.bad (framed stream).framing.bad fed.frames (whole_fed stream).frames).0

-- a part stays a part
pub part_more : (stream piece part : Bytes) → IsPart stream part → IsPart (stream ++ piece) part
part_more stream piece part p =
    let more = (feed_of (framed stream).framing piece).frames in
    let same : (framed stream).frames ++ more ≡ (framed (stream ++ piece)).frames = frames_are (feed_of (framed stream).framing piece).framing (stream ++ piece) ((framed stream).frames ++ more) (piece_fed (framed stream).framing stream piece (framed stream).frames (whole_fed stream)) in
    record { frame = p.frame; among = subst (λ (fs : List Bytes). Contains fs p.frame) same (Contains-append_left (framed stream).frames more p.frame p.among); of_frame = p.of_frame }

some_part : (xs : List Bytes) (part : Bytes) → Contains (map Some xs) (Some part) → Contains xs part
some_part [] part h = absurd (contains_none (Some part) h)
some_part (x ∷ xs) part h =
    elim (contains_cases (Some x) (map Some xs) (Some part) h) [
      | inl same ↦ (let is : x ≡ part = cc in subst (λ (y : Bytes). Contains (x ∷ xs) y) is (contains_head x xs))
      | inr more ↦ contains_tail x xs part (some_part xs part more)
    ]

-- what was split is of one of the frames
pub split_from : (fs : List Bytes) (part : Bytes) → Contains (split_all wire fs) (Some part) → (f : Bytes) × Contains fs f × Contains (split_of f) part
split_from [] part h = absurd (contains_none (Some part) h)
split_from (f ∷ fs) part h =
    elim (Contains-append_cases (map Some (split_of f)) (split_all wire fs) (Some part) h) [
      | inl here ↦ (f, contains_head f fs, some_part (split_of f) part here)
      | inr more ↦ (let r = split_from fs part more in (r.0, contains_tail f fs r.0 r.1, r.2))
    ]

no_part : (bad : Bool) (part : Bytes) → Contains (bad_item bad) (Some part) → ⊥
no_part false part h = contains_none (Some part) h
no_part true part h = elim (contains_cases None [] (Some part) h) [ inl same ↦ differ part same | inr none ↦ contains_none (Some part) none ]
  where
    differ : (p : Bytes) → (let a : Option Bytes = None in let b : Option Bytes = Some p in a ≡ b) → ⊥
    differ p e = cc

-- what a piece brings to an inbox is of the longer stream
pub arrived_is : (k : Framing) (stream piece : Bytes) (ms : List Bytes) (part : Bytes) → HasFed k stream ms → Contains (split_all wire (feed_of k piece).frames ++ bad_item (feed_of k piece).framing.bad) (Some part) → IsPart (stream ++ piece) part
arrived_is k stream piece ms part fed h =
    let new = (feed_of k piece).frames in
    let same = frames_are (feed_of k piece).framing (stream ++ piece) (ms ++ new) (piece_fed k stream piece ms fed) in
    elim (Contains-append_cases (split_all wire new) (bad_item (feed_of k piece).framing.bad) (Some part) h) [
      | inr bad ↦ absurd (no_part (feed_of k piece).framing.bad part bad)
      | inl came ↦
          let r = split_from new part came in
          record { frame = r.0; among = subst (λ (fs : List Bytes). Contains fs r.0) same (Contains-append_right ms new r.0 r.1); of_frame = r.2 }
    ]
