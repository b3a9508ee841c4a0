-- What is written of an object is octets.
use Rattle.std.proofs.Common.{◌<◌, ◌+◌, ◌*◌, ◌%◌, ℕ, Bool, true, false, cond, ◌==◌, [], ◌∷◌, ◌++◌, length, arith, lit<}
use Rattle.std.specs.Int.{w16, w32, to_be_bytes}
use Rattle.pcep_subobjects.specs.Hops.{hop_text}
use Rattle.pcep_subobjects.specs.Hops as hops
use Rattle.pcep_subobjects.specs.Exclusions.{exclusion_text}
use Rattle.pcep_subobjects.specs.Exclusions as exclusions
use Rattle.pcep_subobjects.proofs.OctetLaws.{IsOctets, none, one_more, joined, half_octets, word_octets, addr_is_octets, all_octets, four, hop_octets, exclusion_octets}
use Rattle.pcep_objects.specs.declared.object.Body.{Body}
use Rattle.pcep_objects.specs.declared.object.Body.TheVariants as bodies
use Rattle.pcep_objects.specs.declared.object.Object.{Object}
use Rattle.pcep_objects.specs.Spelling.{body_text, object_text, flag, stateful_text, vector_text, Fits, HasOctets, IsWritten}
use Rattle.pcep_objects.specs.Laws.{WrittenIsOctets}

stateful_octets : (b : Bool) → IsOctets (stateful_text b)
stateful_octets true = joined (0 ∷ 16 ∷ 0 ∷ 4 ∷ []) (0 ∷ 0 ∷ 0 ∷ 0 ∷ []) (four 0 16 0 4 (lit< tt) (lit< tt) (lit< tt) (lit< tt)) (four 0 0 0 0 (lit< tt) (lit< tt) (lit< tt) (lit< tt))
stateful_octets false = none

vector_octets : (n : ℕ) → IsOctets (vector_text n)
vector_octets n = go (n == 0)
  where
    go : (b : Bool) → IsOctets (cond b [] (0 ∷ 1 ∷ 0 ∷ 4 ∷ to_be_bytes w32 n))
    go true = none
    go false = joined (0 ∷ 1 ∷ 0 ∷ 4 ∷ []) (to_be_bytes w32 n) (four 0 1 0 4 (lit< tt) (lit< tt) (lit< tt) (lit< tt)) (word_octets n)

flags_fit : (a b : Bool) → flag a 2 + flag b 1 < 256
flags_fit true true = omega arith
flags_fit true false = omega arith
flags_fit false true = omega arith
flags_fit false false = omega arith

body_octets : (body : Body) → HasOctets body → Fits body → IsOctets (body_text body)
body_octets (bodies.Open o) h f = joined (o.version % 8 * 32 ∷ o.offer.keepalive ∷ o.offer.dead ∷ o.offer.sid ∷ []) (stateful_text o.offer.stateful) (four (o.version % 8 * 32) o.offer.keepalive o.offer.dead o.offer.sid (omega arith) h.0 h.1 h.2) (stateful_octets o.offer.stateful)
body_octets (bodies.Rp flags id) h f = joined (to_be_bytes w32 flags) (to_be_bytes w32 id) (word_octets flags) (word_octets id)
body_octets (bodies.NoPath nature vector) h f = joined (nature ∷ 0 ∷ 0 ∷ 0 ∷ []) (vector_text vector) (four nature 0 0 0 h (lit< tt) (lit< tt) (lit< tt)) (vector_octets vector)
body_octets (bodies.EndPoints source target) h f = joined _ _ (addr_is_octets source) (addr_is_octets target)
body_octets (bodies.Bandwidth word) h f = word_octets word
body_octets (bodies.Metric b c kind word) h f = joined (0 ∷ 0 ∷ (flag c 2 + flag b 1) ∷ kind ∷ []) (to_be_bytes w32 word) (four 0 0 (flag c 2 + flag b 1) kind (lit< tt) (lit< tt) (flags_fit c b) h) (word_octets word)
body_octets (bodies.Ero route) h f = all_octets hop_text hops.IsWritten hop_octets route f
body_octets (bodies.Lspa x y z setup holding flags) h f =
    joined (to_be_bytes w32 x ++ to_be_bytes w32 y ++ to_be_bytes w32 z) (setup ∷ holding ∷ flags ∷ 0 ∷ [])
    (joined (to_be_bytes w32 x ++ to_be_bytes w32 y) (to_be_bytes w32 z) (joined (to_be_bytes w32 x) (to_be_bytes w32 y) (word_octets x) (word_octets y)) (word_octets z))
    (four setup holding flags 0 h.0 h.1 h.2 (lit< tt))
body_octets (bodies.Iro route) h f = all_octets hop_text hops.IsWritten hop_octets route f
body_octets (bodies.Notification kind value) h f = four 0 0 kind value (lit< tt) (lit< tt) h.0 h.1
body_octets (bodies.Error kind value) h f = four 0 0 kind value (lit< tt) (lit< tt) h.0 h.1
body_octets (bodies.Close reason) h f = four 0 0 0 reason (lit< tt) (lit< tt) (lit< tt) h
body_octets (bodies.PathKey route) h f = all_octets hop_text hops.IsWritten hop_octets route f
body_octets (bodies.Xro list) h f =
    joined (0 ∷ 0 ∷ 0 ∷ 0 ∷ []) (exclusions.exclusions_text list) (four 0 0 0 0 (lit< tt) (lit< tt) (lit< tt) (lit< tt)) (all_octets exclusion_text exclusions.IsWritten exclusion_octets list f)
body_octets (bodies.Unread bytes) h f = record { all = h }

kind_fits : (kind : ℕ) (must : Bool) → kind % 16 * 16 + flag must 2 < 256
kind_fits kind true = omega arith
kind_fits kind false = omega arith

pub object_octets : (o : Object) → IsWritten o → IsOctets (object_text o)
object_octets o w =
    one_more o.class _ w.class (one_more (o.kind % 16 * 16 + flag o.must 2) _ (kind_fits o.kind o.must)
    (joined (to_be_bytes w16 (length (body_text o.body) + 4)) (body_text o.body) (half_octets (length (body_text o.body) + 4)) (body_octets o.body w.octets w.fits)))

pub written_is_octets : WrittenIsOctets
written_is_octets o w = (object_octets o w).all
