-- What holds for one end of a session, by both offers (RFC 5440, section 7.3; RFC 8231, section 7.1.1).
use Rattle.std.specs.Prelude.{◌&&◌}
use Rattle.pcep_objects.specs.declared.offer.Offer.{Offer}
use Rattle.pcep_objects.specs.declared.offer.Agreed.{Agreed}

-- our Keepalive, their DeadTimer, and whether both are stateful
abbrev pub agreed_of : Offer → Offer → Agreed
agreed_of ours theirs = record { keepalive = ours.keepalive; dead = theirs.dead; stateful = ours.stateful && theirs.stateful }
