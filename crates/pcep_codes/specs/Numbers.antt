-- The numbers of the protocol: those that the constants of the code are.
use Rattle.std.specs.Prelude.{◌≡◌}
use Rattle.pcep_codes.specs.declared.TheConstants.{VERSION}
use Rattle.pcep_codes.specs.declared.messages.TheConstants as messages
use Rattle.pcep_codes.specs.declared.classes.TheConstants as classes
use Rattle.pcep_codes.specs.declared.kinds.TheConstants as kinds
use Rattle.pcep_codes.specs.declared.subobjects.TheConstants as subobjects
use Rattle.pcep_codes.specs.declared.tlvs.TheConstants as tlvs
use Rattle.pcep_codes.specs.declared.flags.TheConstants as flags
use Rattle.pcep_codes.specs.declared.metrics.TheConstants as metrics
use Rattle.pcep_codes.specs.declared.no_paths.TheConstants as no_paths
use Rattle.pcep_codes.specs.declared.notices.TheConstants as notices
use Rattle.pcep_codes.specs.declared.reasons.TheConstants as reasons
use Rattle.pcep_codes.specs.declared.errors.TheConstants as errors
use Rattle.pcep_codes.specs.declared.timers.TheConstants as timers

-- types of messages (RFC 5440, 6; RFC 8231, 6)
pub record AreMessages : Type 0 where
  pub opening : messages.OPEN ≡ 1
  pub keepalive : messages.KEEPALIVE ≡ 2
  pub pcreq : messages.PCREQ ≡ 3
  pub pcrep : messages.PCREP ≡ 4
  pub pcntf : messages.PCNTF ≡ 5
  pub pcerr : messages.PCERR ≡ 6
  pub close : messages.CLOSE ≡ 7
  pub pcrpt : messages.PCRPT ≡ 10
  pub pcupd : messages.PCUPD ≡ 11

-- classes of objects (RFC 5440, 7.3 to 7.17; RFC 5520, 3.2.2; RFC 5521, 2.1)
pub record AreClasses : Type 0 where
  pub opening : classes.OPEN ≡ 1
  pub rp : classes.RP ≡ 2
  pub no_path : classes.NO_PATH ≡ 3
  pub end_points : classes.END_POINTS ≡ 4
  pub bandwidth : classes.BANDWIDTH ≡ 5
  pub metric : classes.METRIC ≡ 6
  pub ero : classes.ERO ≡ 7
  pub rro : classes.RRO ≡ 8
  pub lspa : classes.LSPA ≡ 9
  pub iro : classes.IRO ≡ 10
  pub svec : classes.SVEC ≡ 11
  pub notification : classes.NOTIFICATION ≡ 12
  pub pcep_error : classes.PCEP_ERROR ≡ 13
  pub load_balancing : classes.LOAD_BALANCING ≡ 14
  pub close : classes.CLOSE ≡ 15
  pub path_key : classes.PATH_KEY ≡ 16
  pub xro : classes.XRO ≡ 17

-- types of objects (RFC 5440, 7.6 and 7.7)
pub record AreKinds : Type 0 where
  pub first : kinds.FIRST ≡ 1
  pub bandwidth_in_use : kinds.BANDWIDTH_IN_USE ≡ 2
  pub end_points_ipv6 : kinds.END_POINTS_IPV6 ≡ 2

-- types of subobjects and the bit before them (RFC 3209, 4.3.3; RFC 5521, 2.1; RFC 5520, 3.1)
pub record AreSubobjects : Type 0 where
  pub ipv4 : subobjects.IPV4 ≡ 1
  pub ipv6 : subobjects.IPV6 ≡ 2
  pub as_number : subobjects.AS_NUMBER ≡ 32
  pub srlg : subobjects.SRLG ≡ 34
  pub path_key_ipv4 : subobjects.PATH_KEY_IPV4 ≡ 64
  pub path_key_ipv6 : subobjects.PATH_KEY_IPV6 ≡ 65
  pub first_bit : subobjects.FIRST_BIT ≡ 128

-- types of TLVs (RFC 5440, 7.5; RFC 8231, 7.1.1)
pub record AreTlvs : Type 0 where
  pub no_path_vector : tlvs.NO_PATH_VECTOR ≡ 1
  pub stateful : tlvs.STATEFUL ≡ 16

-- flags (RFC 5440, 7.2, 7.4.1 and 7.8; RFC 5441, 4.1; RFC 5520, 3.2.1)
pub record AreFlags : Type 0 where
  pub must : flags.MUST ≡ 2
  pub bound : flags.BOUND ≡ 1
  pub computed : flags.COMPUTED ≡ 2
  pub other_path : flags.OTHER_PATH ≡ 24
  pub vspt : flags.VSPT ≡ 64
  pub path_key : flags.PATH_KEY ≡ 256

-- types of METRIC (RFC 5440, 7.8)
pub record AreMetrics : Type 0 where
  pub igp : metrics.IGP ≡ 1
  pub te : metrics.TE ≡ 2
  pub hops : metrics.HOPS ≡ 3

-- natures and bits of NO-PATH (RFC 5440, 7.5; RFC 5441, 7; RFC 5520, 3.3)
pub record AreNoPaths : Type 0 where
  pub none_found : no_paths.NONE_FOUND ≡ 0
  pub chain_broken : no_paths.CHAIN_BROKEN ≡ 1
  pub unknown_target : no_paths.UNKNOWN_TARGET ≡ 2
  pub unknown_source : no_paths.UNKNOWN_SOURCE ≡ 4
  pub chain_unavailable : no_paths.CHAIN_UNAVAILABLE ≡ 8
  pub key_failed : no_paths.KEY_FAILED ≡ 16

-- notifications (RFC 5440, 7.14)
pub record AreNotices : Type 0 where
  pub cancelled : notices.CANCELLED ≡ (1, 1)
  pub busy : notices.BUSY ≡ (1, 2)

-- reasons of CLOSE (RFC 5440, 7.17)
pub record AreReasons : Type 0 where
  pub unexplained : reasons.UNEXPLAINED ≡ 1
  pub dead : reasons.DEAD ≡ 2
  pub malformed : reasons.MALFORMED ≡ 3
  pub unknown_messages : reasons.UNKNOWN_MESSAGES ≡ 5

-- errors (RFC 5440, 7.15; RFC 5441; RFC 8231, 8.5)
pub record AreErrors : Type 0 where
  pub session : errors.SESSION ≡ 1
  pub invalid_open : errors.INVALID_OPEN ≡ 1
  pub open_wait_expired : errors.OPEN_WAIT_EXPIRED ≡ 2
  pub negotiable : errors.NEGOTIABLE ≡ 4
  pub not_negotiable : errors.NOT_NEGOTIABLE ≡ 6
  pub keep_wait_expired : errors.KEEP_WAIT_EXPIRED ≡ 7
  pub other_version : errors.OTHER_VERSION ≡ 8
  pub unknown_message : errors.UNKNOWN_MESSAGE ≡ (2, 0)
  pub unknown_class : errors.UNKNOWN_CLASS ≡ (3, 1)
  pub unknown_kind : errors.UNKNOWN_KIND ≡ (3, 2)
  pub class_not_served : errors.CLASS_NOT_SERVED ≡ (4, 1)
  pub kind_not_served : errors.KIND_NOT_SERVED ≡ (4, 2)
  pub parameter_not_served : errors.PARAMETER_NOT_SERVED ≡ (4, 4)
  pub rp_missing : errors.RP_MISSING ≡ (6, 1)
  pub end_points_missing : errors.END_POINTS_MISSING ≡ (6, 3)
  pub unknown_request : errors.UNKNOWN_REQUEST ≡ (8, 0)
  pub second_open : errors.SECOND_OPEN ≡ (9, 0)
  pub p_clear : errors.P_CLEAR ≡ (10, 1)
  pub chain_failed : errors.CHAIN_FAILED ≡ (13, 1)
  pub update_not_offered : errors.UPDATE_NOT_OFFERED ≡ (19, 2)
  pub report_not_offered : errors.REPORT_NOT_OFFERED ≡ (19, 5)

-- times of a session, in seconds (RFC 5440, 6.9, 7.3 and appendix A)
pub record AreTimers : Type 0 where
  pub keepalive : timers.KEEPALIVE ≡ 30
  pub dead : timers.DEAD ≡ 120
  pub wait : timers.WAIT ≡ 60
  pub unknown_span : timers.UNKNOWN_SPAN ≡ 59

pub record CodesAreNumbers : Type 0 where
  pub version : VERSION ≡ 1
  pub messages : AreMessages
  pub classes : AreClasses
  pub kinds : AreKinds
  pub subobjects : AreSubobjects
  pub tlvs : AreTlvs
  pub flags : AreFlags
  pub metrics : AreMetrics
  pub no_paths : AreNoPaths
  pub notices : AreNotices
  pub reasons : AreReasons
  pub errors : AreErrors
  pub timers : AreTimers
