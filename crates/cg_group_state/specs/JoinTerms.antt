-- What a JOIN sets for its member: the timeouts (KIP-62) and the protocols.
use Rattle.std.specs.Prelude.{Bool, ◌||◌, nat_lt}
use Rattle.cg_record.specs.declared.millis.TheConstants.{SESSION_MS_MIN, SESSION_MS_MAX}
use Rattle.cg_group_state.specs.declared.member.Member.{Member}
use Rattle.cg_request.specs.declared.request_fields.JoinRequest.{JoinRequest}

-- the member with the timeouts and protocols of this JOIN; its client stays
abbrev pub updated : JoinRequest → Member → Member
updated r m = record m { session = r.session_ms; rebalance = r.rebalance; protocols = r.protocols }

-- the session timeout is outside the coordinator's limits
abbrev pub is_session_refused : JoinRequest → Bool
is_session_refused r = nat_lt r.session_ms SESSION_MS_MIN || nat_lt SESSION_MS_MAX r.session_ms
