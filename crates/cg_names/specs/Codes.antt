-- The error codes of replies (Kafka protocol guide, "Error codes").
use Rattle.std.specs.Prelude.{ℕ, ℤ, pos, negsuc, List, codes}
use Rattle.cg_names.specs.declared.code.Code.{Code}
use Rattle.cg_names.specs.declared.code.Code.TheVariants.{UnknownServerError, NoError, OffsetMetadataTooLarge, CoordinatorLoadInProgress, CoordinatorNotAvailable, IllegalGeneration, InconsistentGroupProtocol, InvalidGroupId, UnknownMemberId, InvalidSessionTimeout, RebalanceInProgress, InvalidRequest, NonEmptyGroup, GroupIdNotFound, GroupMaxSizeReached, FencedInstanceId}

-- the number of a code; `negsuc 0` is -1
abbrev pub number_of : Code → ℤ
number_of UnknownServerError = negsuc 0
number_of NoError = pos 0
number_of OffsetMetadataTooLarge = pos 12
number_of CoordinatorLoadInProgress = pos 14
number_of CoordinatorNotAvailable = pos 15
number_of IllegalGeneration = pos 22
number_of InconsistentGroupProtocol = pos 23
number_of InvalidGroupId = pos 24
number_of UnknownMemberId = pos 25
number_of InvalidSessionTimeout = pos 26
number_of RebalanceInProgress = pos 27
number_of InvalidRequest = pos 42
number_of NonEmptyGroup = pos 68
number_of GroupIdNotFound = pos 69
number_of GroupMaxSizeReached = pos 81
number_of FencedInstanceId = pos 82

-- the name of a code, as its ASCII bytes
abbrev pub name_of : Code → List ℕ
name_of UnknownServerError = codes "UNKNOWN_SERVER_ERROR"
name_of NoError = codes "NONE"
name_of OffsetMetadataTooLarge = codes "OFFSET_METADATA_TOO_LARGE"
name_of CoordinatorLoadInProgress = codes "COORDINATOR_LOAD_IN_PROGRESS"
name_of CoordinatorNotAvailable = codes "COORDINATOR_NOT_AVAILABLE"
name_of IllegalGeneration = codes "ILLEGAL_GENERATION"
name_of InconsistentGroupProtocol = codes "INCONSISTENT_GROUP_PROTOCOL"
name_of InvalidGroupId = codes "INVALID_GROUP_ID"
name_of UnknownMemberId = codes "UNKNOWN_MEMBER_ID"
name_of InvalidSessionTimeout = codes "INVALID_SESSION_TIMEOUT"
name_of RebalanceInProgress = codes "REBALANCE_IN_PROGRESS"
name_of InvalidRequest = codes "INVALID_REQUEST"
name_of NonEmptyGroup = codes "NON_EMPTY_GROUP"
name_of GroupIdNotFound = codes "GROUP_ID_NOT_FOUND"
name_of GroupMaxSizeReached = codes "GROUP_MAX_SIZE_REACHED"
name_of FencedInstanceId = codes "FENCED_INSTANCE_ID"
