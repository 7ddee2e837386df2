-- Which entries a SYNC can have.
use Rattle.std.specs.Prelude.{Bool, List}
use Rattle.cg_record.specs.declared.roster.TheConstants.{MEMBERS_MAX}
use Rattle.cg_record.specs.Distinct.{AreDistinct}
use Rattle.cg_request.specs.declared.request_fields.SyncEntry.{SyncEntry}
use Rattle.cg_request.specs.Names.{is_same}

-- both entries are for one member
abbrev pub share_member : SyncEntry → SyncEntry → Bool
share_member a b = is_same a.member b.member

-- at most `MEMBERS_MAX` entries, all for different members
abbrev pub AreSyncEntries : List SyncEntry → Type 0
AreSyncEntries entries = AreDistinct share_member 0 MEMBERS_MAX entries
