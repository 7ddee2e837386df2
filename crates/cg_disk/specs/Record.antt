-- The meaning of a record of calls: the bytes and the unsynced sectors at each moment.
use Rattle.std.specs.Prelude.{◌≡◌, ℕ, ◌+◌, ◌*◌, ◌/◌, Bool, true, false, ◌&&◌, ◌||◌, nat_lt, nat_le, ◌==◌, List, [], ◌∷◌, ◌++◌, length, take, drop, ◌%◌}
use Rattle.std.specs.List.{list_all}
use Rattle.cg_disk.specs.declared.disk.TheConstants.{SECTOR_BYTES}
use Rattle.cg_disk.specs.Disk.{Moment, History, sector}
use Rattle.cg_disk.specs.declared.record.Call.{Call}
use Rattle.cg_disk.specs.declared.record.Call.TheVariants.{Read, Write, Sync}

-- the bytes with others written at offset `at`
unfoldable pub overwritten : List ℕ → ℕ → List ℕ → List ℕ
overwritten bytes at new = take at bytes ++ new ++ drop (at + length new) bytes

-- the bytes before a call
abbrev pub before_call : Call → List ℕ → List ℕ
before_call Read bytes = bytes
before_call (Write at replaced) bytes = overwritten bytes (SECTOR_BYTES * at) replaced.items
before_call Sync bytes = bytes

-- the bytes before these calls
abbrev pub undone : List Call → List ℕ → List ℕ
undone [] bytes = bytes
undone (call ∷ calls) bytes = before_call call (undone calls bytes)

-- sector s is unsynced after a call, given whether it was before
abbrev pub is_marked : Call → ℕ → Bool → Bool
is_marked Read s unsynced = unsynced
is_marked (Write at replaced) s unsynced = unsynced || (nat_le at s && nat_lt s (at + length replaced.items / SECTOR_BYTES))
is_marked Sync s unsynced = false

-- sector s is unsynced after these calls
abbrev pub is_unsynced : List Call → ℕ → Bool → Bool
is_unsynced [] s unsynced = unsynced
is_unsynced (call ∷ calls) s unsynced = is_unsynced calls s (is_marked call s unsynced)

-- the moment after the first k calls, which led from a synced disk to these bytes
abbrev pub moment_after : List ℕ → List Call → ℕ → Moment
moment_after bytes calls k = record {
  content = sector (undone (drop k calls) bytes);
  unsynced = λ s. is_unsynced (take k calls) s false;
}

-- all these moments
abbrev pub recorded : List ℕ → List Call → History
recorded bytes calls = record { now = length calls; at = moment_after bytes calls }

-- the bytes that a call replaced are whole sectors, and lie within this size
abbrev pub is_within : ℕ → Call → Bool
is_within size Read = true
is_within size (Write at replaced) = nat_le (SECTOR_BYTES * at + length replaced.items) size && (length replaced.items % SECTOR_BYTES == 0)
is_within size Sync = true

-- the call is not a sync
abbrev pub is_unsynced_call : Call → Bool
is_unsynced_call Read = true
is_unsynced_call (Write at replaced) = true
is_unsynced_call Sync = false

-- the disk went back to these bytes and calls: the later calls, none of them a sync, are undone
pub record GoesBack (bytes : List ℕ) (calls : List Call) (now_bytes : List ℕ) (now_calls : List Call) : Type 0 where
  pub undone_calls : List Call
  pub split : calls ≡ now_calls ++ undone_calls
  pub undoes : now_bytes ≡ undone undone_calls bytes
  pub no_sync : list_all is_unsynced_call undone_calls ≡ true

-- the disk went back to the last moment at which it was synced
pub record GoesBackToSync (bytes : List ℕ) (calls : List Call) (now_bytes : List ℕ) : Type 0 where
  pub now_calls : List Call
  pub back : GoesBack bytes calls now_bytes now_calls
  pub synced : (s : ℕ) → is_unsynced now_calls s false ≡ false
