-- Where few bytes lie, and where many.
use Rattle.std.specs.Prelude.{ℕ, ◌≤◌, ⊤, List, take}
use Rattle.cg_names.specs.declared.small_bytes.Storage.{Storage}
use Rattle.cg_names.specs.declared.small_bytes.Storage.TheVariants.{Inline, Heap}

-- the bytes: the first ones of the array, or those of the allocation
abbrev pub bytes_of : {room : ℕ} → Storage room → List ℕ
bytes_of (Inline len bytes) = take len bytes
bytes_of (Heap bytes) = bytes.items

-- the array has room for that many bytes
abbrev pub Fits : {room : ℕ} → Storage room → Type 0
Fits {room} (Inline len bytes) = len ≤ room
Fits (Heap bytes) = ⊤
