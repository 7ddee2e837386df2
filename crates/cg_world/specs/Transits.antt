-- The batch on its way between the desk and the store.
use Rattle.std.specs.Prelude.{Bool, true, false, Option, None, Some}
use Rattle.cg_store.specs.declared.batch.Batch.{Batch}
use Rattle.cg_store.specs.declared.receipt.Receipt.{Receipt}
use Rattle.cg_world.specs.declared.transit.Transit.{Transit}
use Rattle.cg_world.specs.declared.transit.Transit.TheVariants.{Empty, Taken, Appended}

-- the store appended it
abbrev pub is_appended : Transit → Bool
is_appended Empty = false
is_appended (Taken batch) = false
is_appended (Appended receipt) = true

-- the batch that waits for the store, and the transit without it
abbrev pub batch_in : Transit → Option Batch
batch_in Empty = None
batch_in (Taken batch) = Some batch
batch_in (Appended receipt) = None

abbrev pub without_batch : Transit → Transit
without_batch Empty = Empty
without_batch (Taken batch) = Empty
without_batch (Appended receipt) = Appended receipt

-- the receipt that waits for the desk, and the transit without it
abbrev pub receipt_in : Transit → Option Receipt
receipt_in Empty = None
receipt_in (Taken batch) = None
receipt_in (Appended receipt) = Some receipt

abbrev pub without_receipt : Transit → Transit
without_receipt Empty = Empty
without_receipt (Taken batch) = Taken batch
without_receipt (Appended receipt) = Empty
