-- The model of a receipt.
use Rattle.cg_store.specs.declared.batch.Batch.{Batch}
use Rattle.cg_store.specs.declared.receipt.Receipt.{Receipt}

-- the appended batch
abbrev pub batch_of : Receipt → Batch
batch_of receipt = receipt.batch
