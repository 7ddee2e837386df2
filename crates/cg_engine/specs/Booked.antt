-- The model of a store with the book of its ledger.
use Rattle.std.specs.Prelude.{ℕ, Option}
use Rattle.cg_store.specs.declared.store.Store.{Store}
use Rattle.cg_engine.specs.declared.trail.appended.Appended.{Appended}
use Rattle.cg_engine.specs.declared.booked.BookedStore.{BookedStore}

abbrev pub store_in : {D L : Type 0} {g : _} → BookedStore D L g → Store D g
store_in booked = booked.store

-- the number of the commands that were loaded
abbrev pub opening_in : {D L : Type 0} {g : _} → BookedStore D L g → ℕ
opening_in booked = booked.opening

-- the number of the commands that were appended since then
abbrev pub since_in : {D L : Type 0} {g : _} → BookedStore D L g → ℕ
since_in booked = booked.book.total

abbrev pub appended_of : {D L : Type 0} {g : _} → BookedStore D L g → Option Appended
appended_of booked = booked.appended
