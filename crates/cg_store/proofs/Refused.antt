-- When a store refuses a batch.
use Rattle.std.proofs.Common.{◌≡◌, ◌≢◌, ◌⊎◌, inl, inr, ℕ, ◌+◌, ◌<◌, ◌≤◌, ◌∙◌, sym, refl, Bool, true, false, ◌&&◌, nat_le, List, length, Some, None, arith}
use Rattle.std.proofs.lemmas.Bool.Decides.{nat_tests}
use Rattle.cg_log.specs.Room.{Room, room_at, has_room as log_has_room}
use Rattle.cg_log.specs.declared.numbers.TheConstants.{COMMAND_NUMBER_MAX}
use Rattle.cg_record.specs.Spelling.{spelling}
use Rattle.cg_record.specs.declared.command.Command.{Command}
use Rattle.cg_root.specs.declared.root.Root.{Root}
use Rattle.cg_store.specs.Batches.{has_room, refusal_of}
use Rattle.cg_store.specs.declared.fault.StoreFault.TheVariants.{Full, OutOfOrder, Failed}

-- ---- the room

module _ (sectors size : ℕ) (size_is : sectors ≡ size) (taken : List ℕ) (root : Root) (end front count : ℕ) (commands : List Command) (payload : List ℕ) (bytes : payload ≡ spelling commands) (count_is : count ≡ length commands) where
  same_room : log_has_room (room_at sectors taken root end) (length (spelling commands)) ≡ log_has_room (room_at size taken root end) (length payload)
  same_room i = log_has_room (room_at (size_is i) taken root end) (length (sym bytes i))

  pub has-room : log_has_room (room_at size taken root end) (length payload) ≡ true → front + count ≤ COMMAND_NUMBER_MAX → has_room (room_at sectors taken root end) front commands ≡ true
  has-room room few =
      let one : log_has_room (room_at sectors taken root end) (length (spelling commands)) ≡ true = same_room ∙ room in
      let two : nat_le (front + length commands) COMMAND_NUMBER_MAX ≡ true = grind (arith, nat_tests) in
      rw (one, two)

  pub has-no-room : (COMMAND_NUMBER_MAX < front + count) ⊎ (log_has_room (room_at size taken root end) (length payload) ≡ false) → has_room (room_at sectors taken root end) front commands ≡ false
  has-no-room (inl many) =
      let two : nat_le (front + length commands) COMMAND_NUMBER_MAX ≡ false = grind (arith, nat_tests) in
      last_false (log_has_room (room_at sectors taken root end) (length (spelling commands))) (nat_le (front + length commands) COMMAND_NUMBER_MAX) two
    where
      last_false : (a b : Bool) → b ≡ false → (a && b) ≡ false
      last_false true b is = is
      last_false false b is = refl
  has-no-room (inr none) =
      let one : log_has_room (room_at sectors taken root end) (length (spelling commands)) ≡ false = same_room ∙ none in
      rw one

-- ---- the refusal

module _ (failed : Bool) (room : Room) (front first : ℕ) (commands : List Command) where
  pub refused-failed : failed ≡ true → refusal_of failed room front first commands ≡ Some Failed
  unfolding refusal_of
  refused-failed has = rw has

  pub refused-order : failed ≡ false → first ≢ front + 1 → refusal_of failed room front first commands ≡ Some OutOfOrder
  unfolding refusal_of
  refused-order serves other = grind (arith, nat_tests)

  pub refused-full : failed ≡ false → first ≡ front + 1 → has_room room front commands ≡ false → refusal_of failed room front first commands ≡ Some Full
  unfolding refusal_of
  refused-full serves next none = grind (arith, nat_tests)

  pub refused-not : failed ≡ false → first ≡ front + 1 → has_room room front commands ≡ true → refusal_of failed room front first commands ≡ None
  unfolding refusal_of
  refused-not serves next some = grind (arith, nat_tests)
