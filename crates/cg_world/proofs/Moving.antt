-- The batch on its way between the desk and the store.
use Rattle.std.proofs.Common.{◌≡◌, ◌≢◌, inl, inr, ℕ, ◌+◌, Bool, true, false, List, [], length, Option, None, Some, refl, sym, ap, ◌∙◌, subst, arith}
use Rattle.std.proofs.lemmas.Bool.{eqb-false, false≢true}
use Rattle.std.specs.Prelude.{if◌then◌else◌, nat_eq, not}
use Rattle.cg_record.specs.declared.command.Command.{Command}
use Rattle.cg_store.specs.declared.batch.Batch.{Batch}
use Rattle.cg_store.specs.declared.receipt.Receipt.{Receipt}
use Rattle.cg_store.specs.declared.fault.StoreFault.{StoreFault}
use Rattle.cg_store.specs.declared.fault.StoreFault.TheVariants as store_fault
use Rattle.cg_log.specs.Room.{Room}
use Rattle.cg_store.specs.Batches.{has_room, refusal_of, room_after}
use Rattle.cg_store.specs.Faults.{IsToldOf}
use Rattle.cg_store.specs.Receipts.{batch_of}
use Rattle.cg_desk.specs.Books.{Books, IsTake, letting_go, next_batch, settling, taking}
use Rattle.cg_desk.specs.Desks.{Answer, State, Loading, Serving, Failed, IsOut, IsTakenFrom, failing_on, is_out, numbered_of, settle_on, settled_of}
use Rattle.cg_desk.specs.Flights.{Course, Idle, Away, Returned, is_away, unsettled}
use Rattle.cg_desk.specs.Fronts.{fitting}
use Rattle.cg_desk.specs.declared.fault.SettleFault.TheVariants as settle_fault
use Rattle.cg_desk.specs.declared.outgoing.Outgoing.{Outgoing}
use Rattle.cg_world.specs.Agreeing.{Agree, flying, flying_in, is_serving, moving, seen, stored_in}
use Rattle.cg_world.specs.Sights.{room_left, sight}
use Rattle.cg_world.specs.declared.world.World.{World}
use Rattle.cg_world.specs.Transits.{batch_in, is_appended, receipt_in, without_batch, without_receipt}
use Rattle.cg_world.specs.Turns.{IsIdle, broken, in_flight, take_from}
use Rattle.cg_world.specs.declared.transit.Transit.{Transit}
use Rattle.cg_world.specs.declared.transit.Transit.TheVariants.{Empty, Taken, Appended}

-- What the transit says of the desk.

-- a batch is in flight, and this many of the store's commands are not settled
pub record Flies (s : State) (batch : Batch) (failed : Bool) : Type 0 where
  pub out : IsOut s batch
  pub is_out_of : is_out s ≡ true
  pub first : batch.first ≡ settled_of s + 1
  pub commands : in_flight s ≡ batch.commands
  pub serving : is_serving s ≡ true
  pub serves : failed ≡ false

course-away : (c : Course) (settled : ℕ) (p : ℕ × List Command) → Some p ≡ flying_in c settled → (c ≡ Away p.1) × (p.0 ≡ settled + 1)
course-away Idle settled p is = absurd (cc)
course-away (Away commands) settled p is =
    let same : p ≡ (settled + 1, commands) = cc in
    (ap Away (sym (ap (λ (q : ℕ × List Command). q.1) same)), ap (λ (q : ℕ × List Command). q.0) same)
course-away (Returned commands) settled p is = absurd (cc)

away-flies : (b : Books) (batch : Batch) (failed : Bool) → (b.course ≡ Away batch.commands) × (batch.first ≡ b.settled + 1) → failed ≡ false → Flies (Serving b) batch failed
away-flies b batch failed away serves = record {
  out = away;
  is_out_of = ap is_away away.0;
  first = away.1;
  commands = ap unsettled away.0;
  serving = refl;
  serves = serves;
}

pub flies : (s : State) (t : Transit) (batch : Batch) (front : ℕ) (failed : Bool) → moving t ≡ Some (seen batch) → Agree s t front failed → Flies s batch failed
flies Loading t batch front failed is h = absurd (nothing-moves t batch is h.way)
  where
    nothing-moves : (t : Transit) (batch : Batch) → moving t ≡ Some (seen batch) → moving t ≡ None → ⊥
    nothing-moves t batch a b = cc
flies (Failed n m) t batch front failed is h = absurd (nothing-moves t batch is h.way)
  where
    nothing-moves : (t : Transit) (batch : Batch) → moving t ≡ Some (seen batch) → moving t ≡ None → ⊥
    nothing-moves t batch a b = cc
flies (Serving b) t batch front failed is h = away-flies b batch failed (course-away b.course b.settled (seen batch) (sym is ∙ h.way)) (h.serves refl)

-- Taking.

home-empty : (s : State) (t : Transit) → is_out s ≡ false → moving t ≡ flying s → t ≡ Empty
home-empty s Empty home way = refl
home-empty Loading (Taken batch) home way = absurd (cc)
home-empty Loading (Appended receipt) home way = absurd (cc)
home-empty (Failed n m) (Taken batch) home way = absurd (cc)
home-empty (Failed n m) (Appended receipt) home way = absurd (cc)
home-empty (Serving b) (Taken batch) home way = absurd (false≢true (sym home ∙ ap is_away (course-away b.course b.settled (seen batch) way).0))
home-empty (Serving b) (Appended receipt) home way = absurd (false≢true (sym home ∙ ap is_away (course-away b.course b.settled (seen (batch_of receipt)) way).0))

-- a batch was taken from a desk that had no batch in flight
pub record Took (s after : State) (t : Transit) (batch : Batch) (front : ℕ) (failed : Bool) : Type 0 where
  pub agree : Agree after (Taken batch) front failed
  pub taken : take_from s ≡ after
  pub home : is_appended t ≡ false
  pub idle : ¬ IsIdle s

some-commands : (b : Books) (batch : Batch) → batch.commands ≡ next_batch b.course b.queue → (b.course ≡ Idle) × (b.queue ≡ []) → ⊥
unfolding fitting
some-commands b batch is idle =
    let none : batch.commands ≡ [] = is ∙ ap (λ (c : Course). next_batch c b.queue) idle.0 ∙ ap (λ (q : List Command). next_batch Idle q) idle.1 in
    omega (arith, batch.whole.some, ap length none)

taking-took : (b c : Books) (t : Transit) (batch : Batch) (front : ℕ) (failed : Bool) → is_out (Serving b) ≡ false → IsTake b (Some batch) c → Agree (Serving b) t front failed → Took (Serving b) (Serving c) t batch front failed
unfolding taking
taking-took b c t batch front failed home is h =
    let empty : t ≡ Empty = home-empty (Serving b) t home h.way in
    let stored : front ≡ b.settled + length (stored_in t) = h.stored refl in
    record {
      agree = subst (λ (d : Books). Agree (Serving d) (Taken batch) front failed) (sym is.2) (record {
        way = ap Some (pair is.0 is.1);
        stored = λ _. stored ∙ ap (λ (u : Transit). b.settled + length (stored_in u)) empty;
        enough = h.enough;
        serves = h.serves;
        rests = h.rests;
      });
      taken = ap Serving (sym is.2);
      home = ap is_appended empty;
      idle = some-commands b batch is.1;
    }
  where
    pair : {x y : ℕ} {xs ys : List Command} → x ≡ y → xs ≡ ys → (let p : ℕ × List Command = (x, xs) in p) ≡ (y, ys)
    pair p q = cc

not-out : (b : Bool) → (b ≡ true → ⊥) → b ≡ false
not-out true h = absurd (h refl)
not-out false h = refl

pub took : (s after : State) (t : Transit) (batch : Batch) (front : ℕ) (failed : Bool) (o : Option Batch) → o ≡ Some batch → (is_out s ≡ true → ⊥) → IsTakenFrom s o after → Agree s t front failed → Took s after t batch front failed
took s after t batch front failed o some home is h = from-some s after (subst (λ (x : Option Batch). IsTakenFrom s x after) some is) h (not-out (is_out s) home)
  where
    from-some : (s after : State) → IsTakenFrom s (Some batch) after → Agree s t front failed → is_out s ≡ false → Took s after t batch front failed
    from-some Loading after is h home = absurd (cc is.0)
    from-some (Failed n m) after is h home = absurd (cc is.0)
    from-some (Serving b) Loading is h home = absurd is
    from-some (Serving b) (Failed n m) is h home = absurd is
    from-some (Serving b) (Serving c) is h home = taking-took b c t batch front failed home is h

-- Appending.

-- with this batch in flight a store refuses only if it has no room
pub refuses : (failed : Bool) (room : Room) (front first : ℕ) (commands : List Command) → failed ≡ false → first ≡ front + 1
    → refusal_of failed room front first commands ≡ (if has_room room front commands then None else Some store_fault.Full)
unfolding refusal_of
refuses failed room front first commands serves next =
    let order : nat_eq first (front + 1) ≡ true = ap (λ (k : ℕ). nat_eq k (front + 1)) next ∙ nat_eq-same (front + 1) in
    by-cases failed (nat_eq first (front + 1)) serves order
  where
    by-cases : (f o : Bool) → f ≡ false → o ≡ true
        → (if f then Some store_fault.Failed else (if o then (if has_room room front commands then None else Some store_fault.Full) else Some store_fault.OutOfOrder))
        ≡ (if has_room room front commands then None else Some store_fault.Full)
    by-cases true o serves order = absurd (false≢true (sym serves))
    by-cases false true serves order = refl
    by-cases false false serves order = absurd (false≢true order)

    nat_eq-same : (n : ℕ) → nat_eq n n ≡ true
    nat_eq-same n = decided (nat_eq n n) refl
      where
        decided : (b : Bool) → nat_eq n n ≡ b → nat_eq n n ≡ true
        decided true e = e
        decided false e = absurd (eqb-false n n e refl)

-- what such a refusal says of the room
pub Means : Bool → StoreFault → Type 0
Means room store_fault.Memory = room ≡ true
Means room store_fault.Device = room ≡ true
Means room store_fault.Full = room ≡ false
Means room store_fault.OutOfOrder = ⊥
Means room store_fault.Failed = ⊥

told-means : (room : Bool) (fault : StoreFault) → IsToldOf (if room then None else Some store_fault.Full) fault → Means room fault
unfolding Means
told-means true fault (inl is) = subst (λ (f : StoreFault). Means true f) (sym is) refl
told-means true fault (inr is) = subst (λ (f : StoreFault). Means true f) (sym is) refl
told-means false fault is = subst (λ (f : StoreFault). Means false f) (sym is) refl

pub refusal-means : (failed : Bool) (room : Room) (front first : ℕ) (commands : List Command) (fault : StoreFault) → failed ≡ false → first ≡ front + 1
    → IsToldOf (refusal_of failed room front first commands) fault → Means (has_room room front commands) fault
refusal-means failed room front first commands fault serves next told =
    told-means (has_room room front commands) fault (subst (λ (o : Option StoreFault). IsToldOf o fault) (refuses failed room front first commands serves next) told)

pub none-means : (failed : Bool) (room : Room) (front first : ℕ) (commands : List Command) → failed ≡ false → first ≡ front + 1
    → refusal_of failed room front first commands ≡ None → has_room room front commands ≡ true
none-means failed room front first commands serves next none = holds (has_room room front commands) (sym (refuses failed room front first commands serves next) ∙ none)
  where
    holds : (r : Bool) → (if r then None else Some store_fault.Full) ≡ None → r ≡ true
    holds true is = refl
    holds false is = absurd (cc is)

-- the batch that waits for the store
pub waiting-moves : (t : Transit) (batch : Batch) → batch_in t ≡ Some batch → (moving t ≡ Some (seen batch)) × (stored_in t ≡ []) × (is_appended t ≡ false)
waiting-moves Empty batch is = absurd (cc is)
waiting-moves (Taken b) batch is = (let same : b ≡ batch = cc in ap (λ (x : Batch). Some (seen x)) same, refl, refl)
waiting-moves (Appended receipt) batch is = absurd (cc is)

-- the batch that is to be appended, with what the store returns for it
pub record Goes (s : State) (t : Transit) (batch : Batch) (front : ℕ) (failed : Bool) : Type 0 where
  pub flight : Flies s batch failed
  pub waits : is_appended t ≡ false
  pub next : batch.first ≡ front + 1
  pub front_is : front ≡ settled_of s
  pub taken : (if is_appended t then false else is_out s) ≡ true

pub goes : (s : State) (t : Transit) (batch : Batch) (front : ℕ) (failed : Bool) → batch_in t ≡ Some batch → Agree s t front failed → Goes s t batch front failed
goes s t batch front failed is h =
    let moved : (moving t ≡ Some (seen batch)) × (stored_in t ≡ []) × (is_appended t ≡ false) = waiting-moves t batch is in
    let f : Flies s batch failed = flies s t batch front failed moved.0 h in
    let front_is : front ≡ settled_of s = omega (arith, h.stored f.serving, ap length moved.1) in
    record {
      flight = f;
      waits = moved.2;
      next = f.first ∙ ap (λ (k : ℕ). k + 1) (sym front_is);
      front_is = front_is;
      taken = ap (λ (b : Bool). if b then false else is_out s) moved.2 ∙ f.is_out_of;
    }

-- Settling.

pub receipt-moves : (t : Transit) (receipt : Receipt) → receipt_in t ≡ Some receipt → (moving t ≡ Some (seen (batch_of receipt))) × (stored_in t ≡ (batch_of receipt).commands) × (is_appended t ≡ true)
receipt-moves Empty receipt is = absurd (cc is)
receipt-moves (Taken b) receipt is = absurd (cc is)
receipt-moves (Appended r) receipt is =
    let same : r ≡ receipt = cc in
    (ap (λ (x : Receipt). Some (seen (batch_of x))) same, ap (λ (x : Receipt). (batch_of x).commands) same, refl)

settled-at : (s : State) (count front : ℕ) (failed : Bool) → is_serving s ≡ true → front ≡ settled_of s + count → failed ≡ false → Agree (settle_on s count).after Empty front failed
unfolding settle_on settling letting_go
settled-at Loading count front failed serving front_is serves = absurd (false≢true serving)
settled-at (Failed n m) count front failed serving front_is serves = absurd (false≢true serving)
settled-at (Serving b) count front failed serving front_is serves = record { way = refl; stored = λ _. omega (arith, front_is); enough = omega (arith, front_is); serves = λ _. serves; rests = λ off. absurd (false≢true (sym off)) }

pub settled-agrees : (s after : State) (out : List Outgoing) (t : Transit) (receipt : Receipt) (front : ℕ) (failed : Bool) → receipt_in t ≡ Some receipt → Agree s t front failed
    → settle_on s (length (batch_of receipt).commands) ≡ record { after = after; out = out } → Agree after Empty front failed
settled-agrees s after out t receipt front failed is h answers =
    let moved : (moving t ≡ Some (seen (batch_of receipt))) × (stored_in t ≡ (batch_of receipt).commands) × (is_appended t ≡ true) = receipt-moves t receipt is in
    let f : Flies s (batch_of receipt) failed = flies s t (batch_of receipt) front failed moved.0 h in
    subst (λ (a : Answer). Agree a.after Empty front failed) answers
    (settled-at s (length (batch_of receipt).commands) front failed f.serving (h.stored f.serving ∙ ap (λ (l : List Command). settled_of s + length l) moved.1) f.serves)

-- what a store returns for the batch that waits for it
module _ (s : State) (t : Transit) (batch : Batch) (room : Room) (front : ℕ) (failed : Bool) (waits : batch_in t ≡ Some batch) (h : Agree s t front failed) where
  goes-now : Goes s t batch front failed
  goes-now = goes s t batch front failed waits h

  pub its-commands : in_flight s ≡ batch.commands
  its-commands = goes-now.flight.commands

  pub it-was-taken : (if is_appended t then false else is_out s) ≡ true
  it-was-taken = goes-now.taken

  -- the store still serves, so it has its room
  room-is : room_left failed room ≡ room
  room-is = ap (λ (b : Bool). room_left b room) goes-now.flight.serves

  told-of : (fault : StoreFault) → IsToldOf (refusal_of failed room front batch.first batch.commands) fault → Means (has_room (room_left failed room) (settled_of s) (in_flight s)) fault
  told-of fault told =
      subst (λ (r : Room). Means (has_room r (settled_of s) (in_flight s)) fault) (sym room-is)
      (subst (λ (cs : List Command). Means (has_room room (settled_of s) cs) fault) (sym goes-now.flight.commands)
      (subst (λ (n : ℕ). Means (has_room room n batch.commands) fault) goes-now.front_is
      (refusal-means failed room front batch.first batch.commands fault goes-now.flight.serves goes-now.next told)))

  pub never-out-of-order : (fault : StoreFault) → fault ≡ store_fault.OutOfOrder → IsToldOf (refusal_of failed room front batch.first batch.commands) fault → ⊥
  unfolding Means
  never-out-of-order fault same told = subst (λ (f : StoreFault). Means (has_room (room_left failed room) (settled_of s) (in_flight s)) f) same (told-of fault told)

  pub never-failed : (fault : StoreFault) → fault ≡ store_fault.Failed → IsToldOf (refusal_of failed room front batch.first batch.commands) fault → ⊥
  unfolding Means
  never-failed fault same told = subst (λ (f : StoreFault). Means (has_room (room_left failed room) (settled_of s) (in_flight s)) f) same (told-of fault told)

  pub full-for : (fault : StoreFault) → fault ≡ store_fault.Full → IsToldOf (refusal_of failed room front batch.first batch.commands) fault
      → has_room (room_left failed room) (settled_of s) (in_flight s) ≡ false
  unfolding Means
  full-for fault same told = subst (λ (f : StoreFault). Means (has_room (room_left failed room) (settled_of s) (in_flight s)) f) same (told-of fault told)

  pub room-for : (fault : StoreFault) → fault ≡ store_fault.Device → IsToldOf (refusal_of failed room front batch.first batch.commands) fault
      → has_room (room_left failed room) (settled_of s) (in_flight s) ≡ true
  unfolding Means
  room-for fault same told = subst (λ (f : StoreFault). Means (has_room (room_left failed room) (settled_of s) (in_flight s)) f) same (told-of fault told)

  pub done-for : refusal_of failed room front batch.first batch.commands ≡ None → has_room (room_left failed room) (settled_of s) (in_flight s) ≡ true
  done-for none =
      let fit : has_room room front batch.commands ≡ true = none-means failed room front batch.first batch.commands goes-now.flight.serves goes-now.next none in
      ap (λ (r : Room). has_room r (settled_of s) (in_flight s)) room-is
      ∙ ap (λ (cs : List Command). has_room room (settled_of s) cs) goes-now.flight.commands
      ∙ ap (λ (n : ℕ). has_room room n batch.commands) (sym goes-now.front_is)
      ∙ fit

  -- the room after the batch was appended
  pub appended-room : (failed_now : Bool) (room_now : Room) → failed_now ≡ failed → room_now ≡ room_after room batch.commands
      → room_left failed_now room_now ≡ room_after (room_left failed room) (in_flight s)
  appended-room failed_now room_now serves grown =
      ap (λ (b : Bool). room_left b room_now) (serves ∙ goes-now.flight.serves)
      ∙ grown
      ∙ ap (λ (cs : List Command). room_after room cs) (sym goes-now.flight.commands)
      ∙ ap (λ (r : Room). room_after r (in_flight s)) (sym room-is)

-- the transit is empty after its batch was removed
pub batch-out : (t t_now : Transit) (batch : Batch) → batch_in t ≡ Some batch → t_now ≡ without_batch t → t_now ≡ Empty
batch-out Empty t_now batch is now = absurd (cc is)
batch-out (Taken b) t_now batch is now = now
batch-out (Appended receipt) t_now batch is now = absurd (cc is)

pub receipt-out : (t t_now : Transit) (receipt : Receipt) → receipt_in t ≡ Some receipt → t_now ≡ without_receipt t → t_now ≡ Empty
receipt-out Empty t_now receipt is now = absurd (cc is)
receipt-out (Taken b) t_now receipt is now = absurd (cc is)
receipt-out (Appended r) t_now receipt is now = now

-- a world whose disk failed
pub failed-turn : (s after : State) (stored : Bool) (t_now : Transit) (out : List Outgoing) → t_now ≡ Empty → after ≡ Failed (numbered_of s) (settled_of s) → out ≡ failing_on s
    → broken (record { desk = s; appended = stored }) ≡ record { after = record { desk = after; appended = is_appended t_now }; at_once = out; left = [] }
failed-turn s after stored t_now out empty is left =
    let home : is_appended t_now ≡ false = ap is_appended empty in
    cc

-- such a world agrees with its store
pub failed-agrees : (s after : State) (t t_now : Transit) (front later : ℕ) (failed failed_now : Bool) → Agree s t front failed → after ≡ Failed (numbered_of s) (settled_of s) → t_now ≡ Empty → later ≡ front → failed_now ≡ true
    → Agree after t_now later failed_now
failed-agrees s after t t_now front later failed failed_now h is empty same broken =
    subst (λ (x : State). Agree x t_now later failed_now) (sym is)
    (subst (λ (x : Transit). Agree (Failed (numbered_of s) (settled_of s)) x later failed_now) (sym empty)
    (record { way = refl; stored = λ on. absurd (false≢true on); enough = omega (arith, h.enough, same); serves = λ on. absurd (false≢true on); rests = λ _. broken }))

-- a store has failed where its desk does not serve
pub failed-is : (s : State) (t : Transit) (front : ℕ) (failed : Bool) → Agree s t front failed → not (is_serving s) ≡ failed
failed-is s t front failed h = by-case (is_serving s) refl
  where
    by-case : (b : Bool) → is_serving s ≡ b → not (is_serving s) ≡ failed
    by-case true is = ap not is ∙ sym (h.serves is)
    by-case false is = ap not is ∙ sym (h.rests is)

-- a world whose batch was settled
pub settled-world : (s after : State) (out : List Outgoing) (t t_now : Transit) (receipt : Receipt) (front : ℕ) (failed : Bool) → receipt_in t ≡ Some receipt → t_now ≡ without_receipt t → Agree s t front failed
    → settle_on s (length (batch_of receipt).commands) ≡ record { after = after; out = out } → Agree after t_now front failed
settled-world s after out t t_now receipt front failed is now h answers =
    subst (λ (x : Transit). Agree after x front failed) (sym (receipt-out t t_now receipt is now)) (settled-agrees s after out t receipt front failed is h answers)

-- a batch that was appended is in flight
way-out : (s : State) (t : Transit) → moving t ≡ flying s → is_appended t ≡ true → is_out s ≡ true
way-out s Empty way is = absurd (false≢true is)
way-out s (Taken batch) way is = absurd (false≢true is)
way-out Loading (Appended receipt) way is = absurd (cc)
way-out (Failed n m) (Appended receipt) way is = absurd (cc)
way-out (Serving b) (Appended receipt) way is = ap is_away (course-away b.course b.settled (seen (batch_of receipt)) way).0

pub sound-world : {D : Type 0} {g : _} (w : World D g) → (sight w).appended ≡ true → is_out (sight w).desk ≡ true
sound-world w is = way-out (sight w).desk w.transit w.agree.way is
