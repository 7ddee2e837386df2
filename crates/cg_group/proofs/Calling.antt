-- Facts about the parked calls of all members, and the stages that preserve them.
use Rattle.std.proofs.Common.{◌≡◌, ℕ, Bool, true, false, List, [], ◌∷◌, ◌++◌, map, filter, cond, refl}
use Rattle.std.specs.Prelude.{if◌then◌else◌, is_some}
use Rattle.cg_group_state.specs.declared.calls.Calls.{Calls}
use Rattle.cg_group_state.specs.declared.calls.Calls.TheVariants.{Syncs}
use Rattle.cg_request.specs.declared.event.Event.{Event}
use Rattle.cg_group_state.specs.declared.member.Member.{Member}
use Rattle.cg_group_state.specs.declared.member.Waits.{Waits}
use Rattle.cg_group_state.specs.declared.member.Waits.TheVariants.{Nothing, Join, Sync}
use Rattle.cg_request.specs.declared.request_fields.SyncEntry.{SyncEntry}
use Rattle.cg_group_table.specs.Kept.{Each}
use Rattle.cg_group.proofs.Asked.{has_named}
use Rattle.cg_group_state.specs.Membership.{has_id, has_instance, with_member, seated}
use Rattle.cg_group_state.specs.Assignments.{assigned}
use Rattle.cg_group_state.specs.Waiting.{after_answer, after_answers, answered, called, is_waiting}

-- a test of the id and the parked call of each member
abbrev pub AllWaits : (List ℕ → Waits → Bool) → List Member → Type 0
AllWaits q ms = Each (λ m. q m.id m.waits ≡ true) ms

-- no parked call is a SYNC
abbrev pub no_sync : List ℕ → Waits → Bool
no_sync id Nothing = true
no_sync id (Join t) = true
no_sync id (Sync t) = false

-- each parked SYNC is one of these events, and gave this generation of this group
abbrev pub is_named_wait : List (Event × ℕ) → List ℕ → ℕ → List ℕ → Waits → Bool
is_named_wait events group generation id Nothing = true
is_named_wait events group generation id (Join t) = true
is_named_wait events group generation id (Sync t) = has_named events group generation id t

named_from_none : (events : List (Event × ℕ)) (group : List ℕ) (generation : ℕ) (id : List ℕ) (w : Waits) → no_sync id w ≡ true → is_named_wait events group generation id w ≡ true
named_from_none events group generation id Nothing e = refl
named_from_none events group generation id (Join t) e = refl
named_from_none events group generation id (Sync t) e = cc

pub all-named : (events : List (Event × ℕ)) (group : List ℕ) (generation : ℕ) (ms : List Member) → AllWaits no_sync ms → AllWaits (is_named_wait events group generation) ms
all-named events group generation [] h = tt
all-named events group generation (m ∷ ms) h = (named_from_none events group generation m.id m.waits h.0, all-named events group generation ms h.1)

pub each-filter : {X : Type 0} (P : X → Type 0) (stays : X → Bool) (xs : List X) → Each P xs → Each P (filter stays xs)
each-filter P stays [] h = tt
each-filter P stays (x ∷ xs) h =
    elim (stays x) as (λ b. Each P (cond b (x ∷ filter stays xs) (filter stays xs))) [ true ↦ (h.0, each-filter P stays xs h.1) | false ↦ each-filter P stays xs h.1 ]

-- after the replies to all SYNCs none is parked
pub no_sync-after_answers : (now : ℕ) (ms : List Member) → AllWaits no_sync (after_answers Syncs now ms)
unfolding after_answers
no_sync-after_answers now [] = tt
no_sync-after_answers now (m ∷ ms) = (none_of m, no_sync-after_answers now ms)
  where
    none_of : (m : Member) → no_sync (after_answer Syncs now m).id (after_answer Syncs now m).waits ≡ true
    none_of m = go m.waits
      where
        go : (w : Waits) → no_sync (if is_some (called Syncs w) then answered now m else record m { waits = w }).id (if is_some (called Syncs w) then answered now m else record m { waits = w }).waits ≡ true
        go Nothing = refl
        go (Join t) = refl
        go (Sync t) = refl

module _ (q : List ℕ → Waits → Bool) where
  waits-after_answer : ((id : List ℕ) → q id Nothing ≡ true) → (which : Calls) (now : ℕ) (m : Member) → q m.id m.waits ≡ true → q (after_answer which now m).id (after_answer which now m).waits ≡ true
  waits-after_answer calm which now m h = elim (is_waiting which m) as (λ b. q (if b then answered now m else m).id (if b then answered now m else m).waits ≡ true) [ true ↦ calm m.id | false ↦ h ]

  pub waits-after_answers : ((id : List ℕ) → q id Nothing ≡ true) → (which : Calls) (now : ℕ) (ms : List Member) → AllWaits q ms → AllWaits q (after_answers which now ms)
  unfolding after_answers
  waits-after_answers calm which now [] h = tt
  waits-after_answers calm which now (m ∷ ms) h = (waits-after_answer calm which now m h.0, waits-after_answers calm which now ms h.1)

  pub waits-with_member : (id : List ℕ) (change : Member → Member) → ((m : Member) → has_id id m ≡ true → q m.id m.waits ≡ true → q (change m).id (change m).waits ≡ true) → (ms : List Member) → AllWaits q ms → AllWaits q (with_member id change ms)
  unfolding with_member
  waits-with_member id change k [] h = tt
  waits-with_member id change k (m ∷ ms) h =
      (elim (has_id id m) as (λ b. has_id id m ≡ b → AllWaits q (if b then change m ∷ ms else m ∷ with_member id change ms)) [
        | true ↦ λ e. (k m e h.0, h.1)
        | false ↦ λ e. (h.0, waits-with_member id change k ms h.1)
      ]) refl

  pub waits-assigned : (entries : List SyncEntry) (ms : List Member) → AllWaits q ms → AllWaits q (map (assigned entries) ms)
  waits-assigned entries [] h = tt
  waits-assigned entries (m ∷ ms) h = (h.0, waits-assigned entries ms h.1)

  pub waits-seated : (new : Member) (ms : List Member) → q new.id new.waits ≡ true → AllWaits q ms → AllWaits q (map (seated new) ms)
  waits-seated new [] own h = tt
  waits-seated new (m ∷ ms) own h =
      (elim (has_instance new.instance m) as (λ b. q (if b then new else m).id (if b then new else m).waits ≡ true) [ true ↦ own | false ↦ h.0 ], waits-seated new ms own h.1)

  pub waits-append : (ms : List Member) (m : Member) → AllWaits q ms → q m.id m.waits ≡ true → AllWaits q (ms ++ m ∷ [])
  waits-append [] m h e = (e, tt)
  waits-append (x ∷ xs) m h e = (h.0, waits-append xs m h.1 e)
