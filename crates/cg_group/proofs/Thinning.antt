-- What is left of the groups after a tick at which something expires.
use Rattle.std.proofs.Common.{◌≡◌, ℕ, Bool, true, false, not, ◌&&◌, ◌||◌, List, [], ◌∷◌, ◌++◌, cond, refl, sym, ap, ◌∙◌, subst, Some, append-nil}
use Rattle.std.specs.List.{flat_map, list_all, list_any}
use Rattle.std.specs.Prelude.{if◌then◌else◌}
use Rattle.std.specs.declared.cmp.Ordering.TheVariants.{Less}
use Rattle.std.proofs.lemmas.Bool.{and_from, and_parts, false≢true, or_parts}
use Rattle.cg_record.specs.declared.command.Command.{Command}
use Rattle.cg_group_state.specs.declared.calls.Calls.TheVariants.{OfSession}
use Rattle.cg_group_state.specs.declared.effects.Effects.{Effects}
use Rattle.cg_group_state.specs.declared.group.Group.{Group}
use Rattle.cg_group_state.specs.declared.member.Member.{Member}
use Rattle.cg_group_state.specs.declared.turn.Turn.{Turn}
use Rattle.cg_group_state.specs.Membership.{is_empty, is_same}
use Rattle.cg_group_state.specs.Offsets.{OffsetMap, offsets_after}
use Rattle.cg_group_rules.specs.Tick.{ticked}
use Rattle.cg_group_state.specs.Waiting.{is_waiting}
use Rattle.cg_group_rules.specs.TickDeadline.{gone_touches}
use Rattle.cg_group_table.specs.DueGroups.{id_if, ids_of}
use Rattle.cg_group_table.specs.Expiry.{are_takings, expires, expiring, goes, is_bare, is_idle, is_taking, is_vacant, lasting, swept, tick, tick_effects, without_bare}
use Rattle.cg_group_table.specs.GroupTable.{InOrder, Machine, Outcome, at_moment, effects_of, everywhere, find_group, groups_after, outcome, standing, without_group}
use Rattle.cg_group_table.specs.Kept.{ComesBefore, Each}
use Rattle.cg_group_table.specs.SessionIndex.{StayParked, is_parked}
use Rattle.cg_group_table.proofs.Framed.{framed-ticked}
use Rattle.cg_group_table.proofs.KeptLists.{differs_from_order, group_ids, same_self}
use Rattle.cg_group_table.proofs.Stale.{expires_not}
use Rattle.cg_group_table.proofs.SweptGroups.{nothing_there}
use Rattle.cg_group.proofs.AgreeingTick.{calm_empty, idle_is}
use Rattle.cg_group.proofs.Lasting.{takes-tick}
use Rattle.cg_group.proofs.Sparing.{IsTaking}

-- the commands of a tick set no offset

all_takings : (cs : List Command) → Each IsTaking cs → are_takings cs ≡ true
all_takings [] h = refl
all_takings (c ∷ cs) h = and_from (is_taking c) (list_all is_taking cs) h.0 (all_takings cs h.1)

pub tick_takes : (loaded now : ℕ) (offsets : OffsetMap) (groups : List Group) → are_takings (effects_of (swept loaded now offsets) groups).commands ≡ true
unfolding tick
tick_takes loaded now offsets groups = all_takings _ (takes-tick (standing loaded now groups offsets))

-- a group in which something expires has no members, and a tick leaves it as it is

no_members : (ms : List Member) → is_empty ms ≡ true → ms ≡ []
no_members [] e = refl
no_members (m ∷ ms) e = absurd (false≢true e)

is_vacant_if : (loaded now : ℕ) (offsets : OffsetMap) (g : Group) → expires loaded now offsets g ≡ true → is_vacant g ≡ true
is_vacant_if loaded now offsets g some = go (is_vacant g) refl
  where
    go : (b : Bool) → is_vacant g ≡ b → b ≡ true
    go true e = refl
    go false e = absurd (false≢true (sym (expires_not loaded now offsets g e) ∙ some))

none_parked : (loaded now : ℕ) (offsets : OffsetMap) (g : Group) → expires loaded now offsets g ≡ true → (session : ℕ) → gone_touches session (ticked now g).group ≡ false
none_parked loaded now offsets g some session =
    let parts = and_parts (is_idle g.phase) (is_empty g.members) (is_vacant_if loaded now offsets g some) in
    let members = no_members g.members parts.1 in
    ap (λ (t : Turn). gone_touches session t.group) (calm_empty now g (idle_is g.phase parts.0) members) ∙ ap (λ ms. list_any (is_waiting (OfSession session)) ms) members

-- a group that comes before those that may be removed stays first
stays_first : (later : OffsetMap) (passes : Group → Bool) (g : Group) (gs hs : List Group) → ComesBefore g.id (group_ids gs) → without_bare later (ids_of passes gs) (g ∷ hs) ≡ g ∷ without_bare later (ids_of passes gs) hs
unfolding without_group
stays_first later passes g [] hs before = refl
stays_first later passes g (k ∷ ks) hs before =
    let ids = ids_of passes ks in
    elim (passes k) as (λ p. without_bare later (id_if p k ++ ids) (g ∷ hs) ≡ g ∷ without_bare later (id_if p k ++ ids) hs) [
      | true ↦
          elim (is_bare later k.id) as (λ b. without_bare later ids (if b then without_group k.id (g ∷ hs) else g ∷ hs) ≡ g ∷ without_bare later ids (if b then without_group k.id hs else hs)) [
            | true ↦ ap (λ b. without_bare later ids (if b then hs else g ∷ without_group k.id hs)) (differs_from_order g.id k.id Less before.0 refl) ∙ stays_first later passes g ks (without_group k.id hs) before.1
            | false ↦ stays_first later passes g ks hs before.1
          ]
      | false ↦ stays_first later passes g ks hs before.1
    ]

-- removing the groups in which something expires, where no offset of them is left
pub left_after : (loaded now : ℕ) (offsets later : OffsetMap) (gs : List Group) → InOrder gs → without_bare later (ids_of (expires loaded now offsets) gs) (groups_after (ticked now) gs) ≡ groups_after (ticked now) (lasting loaded now offsets later gs)
unfolding without_group
left_after loaded now offsets later [] o = refl
left_after loaded now offsets later (g ∷ gs) o =
    let ids = ids_of (expires loaded now offsets) gs in
    let first = (ticked now g).group in
    let rest = groups_after (ticked now) gs in
    let kept = lasting loaded now offsets later gs in
    let own : first.id ≡ g.id = (framed-ticked now g).0 in
    let before : ComesBefore first.id (group_ids gs) = subst (λ x. ComesBefore x (group_ids gs)) (sym own) o.0 in
    let stays = stays_first later (expires loaded now offsets) first gs rest before in
    let again = left_after loaded now offsets later gs o.1 in
    elim (expires loaded now offsets g) as (λ e. without_bare later (id_if e g ++ ids) (first ∷ rest) ≡ groups_after (ticked now) (cond (not (e && is_bare later g.id)) (g ∷ kept) kept)) [
      | true ↦
          elim (is_bare later g.id) as (λ b. without_bare later ids (if b then without_group g.id (first ∷ rest) else first ∷ rest) ≡ groups_after (ticked now) (cond (not b) (g ∷ kept) kept)) [
            | true ↦ ap (λ b. without_bare later ids (if b then rest else first ∷ without_group g.id rest)) (ap (λ x. is_same x g.id) own ∙ same_self g.id) ∙ again
            | false ↦ stays ∙ ap (λ hs. first ∷ hs) again
          ]
      | false ↦ stays ∙ ap (λ hs. first ∷ hs) again
    ]

-- a fact about each group after a tick holds for those that are left
pub each_left : (P : Group → Type 0) (loaded now : ℕ) (offsets later : OffsetMap) (gs : List Group) → Each P (groups_after (ticked now) gs) → Each P (groups_after (ticked now) (lasting loaded now offsets later gs))
each_left P loaded now offsets later [] h = tt
each_left P loaded now offsets later (g ∷ gs) h =
    let kept = lasting loaded now offsets later gs in
    elim (goes loaded now offsets later g) as (λ b. Each P (groups_after (ticked now) (cond (not b) (g ∷ kept) kept))) [
      | true ↦ each_left P loaded now offsets later gs h.1
      | false ↦ (h.0, each_left P loaded now offsets later gs h.1)
    ]

-- each call stays parked
pub parked_left : (loaded now : ℕ) (offsets later : OffsetMap) (gs : List Group) → StayParked (groups_after (ticked now) gs) (groups_after (ticked now) (lasting loaded now offsets later gs))
unfolding find_group
parked_left loaded now offsets later [] session id h = h
parked_left loaded now offsets later (g ∷ gs) session id h =
    let first = (ticked now g).group in
    let rest = groups_after (ticked now) gs in
    let kept = lasting loaded now offsets later gs in
    let again = parked_left loaded now offsets later gs session id in
    (elim (goes loaded now offsets later g) as (λ b. goes loaded now offsets later g ≡ b → is_parked session (find_group id (groups_after (ticked now) (cond (not b) (g ∷ kept) kept))) ≡ true) [
      | true ↦ λ gone.
          (elim (is_same first.id id) as (λ b. is_parked session (cond b (Some first) (find_group id rest)) ≡ true → is_parked session (find_group id (groups_after (ticked now) kept)) ≡ true) [
            | true ↦ λ parked. absurd (false≢true (sym (none_parked loaded now offsets g (and_parts (expires loaded now offsets g) (is_bare later g.id) gone).0 session) ∙ parked))
            | false ↦ again
          ]) h
      | false ↦ λ _.
          (elim (is_same first.id id) as (λ b. is_parked session (cond b (Some first) (find_group id rest)) ≡ true → is_parked session (cond b (Some first) (find_group id (groups_after (ticked now) kept))) ≡ true) [
            | true ↦ λ parked. parked
            | false ↦ again
          ]) h
    ]) refl

-- what a tick comes to, where these are its effects, and these the groups afterwards
pub tick_is : (loaded now : ℕ) (offsets : OffsetMap) (groups after : List Group) (effects : Effects) → InOrder groups → effects ≡ effects_of (swept loaded now offsets) groups
    → after ≡ without_bare (offsets_after offsets effects.commands) (ids_of (expires loaded now offsets) groups) (groups_after (ticked now) groups) → tick (standing loaded now groups offsets) ≡ outcome (standing loaded now after offsets) effects
unfolding tick
tick_is loaded now offsets groups after effects o made left =
    let later : Effects → OffsetMap = λ e. offsets_after offsets e.commands in
    let all = effects_of (swept loaded now offsets) groups in
    let is : groups_after (ticked now) (lasting loaded now offsets (later all) groups) ≡ after =
    sym (left_after loaded now offsets (later all) groups o) ∙ ap (λ e. without_bare (later e) (ids_of (expires loaded now offsets) groups) (groups_after (ticked now) groups)) (sym made) ∙ sym left in
    ap (λ gs. outcome (standing loaded now gs offsets) all) is ∙ ap (λ e. outcome (standing loaded now after offsets) e) (sym made)

-- the same groups, by the effects that were made
pub left_by : (loaded now : ℕ) (offsets later : OffsetMap) (groups after : List Group) → InOrder groups → after ≡ without_bare later (ids_of (expires loaded now offsets) groups) (groups_after (ticked now) groups) → after ≡ groups_after (ticked now) (lasting loaded now offsets later groups)
left_by loaded now offsets later groups after o left = left ∙ left_after loaded now offsets later groups o

-- ---- a tick at which nothing expires

none_there : (loaded now : ℕ) (offsets : OffsetMap) (gs : List Group) → list_any (expires loaded now offsets) gs ≡ false → (later : OffsetMap) → lasting loaded now offsets later gs ≡ gs
none_there loaded now offsets [] none later = refl
none_there loaded now offsets (g ∷ gs) none later =
    let parts = or_parts (expires loaded now offsets g) (list_any (expires loaded now offsets) gs) none in
    ap (λ b. cond (not (b && is_bare later g.id)) (g ∷ lasting loaded now offsets later gs) (lasting loaded now offsets later gs)) parts.0 ∙ ap (λ hs. g ∷ hs) (none_there loaded now offsets gs parts.1 later)

swept_calm : (loaded now : ℕ) (offsets : OffsetMap) (gs : List Group) → list_any (expires loaded now offsets) gs ≡ false → flat_map (λ g. (swept loaded now offsets g).commands) gs ≡ flat_map (λ g. (ticked now g).commands) gs
swept_calm loaded now offsets [] none = refl
swept_calm loaded now offsets (g ∷ gs) none =
    let parts = or_parts (expires loaded now offsets g) (list_any (expires loaded now offsets) gs) none in
    let rest = flat_map (λ g. (swept loaded now offsets g).commands) gs in
    ap (λ cs. ((ticked now g).commands ++ cs) ++ rest) (nothing_there (expiring loaded now offsets g) parts.0)
    ∙ ap (λ cs. cs ++ rest) (append-nil (ticked now g).commands)
    ∙ ap (λ cs. (ticked now g).commands ++ cs) (swept_calm loaded now offsets gs parts.1)

-- a tick is its timeouts alone
pub tick_calm : (loaded now : ℕ) (offsets : OffsetMap) (groups after : List Group) (effects : Effects) → list_any (expires loaded now offsets) groups ≡ false → everywhere (ticked now) (at_moment now groups) ≡ outcome (at_moment now after) effects
    → tick (standing loaded now groups offsets) ≡ outcome (standing loaded now after offsets) effects
unfolding tick everywhere
tick_calm loaded now offsets groups after effects none h =
    let s : Machine = standing loaded now groups offsets in
    let replies = (effects_of (ticked now) groups).replies in
    let later : OffsetMap = offsets_after offsets (tick_effects s).commands in
    ap (λ gs. outcome (standing loaded now (groups_after (ticked now) gs) offsets) (tick_effects s)) (none_there loaded now offsets groups none later)
    ∙ ap (λ cs. outcome (standing loaded now (groups_after (ticked now) groups) offsets) (record { commands = cs; replies = replies })) (swept_calm loaded now offsets groups none)
    ∙ ap (λ (o : Outcome). outcome (standing loaded now o.after.groups offsets) o.effects) h

-- what changes a group
pub any_expires : (p q : Group → Bool) (gs : List Group) → list_any q gs ≡ true → list_any (λ g. p g || q g) gs ≡ true
any_expires p q [] some = some
any_expires p q (g ∷ gs) some =
    or_from_either (p g) (q g) (list_any q gs) (list_any (λ g. p g || q g) gs) (any_expires p q gs) some
  where
    or_from_either : (a b rest more : Bool) → (rest ≡ true → more ≡ true) → (b || rest) ≡ true → ((a || b) || more) ≡ true
    or_from_either true b rest more h some = refl
    or_from_either false true rest more h some = refl
    or_from_either false false rest more h some = h some

pub any_touched : (p q : Group → Bool) (gs : List Group) → list_any p gs ≡ true → list_any (λ g. p g || q g) gs ≡ true
any_touched p q [] some = some
any_touched p q (g ∷ gs) some = by_first (p g) (q g) (list_any p gs) (list_any (λ g. p g || q g) gs) (any_touched p q gs) some
  where
    by_first : (a b rest more : Bool) → (rest ≡ true → more ≡ true) → (a || rest) ≡ true → ((a || b) || more) ≡ true
    by_first true b rest more h some = refl
    by_first false true rest more h some = refl
    by_first false false rest more h some = h some
