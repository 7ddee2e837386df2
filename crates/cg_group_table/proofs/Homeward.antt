-- The end of a session, in the groups that the session index has for it, one after another.
use Rattle.std.proofs.Common.{◌≡◌, ℕ, true, false, ◌||◌, List, [], ◌∷◌, ◌++◌, cond, is_some, Option, Some, None, refl, sym, ap, ◌∙◌, subst}
use Rattle.std.specs.List.{flat_map}
use Rattle.std.specs.BTreeMap.{is_at}
use Rattle.std.specs.Cmp.Lexicographic.{slice_cmp}
use Rattle.std.specs.Map.{keys_of, lookup}
use Rattle.std.specs.Ordering.{nat_cmp}
use Rattle.std.proofs.lemmas.Map.Text.{is_eq-slice_cmp}
use Rattle.cg_group_state.specs.declared.calls.Calls.TheVariants.{OfSession}
use Rattle.cg_group_state.specs.declared.group.Group.{Group}
use Rattle.cg_group_state.specs.declared.reply.Reply.{Reply}
use Rattle.cg_group_state.specs.declared.turn.Turn.{Turn}
use Rattle.cg_group_rules.specs.Leave.{gone_in}
use Rattle.cg_group_rules.specs.Rebalance.{turn_of}
use Rattle.cg_group_state.specs.Waiting.{answers, refusing}
use Rattle.cg_names.specs.declared.code.Code.TheVariants.{CoordinatorNotAvailable}
use Rattle.cg_request.specs.declared.ticket.Ticket.{Ticket}
use Rattle.cg_request.specs.Names.{is_same}
use Rattle.cg_group_rules.specs.TickDeadline.{gone_touches}
use Rattle.cg_group_table.specs.GroupChanges.{among, is_one_of}
use Rattle.cg_group_table.specs.GroupTable.{InOrder, effects_of, find_group, groups_after}
use Rattle.cg_group_table.specs.Kept.{ComeBefore, Each}
use Rattle.cg_group_table.specs.SessionIndex.{refusals}
use Rattle.cg_group_table.proofs.Changed.{calm_among, made_next, none_made, same_made, unheld_same}
use Rattle.cg_group_table.proofs.InOrder.{found_named}
use Rattle.cg_group_table.proofs.Successive.{HaveStepped, stepped_all}
use Rattle.cg_group_table.proofs.Untouched.{calm_gone_in}

-- some entry has the id, or no entry does
keys_have : {X : Type 0} (x : List ℕ) (es : List (List ℕ × X)) → is_some (lookup (is_at (slice_cmp nat_cmp x)) es) ≡ is_one_of (keys_of es) x
keys_have x [] = refl
keys_have x (e ∷ es) =
    ap (λ b. is_some (cond b (Some e.1) (lookup (is_at (slice_cmp nat_cmp x)) es))) (is_eq-slice_cmp x e.0)
    ∙ (elim (is_same x e.0) as (λ b. is_some (cond b (Some e.1) (lookup (is_at (slice_cmp nat_cmp x)) es)) ≡ (b || is_one_of (keys_of es) x)) [ true ↦ refl | false ↦ keys_have x es ])

-- no call of the session is parked in the groups that have no entry
abbrev Calm : {X : Type 0} → ℕ → List (List ℕ × X) → List Group → Type 0
Calm session es groups = Each (λ (g : Group). is_some (lookup (is_at (slice_cmp nat_cmp g.id)) es) ≡ false → gone_touches session g ≡ false) groups

calm_turns : {X : Type 0} (now session : ℕ) (es : List (List ℕ × X)) (gs : List Group) → Calm session es gs → Each (λ (g : Group). is_one_of (keys_of es) g.id ≡ false → gone_in now session g ≡ turn_of g) gs
calm_turns now session es [] h = tt
calm_turns now session es (g ∷ gs) h = (λ e. calm_gone_in now session g (h.0 (keys_have g.id es ∙ e)), calm_turns now session es gs h.1)

-- the replies so far are those in the groups with these ids

abbrev pub HaveTold : ℕ → List Group → List (Ticket × Reply) → List (List ℕ) → Type 0
HaveTold session groups replies ids = replies ≡ (effects_of (among ids (gone_in 0 session)) groups).replies

pub told_none : (session : ℕ) (groups : List Group) → HaveTold session groups [] []
told_none session groups = sym (none_made (gone_in 0 session) (λ t. t.replies) (λ g. refl) groups)

pub told_next : (session : ℕ) (groups : List Group) (was now : List (Ticket × Reply)) (x : List ℕ) → InOrder groups
    → ((g : Group) → find_group x groups ≡ Some g → now ≡ was ++ answers (OfSession session) (refusing CoordinatorNotAvailable) g.members) → (find_group x groups ≡ None → now ≡ was)
    → (ids : List (List ℕ)) → ComeBefore ids x → HaveTold session groups was ids → HaveTold session groups now (ids ++ x ∷ [])
unfolding gone_in
told_next session groups was now x o there absent ids b h = go (find_group x groups) refl
  where
    turn : Group → Turn
    turn = gone_in 0 session

    go : (found : Option Group) → find_group x groups ≡ found → HaveTold session groups now (ids ++ x ∷ [])
    go None e = absent e ∙ h ∙ same_made (λ t. t.replies) (among ids turn) (among (ids ++ x ∷ []) turn) groups (unheld_same turn groups ids x e)
    go (Some g) e =
        let own : g.id ≡ x = found_named x groups g e in
        let F : List ℕ → Type 0 = λ y. find_group y groups ≡ Some g in
        let B : List ℕ → Type 0 = λ y. ComeBefore ids y in
        let R : List ℕ → Type 0 = λ y. HaveTold session groups now (ids ++ y ∷ []) in
        subst R own (there g e ∙ ap (λ rs. rs ++ (turn g).replies) h ∙ sym (made_next turn (λ t. t.replies) (λ g. refl) ids g groups o (subst F (sym own) e) (subst B (sym own) b)))

pub told_all : {X : Type 0} (session : ℕ) (groups : List Group) (replies : List (Ticket × Reply)) (es : List (List ℕ × X)) → Calm session es groups → HaveTold session groups replies (keys_of es) → replies ≡ refusals session groups
unfolding gone_in
told_all session groups replies es calm h =
    h ∙ same_made (λ t. t.replies) (among (keys_of es) (gone_in 0 session)) (gone_in 0 session) groups (calm_among (gone_in 0 session) (keys_of es) groups (calm_turns 0 session es groups calm))

-- the calls in the groups with these ids are answered

pub answered_all : {X : Type 0} (now session : ℕ) (groups after : List Group) (es : List (List ℕ × X)) → Calm session es groups → HaveStepped (gone_in now session) groups after (keys_of es) → after ≡ groups_after (gone_in now session) groups
answered_all now session groups after es calm h = stepped_all (gone_in now session) groups after (keys_of es) (calm_turns now session es groups calm) h

-- the end of a session makes no command
pub gone_effects : (now session : ℕ) (groups : List Group) → effects_of (gone_in now session) groups ≡ record { commands = []; replies = refusals session groups }
unfolding gone_in
gone_effects now session groups = ap (λ cs. record { commands = cs; replies = refusals session groups }) (silent groups)
  where
    silent : (gs : List Group) → flat_map (λ g. (gone_in now session g).commands) gs ≡ []
    silent [] = refl
    silent (g ∷ gs) = silent gs
