-- A member that leaves, and nothing else: the rebalance under way waits for others.
use Rattle.std.proofs.Common.{◌≡◌, ℕ, true, not, List, inl, inr, Some, Ok, refl, sym, ap, ◌∙◌, subst}
use Rattle.std.specs.Prelude.{is_ok, Option}
use Rattle.std.specs.BTreeMap.{BTreeMap, get}
use Rattle.std.specs.Ordering.{nat_cmp}
use Rattle.cg_group_state.specs.declared.effects.Effects.{Effects}
use Rattle.cg_group_state.specs.declared.group.Group.{Group}
use Rattle.cg_group_state.specs.declared.member.Member.{Member}
use Rattle.cg_request.specs.declared.request_fields.LeaveRequest.{LeaveRequest}
use Rattle.cg_request.specs.declared.ticket.Ticket.{Ticket}
use Rattle.cg_group.specs.InPlace.{CameOn, IsDeparture, IsNamed, departing_effects}
use Rattle.cg_group.specs.Machine.{concluded, leave}
use Rattle.cg_group_table.specs.declared.session_index.Home.{Home}
use Rattle.cg_group_table.specs.GroupTable.{at_moment, find_group, outcome, with_group}
use Rattle.cg_group_table.specs.SessionIndex.{IsFilled, IsLetGo, IsTight, is_home, is_parked}
use Rattle.cg_group_table.proofs.Finding.{find-own}
use Rattle.cg_group_table.proofs.InOrder.{found_named}
use Rattle.cg_group_rules.specs.Leave.{leave_held, left}
use Rattle.cg_group_state.specs.Membership.{has_id, keeping}
use Rattle.cg_group_rules.specs.Rebalance.{turn_of}
use Rattle.cg_group_state.specs.Checks.{◌>>=◌}
use Rattle.cg_group.proofs.Displacing.{of_session}
use Rattle.cg_group.proofs.InPlace.{named_is}
use Rattle.cg_group.proofs.TightIndex.{tight_left}

-- the group without this member
abbrev pub without : List ℕ → Group → Group
without id g = keeping (λ other. not (has_id id other)) g

pub keeps_without : (id : List ℕ) (g : Group) → (without id g).id ≡ g.id
unfolding keeping
keeps_without id g = refl

-- the LEAVE of a member in a loaded group is that of the group
pub leave_here : (r : LeaveRequest) (groups : List Group) (own : List ℕ) (g : Group) → IsNamed r.group groups own g → (now : ℕ) (ticket : Ticket) → leave now r ticket groups ≡ leave_held now r ticket g
unfolding leave
leave_here r groups own g named now ticket = ap (λ o. o >>= λ g. leave_held now r ticket g) (named_is r.group groups own g named)

pub departing_taken : (r : LeaveRequest) (groups : List Group) (own : List ℕ) (g : Group) (m : Member) → IsNamed r.group groups own g → ((now : ℕ) (ticket : Ticket) → leave_held now r ticket g ≡ Ok (left m.id ticket m g))
    → (now : ℕ) (ticket : Ticket) → is_ok (leave now r ticket groups) ≡ true
departing_taken r groups own g m named taken now ticket = ap is_ok (leave_here r groups own g named now ticket ∙ taken now ticket)

module _ (r : LeaveRequest) (groups : List Group) (own id : List ℕ) (parked_call : Option Ticket) (at : IsDeparture r groups own id parked_call) where
  pub departure_taken : (now : ℕ) (ticket : Ticket) → is_ok (leave now r ticket groups) ≡ true
  departure_taken now ticket = departing_taken r groups own at.group at.member at.named at.taken now ticket

  pub departed : (now : ℕ) (ticket : Ticket) (after : List Group) (e : Effects) → ((g : Group) → find_group own groups ≡ Some g → after ≡ with_group (without id g) groups) → e ≡ departing_effects ticket parked_call
      → concluded (at_moment now groups) ticket (leave now r ticket groups) ≡ outcome (at_moment now after) e
  unfolding concluded left
  departed now ticket after e put made =
      let g : Group = at.group in
      ap (concluded (at_moment now groups) ticket) (leave_here r groups own g at.named now ticket ∙ at.taken now ticket)
      ∙ ap (λ o. outcome (at_moment now (with_group (without at.member.id g) groups)) (departing_effects ticket o)) (sym at.called)
      ∙ ap (λ i. outcome (at_moment now (with_group (without i g) groups)) (departing_effects ticket parked_call)) (sym at.its)
      ∙ ap (λ gs. outcome (at_moment now gs) (departing_effects ticket parked_call)) (sym (put g at.named.found))
      ∙ ap (outcome (at_moment now after)) (sym made)

  pub tight_departed : (homes final : BTreeMap ℕ (BTreeMap (List ℕ) Home)) (after : List Group)
      → ((q : ℕ) (x : List ℕ) → is_home final q x ≡ true → is_home homes q x ≡ true)
      → ((q : ℕ) → IsFilled (get nat_cmp homes q) → IsFilled (get nat_cmp final q))
      → ((g : Group) → find_group own groups ≡ Some g → after ≡ with_group (without id g) groups)
      → ((q : ℕ) → CameOn parked_call q → IsLetGo final after own q)
      → IsTight homes groups → IsTight final after
  tight_departed homes final after fewer filled put gone tight =
      let g : Group = at.group in
      let change : Group = without id g in
      let put_there : after ≡ with_group change groups = put g at.named.found in
      let named : g.id ≡ own = found_named own groups g at.named.found in
      let still : change.id ≡ own = keeps_without id g ∙ named in
      let there : find_group own after ≡ Some change = ap (find_group own) put_there ∙ ap (λ i. find_group i (with_group change groups)) (sym still) ∙ find-own change groups in
      tight_left homes final groups after fewer filled tight (Ok (turn_of change)) (Some g) put_there (sym at.named.found ∙ ap (λ i. find_group i groups) (sym still))
      (λ k is q parked here.
      let same : g ≡ k = cc in
      let A : Group → Type 0 = λ y. is_parked q (Some y) ≡ true in
      let B : List ℕ → Type 0 = λ i. is_parked q (find_group i after) ≡ true in
      let C : List ℕ → Type 0 = λ i. is_home final q i ≡ true in
      let D : List ℕ → Type 0 = λ i. is_parked q (Some (without i g)) ≡ true in
      let E : Option Ticket → Type 0 = λ o. CameOn o q in
      let its : own ≡ k.id = sym named ∙ ap (λ (y : Group). y.id) same in
      elim (at.others q (subst A (sym same) parked)) as (λ _. is_parked q (find_group k.id after) ≡ true) [
        | inl a ↦ subst B its (ap (is_parked q) there ∙ subst D (sym at.its) a)
        | inr w ↦ subst B its (gone q (subst E (sym at.called) (of_session q at.member.waits w)) (subst C (sym its) here))
      ])
