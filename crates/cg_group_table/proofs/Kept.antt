-- The records of groups, and the effect of a command on them.
use Rattle.std.proofs.Common.{◌≡◌, ℕ, Bool, true, false, not, List, [], ◌∷◌, cond, refl, sym, ap, ◌∙◌, Option, Some, None}
use Rattle.std.specs.Prelude.{if◌then◌else◌}
use Rattle.std.specs.Option.{option_map}
use Rattle.std.specs.Ordering.{is_eq}
use Rattle.std.specs.FinMap.{get-insert, get-retain_keys, slice_cmp-IsAntisymmetric, nat_cmp-IsAntisymmetric}
use Rattle.std.specs.declared.cmp.Ordering.TheVariants.{Equal}
use Rattle.std.proofs.lemmas.Cmp.{nat_list_cmp_total, nat_list_eq_equiv}
use Rattle.std.proofs.lemmas.Map.Text.{is_eq-slice_cmp}
use Rattle.std.proofs.lemmas.Slice.Eq.{bytes_eq-Decides}
use Rattle.cg_record.specs.declared.command.Command.{Command}
use Rattle.cg_record.specs.declared.command.Command.TheVariants.{Assigned, Emptied, Replaced, Committed, Deleted, Dropped, Expired}
use Rattle.cg_record.specs.declared.member_record.MemberRecord.{MemberRecord}
use Rattle.cg_fold.specs.declared.group_record.GroupRecord.{GroupRecord}
use Rattle.cg_fold.specs.Durable.{State, after, effect as state_effect, with_member as with_new_member, with_record}
use Rattle.cg_fold.specs.Key.{name_cmp}
use Rattle.cg_fold.specs.Grouped.{is_another}
use Rattle.cg_fold.specs.Record.{assigned_record, emptied_record, replaced_record}
use Rattle.cg_group_table.specs.Kept.{Kept, kept_in}
use Rattle.cg_group_state.specs.Membership.{is_same}

-- the group that a command names
abbrev pub group_of : Command → List ℕ
group_of (Assigned a) = a.group
group_of (Emptied e) = e.group
group_of (Replaced r) = r.group
group_of (Committed c) = c.group
group_of (Deleted d) = d.group
group_of (Expired e) = e.group
group_of (Dropped d) = d.group

-- the record that a command leaves
abbrev pub left_by : Command → Option GroupRecord → Option GroupRecord
left_by (Assigned a) held = Some (assigned_record a)
left_by (Emptied e) held = Some (emptied_record e)
left_by (Replaced r) held = option_map (replaced_record r.member) held
left_by (Committed c) held = held
left_by (Deleted d) held = None
left_by (Expired e) held = held
left_by (Dropped d) held = held

abbrev pub effect : Kept → Command → Kept
effect kept c id = if is_same (group_of c) id then left_by c (kept id) else kept id

-- the records after a list of commands
unfoldable pub kept_after : Kept → List Command → Kept
kept_after kept [] = kept
kept_after kept (c ∷ cs) = kept_after (effect kept c) cs

same_by_order : (x y : List ℕ) → is_eq (name_cmp y x) ≡ is_same x y
same_by_order x y = is_eq-slice_cmp y x ∙ nat_list_eq_equiv.symm y x

kept-with_record : (state : State) (group : List ℕ) (r : GroupRecord) (id : List ℕ) → kept_in (with_record state group r) id ≡ cond (is_same group id) (Some r) (kept_in state id)
kept-with_record state group r id = get-insert nat_list_cmp_total state.records group r id ∙ ap (λ b. cond b (Some r) (kept_in state id)) (same_by_order group id)

kept-replaced : (state : State) (group : List ℕ) (new : MemberRecord) (held : Option GroupRecord) → kept_in state group ≡ held → (id : List ℕ) → kept_in (with_new_member state group new held) id ≡ cond (is_same group id) (option_map (replaced_record new) (kept_in state id)) (kept_in state id)
kept-replaced state group new None e id =
    (elim (is_same group id) as (λ b. is_same group id ≡ b → kept_in state id ≡ cond b (option_map (replaced_record new) (kept_in state id)) (kept_in state id)) [
      | true ↦ λ s.
          let none : kept_in state id ≡ None = ap (kept_in state) (sym ((bytes_eq-Decides group id).0 s)) ∙ e in
          none ∙ sym (ap (option_map (replaced_record new)) none)
      | false ↦ λ s. refl
    ]) refl
kept-replaced state group new (Some r) e id =
    kept-with_record state group (replaced_record new r) id
    ∙ (elim (is_same group id) as (λ b. is_same group id ≡ b → cond b (Some (replaced_record new r)) (kept_in state id) ≡ cond b (option_map (replaced_record new) (kept_in state id)) (kept_in state id)) [
      | true ↦ λ s. sym (ap (option_map (replaced_record new)) (ap (kept_in state) (sym ((bytes_eq-Decides group id).0 s)) ∙ e))
      | false ↦ λ s. refl
    ]) refl

one_name : (x y : List ℕ) → name_cmp x y ≡ Equal → x ≡ y
one_name x y e = slice_cmp-IsAntisymmetric nat_cmp-IsAntisymmetric x y e

turned : (b : Bool) (o : Option GroupRecord) → cond (not b) o None ≡ cond b None o
turned true o = refl
turned false o = refl

kept-effect_at : (state : State) (c : Command) (id : List ℕ) → kept_in (state_effect state c) id ≡ effect (kept_in state) c id
unfolding state_effect
kept-effect_at state (Assigned a) id = kept-with_record state a.group (assigned_record a) id
kept-effect_at state (Emptied e) id = kept-with_record state e.group (emptied_record e) id
kept-effect_at state (Replaced r) id = kept-replaced state r.group r.member (kept_in state r.group) refl id
kept-effect_at state (Committed c) id = elim (is_same c.group id) as (λ b. kept_in state id ≡ cond b (kept_in state id) (kept_in state id)) [ true ↦ refl | false ↦ refl ]
kept-effect_at state (Expired e) id = elim (is_same e.group id) as (λ b. kept_in state id ≡ cond b (kept_in state id) (kept_in state id)) [ true ↦ refl | false ↦ refl ]
kept-effect_at state (Dropped d) id = elim (is_same d.group id) as (λ b. kept_in state id ≡ cond b (kept_in state id) (kept_in state id)) [ true ↦ refl | false ↦ refl ]
kept-effect_at state (Deleted d) id =
    get-retain_keys state.records (is_another d.group) id (λ x e. ap (is_another d.group) (sym (one_name id x e)))
    ∙ turned (is_same id d.group) (kept_in state id) ∙ ap (λ b. cond b None (kept_in state id)) (nat_list_eq_equiv.symm id d.group)

kept-effect : (state : State) (c : Command) → kept_in (state_effect state c) ≡ effect (kept_in state) c
kept-effect state c i id = kept-effect_at state c id i

-- `kept_in` after commands
pub kept-after : (state : State) (cs : List Command) → kept_in (after state cs) ≡ kept_after (kept_in state) cs
unfolding kept_after
kept-after state [] = refl
kept-after state (c ∷ cs) = kept-after (state_effect state c) cs ∙ ap (λ k. kept_after k cs) (kept-effect state c)
