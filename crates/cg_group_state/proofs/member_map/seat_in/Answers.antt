use Rattle.std.proofs.Common.{◌≡◌, Some, false, get_or, refl, remove, slice_get, sym, ap, ◌∙◌, subst}
use Rattle.std.specs.Prelude.{IfOk, IsSome}
use Rattle.std.specs.List.{list_any, position, position_or_len}
use Rattle.std.specs.Map.{keys_of, values_of}
use Rattle.std.proofs.Math.ListN.{set}
use Rattle.std.proofs.lemmas.Option.{slice_get-get_or}
use Rattle.indexmap.specs.IndexMap.{insert_entry, move_index}
use Rattle.cg_group_state.specs.declared.member.Member.{Member}
use Rattle.cg_group_state.specs.Members.{ids}
use Rattle.cg_group_state.specs.Membership.{has_instance, seating}
use Rattle.cg_group_state.proofs.Keyed.{absent, all_moved, not_there, same, seated_back, seated_entries, seated_key, seated_keys, seated_values, within}
use Rattle.cg_group_state.proofs.Seats.{seating_no_place}
use Rattle.cg_group_state.proofs.member_map.seat_in.Goals as goal

-- ---- no member has the instance

all-default : (c : goal.In_default) → c.append.new.self.entries ≡ c.args.from.now.entries
all-default c = all_moved c.args.from.now.entries c.args.to.now.entries c.append.new.self.entries c.append.result c.unwrap.result c.unwrap.ensures c.append.ensures.entries c.requires.empty c.requires.keyed c.requires.before

stays : (c : goal.In_default) → values_of c.args.from.now.entries ≡ seating c.args.member (values_of c.args.from.now.entries)
stays c = seating_no_place c.args.member (values_of c.args.from.now.entries) (sym (rw c.listed.ensures at c.seat_of-seat.ensures) ∙ c.in_default.is)

pub returns-in_default-clause-keyed : goal.returns-in_default-clause-keyed
returns-in_default-clause-keyed c = subst (λ es. keys_of es ≡ ids (values_of es)) (sym (all-default c)) c.requires.keyed

pub returns-in_default-clause-seated : goal.returns-in_default-clause-seated
returns-in_default-clause-seated c = ap values_of (all-default c) ∙ stays c

pub returns-in_default-clause-back : goal.returns-in_default-clause-back
returns-in_default-clause-back c = ap (seating c.args.member) (ap values_of (all-default c)) ∙ sym (stays c)

-- ---- a member has it

pub unwrap-before-requires : goal.unwrap-before-requires
unwrap-before-requires c =
    let es = c.args.from.now.entries in
    let at : position (has_instance c.args.member.instance) (values_of es) ≡ Some c.in-Some.place = sym (rw c.listed.ensures at c.seat_of-seat.ensures) ∙ c.in-Some.is in
    let moved : c.append.new.self.entries ≡ es = all_moved es c.args.to.now.entries c.append.new.self.entries c.append.result c.unwrap.result c.unwrap.ensures c.append.ensures.entries c.requires.empty c.requires.keyed c.requires.before in
    let there : slice_get es c.in-Some.place ≡ Some (get_or es c.in-Some.place (c.args.id, c.args.member)) =
    slice_get-get_or es c.in-Some.place (c.args.id, c.args.member) (within es c.args.member c.in-Some.place c.requires.keyed c.requires.before c.requires.after at) in
    subst IsSome (sym (c.shift_remove_index.ensures.entry ∙ ap (λ l. slice_get l c.in-Some.place) moved ∙ there)) refl

pub shift_insert-requires-clause-below_len : goal.shift_insert-requires-clause-below_len
shift_insert-requires-clause-below_len c there =
    let es = c.args.from.now.entries in
    let i = c.in-Some.place in
    let at : position (has_instance c.args.member.instance) (values_of es) ≡ Some i = sym (rw c.listed.ensures at c.seat_of-seat.ensures) ∙ c.in-Some.is in
    let moved : c.append.new.self.entries ≡ es = all_moved es c.args.to.now.entries c.append.new.self.entries c.append.result c.unwrap.result c.unwrap.ensures c.append.ensures.entries c.requires.empty c.requires.keyed c.requires.before in
    let left : c.shift_remove_index.new.self.entries ≡ remove es i = c.shift_remove_index.ensures.entries ∙ ap (λ l. remove l i) moved in
    let free : list_any (same c.args.id) (keys_of c.shift_remove_index.new.self.entries) ≡ false =
    ap (λ l. list_any (same c.args.id) (keys_of l)) left ∙ ap (λ id. list_any (same id) (keys_of (remove es i))) c.requires.own_key
    ∙ absent es c.args.member i c.requires.keyed c.requires.before c.requires.after at in
    absurd (not_there c.shift_remove_index.new.self.entries c.args.id free there)

at-place : (c : goal.Joined-none) → position (has_instance c.args.member.instance) (values_of c.args.from.now.entries) ≡ Some c.in-Some.place
at-place c = sym (rw c.listed.ensures at c.seat_of-seat.ensures) ∙ c.in-Some.is

all : (c : goal.Joined-none) → c.append.new.self.entries ≡ c.args.from.now.entries
all c = all_moved c.args.from.now.entries c.args.to.now.entries c.append.new.self.entries c.append.result c.unwrap.result c.unwrap.ensures c.append.ensures.entries c.requires.empty c.requires.keyed c.requires.before

exchanged : (c : goal.Joined-none) → c.shift_insert.new.self.entries ≡ set c.args.from.now.entries c.in-Some.place (c.args.member.id, c.args.member)
exchanged c =
    let es = c.args.from.now.entries in
    let left = c.shift_remove_index.new.self.entries in
    let new : Member = c.args.member in
    let i = c.in-Some.place in
    let later = c.shift_insert.new.self.entries in
    subst (λ r. IfOk r (λ x. later ≡ move_index (insert_entry same left c.args.id new) (position_or_len (same c.args.id) (keys_of left)) i)) c.unwrap-none.ensures c.shift_insert.ensures.entries
    ∙ ap (λ id. move_index (insert_entry same left id new) (position_or_len (same id) (keys_of left)) i) c.requires.own_key
    ∙ ap (λ l. move_index (insert_entry same l new.id new) (position_or_len (same new.id) (keys_of l)) i) (c.shift_remove_index.ensures.entries ∙ ap (λ l. remove l i) (all c))
    ∙ seated_entries es new i c.requires.keyed c.requires.before c.requires.after (at-place c)

pub returns-clause-keyed : goal.returns-clause-keyed
returns-clause-keyed c = seated_keys c.args.from.now.entries c.args.member c.in-Some.place c.requires.keyed c.requires.before c.requires.after (at-place c) c.shift_insert.new.self.entries (exchanged c)

pub returns-clause-seated : goal.returns-clause-seated
returns-clause-seated c = seated_values c.args.from.now.entries c.args.member c.in-Some.place c.requires.keyed c.requires.before c.requires.after (at-place c) c.shift_insert.new.self.entries (exchanged c)

there : (c : goal.Joined-none) → slice_get c.args.from.now.entries c.in-Some.place ≡ Some c.unwrap-before.result
there c = ap (λ l. slice_get l c.in-Some.place) (sym (all c)) ∙ sym c.shift_remove_index.ensures.entry ∙ c.unwrap-before.ensures

pub returns-clause-back : goal.returns-clause-back
returns-clause-back c = seated_back c.args.from.now.entries c.args.member c.in-Some.place c.requires.keyed c.requires.before c.requires.after (at-place c) c.shift_insert.new.self.entries (exchanged c) c.unwrap-before.result (there c)

pub returns-clause-back_key : goal.returns-clause-back_key
returns-clause-back_key c = seated_key c.args.from.now.entries c.args.member c.in-Some.place c.requires.keyed c.requires.before c.requires.after (at-place c) c.shift_insert.new.self.entries (exchanged c) c.unwrap-before.result (there c)
