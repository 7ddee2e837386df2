use Rattle.std.proofs.Common.{◌≡◌, List, sym, ap, ◌∙◌, subst}
use Rattle.cg_group_state.specs.declared.effects.Effects.{Effects}
use Rattle.cg_group_state.specs.declared.group.Group.{Group}
use Rattle.cg_group_state.specs.Offsets.{offsets_after}
use Rattle.cg_group_rules.specs.Tick.{ticked}
use Rattle.cg_group_table.specs.DueGroups.{ids_of}
use Rattle.cg_group_table.specs.Expiry.{are_takings, expires, lasting, without_bare}
use Rattle.cg_group_table.specs.GroupTable.{groups_after}
use Rattle.cg_group_table.specs.SessionIndex.{AreKnown, Known, StayParked, is_home}
use Rattle.cg_group_table.proofs.Tight.{tight_stay}
use Rattle.cg_group.proofs.Thinning.{each_left, left_by, parked_left, tick_is, tick_takes}
use Rattle.cg_group.proofs.tick.sweep.Goals as goal

pub take_away-requires : goal.take_away-requires
take_away-requires c =
    let loaded = c.args.clock.now.loaded in
    let now = c.args.clock.now.moment in
    ap are_takings (c.as_slice.ensures ∙ ap (λ (e : Effects). e.commands) c.in_ok-dues.ensures.effects) ∙ tick_takes loaded now c.args.offsets.now c.args.held.now

-- the groups afterwards
removed : (c : goal.After-drop-thinned) → c.remove_bare.new.held ≡ without_bare c.take_away.new.offsets (ids_of (expires c.args.clock.now.loaded c.args.clock.now.moment c.args.offsets.now) c.args.held.now) (groups_after (ticked c.args.clock.now.moment) c.args.held.now)
removed c =
    let ids = ids_of (expires c.args.clock.now.loaded c.args.clock.now.moment c.args.offsets.now) c.args.held.now in
    c.remove_bare.ensures
    ∙ ap (λ xs. without_bare c.take_away.new.offsets xs c.carry_out_all.new.held) (c.as_slice-2.ensures.value ∙ c.in_ok-dues.ensures.thinned)
    ∙ ap (without_bare c.take_away.new.offsets ids) c.carry_out_all.ensures.after

left : (c : goal.After-drop-thinned) → c.remove_bare.new.held ≡ groups_after (ticked c.args.clock.now.moment) (lasting c.args.clock.now.loaded c.args.clock.now.moment c.args.offsets.now c.take_away.new.offsets c.args.held.now)
left c = left_by c.args.clock.now.loaded c.args.clock.now.moment c.args.offsets.now c.take_away.new.offsets c.args.held.now c.remove_bare.new.held c.requires.in_order (removed c)

pub returns-clause-known : goal.returns-clause-known
returns-clause-known c =
    let loaded = c.args.clock.now.loaded in
    let now = c.args.clock.now.moment in
    let homes = is_home c.carry_out_all.new.homes in
    let K : List Group → Type 0 = λ gs. AreKnown homes gs in
    subst K (sym (left c)) (each_left (λ g. Known (λ session. homes session g.id) g) loaded now c.args.offsets.now c.take_away.new.offsets c.args.held.now (subst K c.carry_out_all.ensures.after c.carry_out_all.ensures.known))

pub returns-clause-tight : goal.returns-clause-tight
returns-clause-tight c =
    let loaded = c.args.clock.now.loaded in
    let now = c.args.clock.now.moment in
    let groups = c.carry_out_all.new.held in
    let later = groups_after (ticked now) (lasting loaded now c.args.offsets.now c.take_away.new.offsets c.args.held.now) in
    let F : List Group → Type 0 = λ gs. StayParked gs later in
    let T : List Group → Type 0 = λ gs. StayParked groups gs in
    tight_stay c.carry_out_all.new.homes groups c.remove_bare.new.held (subst T (sym (left c)) (subst F (sym c.carry_out_all.ensures.after) (parked_left loaded now c.args.offsets.now c.take_away.new.offsets c.args.held.now))) c.carry_out_all.ensures.tight

pub returns-clause-ok : goal.returns-clause-ok
returns-clause-ok c =
    let loaded = c.args.clock.now.loaded in
    let now = c.args.clock.now.moment in
    let groups = c.args.held.now in
    let ids = ids_of (expires loaded now c.args.offsets.now) groups in
    let taken : c.take_away.new.offsets ≡ offsets_after c.args.offsets.now c.in_ok-dues.field-0.effects.commands = c.take_away.ensures ∙ ap (offsets_after c.args.offsets.now) c.as_slice.ensures in
    tick_is loaded now c.args.offsets.now groups c.remove_bare.new.held c.in_ok-dues.field-0.effects c.requires.in_order c.in_ok-dues.ensures.effects
    (removed c ∙ ap (λ later. without_bare later ids (groups_after (ticked now) groups)) taken)
