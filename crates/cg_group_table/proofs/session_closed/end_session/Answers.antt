use Rattle.std.proofs.Common.{◌≡◌, ℕ, List, [], Option, false, ap, sym, subst, ◌∙◌}
use Rattle.std.specs.BTreeMap.{BTreeMap}
use Rattle.std.specs.Option.{option_copied}
use Rattle.cg_group_state.specs.declared.effects.Effects.{Effects}
use Rattle.cg_group_state.specs.declared.group.Group.{Group}
use Rattle.cg_group_state.specs.declared.reply.Reply.{Reply}
use Rattle.cg_record.specs.declared.command.Command.{Command}
use Rattle.cg_request.specs.declared.ticket.Ticket.{Ticket}
use Rattle.cg_group_rules.specs.Leave.{gone_in}
use Rattle.cg_group_rules.specs.TickDeadline.{gone_touches}
use Rattle.cg_group_table.specs.declared.session_index.Home.{Home}
use Rattle.cg_group_table.specs.Kept.{Each}
use Rattle.cg_group_table.specs.SessionIndex.{is_noted}
use Rattle.cg_group_table.proofs.Homeward.{answered_all, gone_effects, told_all, told_none}
use Rattle.cg_group_table.proofs.Successive.{stepped_none}
use Rattle.cg_group_table.proofs.session_closed.end_session.Goals as goal

made : List Command → List (Ticket × Reply) → Effects
made cs rs = record { commands = cs; replies = rs }

abbrev Quiet : ℕ → List Group → Option (BTreeMap (List ℕ) Home) → Type 0
Quiet session groups o = Each (λ (g : Group). is_noted g.id o ≡ false → gone_touches session g ≡ false) groups

pub returns-in_default-clause-groups : goal.returns-in_default-clause-groups
returns-in_default-clause-groups c =
    let gs = c.args.held.now in
    let calm = subst (Quiet c.args.session gs) (sym c.get.ensures.value ∙ ap option_copied c.in_default.is) c.requires in
    answered_all {X = Home} c.args.now c.args.session gs gs [] calm (stepped_none (gone_in c.args.now c.args.session) gs)

pub returns-in_default-clause-effects : goal.returns-in_default-clause-effects
unfolding made
returns-in_default-clause-effects c =
    let gs = c.args.held.now in
    let calm = subst (Quiet c.args.session gs) (sym c.get.ensures.value ∙ ap option_copied c.in_default.is) c.requires in
    ap (λ cs. made cs c.new-in_default.result) c.new.ensures
    ∙ ap (made []) (c.new-in_default.ensures ∙ told_all {X = Home} c.args.session gs [] [] calm (told_none c.args.session gs))
    ∙ sym (gone_effects c.args.now c.args.session gs)

pub refused_homes-requires : goal.refused_homes-requires
refused_homes-requires c = subst (Quiet c.args.session c.args.held.now) (sym c.get.ensures.value ∙ ap option_copied c.in-Some.is) c.requires

pub answer_homes-requires : goal.answer_homes-requires
answer_homes-requires c = subst (Quiet c.args.session c.args.held.now) (sym c.get.ensures.value ∙ ap option_copied c.in-Some.is) c.requires

pub returns-clause-effects : goal.returns-clause-effects
unfolding made
returns-clause-effects c =
    ap (λ cs. made cs c.in_ok-replies.replies) c.new-2.ensures ∙ ap (made []) c.in_ok-replies.ensures ∙ sym (gone_effects c.args.now c.args.session c.args.held.now)
