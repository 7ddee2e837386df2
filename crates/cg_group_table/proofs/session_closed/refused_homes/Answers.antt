use Rattle.std.proofs.Common.{List, [], sym, ◌∙◌, subst}
use Rattle.std.specs.BTreeMap.{keys}
use Rattle.cg_group_state.specs.declared.reply.Reply.{Reply}
use Rattle.cg_request.specs.declared.ticket.Ticket.{Ticket}
use Rattle.cg_group_table.proofs.Homeward.{HaveTold, told_all, told_next, told_none}
use Rattle.cg_group_table.proofs.InOrder.{ascending_from_sorted}
use Rattle.cg_group_table.proofs.Successive.{along_end, along_next}
use Rattle.cg_group_table.proofs.session_closed.refused_homes.Goals as goal

pub loop-id-init : goal.loop-id-init
loop-id-init c =
    let P : List (Ticket × Reply) → Type 0 = λ rs. HaveTold c.args.session c.args.groups.now rs [] in
    ([], sym (c.into_iter-id-iterator.ensures.into_iter_gives ∙ c.keys-id-items.ensures.rest), subst P (sym c.new-replies.ensures) (told_none c.args.session c.args.groups.now))

pub loop-id-preserved : goal.loop-id-preserved
loop-id-preserved c =
    let l = c.loop-id in
    let gs = c.args.groups.now in
    let session = c.args.session in
    along_next (HaveTold session gs l.replies) (HaveTold session gs c.refuse_named.new.replies) (keys c.args.ids.now) l.id-iterator c.next.new.self c.in-Some.id.now (ascending_from_sorted (keys c.args.ids.now) c.keys-id-items.ensures.ordered) c.in-Some.ensures.steps
    (told_next session gs l.replies c.refuse_named.new.replies c.in-Some.id.now c.refuse_named.ensures.in_order c.in_ok-refuse_named.ensures.there c.in_ok-refuse_named.ensures.absent)
    l.invariant

pub returns : goal.returns
returns c =
    let l = c.loop-id in
    told_all c.args.session c.args.groups.now l.replies c.args.ids.now.entries c.requires (along_end (HaveTold c.args.session c.args.groups.now l.replies) (keys c.args.ids.now) l.id-iterator c.in-None.ensures.steps.0 l.invariant)
