use Rattle.std.proofs.Common.{ap, ◌∙◌}
use Rattle.cg_request.specs.declared.event.Event.TheVariants as event
use Rattle.cg_group_rules.specs.Leave.{gone_in}
use Rattle.cg_group.specs.Machine.{beat, commit, memberless, join, leave, handled, sync}
use Rattle.cg_group_table.specs.GroupTable.{standing}
use Rattle.cg_group_table.specs.SessionIndex.{is_home}
use Rattle.cg_group.proofs.Beside.{concluded_beside, concluded_still, deleted_beside, everywhere_beside, everywhere_still}
use Rattle.cg_group.proofs.KnownSessions.{known-after, known-dropped_after}
use Rattle.cg_group.proofs.Quiet.{quiet-beat, quiet-gone_in, quiet-join, quiet-leave, quiet-sync}
use Rattle.cg_group_table.proofs.Tight.{tight_stay}
use Rattle.cg_group.proofs.dispatch.handle.Goals as goal

pub returns-in_ok-effects-in-Join-clause-ok : goal.returns-in_ok-effects-in-Join-clause-ok
unfolding handled
returns-in_ok-effects-in-Join-clause-ok c =
    ap (handled (standing c.args.clock.now.loaded c.args.clock.now.moment c.args.held.now c.args.offsets.now)) c.in-Join.is
    ∙ concluded_beside c.args.clock.now.loaded c.args.clock.now.moment c.args.held.now c.handle_join.new.held c.args.offsets.now c.in-Join.ticket (join c.args.clock.now.moment c.in-Join.r c.in-Join.fresh c.in-Join.ticket c.args.held.now) c.in_ok-effects-in-Join.effects (c.in_ok-effects-in-Join.ensures.ok)

pub returns-in_ok-effects-in-Join-clause-offsets : goal.returns-in_ok-effects-in-Join-clause-offsets
returns-in_ok-effects-in-Join-clause-offsets c =
    concluded_still c.args.clock.now.moment c.args.held.now c.handle_join.new.held c.args.offsets.now c.in-Join.ticket (join c.args.clock.now.moment c.in-Join.r c.in-Join.fresh c.in-Join.ticket c.args.held.now) c.in_ok-effects-in-Join.effects
    (quiet-join c.args.clock.now.moment c.in-Join.r c.in-Join.fresh c.in-Join.ticket c.args.held.now) (c.in_ok-effects-in-Join.ensures.ok)

pub returns-in_ok-effects-in-Sync-clause-ok : goal.returns-in_ok-effects-in-Sync-clause-ok
unfolding handled
returns-in_ok-effects-in-Sync-clause-ok c =
    ap (handled (standing c.args.clock.now.loaded c.args.clock.now.moment c.args.held.now c.args.offsets.now)) c.in-Sync.is
    ∙ concluded_beside c.args.clock.now.loaded c.args.clock.now.moment c.args.held.now c.handle_sync.new.held c.args.offsets.now c.in-Sync.ticket (sync c.args.clock.now.moment c.in-Sync.r c.in-Sync.ticket c.args.held.now) c.in_ok-effects-in-Sync.effects (c.in_ok-effects-in-Sync.ensures.ok)

pub returns-in_ok-effects-in-Sync-clause-offsets : goal.returns-in_ok-effects-in-Sync-clause-offsets
returns-in_ok-effects-in-Sync-clause-offsets c =
    concluded_still c.args.clock.now.moment c.args.held.now c.handle_sync.new.held c.args.offsets.now c.in-Sync.ticket (sync c.args.clock.now.moment c.in-Sync.r c.in-Sync.ticket c.args.held.now) c.in_ok-effects-in-Sync.effects
    (quiet-sync c.args.clock.now.moment c.in-Sync.r c.in-Sync.ticket c.args.held.now) (c.in_ok-effects-in-Sync.ensures.ok)

pub returns-in-Beat-clause-ok : goal.returns-in-Beat-clause-ok
unfolding handled
returns-in-Beat-clause-ok c =
    ap (handled (standing c.args.clock.now.loaded c.args.clock.now.moment c.args.held.now c.args.offsets.now)) c.in-Beat.is
    ∙ concluded_beside c.args.clock.now.loaded c.args.clock.now.moment c.args.held.now c.handle_beat.new.held c.args.offsets.now c.in-Beat.ticket (beat c.args.clock.now.moment c.in-Beat.r c.in-Beat.ticket c.args.held.now) c.handle_beat.result (c.handle_beat.ensures.met)

pub returns-in-Beat-clause-offsets : goal.returns-in-Beat-clause-offsets
returns-in-Beat-clause-offsets c =
    concluded_still c.args.clock.now.moment c.args.held.now c.handle_beat.new.held c.args.offsets.now c.in-Beat.ticket (beat c.args.clock.now.moment c.in-Beat.r c.in-Beat.ticket c.args.held.now) c.handle_beat.result
    (quiet-beat c.args.clock.now.moment c.in-Beat.r c.in-Beat.ticket c.args.held.now) (c.handle_beat.ensures.met)

pub returns-in_ok-effects-in-Leave-clause-ok : goal.returns-in_ok-effects-in-Leave-clause-ok
unfolding handled
returns-in_ok-effects-in-Leave-clause-ok c =
    ap (handled (standing c.args.clock.now.loaded c.args.clock.now.moment c.args.held.now c.args.offsets.now)) c.in-Leave.is
    ∙ concluded_beside c.args.clock.now.loaded c.args.clock.now.moment c.args.held.now c.handle_leave.new.held c.args.offsets.now c.in-Leave.ticket (leave c.args.clock.now.moment c.in-Leave.r c.in-Leave.ticket c.args.held.now) c.in_ok-effects-in-Leave.effects (c.in_ok-effects-in-Leave.ensures.ok)

pub returns-in_ok-effects-in-Leave-clause-offsets : goal.returns-in_ok-effects-in-Leave-clause-offsets
returns-in_ok-effects-in-Leave-clause-offsets c =
    concluded_still c.args.clock.now.moment c.args.held.now c.handle_leave.new.held c.args.offsets.now c.in-Leave.ticket (leave c.args.clock.now.moment c.in-Leave.r c.in-Leave.ticket c.args.held.now) c.in_ok-effects-in-Leave.effects
    (quiet-leave c.args.clock.now.moment c.in-Leave.r c.in-Leave.ticket c.args.held.now) (c.in_ok-effects-in-Leave.ensures.ok)

pub returns-in_ok-effects-in-Commit-clause-ok : goal.returns-in_ok-effects-in-Commit-clause-ok
unfolding handled
returns-in_ok-effects-in-Commit-clause-ok c =
    ap (handled (standing c.args.clock.now.loaded c.args.clock.now.moment c.args.held.now c.args.offsets.now)) c.in-Commit.is
    ∙ concluded_beside c.args.clock.now.loaded c.args.clock.now.moment c.args.held.now c.handle_commit.new.held c.args.offsets.now c.in-Commit.ticket (commit c.args.clock.now.moment c.in-Commit.r c.in-Commit.ticket c.args.held.now) c.in_ok-effects-in-Commit.effects (c.in_ok-effects-in-Commit.ensures.ok)

pub returns-in_ok-effects-in-Delete-clause-ok : goal.returns-in_ok-effects-in-Delete-clause-ok
unfolding handled
returns-in_ok-effects-in-Delete-clause-ok c =
    ap (handled (standing c.args.clock.now.loaded c.args.clock.now.moment c.args.held.now c.args.offsets.now)) c.in-Delete.is
    ∙ deleted_beside c.args.clock.now.loaded c.args.clock.now.moment c.args.held.now c.handle_delete.new.held c.args.offsets.now c.in-Delete.ticket (memberless c.in-Delete.id c.args.held.now) c.in_ok-effects-in-Delete.effects c.in_ok-effects-in-Delete.ensures.ok

pub returns-in_ok-effects-in-Gone-clause-ok : goal.returns-in_ok-effects-in-Gone-clause-ok
unfolding handled
returns-in_ok-effects-in-Gone-clause-ok c =
    ap (handled (standing c.args.clock.now.loaded c.args.clock.now.moment c.args.held.now c.args.offsets.now)) c.in-Gone.is
    ∙ everywhere_beside c.args.clock.now.loaded c.args.clock.now.moment c.args.held.now c.handle_gone.new.held c.args.offsets.now (gone_in c.args.clock.now.moment c.in-Gone.session) c.in_ok-effects-in-Gone.effects c.in_ok-effects-in-Gone.ensures.ok

pub returns-in_ok-effects-in-Gone-clause-offsets : goal.returns-in_ok-effects-in-Gone-clause-offsets
returns-in_ok-effects-in-Gone-clause-offsets c =
    everywhere_still c.args.clock.now.moment c.args.held.now c.handle_gone.new.held c.args.offsets.now (gone_in c.args.clock.now.moment c.in-Gone.session) c.in_ok-effects-in-Gone.effects (quiet-gone_in c.args.clock.now.moment c.in-Gone.session) c.in_ok-effects-in-Gone.ensures.ok

pub returns-in_ok-effects-in-Tick-clause-ok : goal.returns-in_ok-effects-in-Tick-clause-ok
unfolding handled
returns-in_ok-effects-in-Tick-clause-ok c = ap (handled (standing c.args.clock.now.loaded c.args.clock.now.moment c.args.held.now c.args.offsets.now)) c.in-Tick.is ∙ c.in_ok-effects-in-Tick.ensures.ok

pub returns-in_ok-effects-in-Drop-clause-ok : goal.returns-in_ok-effects-in-Drop-clause-ok
unfolding handled
returns-in_ok-effects-in-Drop-clause-ok c = ap (handled (standing c.args.clock.now.loaded c.args.clock.now.moment c.args.held.now c.args.offsets.now)) c.in-Drop.is ∙ c.in_ok-effects-in-Drop.ensures.ok c.args.clock.now.loaded

pub returns-in-Beat-clause-known : goal.returns-in-Beat-clause-known
unfolding handled
returns-in-Beat-clause-known c =
    known-after (is_home c.args.homes.now) c.args.clock.now.moment c.args.held.now c.handle_beat.new.held (event.Beat c.in-Beat.ticket c.in-Beat.r) c.handle_beat.result tt c.handle_beat.ensures.met c.requires.known

pub returns-in_ok-effects-in-Commit-clause-known : goal.returns-in_ok-effects-in-Commit-clause-known
unfolding handled
returns-in_ok-effects-in-Commit-clause-known c =
    known-after (is_home c.args.homes.now) c.args.clock.now.moment c.args.held.now c.handle_commit.new.held (event.Commit c.in-Commit.ticket c.in-Commit.r) c.in_ok-effects-in-Commit.effects tt c.in_ok-effects-in-Commit.ensures.ok c.requires.known

pub returns-in_ok-effects-in-Delete-clause-known : goal.returns-in_ok-effects-in-Delete-clause-known
unfolding handled
returns-in_ok-effects-in-Delete-clause-known c =
    known-after (is_home c.args.homes.now) c.args.clock.now.moment c.args.held.now c.handle_delete.new.held (event.Delete c.in-Delete.ticket c.in-Delete.id) c.in_ok-effects-in-Delete.effects tt c.in_ok-effects-in-Delete.ensures.ok c.requires.known

pub returns-in_ok-effects-in-Drop-clause-known : goal.returns-in_ok-effects-in-Drop-clause-known
unfolding handled
returns-in_ok-effects-in-Drop-clause-known c = known-dropped_after (is_home c.args.homes.now) c.args.clock.now.moment c.args.held.now c.handle_drop.new.held c.args.offsets.now c.in-Drop.ticket c.in-Drop.r c.in_ok-effects-in-Drop.effects (c.in_ok-effects-in-Drop.ensures.ok 0) c.requires.known

pub returns-in-Beat-clause-tight : goal.returns-in-Beat-clause-tight
returns-in-Beat-clause-tight c = tight_stay c.args.homes.now c.args.held.now c.handle_beat.new.held c.handle_beat.ensures.parked c.requires.tight

pub returns-in_ok-effects-in-Commit-clause-tight : goal.returns-in_ok-effects-in-Commit-clause-tight
returns-in_ok-effects-in-Commit-clause-tight c = tight_stay c.args.homes.now c.args.held.now c.handle_commit.new.held c.handle_commit.ensures.parked c.requires.tight

pub returns-in_ok-effects-in-Delete-clause-tight : goal.returns-in_ok-effects-in-Delete-clause-tight
returns-in_ok-effects-in-Delete-clause-tight c = tight_stay c.args.homes.now c.args.held.now c.handle_delete.new.held c.handle_delete.ensures.parked c.requires.tight

pub returns-in_ok-effects-in-Drop-clause-tight : goal.returns-in_ok-effects-in-Drop-clause-tight
returns-in_ok-effects-in-Drop-clause-tight c = tight_stay c.args.homes.now c.args.held.now c.handle_drop.new.held c.handle_drop.ensures.parked c.requires.tight
