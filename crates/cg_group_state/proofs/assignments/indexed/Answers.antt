use Rattle.std.proofs.Common.{List, ap, sym, ◌∙◌}
use Rattle.indexmap.specs.IndexMap.{get}
use Rattle.std.specs.Map.{lookup}
use Rattle.std.specs.Prelude.{nat_eq}
use Rattle.std.specs.Cmp.Lexicographic.{pointwise}
use Rattle.cg_group_state.specs.Assignments.{after_notes}
use Rattle.cg_group_state.proofs.Exchanges.{after_all, after_last}
use Rattle.cg_request.specs.declared.request_fields.SyncEntry.{SyncEntry}
use Rattle.cg_group_state.proofs.assignments.indexed.Goals as goal

pub loop-entry-init : goal.loop-entry-init
loop-entry-init c =
    λ id.
    ap (λ (xs : List SyncEntry). after_notes xs id (get (pointwise nat_eq) c.in_ok-index.index id)) c.into_vec-rest.ensures
    ∙ ap (λ es. after_notes c.args.entries id (lookup (pointwise nat_eq id) es)) c.in_ok-index.ensures.empty
    ∙ after_all c.args.entries id

pub loop-entry-preserved : goal.loop-entry-preserved
loop-entry-preserved c =
    λ id.
    ap (after_notes c.pop.new.self.items id) (c.in_ok-note.ensures id)
    ∙ sym (after_last c.pop.new.self.items c.in-Some.entry id (get (pointwise nat_eq) c.loop-entry.index id))
    ∙ ap (λ (xs : List SyncEntry). after_notes xs id (get (pointwise nat_eq) c.loop-entry.index id)) (sym c.in-Some.ensures.items)
    ∙ c.loop-entry.invariant id
