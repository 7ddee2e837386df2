use Rattle.std.proofs.Common.{◌≡◌, [], ◌∷◌}
use Rattle.cg_record.specs.declared.command.Command.{Command}
use Rattle.cg_store.proofs.Buffers.{not-put}
use Rattle.cg_store.proofs.snapshot_frames.put_ahead.Goals as goal

pub returns-in_ok-is_put-in-Some-clause-full : goal.returns-in_ok-is_put-in-Some-clause-full
returns-in_ok-is_put-in-Some-clause-full c not next rest is =
    let said = c.in_ok-is_put-in-Some.ensures in
    let command : Command = c.in-Some.command in
    let listed : command ∷ [] ≡ next ∷ rest = rw c.in-Some.is at is in
    let same : command ≡ next = cc in
    not-put c.args.draft.now c.push_if_fits.new.self command next c.in_ok-is_put-in-Some.is_put not said.put same (said.full not)
