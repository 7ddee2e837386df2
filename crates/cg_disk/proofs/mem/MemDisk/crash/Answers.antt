use Rattle.std.proofs.Common.{◌≡◌, List, ℕ, ap, sym, ◌∙◌, false}
use Rattle.cg_disk.specs.Disk.{sector, present}
use Rattle.cg_disk.specs.Record.{is_unsynced, recorded}
use Rattle.cg_disk.specs.Mem.{mem_history}
use Rattle.cg_disk.proofs.Lost.{IsImage-lost, IsLastSynced-lost}
use Rattle.cg_disk.proofs.Recorded.{content-present, unsynced-present}
use Rattle.cg_disk.proofs.mem.MemDisk.crash.Goals as goal
use Rattle.cg_disk.proofs.mem.MemDisk.crash.Goals.{in-Keep, in-Lose}

pub returns-clause-synced : goal.returns-clause-synced
unfolding mem_history
returns-clause-synced c s = unsynced-present c.match-kind.bytes.items c.clear.new.self.items s ∙ ap (λ l. is_unsynced l s false) c.clear.ensures.items

pub returns-clause-kept : goal.returns-clause-kept
unfolding mem_history
returns-clause-kept c keep s =
    let old = c.args.self in
    let same : c.match-kind.bytes.items ≡ old.bytes.items = elim c.match-kind.branch [ in-Keep w ↦ ap (λ v. v.items) w.bytes-is | in-Lose w ↦ cc ] in
    content-present c.match-kind.bytes.items c.clear.new.self.items s ∙ ap (λ (l : List ℕ). sector l s) same ∙ sym (content-present old.bytes.items old.calls.items s)

pub returns-clause-image : goal.returns-clause-image
unfolding mem_history
returns-clause-image c s synced =
    let old = c.args.self in
    let marks : is_unsynced old.calls.items s false ≡ false = sym (unsynced-present old.bytes.items old.calls.items s) ∙ synced in
    let same : sector c.match-kind.bytes.items s ≡ sector old.bytes.items s = elim c.match-kind.branch [
      | in-Keep w ↦ ap (λ v. sector v.items s) w.bytes-is
      | in-Lose w ↦ ap (λ v. sector v.items s) w.bytes-is ∙ IsImage-lost old.bytes.items w.undo_unsynced.new.disk.items old.calls.items old.within w.undo_unsynced.ensures.back s marks
    ] in
    content-present c.match-kind.bytes.items c.clear.new.self.items s ∙ same ∙ sym (content-present old.bytes.items old.calls.items s)

pub returns-clause-lost : goal.returns-clause-lost
unfolding mem_history
returns-clause-lost c lose =
    let old = c.args.self in
    elim c.match-kind.branch [
      | in-Keep w ↦ cc
      | in-Lose w ↦ IsLastSynced-lost old.bytes.items w.undo_unsynced.new.disk.items old.calls.items old.within w.undo_unsynced.ensures.back (present (recorded c.match-kind.bytes.items c.clear.new.self.items)).content
          (λ s. content-present c.match-kind.bytes.items c.clear.new.self.items s ∙ ap (λ v. sector v.items s) w.bytes-is)
    ]
