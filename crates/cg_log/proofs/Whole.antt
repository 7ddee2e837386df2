-- A log of which everything was read.
use Rattle.std.proofs.Common.{◌≡◌, ℕ, ◌+◌, ◌≤◌, ◌∙◌, Bool, length}
use Rattle.std.specs.Prelude.{IsTrue, ◌↔◌}
use Rattle.cg_disk.specs.Disk.{Image, IsImage, IsSynced, Moment}
use Rattle.cg_disk.proofs.Moments.{IsSynced-image}
use Rattle.cg_frame.specs.Heads.{HasContent}
use Rattle.cg_gate.specs.Gates.{IsClosed, IsOpen}
use Rattle.cg_gate.specs.Layout.{first_sector}
use Rattle.cg_root.specs.Roots.{CountingRoot, root_ids}
use Rattle.cg_root.specs.Slots.{gate_of, other_slot}
use Rattle.cg_root.specs.declared.root.Root.{Root}
use Rattle.cg_log.specs.Carried.{Content, HoldsContent}
use Rattle.cg_log.specs.ReadTo.{IsReadTo, id_at}
use Rattle.cg_log.specs.Ready.{IsReady}
use Rattle.cg_log.specs.Segments.{Frames}
use Rattle.cg_log.proofs.Images.{HoldsContent-read, IsReady-read}
use Rattle.cg_log.proofs.ReadTo.{IsWhole, IsWhole-read}

module _ (m : Moment) (sectors : ℕ) (image : Image) (root : Root) (index pos number end : ℕ) (read : Frames) (same : HasContent m image) (synced : IsSynced m) (counting : CountingRoot image sectors root) (some : 1 ≤ length root.tail) (last : index + 1 ≡ length (root_ids root)) (so_far : IsReadTo image root index pos number read) (closed : IsClosed image (first_sector (id_at root index) + pos)) (end_is : end ≡ pos) where
  abbrev whole : (has : Content) × IsWhole image sectors root pos number read has
  whole = IsWhole-read image sectors root index pos number read counting some last so_far closed

  images : (i : Image) → IsImage m i → (s : ℕ) → i s ≡ image s
  images i is s = IsSynced-image m i synced is s ∙ same s

  abbrev pub content-whole : Content
  content-whole = whole.0

  pub HoldsContent-whole : HoldsContent m sectors root end number content-whole
  HoldsContent-whole = HoldsContent-read m sectors image images root end whole.0 whole.1.stored (end_is ∙ whole.1.end_is) number whole.1.number_is

  pub IsReady-whole : (is_other_open : Bool) → (IsTrue is_other_open ↔ IsOpen image (gate_of (other_slot root.slot))) → IsReady m sectors root end is_other_open
  IsReady-whole = IsReady-read m sectors image images root end whole.0 whole.1.stored (end_is ∙ whole.1.end_is)
