pub use Rattle.cg_disk.specs.Disk
pub use Rattle.cg_gate.specs.Gates
pub mod Frames
pub mod Heads
pub mod Outcomes
pub mod Reader
pub mod Staged
