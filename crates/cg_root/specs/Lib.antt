pub use Rattle.cg_disk.specs.Disk
pub use Rattle.cg_gate.specs.Gates
pub use Rattle.cg_gate.specs.Layout
pub mod Slots
pub mod Roots
pub mod Decoding
pub mod Building
pub mod Outcomes
