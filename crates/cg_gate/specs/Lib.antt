pub use Rattle.cg_disk.specs.Disk
pub mod Layout
pub mod Gates
