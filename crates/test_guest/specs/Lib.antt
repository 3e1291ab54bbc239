pub use Rattle.ring_core.specs.State
