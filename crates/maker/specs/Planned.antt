-- What `make_plan` promises.
pub use Rattle.decompose.specs.Planned.{Planned}
