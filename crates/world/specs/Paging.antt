-- What a host does with the disks whose pages come and go, and what is promised of it.
use Rattle.std.specs.Prelude.{ℕ, Bool, true, Ok}
use Rattle.block_store.specs.Storage.{Dealing}
use Rattle.device_model.specs.World.{PlainWorld}
use Rattle.device_model.specs.Events.{Event}
use Rattle.device_model.specs.Turns.{Turns}
use Rattle.device_steps.specs.Apart.{PlainDevice}
use Rattle.device_steps.specs.Paging.{IsDealt}
use Rattle.world.specs.LiveWorld.{StepsPromised}
use Rattle.world.specs.Promise.{StepsAsPromised}

-- own: the host dealt so with the storage of the unit at an index. That is a step of the device, and the promise is kept
pub record DealsAsPromised (w : PlainWorld) (unit_index : ℕ) (d : Dealing) (w' : PlainWorld) : Type 0 where
  pub turns : Turns w (Event.Deal unit_index d) true w'
  pub promise : StepsAsPromised w (Event.Deal unit_index d) (Ok true) w'

-- own: the same of a device on a memory of this size, that its guest writes at any time
pub record DealsPromised (shared : Bool) (size : ℕ) (old : PlainDevice) (unit_index : ℕ) (d : Dealing) (new : PlainDevice) : Type 0 where
  pub dealt : IsDealt old unit_index d new
  pub promise : StepsPromised shared size old (Event.Deal unit_index d) (Ok true) new
