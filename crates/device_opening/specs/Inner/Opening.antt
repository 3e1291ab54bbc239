-- The parts that a configuration opens as, of which nothing has happened yet.
use Rattle.std.specs.Prelude.{ℕ, ◌≡◌, Bool, List, length, slice_get, Some}
use Rattle.ring_core.specs.State.{features_of}
use Rattle.ring_core.specs.declared.layout.Features.{Features}
use Rattle.ring_core.specs.declared.layout.Form.{Form}
use Rattle.ring_core.specs.declared.layout.Layout.{Layout}
use Rattle.virtqueue.specs.Queue.{BareQueue, opening_queue}
use Rattle.unit_model.specs.Unit.{PlainUnit}
use Rattle.request_intake.specs.Inventory.{PlainInventory, inventory_of}
use Rattle.config.specs.Config.{form_of}
use Rattle.config.specs.declared.config.Config.{Config}
use Rattle.device_opening.specs.Opening.{AreFresh}

-- own: of each queue of these layouts, for which these features were agreed and of which nothing was fetched yet, what a host
-- keeps
pub record AreKept {B : Type 0} (kept : BareQueue → B → Type 0) (form : Form) (memory : ℕ) (features : Features)
    (layouts : List Layout) (queues : List B) : Type 0 where
  pub count : length queues ≡ length layouts
  pub each : (k : ℕ) (l : Layout) → slice_get layouts k ≡ Some l
      → (b : B) × (slice_get queues k ≡ Some b) × kept (opening_queue form memory k l features) b

-- own: what a configuration opens as on a memory of this size: the inventory, the queues as a host keeps them, and the units
pub record IsOpenedFor {B : Type 0} (kept : BareQueue → B → Type 0) (size : ℕ) (c : Config) (keeps : Bool)
    (known : PlainInventory) (made : List B) (us : List PlainUnit) : Type 0 where
  pub form : Form
  pub agreed : form_of c.features ≡ Some form
  pub inventory : known ≡ inventory_of c.units.items
  pub queues : AreKept kept form size (features_of c.features) c.queues.items made
  pub units : AreFresh keeps c.units.items us
