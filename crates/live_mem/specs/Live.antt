-- What a live memory may be, and what was stored in it.
use Rattle.std.specs.Prelude.{ℕ, List}
use Rattle.guest_mem.specs.Stores.{Store}
use Rattle.live_mem.specs.Access.{MayBe, all_stores}
use Rattle.live_mem.specs.Heard.{heard}
use Rattle.live_mem.specs.declared.live.LiveMem.{LiveMem}

-- it may be m
abbrev pub MayBeLive : {B : Type 0} → LiveMem B → List ℕ → Type 0
MayBeLive x m = MayBe x.size (heard x.bus) m

-- all that its bus was asked to store, the first one first
abbrev pub stored_live : {B : Type 0} → LiveMem B → List Store
stored_live x = all_stores (heard x.bus)

-- the bus behind it
abbrev pub bus_of : {B : Type 0} → LiveMem B → B
bus_of x = x.bus.bus
