-- A device on live memory that asks its drivers for notifications as it serves them.
use Rattle.std.specs.Prelude.{ℕ, ◌≡◌, Bool, true, bit_and, Ok, Err}
use Rattle.foundation.specs.declared.NoMemory.{NoMemory}
use Rattle.host_bus.specs.declared.HostBus.{HostBus}
use Rattle.live_mem.specs.Live.{MayBeLive}
use Rattle.live_mem.specs.declared.live.LiveMem.{LiveMem}
use Rattle.world.specs.LiveWorld.{PlainLive}
use Rattle.world.specs.ServingAsked.{ServesWholeLive, AsksDriversLive, ServesAskedOrWants}
use Rattle.world.specs.declared.served.Served.{Served as Portion}
use Rattle.c_calls.specs.Live.{begins_live, stores_live, KeepsRest}
use Rattle.c_calls.specs.declared.answer.Answer.{Answer}
use Rattle.c_calls.specs.declared.answer.Answer.TheVariants as answer
use Rattle.c_calls.specs.declared.live_served.LiveServed.{LiveServed}

abbrev pub size_live : LiveMem HostBus → ℕ
size_live m = m.size

-- as `LiveWorld::serve_and_ask`; of what was served before memory was refused nothing is told
abbrev pub ServesAskedApart : ℕ → ℕ → PlainLive (LiveMem HostBus) → Portion → Answer → Portion → PlainLive (LiveMem HostBus)
    → Type 0
ServesAskedApart queues most x old answer.Done new y =
    ServesAskedOrWants (ServesWholeLive true begins_live MayBeLive stores_live size_live queues)
    (AsksDriversLive true begins_live MayBeLive stores_live size_live queues) x most (Ok new) y
ServesAskedApart queues most x old answer.NoMemory new y = (e : NoMemory)
    × ServesAskedOrWants (ServesWholeLive true begins_live MayBeLive stores_live size_live queues)
    (AsksDriversLive true begins_live MayBeLive stores_live size_live queues) x most (Err e) y × (new ≡ old)
ServesAskedApart queues most x old a new y = ⊥

-- of those queues that are mapped
abbrev pub ServesAskedPortion : ℕ → ℕ → ℕ → Bool → ℕ → Bool → LiveServed → Answer → LiveServed → Type 0
ServesAskedPortion queues most steps more steps' more' d a d' =
    ServesAskedApart (bit_and queues d.rings.mapped) most d.world (record { steps = steps; more = more }) a
    (record { steps = steps'; more = more' }) d'.world
    × KeepsRest d d'
