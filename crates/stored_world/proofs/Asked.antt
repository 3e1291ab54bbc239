-- Serving that asks the drivers leaves the storages of disks as they are, too.
use Rattle.std.proofs.Common.{◌≡◌, ℕ, zero, suc, ◌-◌, Bool, true, false, List, [], ◌∷◌, length, Option, Some, None, Result, Ok, Err, refl, sym, ap, subst}
use Rattle.foundation.specs.declared.NoMemory.{NoMemory}
use Rattle.ring_core.specs.Writes.{Write}
use Rattle.ring_core.specs.declared.asking.Notify.TheVariants.{Next}
use Rattle.device_model.specs.World.{PlainWorld}
use Rattle.device_model.specs.Events.{Event, plain_event}
use Rattle.device_model.specs.declared.event.Event as declared
use Rattle.device_model.specs.declared.event.Event.TheVariants as event
use Rattle.device_model.specs.Happens.{world_of}
use Rattle.device_steps.specs.Asking.{asking_at}
use Rattle.device_steps.specs.Settling.{asks, asks_all, ServesBy}
use Rattle.world.specs.Asking.{Asks}
use Rattle.world.specs.ServingAsked.{AsksIf, AsksBelow, AsksNext, AsksDrivers, Rounds, Round, ServesWhole, ServesAskedOrWants, all_steps}
use Rattle.world.specs.Steps.{Steps}
use Rattle.world.specs.Settling.{ServesSomeOrWants, ServesOrWants}
use Rattle.world.specs.declared.served.Served.{Served}
use Rattle.stored_world.specs.Keeping.{KeepsDisks, is_served}
use Rattle.stored_world.proofs.Keeping.{keeps_all, keeps_on, serving_keeps, step_keeps, turn_keeps}

by_serving : (asked : ℕ → Bool) (w w' : PlainWorld) (count : ℕ) → ServesBy asked w count w' → KeepsDisks w w'
by_serving asked w w' count s = subst (λ x. KeepsDisks w x) (sym s.is) (serving_keeps asked w s.transitions s.settles)

pub served_keeps : (asked : ℕ → Bool) (most : ℕ) (w w' : PlainWorld) (r : Result Served NoMemory) → ServesSomeOrWants asked most w r w' → KeepsDisks w w'
served_keeps asked most w w' (Ok s) is = by_serving asked w w' s.steps is.serves
served_keeps asked most w w' (Err x) is = by_serving asked w w' is.count is.serves

pub settled_keeps : (w w' : PlainWorld) (r : Result ℕ NoMemory) → ServesOrWants w r w' → KeepsDisks w w'
settled_keeps w w' (Ok count) is = by_serving asks_all w w' count is.serves
settled_keeps w w' (Err x) is = by_serving asks_all w w' is.count is.serves

pub asked_keeps : (w w' : PlainWorld) (write : Option Write) (told : Bool) → Asks w write told w' → KeepsDisks w w'
asked_keeps w w' None told (none, is) = subst (λ x. KeepsDisks w x) (sym is) (keeps_all w)
asked_keeps w w' (Some x) told (some, turns) = turn_keeps w w' (Event.Poke x) true refl turns

below_keeps : (asked : ℕ → Bool) (q : ℕ) (w w' : PlainWorld) → AsksBelow AsksNext asked q w w' → KeepsDisks w w'
below_keeps asked zero w w' is = subst (λ x. KeepsDisks w x) (sym is) (keeps_all w)
below_keeps asked (suc q) w w' (m, before, here) = keeps_on w m w' (below_keeps asked q w m before) (one (asked q) here)
  where
    one : (t : Bool) → AsksIf AsksNext t q m w' → KeepsDisks m w'
    one true (told, asks_it, kept) = asked_keeps m w' (asking_at m.queues q Next) told asks_it
    one false is = subst (λ x. KeepsDisks m x) (sym is) (keeps_all m)

rounds_keep : (queues most : ℕ) (w w' : PlainWorld) (rounds : List ℕ)
    → Rounds (ServesWhole queues) (AsksDrivers queues) w most rounds w' → KeepsDisks w w'
rounds_keep queues most w w' [] is = subst (λ x. KeepsDisks w x) (sym is) (keeps_all w)
rounds_keep queues most w w' (count ∷ past) (m, before, round) =
    keeps_on w m w' (rounds_keep queues most w m past before)
    (keeps_on m round.behind w' (served_keeps (asks queues) (most - all_steps past) m round.behind (Ok round.told) round.serves.0)
    (below_keeps (asks queues) (length round.behind.queues) round.behind w' round.asks))

pub serving_asked_keeps : (queues most : ℕ) (w w' : PlainWorld) (r : Result Served NoMemory)
    → ServesAskedOrWants (ServesWhole queues) (AsksDrivers queues) w most r w' → KeepsDisks w w'
serving_asked_keeps queues most w w' (Ok s) is =
    keeps_on w is.behind w' (rounds_keep queues most w is.behind is.rounds is.took)
    (served_keeps (asks queues) (most - all_steps is.rounds) is.behind w' (Ok is.told) is.serves.0)
serving_asked_keeps queues most w w' (Err x) is =
    keeps_on w is.behind w' (rounds_keep queues most w is.behind is.rounds is.took)
    (served_keeps (asks queues) (most - all_steps is.rounds) is.behind w' (Err x) is.serves.0)

-- an event of the code but a resize
pub plain_served : (e : declared.Event) → ((unit_index blocks : ℕ) → e ≡ event.Resize unit_index blocks → ⊥) → is_served (plain_event e) ≡ true
plain_served (event.Resize unit_index blocks) not = absurd (not unit_index blocks refl)
plain_served e not = refl

pub stepped_keeps : (w w' : PlainWorld) (e : Event) (r : Result Bool NoMemory) → is_served e ≡ true → Steps w e r w' → KeepsDisks w w'
stepped_keeps w w' e (Ok told) served is = step_keeps w w' e told served is
stepped_keeps w w' e (Err x) served is = subst (λ y. KeepsDisks w y) (sym is.1) (keeps_all w)
