-- The order in which a device serves what is there, and where it has nothing left to do.
use Rattle.std.specs.Prelude.{ℕ, zero, suc, Bool, true, false, if◌then◌else◌, ◌≡◌, ◌+◌, ◌⊎◌, List, [], ◌∷◌, ◌++◌, length, None, ⊤}
use Rattle.std.specs.List.{AllByRecursion, sum_by}
use Rattle.ring_core.specs.State.{PlainChain}
use Rattle.ring_core.specs.Offer.{Offers, Nothing}
use Rattle.ring_core.specs.declared.log.Ticket.{Ticket}
use Rattle.unit_model.specs.Steps.{done}
use Rattle.unit_model.specs.Jobs.{PlainJob}
use Rattle.unit_model.specs.Unit.{PlainUnit}
use Rattle.device_model.specs.World.{PlainWorld, Everywhere}
use Rattle.device_model.specs.Events.{Event}
use Rattle.device_model.specs.Applies.{Applies}
use Rattle.device_model.specs.Found.{UnitIs}
use Rattle.device_model.specs.Event.Fetch.{IsOpenTo}
use Rattle.device_model.specs.Places.{of_chain, of_job, of_function, at_unit, accepted_count, used_count}

-- for each number below this one, rising
abbrev pub each : (ℕ → List Event) → ℕ → List Event
each f zero = []
each f (suc n) = each f n ++ f n

abbrev pub of_seat : ℕ → List Event
of_seat k = Event.Leave k ∷ Event.Answer k ∷ Event.Commit k ∷ Event.Put k ∷ Event.Resume k ∷ Event.Take k ∷ []

-- own: the function, the event port, and what is ready to be answered; then each seat, what is nearest to its end
-- first; then the requests that arrived; and new chains last
unfoldable pub order : ℕ → ℕ → List Event
order queues seats =
    (Event.AnswerTmf ∷ Event.Check ∷ Event.Mark ∷ Event.Raise ∷ each (λ q. Event.Direct q ∷ []) queues)
    ++ (each of_seat seats ++ (each (λ q. Event.Enter q ∷ []) queues ++ each (λ q. Event.Fetch q ∷ []) queues))

-- a queue's next chain, where it is asked
abbrev pub fetch_of : (ℕ → Bool) → ℕ → List Event
fetch_of asked q = if asked q then Event.Fetch q ∷ [] else []

-- own: the same where new chains are taken from the queues alone that are asked
unfoldable pub order_by : (ℕ → Bool) → ℕ → ℕ → List Event
order_by asked queues seats =
    (Event.AnswerTmf ∷ Event.Check ∷ Event.Mark ∷ Event.Raise ∷ each (λ q. Event.Direct q ∷ []) queues)
    ++ (each of_seat seats ++ (each (λ q. Event.Enter q ∷ []) queues ++ each (fetch_of asked) queues))

abbrev pub order_of : PlainWorld → List Event
order_of w = order (length w.queues) (length w.seats)

-- of these events it is the first that applies
abbrev pub IsFirstOf : PlainWorld → List Event → Event → Type 0
IsFirstOf w [] e = ⊥
IsFirstOf w (x ∷ xs) e = (Applies w x × (x ≡ e)) ⊎ ((Applies w x → ⊥) × IsFirstOf w xs e)

abbrev pub IsNext : PlainWorld → Event → Type 0
IsNext w e = IsFirstOf w (order_of w) e

abbrev pub IsNextOf : (ℕ → Bool) → PlainWorld → Event → Type 0
IsNextOf asked w e = IsFirstOf w (order_by asked (length w.queues) (length w.seats)) e

-- none of these events applies
abbrev pub NoneApplies : PlainWorld → List Event → Type 0
NoneApplies w [] = ⊤
NoneApplies w (x ∷ xs) = (Applies w x → ⊥) × NoneApplies w xs

abbrev pub IsQuiet : PlainWorld → Type 0
IsQuiet w = NoneApplies w (order_of w)

abbrev pub IsQuietOf : (ℕ → Bool) → PlainWorld → Type 0
IsQuietOf asked w = NoneApplies w (order_by asked (length w.queues) (length w.seats))

-- the chains of the jobs that wait, and of those that are parked
abbrev pub waiting_count : (Ticket → ℕ) → PlainWorld → ℕ
waiting_count p w = sum_by (of_job p) w.aside + sum_by (at_unit p) w.units

-- a unit parks a job only where another of its jobs waits
abbrev pub AreBehindAside : PlainWorld → Type 0
AreBehindAside w =
    Everywhere (λ i u. AllByRecursion (λ (x : PlainJob). x.unit ≡ i → ⊥) w.aside → u.parked ≡ []) w.units

-- no job that waits is one whose command ran: so no reply is withheld
abbrev pub NoneIsWithheld : PlainWorld → Type 0
NoneIsWithheld w =
    AllByRecursion (λ (x : PlainJob). (u : PlainUnit) → UnitIs w x.unit u → done x.entry.ticket u.steps ≡ false) w.aside

-- each accepted chain was used but for the event buffers that are held, the jobs that wait, those that are parked behind
-- such a job, and that of a function; a function is open only where it waits for a task whose reply is withheld; no event
-- waits, and a queue that no fault broke has nothing for the device, or is the control queue of an open function
pub record IsAtRest (w : PlainWorld) : Type 0 where
  pub chains : (p : Ticket → ℕ)
      → used_count p w + sum_by (of_chain p) w.buffers + waiting_count p w + of_function p w.function ≡ accepted_count p w
  pub parked : AreBehindAside w
  pub woken : w.woken ≡ []
  pub buffers : AllByRecursion (λ (c : PlainChain). c.ticket.queue ≡ 1) w.buffers
  pub closed : NoneIsWithheld w → w.function ≡ None
  pub waiting : w.waiting ≡ []
  pub queues : Everywhere (λ i q. IsOpenTo w i → q.ring.broken ≡ None → Offers q.ring w.memory Nothing) w.queues

-- the same where only the queues that are asked have nothing for the device: nothing but chains that weren't accepted,
-- of other queues, is left
pub record IsAtRestOf (asked : ℕ → Bool) (w : PlainWorld) : Type 0 where
  pub chains : (p : Ticket → ℕ)
      → used_count p w + sum_by (of_chain p) w.buffers + waiting_count p w + of_function p w.function ≡ accepted_count p w
  pub parked : AreBehindAside w
  pub woken : w.woken ≡ []
  pub buffers : AllByRecursion (λ (c : PlainChain). c.ticket.queue ≡ 1) w.buffers
  pub closed : NoneIsWithheld w → w.function ≡ None
  pub waiting : w.waiting ≡ []
  pub queues : Everywhere (λ i q. asked i ≡ true → IsOpenTo w i → q.ring.broken ≡ None → Offers q.ring w.memory Nothing) w.queues
