use Rattle.std.proofs.Common.{◌≡◌, ◌∙◌, length, arith, refl, None}
use Rattle.phases.specs.Slots.{slot_of}
use Rattle.phases.proofs.Deciding.{none_of}
use Rattle.phases.proofs.Fetched.{control_taken, broken}
use Rattle.device_model.specs.Transitions.{Transition}
use Rattle.phases.proofs.fetching.phase_fetch_control_in.Goals as goal

pub returns-in-Ok-Broke-clause-fetches : goal.returns-in-Ok-Broke-clause-fetches
returns-in-Ok-Broke-clause-fetches g c = λ m s.
    let fits : length m ≡ c.args.queue.now.ring.memory = g.met.M.Memory.sized c.fetch_in.new.memory m s ∙ c.fetch_in.ensures.size ∙ c.if-not-fits.ensures.0 refl in
    let looks = c.in-Ok-Broke.ensures.looks m s in
    let looked = rw c.in-Ok-Broke.field-0-is at looks in
    let old = c.args.queue.now in
    let control : old.ring.queue ≡ 0 = omega (arith, c.number.ensures, c.if-number-ne-CONTROL_QUEUE.false) in
    let none : c.args.function.now ≡ None = none_of c.args.function.now c.if-is_some.ensures in (
      control,
      record { empty = c.if-not-is_empty.ensures.0 refl; fits = fits },
      none,
      (
        Transition.Break old.ring.queue looked.fault,
        control,
        broken c.args.inventory.now old c.fetch_in.new.self m (slot_of c.args.slot.now) looked,
        none,
      ),
    )

pub returns-in-Ok-Got-clause-fetches : goal.returns-in-Ok-Got-clause-fetches
returns-in-Ok-Got-clause-fetches g c = λ m s.
    let fits : length m ≡ c.args.queue.now.ring.memory = g.met.M.Memory.sized c.fetch_in.new.memory m s ∙ c.fetch_in.ensures.size ∙ c.if-not-fits.ensures.0 refl in
    let looks = c.in-Ok-Got.ensures.looks m s in
    let looked = rw c.in-Ok-Got.field-0-is at looks in
    let fetched = c.in-Ok-Got.fetched in
    let control : c.args.queue.now.ring.queue ≡ 0 = omega (arith, c.number.ensures, c.if-number-ne-CONTROL_QUEUE.false) in
    let none : c.args.function.now ≡ None = none_of c.args.function.now c.if-is_some.ensures in (
      control,
      record { empty = c.if-not-is_empty.ensures.0 refl; fits = fits },
      none,
      control_taken c.args.inventory.now c.args.queue.now c.fetch_in.new.self m fetched.chain
          fetched.bytes.items (slot_of c.args.slot.now) looked.0 looked.1 (slot_of c.decided_control.new.slot)
          c.args.function.now c.decided_control.new.function control none c.decided_control.ensures,
    )
