use Rattle.std.proofs.Common.{◌≡◌, ◌≤◌, ℕ, List, length, ap, arith, refl, sym, subst, ◌∙◌, Ok}
use Rattle.ring_core.specs.State.{RingState, Owns}
use Rattle.phases.specs.Slots.{slot_of}
use Rattle.phases.specs.Inner.Taking.{IsTakenAs, TakesRequest, IsOutstandingIn}
use Rattle.phases.specs.declared.taking.Taken.{Taken}
use Rattle.phases.specs.declared.taking.Taken.TheVariants as taken
use Rattle.phases.proofs.Reading.{read_of_taken}
use Rattle.phases.proofs.Fetched.{request_taken, broken}
use Rattle.device_model.specs.Transitions.{Transition}
use Rattle.device_model.specs.Parts.{Slot}
use Rattle.phases.proofs.taking.take_request.Goals as goal

pub decided-requires : goal.decided-requires
decided-requires g c =
    let m = c.size-bytes.ensures.some.0 in
    let s = c.size-bytes.ensures.some.1 in
    let fits : length m ≡ c.args.queue.now.ring.memory = g.met.M.Memory.sized c.fetch_in.new.memory m s ∙ c.fetch_in.ensures.size ∙ c.if-not-fits.ensures.0 refl in
    let looks = c.in-Ok-Got.ensures.looks m s in
    let looked = rw c.in-Ok-Got.field-0-is at looks in
    let fetched = c.in-Ok-Got.fetched in
    read_of_taken c.args.queue.now.ring c.fetch_in.new.self.ring m fetched.chain fetched.bytes.items fits c.parts-parts.ensures.fit looked.0

pub returns-in-Ok-Broke-clause-takes : goal.returns-in-Ok-Broke-clause-takes
returns-in-Ok-Broke-clause-takes g c = λ m s.
    let fits : length m ≡ c.args.queue.now.ring.memory = g.met.M.Memory.sized c.fetch_in.new.memory m s ∙ c.fetch_in.ensures.size ∙ c.if-not-fits.ensures.0 refl in
    let looks = c.in-Ok-Broke.ensures.looks m s in
    let looked = rw c.in-Ok-Broke.field-0-is at looks in
    let old = c.args.queue.now in (
      omega (arith, c.number.ensures, c.if-number-lt-FIRST_REQUEST_QUEUE.false),
      record { empty = c.if-not-is_empty.ensures.0 refl; fits = fits },
      (
        Transition.Break old.ring.queue looked.fault,
        refl,
        broken c.args.inventory.now old c.fetch_in.new.self m (slot_of c.args.slot.now) looked,
      ),
    )

-- what was decided of the chain, by what it is
gives : (g : _) (c : goal.After-decided g) (m : List ℕ) (s : g.M.Memory.may_be c.fetch_in.new.memory m) (t : Taken)
    → IsTakenAs c.args.inventory.now c.in-Ok-Got.fetched.chain c.in-Ok-Got.fetched.bytes.items (slot_of c.args.slot.now) t (slot_of c.decided.new.slot)
    → TakesRequest c.args.inventory.now m (slot_of c.args.slot.now) c.args.queue.now (Ok t) (slot_of c.decided.new.slot) c.fetch_in.new.self
    × IsOutstandingIn (g.M.Memory.extent c.fetch_in.new.memory) (Ok t) c.fetch_in.new.self
gives g c m s taken.Nothing decides = absurd decides
gives g c m s taken.Other decides =
    let fits : length m ≡ c.args.queue.now.ring.memory = g.met.M.Memory.sized c.fetch_in.new.memory m s ∙ c.fetch_in.ensures.size ∙ c.if-not-fits.ensures.0 refl in
    let looks = c.in-Ok-Got.ensures.looks m s in
    let looked = rw c.in-Ok-Got.field-0-is at looks in
    let fetched = c.in-Ok-Got.fetched in
    let two : 2 ≤ c.args.queue.now.ring.queue = omega (arith, c.number.ensures, c.if-number-lt-FIRST_REQUEST_QUEUE.false) in (
      (
        two,
        record { empty = c.if-not-is_empty.ensures.0 refl; fits = fits },
        request_taken c.args.inventory.now c.args.queue.now c.fetch_in.new.self m fetched.chain
            fetched.bytes.items (slot_of c.args.slot.now) looked.0 looked.1 (slot_of c.decided.new.slot) two decides,
      ),
      tt,
    )
gives g c m s (taken.Arrived x) decides =
    let fits : length m ≡ c.args.queue.now.ring.memory = g.met.M.Memory.sized c.fetch_in.new.memory m s ∙ c.fetch_in.ensures.size ∙ c.if-not-fits.ensures.0 refl in
    let looks = c.in-Ok-Got.ensures.looks m s in
    let looked = rw c.in-Ok-Got.field-0-is at looks in
    let fetched = c.in-Ok-Got.fetched in
    let two : 2 ≤ c.args.queue.now.ring.queue = omega (arith, c.number.ensures, c.if-number-lt-FIRST_REQUEST_QUEUE.false) in (
      (
        (
          two,
          record { empty = c.if-not-is_empty.ensures.0 refl; fits = fits },
          request_taken c.args.inventory.now c.args.queue.now c.fetch_in.new.self m fetched.chain
              fetched.bytes.items (slot_of c.args.slot.now) looked.0 looked.1 (Slot.Arrived x) two decides.0,
        ),
        decides.1,
      ),
      (
        c.fetch_in.ensures.size ∙ c.if-not-fits.ensures.0 refl ∙ sym (ap (λ (r : RingState). r.memory) looked.0.after),
        subst (λ y. Owns c.fetch_in.new.self.ring y) (sym decides.0.0) looked.0.owned,
      ),
    )

pub returns-in-Ok-Got-clause-takes : goal.returns-in-Ok-Got-clause-takes
returns-in-Ok-Got-clause-takes g c = λ m s. (gives g c m s c.decided.result c.decided.ensures).0

pub returns-in-Ok-Got-clause-owned : goal.returns-in-Ok-Got-clause-owned
returns-in-Ok-Got-clause-owned g c =
    (gives g c c.size-bytes.ensures.some.0 c.size-bytes.ensures.some.1 c.decided.result c.decided.ensures).1
