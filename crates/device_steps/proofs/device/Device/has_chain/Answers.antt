use Rattle.std.proofs.Common.{◌≡◌, ◌+◌, ◌-◌, true, refl, sym, ap, subst, ◌∙◌, length, arith}
use Rattle.device_model.specs.Events.{Event}
use Rattle.device_model.specs.Applies.{Applies}
use Rattle.device_steps.specs.Apart.{PlainDevice, standing, FitsIn}
use Rattle.device_steps.specs.Settling.{asks}
use Rattle.device_steps.proofs.Choosing.{and_next}
use Rattle.device_steps.proofs.Looks.{denied_by, told}
use Rattle.device_steps.proofs.device.Device.has_chain.Goals as goal

pub loop-number-init : goal.loop-number-init
loop-number-init g c =
    let d = c.self.inside in
    let end : c.len-number-end.result ≡ length d.bays.items = omega (arith, d.bays.ok.0, c.len-number-end.ensures) in
    record {
      stays = λ m may. may;
      known = refl;
      room = c.requires.room;
      reading = c.requires.reading;
      size = refl;
      below = λ m may. λ i lt. absurd (omega (arith, lt));
      all = end ∙ ap (λ (z : PlainDevice). length z.queues) c.self.view_is;
    }

pub queue_goes_on-requires : goal.queue_goes_on-requires
queue_goes_on-requires g c =
    let inv = c.loop-number.invariant in
    record {
      reading = inv.reading;
      room = g.met.M.Memory.fewer c.loop-number.memory (20 - c.loop-number.number) 1
          (omega (arith, c.loop-number-test.true, inv.all, c.requires.few.queues)) inv.room;
      few = c.requires.few;
      fits = subst (λ n. FitsIn n c.args.self.now) (sym inv.size) c.requires.fits;
      there = omega (arith, c.loop-number-test.true, inv.all);
    }

pub returns-then-queue_goes_on-clause-denies : goal.returns-then-queue_goes_on-clause-denies
returns-then-queue_goes_on-clause-denies g c =
    let shared = g.M.Memory.shared in
    let n = c.loop-number.number in
    let inv = c.loop-number.invariant in
    λ m may.
    let f = c.queue_goes_on.ensures.denies m may in (
      inv.stays m f.0,
      λ none.
          denied_by
          (asks c.args.queues n ≡ true → Applies (standing shared m c.args.self.now) (Event.Fetch n) → ⊥)
          c.queue_goes_on.result c.if-queue_goes_on.true f.1 (none n (omega (arith, c.loop-number-test.true, inv.all))),
    )

pub loop-number-preserved : goal.loop-number-preserved
loop-number-preserved g c =
    let shared = g.M.Memory.shared in
    let n = c.loop-number.number in
    let inv = c.loop-number.invariant in
    let look = c.queue_goes_on.ensures in
    record {
      stays = λ m may. inv.stays m (look.denies m may).0;
      known = look.stores ∙ inv.known;
      room = look.room (20 - (n + 1))
          (g.met.M.Memory.fewer c.loop-number.memory (20 - n) ((20 - (n + 1)) + 1)
          (omega (arith, c.loop-number-test.true, inv.all, c.requires.few.queues)) inv.room);
      reading = look.reading;
      size = look.size ∙ inv.size;
      below = λ m may.
          let f = look.denies m may in
          and_next (λ i. asks c.args.queues i ≡ true → Applies (standing shared m c.args.self.now) (Event.Fetch i) → ⊥) n
          (inv.below m f.0)
          (told (asks c.args.queues n ≡ true → Applies (standing shared m c.args.self.now) (Event.Fetch n) → ⊥)
          c.queue_goes_on.result c.if-queue_goes_on.false f.1);
      all = inv.all;
    }

pub returns-clause-denies : goal.returns-clause-denies
returns-clause-denies g c =
    let inv = c.loop-number.invariant in
    λ m may.
    (inv.stays m may, λ i lt on. inv.below m may i (omega (arith, lt, c.loop-number-test.false, inv.all)) on)

pub returns-then-queue_goes_on-clause-stores : goal.returns-then-queue_goes_on-clause-stores
returns-then-queue_goes_on-clause-stores g c = c.queue_goes_on.ensures.stores ∙ c.loop-number.invariant.known

pub returns-clause-stores : goal.returns-clause-stores
returns-clause-stores g c = c.loop-number.invariant.known
