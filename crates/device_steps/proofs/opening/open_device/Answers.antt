use Rattle.std.proofs.Common.{rules, ℕ, ◌+◌, ◌*◌, refl, ap, ◌∙◌, subst, arith}
use Rattle.std.proofs.lemmas.List.{length-map}
use Rattle.event_queue.specs.Port.{PlainPort}
use Rattle.device_steps.specs.Kept.{seat_of}
use Rattle.device_steps.specs.Aside.{KeptAside}
use Rattle.device_steps.specs.Inner.Opening.{AreSeats}
use Rattle.device_steps.proofs.Making.{lists_open, seats_idle, seats_many, bays_open}
use Rattle.device_steps.proofs.opening.open_device.Goals as goal

pub invariant_of-result : goal.invariant_of-result
invariant_of-result g c =
    let units = c.in_ok-inventory.field-0.units in
    let is : AreSeats (c.args.config.now.workers + 1) (64 * c.len.result + 64) c.in_ok-seats.seats.items =
    c.in_ok-seats.ensures in
    let lists = lists_open units.items (c.args.config.now.workers + 1) c.in_ok-seats.seats.items
    (subst (λ (n : ℕ). AreSeats (c.args.config.now.workers + 1) (64 * n + 64) c.in_ok-seats.seats.items)
    (c.len.ensures ∙ units.ok.0) is) in
    record {
      limits = lists.limits;
      aside =
          ap (λ (k : KeptAside). k.limit) c.in_ok-jobs_aside.ensures
          ∙ ap (λ (n : ℕ). 64 * n + 64) (c.len-2.ensures ∙ units.ok.0);
      port = ap (λ (p : PlainPort). p.limit) c.in_ok-port.ensures;
    }

pub returns : goal.returns
returns g c =
    let opened = c.in_ok-inventory.ensures in
    λ shared m.
    record {
      form = opened.form;
      agreed = opened.agreed;
      inventory = opened.inventory;
      queues = bays_open _ (λ q b kept. search rules) _ _ _ _ _ opened.queues;
      units = opened.units;
      workers = refl;
      limit = c.in_ok-handed_off.ensures.limit;
      seats = seats_many _ _ c.in_ok-seats.seats.items c.in_ok-seats.ensures;
      idle = seats_idle _ _ c.in_ok-seats.seats.items c.in_ok-seats.ensures;
      handed_off = c.in_ok-handed_off.ensures.bare;
      lists =
          c.in_ok-handed_off.ensures.lists
          ∙ omega (arith, c.len-3.ensures, c.in_ok-seats.seats.ok.0, length-map c.in_ok-seats.seats.items seat_of);
      function = refl;
      aside = ap (λ (k : KeptAside). k.aside) c.in_ok-jobs_aside.ensures;
      woken = ap (λ (k : KeptAside). k.woken) c.in_ok-jobs_aside.ensures;
      buffers = ap (λ (p : PlainPort). p.buffers) c.in_ok-port.ensures;
      missed = ap (λ (p : PlainPort). p.missed) c.in_ok-port.ensures;
      waiting = c.new-3.ensures;
      tells_changes = c.tells_changes.ensures;
    }
