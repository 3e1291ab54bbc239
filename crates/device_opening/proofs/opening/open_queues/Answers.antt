use Rattle.std.proofs.Common.{◌≡◌, ℕ, ◌∷◌, ◌++◌, [], length, Option, Some, refl, ap, ◌∙◌, subst, arith, length-append}
use Rattle.std.proofs.lemmas.Option.{get_or_from_slice_get, slice_get_within}
use Rattle.ring_core.specs.State.{features_of}
use Rattle.ring_core.specs.declared.layout.Layout.{Layout}
use Rattle.virtqueue.specs.Queue.{BareQueue, opening_queue}
use Rattle.device_opening.proofs.Making.{one_more}
use Rattle.device_opening.proofs.opening.open_queues.Goals as goal

pub loop-number-preserved : goal.loop-number-preserved
loop-number-preserved g c =
    let n = c.loop-number.number in
    let b = c.keep.result in
    let pushed : c.push_reserved.new.self.items ≡ c.loop-number.queues.items ++ b ∷ [] = c.push_reserved.ensures.items in
    let opens : ℕ → Layout → BareQueue = λ k p. opening_queue c.args.form (g.M.Memory.extent c.args.memory.now) k p (features_of c.args.features) in
    record {
      count = rw pushed (omega (arith, length-append c.loop-number.queues.items (b ∷ []), c.loop-number.invariant.count));
      room = omega (arith, c.loop-number.invariant.room, c.push_reserved.ensures.capacity);
      each =
          rw pushed
          (one_more (λ (k : ℕ) (p : Layout) (o : Option g.row.B.Denot). (x : g.row.B.Denot) × (o ≡ Some x) × goal.F-post g c.args.keep (opens k p) x)
          c.args.layouts.now c.loop-number.queues.items n c.loop-number.invariant.count c.loop-number.invariant.each b
          (λ p at. (
            b,
            refl,
            subst (λ (q : BareQueue). goal.F-post g c.args.keep q b)
                (c.in_ok-queue.ensures ∙ ap (opens n) (get_or_from_slice_get c.args.layouts.now n p _ at)) c.keep.ensures,
          )));
    }

pub returns : goal.returns
returns g c =
    let long : length c.args.layouts.now ≡ c.loop-number.number =
    omega (arith, c.loop-number-test.false, c.loop-number.auto.number-end) in
    record {
      count = omega (arith, long, c.loop-number.invariant.count);
      each = λ k p at. c.loop-number.invariant.each k p (omega (arith, long, slice_get_within c.args.layouts.now k p at)) at;
    }
