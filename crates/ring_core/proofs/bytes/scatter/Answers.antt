use Rattle.std.proofs.Common.{[], rules, ◌∙◌, false}
use Rattle.ring_core.proofs.Scattering.{step_over, step_past, step_into, writable_rest}
use Rattle.ring_core.proofs.InStores.{next_over, next_past, next_into, first_made}
use Rattle.ring_core.specs.declared.descriptor.Part.{Part}
use Rattle.ring_core.proofs.bytes.scatter.Goals.{then-part+then-skip-len, then-part+else-skip-len, else-part}
use Rattle.ring_core.proofs.bytes.scatter.Goals as goal

abbrev none : Part
none = record { addr = 0; len = 0; writable = false }

pub loop-part-preserved : goal.loop-part-preserved
loop-part-preserved g c =
    elim c.if-part.branch [
      | then-part+then-skip-len w ↦
          let room = writable_rest [] c.parts-part-items.result.now c.loop-part.part-index c.loop-part.skip c.loop-part.rest.now none c.loop-part-test.true in
          record {
            done = rw (w.memory-is, w.skip-is, w.rest-is) (λ m s.
                let f = w.fill_part-here.ensures.memory m s in
                let step =
                step_into f.0 c.parts-part-items.result.now c.loop-part.part-index c.loop-part.skip c.loop-part.rest.now none c.loop-part-test.true
                m w.fill_part-here.result w.if-part.true w.if-skip-len.true f.2 w.fill_part-here.ensures.written in
                let d = c.loop-part.invariant.done f.0 f.1 in
                (d.0, d.1, step ∙ d.2));
            stores = rw (w.memory-is, w.skip-is, w.rest-is)
                (first_made g.M.Memory.storing g.met.M.Memory.both _ _ _ _ _ _ w.fill_part-here.ensures.stores
                (next_into c.parts-part-items.result.now c.loop-part.part-index c.loop-part.skip c.loop-part.rest.now none c.loop-part-test.true w.fill_part-here.result w.if-part.true w.if-skip-len.true w.fill_part-here.ensures.written)
                c.loop-part.invariant.stores);
            room = search rules;
            size = search rules;
          }
      | then-part+else-skip-len w ↦
          let room = writable_rest [] c.parts-part-items.result.now c.loop-part.part-index c.loop-part.skip c.loop-part.rest.now none c.loop-part-test.true in
          record {
            done = rw (w.memory-is, w.skip-is, w.rest-is) (λ m s.
                let step = step_past m c.parts-part-items.result.now c.loop-part.part-index c.loop-part.skip c.loop-part.rest.now none c.loop-part-test.true w.if-part.true w.if-skip-len.false in
                let d = c.loop-part.invariant.done m s in
                (d.0, d.1, step ∙ d.2));
            stores = rw (w.memory-is, w.skip-is, w.rest-is, ← next_past c.parts-part-items.result.now c.loop-part.part-index c.loop-part.skip c.loop-part.rest.now none c.loop-part-test.true w.if-part.true w.if-skip-len.false) c.loop-part.invariant.stores;
            room = search rules;
            size = search rules;
          }
      | else-part w ↦
          let room = writable_rest [] c.parts-part-items.result.now c.loop-part.part-index c.loop-part.skip c.loop-part.rest.now none c.loop-part-test.true in
          record {
            done = rw (w.memory-is, w.skip-is, w.rest-is) (λ m s.
                let step = step_over m c.parts-part-items.result.now c.loop-part.part-index c.loop-part.skip c.loop-part.rest.now none c.loop-part-test.true w.if-part.false in
                let d = c.loop-part.invariant.done m s in
                (d.0, d.1, step ∙ d.2));
            stores = rw (w.memory-is, w.skip-is, w.rest-is, ← next_over c.parts-part-items.result.now c.loop-part.part-index c.loop-part.skip c.loop-part.rest.now none c.loop-part-test.true w.if-part.false) c.loop-part.invariant.stores;
            room = search rules;
            size = search rules;
          }
    ]
