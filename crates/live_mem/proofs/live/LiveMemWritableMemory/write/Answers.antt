use Rattle.std.proofs.Common.{◌∙◌, ◌≤◌, arith, length}
use Rattle.live_mem.specs.Access.{stored}
use Rattle.live_mem.specs.Heard.{heard}
use Rattle.live_mem.proofs.Claiming.{stored_unread}
use Rattle.live_mem.proofs.Storing.{before_store, length_with, bytes_with}
use Rattle.live_mem.proofs.live.LiveMemWritableMemory.write.Goals as goal

pub invariant_of-self-clause-faithful : goal.invariant_of-self-clause-faithful
invariant_of-self-clause-faithful g c = λ none p d. rw c.store.ensures (c.args.self.now.faithful none p d)

pub invariant_of-self-clause-unread : goal.invariant_of-self-clause-unread
invariant_of-self-clause-unread g c =
    let s = c.args.self.now in
    stored_unread (heard s.bus) (heard c.store.new.self) s.claims.runs.items s.claims.read c.args.addr c.args.bytes.now c.store.ensures s.unread

pub invariant_of-self-clause-bytes_loaded : goal.invariant_of-self-clause-bytes_loaded
invariant_of-self-clause-bytes_loaded g c = λ p d lt. rw c.store.ensures (c.args.self.now.bytes_loaded p d lt)

pub invariant_of-self-clause-stays_sized : goal.invariant_of-self-clause-stays_sized
invariant_of-self-clause-stays_sized g c = λ m e.
    let s = c.args.self.now in
    let before = s.stays_sized m e in
    rw c.store.ensures (length_with (stored (heard s.bus) m) c.args.addr c.args.bytes.now (omega (arith, before, c.requires.inside)) ∙ before)

pub invariant_of-self-clause-bytes_stored : goal.invariant_of-self-clause-bytes_stored
invariant_of-self-clause-bytes_stored g c = λ m e are.
    let s = c.args.self.now in
    let old = s.bytes_stored m e are in
    let inside : c.args.addr ≤ length (stored (heard s.bus) m) = omega (arith, s.stays_sized m e, c.requires.inside) in
    rw c.store.ensures (bytes_with (stored (heard s.bus) m) c.args.addr c.args.bytes.now inside old (λ k. omega (arith, c.type_inv.bytes k)))

pub returns-clause-written : goal.returns-clause-written
returns-clause-written g c = λ m may.
    let s = c.args.self.now in
    before_store s.size (heard s.bus) (heard c.store.new.self) c.args.addr c.args.bytes.now m c.store.ensures s.stays_sized s.bytes_stored may
