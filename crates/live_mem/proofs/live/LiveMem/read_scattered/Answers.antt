use Rattle.std.proofs.Common.{◌+◌, ◌-◌, ◌∙◌, arith, inl, sym, cond, length, get_or}
use Rattle.live_mem.specs.Access.{spans}
use Rattle.live_mem.specs.Heard.{heard}
use Rattle.live_mem.specs.Scattered.{scattered_at}
use Rattle.live_mem.proofs.Claiming.{none_read}
use Rattle.live_mem.proofs.Keeping.{scattered_loaded}
use Rattle.live_mem.proofs.Reading.{byte_in}
use Rattle.live_mem.proofs.live.LiveMem.read_scattered.Goals as goal

pub invariant_of-self-clause-faithful : goal.invariant_of-self-clause-faithful
invariant_of-self-clause-faithful g c =
    let s = c.args.self.now in
    let over = c.put_spans_over.ensures in
    λ none p d. rw c.load.ensures.heard
    (scattered_loaded s.kept.spans.items s.kept.long.bytes (scattered_at s.scattered) (scattered_at c.keep.new.self) c.args.addr c.put_spans_over.new.out (heard s.bus) c.load.new.out
    (sym (over.len ∙ c.put_over.ensures.len))
    (λ i lt.
    let b = c.put_over.ensures.over i (omega (arith, lt, over.len, c.put_over.ensures.len)) in
    let o = over.over i (omega (arith, lt, over.len)) in
    rw b at o)
    c.keep.ensures (s.faithful (none_read s.claims.runs.items s.claims.read s.claims.inside c.requires.idle)) p d)

pub invariant_of-self-clause-bytes_loaded : goal.invariant_of-self-clause-bytes_loaded
invariant_of-self-clause-bytes_loaded g c = λ p d lt.
    rw c.load.ensures.heard (c.args.self.now.bytes_loaded p (cond (spans c.args.addr (length c.load.new.out) p) (get_or c.load.new.out (p - c.args.addr) 0) d) (byte_in (spans c.args.addr (length c.load.new.out) p) c.load.new.out (p - c.args.addr) d c.load.ensures.bytes lt))

pub invariant_of-self-clause-stays_sized : goal.invariant_of-self-clause-stays_sized
invariant_of-self-clause-stays_sized g c = λ m e. rw c.load.ensures.heard (c.args.self.now.stays_sized m e)

pub invariant_of-self-clause-bytes_stored : goal.invariant_of-self-clause-bytes_stored
invariant_of-self-clause-bytes_stored g c = λ m e are. rw c.load.ensures.heard (c.args.self.now.bytes_stored m e are)

pub returns-clause-loads : goal.returns-clause-loads
returns-clause-loads g c =
    let s = c.args.self.now in
    let over = c.put_spans_over.ensures in
    inl (record {
      fresh = c.load.new.out;
      long = sym (over.len ∙ c.put_over.ensures.len);
      asked = c.load.ensures.heard;
      are = λ i lt.
          let b = c.put_over.ensures.over i (omega (arith, lt, over.len, c.put_over.ensures.len)) in
          let o = over.over i (omega (arith, lt, over.len)) in
          (rw b at o) ∙ s.faithful (none_read s.claims.runs.items s.claims.read s.claims.inside c.requires.idle) (c.args.addr + i) (get_or c.load.new.out i 0);
    })
