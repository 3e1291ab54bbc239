use Rattle.std.proofs.Common.{◌+◌, ◌-◌, ◌∙◌, arith, inl, sym, cond, length, get_or}
use Rattle.live_mem.specs.Access.{spans}
use Rattle.live_mem.specs.Heard.{heard}
use Rattle.live_mem.specs.Scattered.{scattered_at}
use Rattle.live_mem.proofs.Claiming.{none_read}
use Rattle.live_mem.proofs.Keeping.{kept_loaded}
use Rattle.live_mem.proofs.Reading.{byte_in}
use Rattle.live_mem.proofs.Spare.{same_room}
use Rattle.live_mem.proofs.live.LiveMem.read_again.Goals as goal

pub invariant_of-self-clause-faithful : goal.invariant_of-self-clause-faithful
invariant_of-self-clause-faithful g c =
    let s = c.args.self.now in
    let over = c.put_over-2.ensures in
    let out = c.put_over-2.new.out in
    let k = rw (over.spans, over.bytes) at c.keep.ensures.kept in
    λ none p d. rw c.load.ensures.heard
    (kept_loaded s.kept.spans.items c.keep.new.self.spans.items s.kept.long.bytes c.keep.new.self.long.bytes c.args.addr out s.kept.all k (scattered_at s.scattered) (heard s.bus) c.load.new.out
    (sym (over.len ∙ c.put_over.ensures.len))
    (λ i lt.
    let b = c.put_over.ensures.over i (omega (arith, lt, over.len, c.put_over.ensures.len)) in
    let o = over.over i (omega (arith, lt, over.len)) in
    rw b at o)
    (s.faithful (none_read s.claims.runs.items s.claims.read s.claims.inside c.requires.idle)) p d)

pub invariant_of-self-clause-bytes_loaded : goal.invariant_of-self-clause-bytes_loaded
invariant_of-self-clause-bytes_loaded g c = λ p d lt.
    rw c.load.ensures.heard (c.args.self.now.bytes_loaded p (cond (spans c.args.addr (length c.load.new.out) p) (get_or c.load.new.out (p - c.args.addr) 0) d) (byte_in (spans c.args.addr (length c.load.new.out) p) c.load.new.out (p - c.args.addr) d c.load.ensures.bytes lt))

pub invariant_of-self-clause-stays_sized : goal.invariant_of-self-clause-stays_sized
invariant_of-self-clause-stays_sized g c = λ m e. rw c.load.ensures.heard (c.args.self.now.stays_sized m e)

pub invariant_of-self-clause-bytes_stored : goal.invariant_of-self-clause-bytes_stored
invariant_of-self-clause-bytes_stored g c = λ m e are. rw c.load.ensures.heard (c.args.self.now.bytes_stored m e are)

pub returns-clause-room : goal.returns-clause-room
returns-clause-room g c = λ n h.
    let over = c.put_over-2 in
    (c.keep.ensures.room n (same_room c.args.self.now.kept over.new.self (n + 1) over.ensures.spans h.0), h.1)

pub returns-clause-loads : goal.returns-clause-loads
returns-clause-loads g c =
    let s = c.args.self.now in
    let over = c.put_over-2.ensures in
    inl (record {
      fresh = c.load.new.out;
      long = sym (over.len ∙ c.put_over.ensures.len);
      asked = c.load.ensures.heard;
      are = λ i lt.
          let b = c.put_over.ensures.over i (omega (arith, lt, over.len, c.put_over.ensures.len)) in
          let o = over.over i (omega (arith, lt, over.len)) in
          (rw b at o) ∙ s.faithful (none_read s.claims.runs.items s.claims.read s.claims.inside c.requires.idle) (c.args.addr + i) (get_or c.load.new.out i 0);
    })
