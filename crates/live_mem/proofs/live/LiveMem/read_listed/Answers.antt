use Rattle.std.proofs.Common.{◌+◌, ◌-◌, ◌∙◌, arith, inl, sym, refl, cond, length, get_or}
use Rattle.live_mem.specs.Access.{spans}
use Rattle.live_mem.specs.Heard.{heard}
use Rattle.live_mem.specs.Scattered.{scattered_at}
use Rattle.live_mem.proofs.Claiming.{none_read}
use Rattle.live_mem.proofs.Keeping.{kept_loaded}
use Rattle.live_mem.proofs.Reading.{byte_in}
use Rattle.live_mem.proofs.Spare.{same_room}
use Rattle.live_mem.proofs.live.LiveMem.read_listed.Goals as goal

pub returns-then-not-free-clause-room : goal.returns-then-not-free-clause-room
returns-then-not-free-clause-room g c = λ n h.
    let f = c.takes_free-free in
    c.read_again-then-not-free.ensures.room n (same_room c.args.self.now.kept f.new.self (n + 1) f.ensures.spans h.0, h.1)

pub invariant_of-self-2-clause-faithful : goal.invariant_of-self-2-clause-faithful
invariant_of-self-2-clause-faithful g c =
    let s = c.args.self.now in
    let f = c.takes_free-free.ensures in
    let out = c.load.new.out in
    let k = rw (f.spans, f.bytes) at c.keep.ensures.kept in
    λ none p d. rw c.load.ensures.heard
    (kept_loaded s.kept.spans.items c.keep.new.self.spans.items s.kept.long.bytes c.keep.new.self.long.bytes c.args.addr out s.kept.all k (scattered_at s.scattered) (heard s.bus) c.load.new.out
    refl
    (λ i lt.
    sym (c.if-not-free.ensures.free refl (c.args.addr + i) (scattered_at s.scattered (c.args.addr + i) (get_or c.load.new.out i 0)) (omega arith) (omega (arith, lt)) ∙ c.if-not-is_bare.ensures refl (c.args.addr + i) (get_or c.load.new.out i 0)))
    (s.faithful (none_read s.claims.runs.items s.claims.read s.claims.inside c.requires.idle)) p d)

pub invariant_of-self-2-clause-bytes_loaded : goal.invariant_of-self-2-clause-bytes_loaded
invariant_of-self-2-clause-bytes_loaded g c = λ p d lt.
    rw c.load.ensures.heard (c.args.self.now.bytes_loaded p (cond (spans c.args.addr (length c.load.new.out) p) (get_or c.load.new.out (p - c.args.addr) 0) d) (byte_in (spans c.args.addr (length c.load.new.out) p) c.load.new.out (p - c.args.addr) d c.load.ensures.bytes lt))

pub invariant_of-self-2-clause-stays_sized : goal.invariant_of-self-2-clause-stays_sized
invariant_of-self-2-clause-stays_sized g c = λ m e. rw c.load.ensures.heard (c.args.self.now.stays_sized m e)

pub invariant_of-self-2-clause-bytes_stored : goal.invariant_of-self-2-clause-bytes_stored
invariant_of-self-2-clause-bytes_stored g c = λ m e are. rw c.load.ensures.heard (c.args.self.now.bytes_stored m e are)

pub returns-clause-room : goal.returns-clause-room
returns-clause-room g c = λ n h.
    let f = c.takes_free-free in
    (c.keep.ensures.room n (same_room c.args.self.now.kept f.new.self (n + 1) f.ensures.spans h.0), h.1)

pub returns-clause-loads : goal.returns-clause-loads
returns-clause-loads g c =
    let s = c.args.self.now in
    inl (record {
      fresh = c.load.new.out;
      long = refl;
      asked = c.load.ensures.heard;
      are = λ i lt.
          sym (c.if-not-free.ensures.free refl (c.args.addr + i) (scattered_at s.scattered (c.args.addr + i) (get_or c.load.new.out i 0)) (omega arith) (omega (arith, lt)) ∙ c.if-not-is_bare.ensures refl (c.args.addr + i) (get_or c.load.new.out i 0))
          ∙ s.faithful (none_read s.claims.runs.items s.claims.read s.claims.inside c.requires.idle) (c.args.addr + i) (get_or c.load.new.out i 0);
    })
