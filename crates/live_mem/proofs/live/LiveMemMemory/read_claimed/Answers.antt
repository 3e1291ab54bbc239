use Rattle.std.proofs.Common.{◌≡◌, ℕ, ◌-◌, ◌<◌, ◌∙◌, ap, sym, arith, refl, cond, length, get_or}
use Rattle.guest_mem.specs.Memory.{bytes_at}
use Rattle.live_mem.specs.Access.{spans}
use Rattle.live_mem.specs.Inner.Access.{ReadsThere}
use Rattle.live_mem.specs.declared.claims.Claim.{Claim}
use Rattle.live_mem.specs.Heard.{heard}
use Rattle.live_mem.proofs.Claiming.{reads_claimed, still_unread}
use Rattle.live_mem.proofs.Reading.{byte_in, reads_gives, reads_stays}
use Rattle.live_mem.proofs.live.LiveMemMemory.read_claimed.Goals as goal

pub invariant_of-self-clause-faithful : goal.invariant_of-self-clause-faithful
invariant_of-self-clause-faithful g c = λ none. absurd (omega (arith, none, c.pass.ensures.read))

pub invariant_of-self-clause-unread : goal.invariant_of-self-clause-unread
invariant_of-self-clause-unread g c =
    let s = c.args.self.now in
    let out = c.load.new.out in
    let some : s.claims.read < length s.claims.runs.items = c.has_next.ensures.some c.if-not-has_next.false in
    let long : length out ≡ length c.args.out.now = omega (arith, c.load.auto.out) in
    let next : (e : Claim) → get_or s.claims.runs.items s.claims.read e ≡ record { addr = c.args.addr; len = length out } = λ e. c.has_next.ensures.next c.if-not-has_next.false e ∙ ap (λ (n : ℕ). record { addr = c.args.addr; len = n }) (sym long) in
    still_unread (heard s.bus) (heard c.load.new.self) s.claims.runs.items s.claims.read c.args.addr out s.unread some next c.load.ensures.heard s.claims.apart c.pass.new.self.runs.items c.pass.new.self.read (ap (λ v. v.items) c.pass.ensures.runs) c.pass.ensures.read

pub invariant_of-self-clause-bytes_loaded : goal.invariant_of-self-clause-bytes_loaded
invariant_of-self-clause-bytes_loaded g c = λ p d lt.
    rw c.load.ensures.heard (c.args.self.now.bytes_loaded p (cond (spans c.args.addr (length c.load.new.out) p) (get_or c.load.new.out (p - c.args.addr) 0) d) (byte_in (spans c.args.addr (length c.load.new.out) p) c.load.new.out (p - c.args.addr) d c.load.ensures.bytes lt))

pub invariant_of-self-clause-stays_sized : goal.invariant_of-self-clause-stays_sized
invariant_of-self-clause-stays_sized g c = λ m e. rw c.load.ensures.heard (c.args.self.now.stays_sized m e)

pub invariant_of-self-clause-bytes_stored : goal.invariant_of-self-clause-bytes_stored
invariant_of-self-clause-bytes_stored g c = λ m e are. rw c.load.ensures.heard (c.args.self.now.bytes_stored m e are)

pub returns-clause-stays : goal.returns-clause-stays
returns-clause-stays g c = λ m may.
    let s = c.args.self.now in
    let out = c.load.new.out in
    let some : s.claims.read < length s.claims.runs.items = c.has_next.ensures.some c.if-not-has_next.false in
    let long : length out ≡ length c.args.out.now = omega (arith, c.load.auto.out) in
    let next : (e : Claim) → get_or s.claims.runs.items s.claims.read e ≡ record { addr = c.args.addr; len = length out } = λ e. c.has_next.ensures.next c.if-not-has_next.false e ∙ ap (λ (n : ℕ). record { addr = c.args.addr; len = n }) (sym long) in
    let loads : ReadsThere (heard s.bus) (heard c.load.new.self) c.args.addr out = reads_claimed (heard s.bus) (heard c.load.new.self) s.claims.runs.items s.claims.read c.args.addr out s.unread some next c.load.ensures.heard in
    reads_stays s.size s.size (heard s.bus) (heard c.load.new.self) c.args.addr out m refl (rw long c.requires.inside) c.requires.reading loads may

pub returns-clause-read : goal.returns-clause-read
returns-clause-read g c = λ m may.
    let s = c.args.self.now in
    let out = c.load.new.out in
    let some : s.claims.read < length s.claims.runs.items = c.has_next.ensures.some c.if-not-has_next.false in
    let long : length out ≡ length c.args.out.now = omega (arith, c.load.auto.out) in
    let next : (e : Claim) → get_or s.claims.runs.items s.claims.read e ≡ record { addr = c.args.addr; len = length out } = λ e. c.has_next.ensures.next c.if-not-has_next.false e ∙ ap (λ (n : ℕ). record { addr = c.args.addr; len = n }) (sym long) in
    let loads : ReadsThere (heard s.bus) (heard c.load.new.self) c.args.addr out = reads_claimed (heard s.bus) (heard c.load.new.self) s.claims.runs.items s.claims.read c.args.addr out s.unread some next c.load.ensures.heard in
    reads_gives s.size s.size (heard s.bus) (heard c.load.new.self) c.args.addr out m refl (rw long c.requires.inside) c.requires.reading loads may
    ∙ ap (bytes_at m c.args.addr) long
