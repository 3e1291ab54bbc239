use Rattle.std.proofs.Common.{◌++◌, ◌-◌, ◌∙◌, ℕ, List, ap, arith, refl, sym, subst, cond, length, get_or}
use Rattle.std.proofs.lemmas.List.{length-append}
use Rattle.guest_mem.specs.Memory.{bytes_at}
use Rattle.live_mem.specs.Access.{spans, Asks}
use Rattle.live_mem.specs.Inner.Access.{ReadsThere}
use Rattle.live_mem.specs.Heard.{heard}
use Rattle.live_mem.specs.Scattered.{scattered_at}
use Rattle.live_mem.proofs.Appending.{stands, reads_fresh}
use Rattle.live_mem.proofs.Claiming.{none_read}
use Rattle.live_mem.proofs.Keeping.{kept_loaded}
use Rattle.live_mem.proofs.Reading.{byte_in, reads_asks, reads_gives, reads_stays}
use Rattle.live_mem.proofs.live.LiveMem.append_long.Goals as goal

pub invariant_of-self-clause-faithful : goal.invariant_of-self-clause-faithful
invariant_of-self-clause-faithful g c =
    let s = c.args.self.now in
    let a = c.append.ensures.appends in
    let k = c.append.new.self in
    let e = c.requires in
    λ none p d. rw a.asked
    (kept_loaded s.kept.spans.items k.spans.items s.kept.long.bytes k.long.bytes c.args.addr a.fresh s.kept.all a.keeps (scattered_at s.scattered) (heard s.bus) a.fresh refl
    (λ i lt. sym (stands s.kept.spans.items s.kept.long.bytes (scattered_at s.scattered) c.args.addr c.args.len a.fresh a.long e.free e.bare i lt))
    (s.faithful (none_read s.claims.runs.items s.claims.read s.claims.inside c.requires.idle)) p d)

pub invariant_of-self-clause-bytes_loaded : goal.invariant_of-self-clause-bytes_loaded
invariant_of-self-clause-bytes_loaded g c = λ p d lt.
    let a = c.append.ensures.appends in
    rw a.asked (c.args.self.now.bytes_loaded p (cond (spans c.args.addr (length a.fresh) p) (get_or a.fresh (p - c.args.addr) 0) d) (byte_in (spans c.args.addr (length a.fresh) p) a.fresh (p - c.args.addr) d a.are lt))

pub invariant_of-self-clause-stays_sized : goal.invariant_of-self-clause-stays_sized
invariant_of-self-clause-stays_sized g c = λ m e. rw c.append.ensures.appends.asked (c.args.self.now.stays_sized m e)

pub invariant_of-self-clause-bytes_stored : goal.invariant_of-self-clause-bytes_stored
invariant_of-self-clause-bytes_stored g c = λ m e are. rw c.append.ensures.appends.asked (c.args.self.now.bytes_stored m e are)

pub returns-clause-reading : goal.returns-clause-reading
returns-clause-reading g c = rw c.append.ensures.appends.asked c.requires.reading

pub returns-clause-stores : goal.returns-clause-stores
returns-clause-stores g c = rw c.append.ensures.appends.asked refl

pub returns-clause-len : goal.returns-clause-len
returns-clause-len g c =
    let a = c.append.ensures.appends in
    rw a.behind (omega (arith, length-append c.args.out.now.items a.fresh, a.long))

pub returns-clause-stays : goal.returns-clause-stays
returns-clause-stays g c = λ m may.
    let s = c.args.self.now in
    let a = c.append.ensures.appends in
    let e = c.requires in
    let loads : ReadsThere (heard s.bus) (heard c.append.new.bus) c.args.addr a.fresh = reads_fresh s.kept.spans.items s.kept.long.bytes (scattered_at s.scattered) c.args.addr c.args.len a.fresh a.long e.free e.bare (heard s.bus) (heard c.append.new.bus) (s.faithful (none_read s.claims.runs.items s.claims.read s.claims.inside e.idle)) a.asked in
    reads_stays s.size s.size (heard s.bus) (heard c.append.new.bus) c.args.addr a.fresh m refl (rw a.long e.inside) e.reading loads may

pub returns-clause-read : goal.returns-clause-read
returns-clause-read g c = λ m may.
    let s = c.args.self.now in
    let a = c.append.ensures.appends in
    let e = c.requires in
    let loads : ReadsThere (heard s.bus) (heard c.append.new.bus) c.args.addr a.fresh = reads_fresh s.kept.spans.items s.kept.long.bytes (scattered_at s.scattered) c.args.addr c.args.len a.fresh a.long e.free e.bare (heard s.bus) (heard c.append.new.bus) (s.faithful (none_read s.claims.runs.items s.claims.read s.claims.inside e.idle)) a.asked in
    let are = reads_gives s.size s.size (heard s.bus) (heard c.append.new.bus) c.args.addr a.fresh m refl (rw a.long e.inside) e.reading loads may in
    a.behind ∙ ap (λ (l : List ℕ). c.args.out.now.items ++ l) (are ∙ ap (bytes_at m c.args.addr) a.long)

pub returns-clause-asks : goal.returns-clause-asks
returns-clause-asks g c =
    let s = c.args.self.now in
    let a = c.append.ensures.appends in
    let e = c.requires in
    let loads : ReadsThere (heard s.bus) (heard c.append.new.bus) c.args.addr a.fresh = reads_fresh s.kept.spans.items s.kept.long.bytes (scattered_at s.scattered) c.args.addr c.args.len a.fresh a.long e.free e.bare (heard s.bus) (heard c.append.new.bus) (s.faithful (none_read s.claims.runs.items s.claims.read s.claims.inside e.idle)) a.asked in
    subst (λ (n : ℕ). Asks (heard s.bus) (heard c.append.new.bus) c.args.addr n) a.long (reads_asks (heard s.bus) (heard c.append.new.bus) c.args.addr a.fresh loads)
