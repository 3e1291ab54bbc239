use Rattle.std.proofs.Common.{◌≡◌, ◌^◌, ◌++◌, ◌∷◌, [], length, arith, rules}
use Rattle.live_mem.specs.Inner.Kept.{Keeps}
use Rattle.live_mem.proofs.Spans.{before, behind}
use Rattle.live_mem.proofs.Keeping.{all_stay, free_stays, keeps_long}
use Rattle.live_mem.proofs.kept.Kept.keep_long.Goals as goal

pub returns-clause-kept : goal.returns-clause-kept
returns-clause-kept c =
    let t = c.args.self.now in
    let l : c.push_reserved.new.self.items ≡ t.spans.items ++ record { addr = c.args.addr; start = length t.long.bytes; len = length c.args.out.now; short = c.short_of.result } ∷ [] = search rules in
    let b : c.keep.new.self.bytes ≡ t.long.bytes ++ c.args.out.now = search rules in
    let k : Keeps t.spans.items t.long.bytes c.args.addr c.args.out.now c.push_reserved.new.self.items c.keep.new.self.bytes = rw (l, b) (keeps_long t.spans.items t.long.bytes c.args.addr c.args.out.now c.short_of.result c.requires.long) in
    k

pub invariant_of-self : goal.invariant_of-self
invariant_of-self c =
    let t = c.args.self.now in
    let e = c.requires in
    let ss = c.push_reserved.new.self.items in
    let kept = c.keep.new.self.bytes in
    let addr = c.args.addr in
    let out = c.args.out.now in
    let n = length out in
    let l : c.push_reserved.new.self.items ≡ t.spans.items ++ record { addr = c.args.addr; start = length t.long.bytes; len = length c.args.out.now; short = c.short_of.result } ∷ [] = search rules in
    let b : c.keep.new.self.bytes ≡ t.long.bytes ++ c.args.out.now = search rules in
    let k : Keeps t.spans.items t.long.bytes c.args.addr c.args.out.now c.push_reserved.new.self.items c.keep.new.self.bytes = rw (l, b) (keeps_long t.spans.items t.long.bytes c.args.addr c.args.out.now c.short_of.result c.requires.long) in
    record {
      all = all_stay t.spans.items ss t.long.bytes kept addr out t.all k;
      below = free_stays t.spans.items ss t.long.bytes kept addr out t.all k 0 t.low 0 t.low t.below (omega arith) (omega arith) (λ p l h. before addr n p (omega (arith, h, e.below)));
      above = free_stays t.spans.items ss t.long.bytes kept addr out t.all k t.high (2 ^ 64) t.high (2 ^ 64) t.above (omega arith) (omega arith) (λ p l h. behind addr n p (omega (arith, l, e.above)));
      free = free_stays t.spans.items ss t.long.bytes kept addr out t.all k t.free_from t.free_to t.free_from t.free_to t.free (omega arith) (omega arith) (λ p l h. e.apart p l h);
      inside = t.inside;
      ordered = t.ordered;
      unread = t.unread;
      on_one_side = t.on_one_side;
      roomy = omega (arith, t.roomy, c.push_reserved.ensures.capacity);
    }
