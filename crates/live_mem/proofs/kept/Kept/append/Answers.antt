use Rattle.std.proofs.Common.{◌≡◌, ℕ, List, ◌^◌, ◌++◌, ◌∷◌, [], drop, length, refl, ap, arith, rules, ◌∙◌}
use Rattle.std.proofs.lemmas.List.{drop_at, take_all}
use Rattle.guest_mem.specs.Memory.{bytes_at}
use Rattle.live_mem.specs.Inner.Kept.{Keeps}
use Rattle.live_mem.proofs.Spans.{before, behind}
use Rattle.live_mem.proofs.Keeping.{all_stay, free_stays, keeps_long}
use Rattle.live_mem.proofs.kept.Kept.append.Goals as goal

pub returns-clause-appends : goal.returns-clause-appends
returns-clause-appends g c =
    let t = c.args.self.now in
    let f = c.load.ensures in
    let l : c.push_reserved.new.self.items ≡ t.spans.items ++ record { addr = c.args.addr; start = length t.long.bytes; len = c.args.len; short = c.short_of.result } ∷ [] = search rules in
    let k : Keeps t.spans.items t.long.bytes c.args.addr f.0 c.push_reserved.new.self.items c.load.new.self.bytes = rw (l, f.3) (rw f.1 at (keeps_long t.spans.items t.long.bytes c.args.addr f.0 c.short_of.result (omega (arith, f.1, c.requires.long)))) in
    let d : drop (length t.long.bytes) (t.long.bytes ++ f.0) ≡ f.0 = drop_at t.long.bytes f.0 (length t.long.bytes) refl in
    let p : bytes_at c.load.new.self.bytes (length t.long.bytes) c.args.len ≡ f.0 = rw (f.3, d) (take_all c.args.len f.0 (omega (arith, f.1))) in
    let x : c.extend_from_slice.new.self.items ≡ c.args.out.now.items ++ bytes_at c.load.new.self.bytes (length t.long.bytes) c.args.len = search rules in
    record {
      fresh = f.0;
      long = f.1;
      are = f.2;
      asked = f.4;
      keeps = k;
      behind = x ∙ ap (λ (l : List ℕ). c.args.out.now.items ++ l) p;
    }

pub invariant_of-self : goal.invariant_of-self
invariant_of-self g c =
    let t = c.args.self.now in
    let e = c.requires in
    let f = c.load.ensures in
    let ss = c.push_reserved.new.self.items in
    let kept = c.load.new.self.bytes in
    let addr = c.args.addr in
    let out = f.0 in
    let n = length out in
    let l : c.push_reserved.new.self.items ≡ t.spans.items ++ record { addr = c.args.addr; start = length t.long.bytes; len = c.args.len; short = c.short_of.result } ∷ [] = search rules in
    let k : Keeps t.spans.items t.long.bytes addr out ss kept = rw (l, f.3) (rw f.1 at (keeps_long t.spans.items t.long.bytes addr out c.short_of.result (omega (arith, f.1, e.long)))) in
    record {
      all = all_stay t.spans.items ss t.long.bytes kept addr out t.all k;
      below = free_stays t.spans.items ss t.long.bytes kept addr out t.all k 0 t.low 0 t.low t.below (omega arith) (omega arith) (λ p l h. before addr n p (omega (arith, h, e.below)));
      above = free_stays t.spans.items ss t.long.bytes kept addr out t.all k t.high (2 ^ 64) t.high (2 ^ 64) t.above (omega arith) (omega arith) (λ p l h. behind addr n p (omega (arith, l, e.above, f.1)));
      free = free_stays t.spans.items ss t.long.bytes kept addr out t.all k t.free_from t.free_to t.free_from t.free_to t.free (omega arith) (omega arith) (λ p l h. rw f.1 (e.apart p l h));
      inside = t.inside;
      ordered = t.ordered;
      unread = t.unread;
      on_one_side = t.on_one_side;
      roomy = omega (arith, t.roomy, c.push_reserved.ensures.capacity);
    }
