use Rattle.std.proofs.Common.{◌≡◌, ◌≢◌, ℕ, ◌+◌, ◌*◌, ◌/◌, ◌<◌, false, IsTrue, IfSome, Option, Some, None, subst, arith}
use Rattle.backed_store.specs.Marks.{is_wanted}
use Rattle.backed_store.specs.Caches.{mark_at, state_at}
use Rattle.backed_store.specs.declared.cache.Cache.{Cache}
use Rattle.backed_store.proofs.backed.BackedStore.next_wanted.Goals as goal

others_held : (found : Option ℕ) (old new : Cache) (end capacity : ℕ) → end ≡ (capacity + 7) / 8 →
    IfSome found (λ page. (p : ℕ) → p ≢ page → IsTrue (is_wanted (mark_at old p)) → (state_at old p).held ≡ false → p < end →
    IsTrue (is_wanted (mark_at new p))) →
    IfSome found (λ page. (p : ℕ) → p ≢ page → IsTrue (is_wanted (mark_at old p)) → (state_at old (8 * p / 8)).held ≡ false →
    8 * p < capacity →
    IsTrue (is_wanted (mark_at new p)))
others_held None old new end capacity is others = others
others_held (Some page) old new end capacity is others = λ p apart wanted absent below.
    let number : 8 * p / 8 ≡ p = omega arith in
    others p apart wanted (subst (λ q. (state_at old q).held ≡ false) number absent) (omega (arith, is, below))

pub returns-clause-others : goal.returns-clause-others
returns-clause-others c =
    others_held c.next_wanted.result c.args.self.now.cache c.next_wanted.new.self c.pages_of.result c.args.self.now.capacity c.pages_of.ensures
    c.next_wanted.ensures.others
