-- A call where there is a device on live memory, and one where there is none.
use Rattle.std.proofs.Common.{◌≡◌, refl, sym, subst}
use Rattle.std.specs.Prelude.{Option, Some, None}
use Rattle.c_calls.specs.Live.{ServingLive}
use Rattle.c_calls.specs.declared.answer.Answer.{Answer}
use Rattle.c_calls.specs.declared.answer.Answer.TheVariants as answer
use Rattle.c_calls.specs.declared.live_served.LiveServed.{LiveServed}

pub serving : (R : LiveServed → Answer → LiveServed → Type 0) (Same : Type 0) (old : Option LiveServed) (a : Answer)
    (after : Option LiveServed) (d d' : LiveServed) → old ≡ Some d → after ≡ Some d' → R d a d' → ServingLive R Same old a after
serving R Same old a after d d' e f r = subst (λ (o : Option LiveServed). ServingLive R Same o a after) (sym e) (d', f, r)

pub without : (R : LiveServed → Answer → LiveServed → Type 0) (Same : Type 0) (old after : Option LiveServed) → old ≡ None
    → after ≡ None → Same → ServingLive R Same old answer.NoDevice after
without R Same old after e f s = subst (λ (o : Option LiveServed). ServingLive R Same o answer.NoDevice after) (sym e) (refl, f, s)
