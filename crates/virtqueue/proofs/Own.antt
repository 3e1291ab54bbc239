-- What was written into any memory that it may be, where it may be one list alone.
use Rattle.std.proofs.Common.{◌≡◌, ◌∙◌, List, ℕ, ap, refl}
use Rattle.ring_core.specs.Writes.{Write, Wrote, all_written}

pub own : (old new : List ℕ) (ws : List Write) → Wrote (λ m. m ≡ old) (λ m. m ≡ new) ws → new ≡ all_written old ws
own old new ws wrote =
    let w = wrote new refl in
    w.2 ∙ ap (λ (k : List ℕ). all_written k ws) w.1
