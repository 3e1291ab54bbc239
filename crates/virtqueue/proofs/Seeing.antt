-- What is seen in the phase behind the writes of a completion.
use Rattle.std.proofs.Common.{◌≡◌, ◌∙◌, Bool, true, false, List, ℕ, length, refl, sym, ap}
use Rattle.ring_core.specs.Writes.{Write, Wrote}
use Rattle.virtqueue.specs.Completing.{SeenBehind}

-- where nobody else writes, memory may have been so behind the writes; else some memory of its size stood there
pub seen_behind : (shared : Bool) (before written after : List ℕ → Type 0) (size : ℕ) (ws : List Write) → Wrote before written ws
    → ((m : List ℕ) × written m) → ((m : List ℕ) → written m → length m ≡ size) → ((m : List ℕ) → after m → length m ≡ size)
    → ((m : List ℕ) → shared ≡ false → after m → written m) → SeenBehind shared before after ws
seen_behind false before written after size ws wrote some was is own =
    λ seen may.
    let (found, stood, left) = wrote seen (own seen refl may) in
    (found, stood, record { own = λ alone. left; long = ap length left })
seen_behind true before written after size ws wrote some was is own =
    λ seen may.
    let (found, stood, left) = wrote some.0 some.1 in (
      found,
      stood,
      record {
        own = λ alone. absurd (cc);
        long = is seen may ∙ sym (was some.0 some.1) ∙ ap length left;
      },
    )
