use Rattle.std.proofs.Common.{ap, inl, inr, refl}
use Rattle.device_model.specs.Parts.{Slot}
use Rattle.phases.specs.DirectChain.{PlainDirectChain}
use Rattle.phases.proofs.fetching.decided_control.Goals as goal

pub returns-in-Direct : goal.returns-in-Direct
returns-in-Direct c =
    inl (
      c.in-Direct.answer,
      ap (λ (r : PlainDirectChain). Slot.Direct r.chain r.outcome) c.decided.ensures,
      refl,
      rw c.as_slice.ensures.value at c.in-Direct.ensures.decision,
    )

pub returns : goal.returns
returns c = inr (c.in-Opens.begun, refl, refl, rw c.as_slice.ensures.value at c.in-Opens.ensures.decision)
