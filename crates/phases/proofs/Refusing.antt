-- The answer to a request that its unit refused.
use Rattle.std.proofs.Common.{◌≡◌, ℕ, List, length, ◌≤◌, ap, sym, ◌∙◌, arith}
use Rattle.ring_core.specs.State.{PlainChain}
use Rattle.ring_core.specs.Parts.{readable_total, writable_total}
use Rattle.request_intake.specs.declared.answer.ChainLengths.{ChainLengths}
use Rattle.unit_model.specs.Endings.{answer_of}
use Rattle.device_model.specs.Parts.{lengths_of}
use Rattle.phases.specs.DirectChain.{refused_as}
use Rattle.phases.specs.declared.refusal.Refusal.{Refusal}

-- lengths are those of a chain where they count its parts
lengths_are : (n : ChainLengths) (c : PlainChain) → n.readable ≡ readable_total c.parts
    → n.writable ≡ writable_total c.parts → n ≡ lengths_of c
lengths_are n c readable writable =
    ap (λ (x : ℕ). record n { readable = x }) readable
    ∙ ap (λ (x : ℕ). record { readable = readable_total c.parts; writable = x }) writable

-- 108 bytes that tell the refusal of a job answer its chain, and fit into it
pub answers_refusal : (was c : PlainChain) (n : ChainLengths) (r : Refusal) (bytes : List ℕ) → c ≡ was
    → n.readable ≡ readable_total was.parts → n.writable ≡ writable_total was.parts → 108 ≤ writable_total was.parts
    → bytes ≡ answer_of n (refused_as r) → length bytes ≡ 108
    → (answer_of (lengths_of c) (refused_as r) ≡ bytes) × (length bytes ≤ writable_total c.parts)
answers_refusal was c n r bytes same readable writable room are count =
    let of_lengths : n ≡ lengths_of c =
    lengths_are n was readable writable ∙ sym (ap (λ (x : PlainChain). lengths_of x) same) in
    let total : writable_total c.parts ≡ writable_total was.parts =
    ap (λ (x : PlainChain). writable_total x.parts) same in (
      sym (are ∙ ap (λ (x : ChainLengths). answer_of x (refused_as r)) of_lengths),
      omega (arith, count, room, total),
    )
