-- What is stored where a chain is completed, in a memory of any kind, and that nothing is elsewhere.
use Rattle.std.proofs.Common.{◌≡◌, ℕ, true, false, List, [], ◌∷◌, ◌++◌, length, Option, Some, None, refl, ap, sym, ◌∙◌, append_assoc}
use Rattle.std.specs.Prelude.{is_some, IfSome}
use Rattle.guest_mem.specs.Stores.{Store, stores_at}
use Rattle.ring_core.specs.State.{RingState, PlainChain}
use Rattle.ring_core.specs.Writes.{Write, scatter_writes, stores_of}
use Rattle.ring_core.specs.Offer.{used_writes}
use Rattle.ring_core.proofs.InStores.{in_turn}
use Rattle.unit_model.specs.Endings.{answer_of}
use Rattle.unit_model.specs.Jobs.{PlainJob}
use Rattle.logical_unit.specs.Endings.{ending_of}
use Rattle.logical_unit.specs.declared.outcomes.Outcome as answers
use Rattle.device_model.specs.Parts.{Slot, Hand, answer_writes, lengths_of}
use Rattle.device_model.specs.World.{Opened}
use Rattle.phases.specs.Inner.Outcomes.{WritesEndingIn}
use Rattle.phases.specs.Parts.{hand_with}
use Rattle.phases.specs.Inner.Parts.{job_held}
use Rattle.phases.specs.Inner.Stored.{answered_writes, directed_writes, responded_writes, StoresEnding}

-- Where nothing is completed

pub not_answered : (h : Hand) (r : RingState) → answered_writes h r false ≡ []
not_answered Hand.Empty r = refl
not_answered (Hand.Taken x) r = refl
not_answered (Hand.Done x o) r = refl
not_answered (Hand.Answered unit_index t) r = refl

pub not_directed : (s : Slot) (r : RingState) → directed_writes s r false ≡ []
not_directed Slot.Empty r = refl
not_directed (Slot.Arrived x) r = refl
not_directed (Slot.Direct c o) r = refl

pub not_responded : (f : Option Opened) (r : RingState) → responded_writes f r false ≡ []
not_responded None r = refl
not_responded (Some f) r = refl

stores_both : (a b : List Write) → stores_of a ++ stores_of b ≡ stores_of (a ++ b)
stores_both [] b = refl
stores_both (w ∷ a) b =
    append_assoc (stores_at w.addr w.bytes) (stores_of a) (stores_of b) ∙ ap (λ (ss : List Store). stores_at w.addr w.bytes ++ ss) (stores_both a b)

module _ {S : Type 0} (storing : S → List Store → S) where
  -- nothing is stored
  pub none_stored : ((s : S) → storing s [] ≡ s) → (s : S) (ws : List Write) → ws ≡ [] → s ≡ storing s (stores_of ws)
  none_stored none s ws is = sym (none s) ∙ ap (λ (vs : List Write). storing s (stores_of vs)) (sym is)

  module _ (both : (s : S) (a b : List Store) → storing (storing s a) b ≡ storing s (a ++ b)) where
    -- the bytes that answer a chain, and then its used entry
    pub answer_stored : (s s₁ s₂ : S) (r : RingState) (c d : PlainChain) (bytes : List ℕ) (len : ℕ)
        → s₁ ≡ storing s (stores_of (scatter_writes c.parts 0 bytes)) → d ≡ c → len ≡ length bytes
        → s₂ ≡ storing s₁ (stores_of (used_writes r d.id len)) → s₂ ≡ storing s (stores_of (answer_writes r c bytes))
    answer_stored s s₁ s₂ r c d bytes len first same long more =
        let last : s₂ ≡ storing s₁ (stores_of (used_writes r c.id (length bytes))) =
        more ∙ ap (λ (k : PlainChain). storing s₁ (stores_of (used_writes r k.id len))) same
        ∙ ap (λ (n : ℕ). storing s₁ (stores_of (used_writes r c.id n))) long in
        in_turn storing both s s₁ s₂ (stores_of (scatter_writes c.parts 0 bytes)) (stores_of (used_writes r c.id (length bytes)))
        (stores_of (answer_writes r c bytes)) first last (stores_both (scatter_writes c.parts 0 bytes) (used_writes r c.id (length bytes)))

    -- the same of a job whose commit is over
    pub job_stored : (s s₁ s₂ : S) (r : RingState) (x : PlainJob) (outcome : Option answers.Outcome) (before after : List ℕ → Type 0)
        (d : PlainChain) (unit_index len : ℕ) → is_some outcome ≡ true
        → StoresEnding (record { job = x; outcome = outcome }) (λ ws. s₁ ≡ storing s (stores_of ws))
        → WritesEndingIn (record { job = x; outcome = outcome }) before len after
        → IfSome (job_held (hand_with x outcome)) (λ (y : PlainJob). (unit_index ≡ y.unit) × (d ≡ y.chain))
        → s₂ ≡ storing s₁ (stores_of (used_writes r d.id len))
        → s₂ ≡ storing s (stores_of (answered_writes (hand_with x outcome) r true))
    job_stored s s₁ s₂ r x None before after d unit_index len over first wrote took more = absurd (cc)
    job_stored s s₁ s₂ r x (Some o) before after d unit_index len over first wrote took more =
        answer_stored s s₁ s₂ r x.chain d (answer_of (lengths_of x.chain) (ending_of o)) len first took.1 wrote.written more
