-- What a queue owns, as it accepts a chain or uses one.
use Rattle.std.proofs.Common.{◌≡◌, ◌≢◌, ℕ, ◌+◌, ◌-◌, ◌&&◌, eqb, Bool, true, false, List, [], ◌∷◌, get_or, set, Option, Some, None, is_some, refl, sym, ◌∙◌, ap, arith}
use Rattle.std.proofs.lemmas.List.{get_or-set_other}
use Rattle.std.proofs.lemmas.Bool.{eq-eqb}
use Rattle.std.specs.Prelude.{nat_lt, nat_le}
use Rattle.ring_core.specs.State.{RingState, PlainChain, Owns, under, accepting, using}
use Rattle.ring_core.specs.Walk.{first_of}
use Rattle.ring_core.specs.Split.{ahead, next_head}
use Rattle.ring_core.specs.Offer.{Found, Refused, OffersInForm, OffersUnless}
use Rattle.ring_core.specs.Fetch.{Takes}
use Rattle.ring_core.specs.declared.layout.Form.{Form}
use Rattle.ring_core.specs.declared.layout.Form.TheVariants.{Split, Packed}
use Rattle.ring_core.specs.declared.descriptor.Part.{Part}
use Rattle.ring_core.specs.declared.fault.RingFault.{RingFault}
use Rattle.ring_core.specs.declared.fault.RingFault.TheVariants as fault
use Rattle.ring_core.specs.declared.outstanding.OutstandingChain.{OutstandingChain}
use Rattle.ring_core.specs.declared.log.Ticket.{Ticket}
use Rattle.device_model.specs.Changing.{bit}
use Rattle.device_model.specs.Places.{only}

-- something is not nothing, and a chain is no fault
none_or_some : {X : Type 0} {x : X} → Some x ≡ None → ⊥
none_or_some e = cc

no_refusal : {id slots : ℕ} {parts : List Part} {f : RingFault} → Found id slots parts ≡ Refused f → ⊥
no_refusal e = cc

-- where no test failed, the third didn't, and nor did the first of two
third_passed : (a b c : Bool) (x y z : RingFault) → first_of ((a, x) ∷ (b, y) ∷ (c, z) ∷ []) ≡ None → c ≡ false
third_passed true b c x y z h = absurd (none_or_some h)
third_passed false true c x y z h = absurd (none_or_some h)
third_passed false false true x y z h = absurd (none_or_some h)
third_passed false false false x y z h = refl

first_passed : (a b : Bool) (x y : RingFault) → first_of ((a, x) ∷ (b, y) ∷ []) ≡ None → a ≡ false
first_passed true b x y h = absurd (none_or_some h)
first_passed false b x y h = refl

-- nothing is there
off_is_none : (o : Option OutstandingChain) → is_some o ≡ false → o ≡ None
off_is_none None h = refl
off_is_none (Some x) h = absurd (cc)

-- a chain that a queue offers has a head or an id that is free

free_in_form : (form : Form) (s : RingState) (m : List ℕ) (id slots : ℕ) (parts : List Part)
    → OffersInForm form s m (Found id slots parts) → under s id ≡ None
free_in_form Split s m id slots parts h =
    let head = next_head s m in
    let far = nat_lt s.layout.size (ahead s m) in
    let off =
    third_passed far (nat_le s.layout.size head) (is_some (under s head))
    fault.IndexJump fault.HeadOutOfRange fault.AlreadyOutstanding h.1 in
    ap (under s) h.2 ∙ off_is_none (under s head) off
free_in_form Packed s m id slots parts h =
    let much = nat_lt s.layout.size (s.accepted_slots - s.used_slots + slots) in
    off_is_none (under s id) (first_passed (is_some (under s id)) much fault.AlreadyOutstanding fault.RingOverrun h.2)

free_unless : (b : Option RingFault) (s : RingState) (m : List ℕ) (id slots : ℕ) (parts : List Part)
    → OffersUnless b s m (Found id slots parts) → under s id ≡ None
free_unless None s m id slots parts h = free_in_form s.form s m id slots parts h
free_unless (Some f) s m id slots parts h = absurd (no_refusal h)

-- the head or id of a chain that is taken was free
pub free : (s : RingState) (m : List ℕ) (c : PlainChain) (bytes : List ℕ) (r : RingState) → Takes s m c bytes r
    → under s c.id ≡ None
free s m c bytes r h = free_unless s.broken s m c.id c.slots c.parts h.offer

-- what was owned under another head or id still is

still_there : (xs : List (Option OutstandingChain)) (i j : ℕ) (v x : Option OutstandingChain)
    → j ≢ i → get_or xs j None ≡ x → get_or (set xs i v) j None ≡ x
still_there xs i j v x other e = get_or-set_other xs i j v None other ∙ e

-- a chain that is owned has no free head or id
another : (s : RingState) (c : PlainChain) (id : ℕ) → under s id ≡ None → Owns s c → c.id ≢ id
another s c id none o is = none_or_some (sym o.outstanding ∙ ap (under s) is ∙ none)

-- a queue that accepts a chain under a free head or id owns what it owned
pub owns_accepting : (s : RingState) (c : PlainChain) (id slots : ℕ) → under s id ≡ None → Owns s c
    → Owns (accepting s id slots) c
owns_accepting s c id slots none o =
    record {
      outstanding = still_there s.outstanding id c.id _ _ (another s c id none o) o.outstanding;
      queue = o.queue;
      memory = o.memory;
    }

-- and so does one that uses a chain of another head or id
owns_but : (s : RingState) (c u : PlainChain) → c.id ≢ u.id → Owns s c → Owns (using s u) c
owns_but s c u other o =
    record {
      outstanding = still_there s.outstanding u.id c.id None _ other o.outstanding;
      queue = o.queue;
      memory = o.memory;
    }

same_number : {a b : OutstandingChain} → Some a ≡ Some b → a.number ≡ b.number
same_number e = cc

-- a ticket that has no weight for another is not that one
only_one : (t u : Ticket) → u.queue ≡ t.queue → u.number ≡ t.number → only t u ≡ 0 → ⊥
only_one t u q n e =
    let a = ap (λ z. bit (z && eqb t.number u.number)) (eq-eqb t.queue u.queue (sym q)) in
    let b = ap (λ z. bit (true && z)) (eq-eqb t.number u.number (sym n)) in
    omega (arith, a, b, e)

-- two chains that are owned have heads or ids of their own, unless they have one ticket
apart : (s : RingState) (c u : PlainChain) → Owns s c → Owns s u → only u.ticket c.ticket ≡ 0 → c.id ≢ u.id
apart s c u o p none is =
    let n = same_number (sym o.outstanding ∙ ap (under s) is ∙ p.outstanding) in
    only_one u.ticket c.ticket (o.queue ∙ sym p.queue) n none

-- a queue that uses a chain of another ticket owns what it owned
pub owns_using : (s : RingState) (c u : PlainChain) → Owns s u → only u.ticket c.ticket ≡ 0 → Owns s c
    → Owns (using s u) c
owns_using s c u p none o = owns_but s c u (apart s c u o p none) o

-- a chain that is accepted and used at once leaves what was owned before
pub owns_spending : (s : RingState) (c u : PlainChain) → under s u.id ≡ None → Owns s c
    → Owns (using (accepting s u.id u.slots) u) c
owns_spending s c u none o =
    owns_but (accepting s u.id u.slots) c u (another s c u.id none o) (owns_accepting s c u.id u.slots none o)
