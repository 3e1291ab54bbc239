-- The first item that fails a test, if one does.
use Rattle.std.proofs.Common.{◌≡◌, ◌⊎◌, inl, inr, ℕ, suc, zero, ◌+◌, ◌-◌, ◌<◌, ◌≤◌, cond, not, ◌&&◌, ◌||◌, ◌==◌, ap, Bool, true, false, List, [], ◌∷◌, length, map, get_or, slice_get, Option, Some, None, refl, sym, ◌∙◌, subst, arith}
use Rattle.std.specs.List.{list_all, position, position_or_len}
use Rattle.std.proofs.lemmas.List.Quantifiers.{position-Some}
use Rattle.std.proofs.lemmas.List.Sums.{fails_before_first, list_all-from_AllPass}
use Rattle.std.proofs.lemmas.List.Folds.{list_all_at}
use Rattle.std.proofs.lemmas.Option.{slice_get-get_or}
use Rattle.std.proofs.lemmas.Bool.{ltb-false, ne_eqb}
use Rattle.request_intake.specs.Inventory.{address_of, stands_before, is_rising}
use Rattle.request_intake.specs.declared.inventory.UnitSpec.{UnitSpec}
use Rattle.ring_core.specs.declared.layout.Form.{Form}
use Rattle.ring_core.specs.declared.layout.Layout.{Layout}
use Rattle.config.specs.Config.{is_queue, is_unit}
use Rattle.config.specs.ConfigFault.{is_within, IsQueueFault, IsQueuesFault, FirstQueue, IsUnitFault, IsUnitsFault, FirstUnit, Rises}
use Rattle.config.specs.declared.config_fault.ConfigFault.{ConfigFault}
use Rattle.config.specs.declared.config_fault.ConfigFault.TheVariants as fault

below_next : (i n : ℕ) → i < n + 1 → (i < n) ⊎ (i ≡ n)
below_next i n lt = grind arith

negated : (b : Bool) → not b ≡ true → b ≡ false
negated true e = cc
negated false e = refl

affirmed : (b : Bool) → not b ≡ false → b ≡ true
affirmed true e = refl
affirmed false e = cc

module _ {X : Type 0} (p : X → Bool) where
  abbrev pub first : List X → Option ℕ
  first xs = position (λ x. not (p x)) xs

  pub not_all : (xs : List X) (i : ℕ) → first xs ≡ Some i → list_all p xs ≡ false
  not_all [] i e = cc
  not_all (x ∷ xs) i e = let there = position-Some (λ y. not (p y)) (x ∷ xs) i x e in
      list_all_at p (x ∷ xs) i x there.0 (negated (p (get_or (x ∷ xs) i x)) there.1)

  pub fails : (xs : List X) (i : ℕ) (d : X) → first xs ≡ Some i → p (get_or xs i d) ≡ false
  fails xs i d e = negated (p (get_or xs i d)) (position-Some (λ y. not (p y)) xs i d e).1

  pub within : (xs : List X) (i : ℕ) (d : X) → first xs ≡ Some i → slice_get xs i ≡ Some (get_or xs i d)
  within xs i d e = slice_get-get_or xs i d (position-Some (λ y. not (p y)) xs i d e).0

  without : (b : Bool) (i : ℕ) → cond b (Some i) None ≡ None → b ≡ false
  without true i e = cc
  without false i e = refl

  -- where there is none, all pass
  pub all : (xs : List X) → first xs ≡ None → list_all p xs ≡ true
  all xs e = let past : length xs ≤ position_or_len (λ x. not (p x)) xs = ltb-false (position_or_len (λ x. not (p x)) xs) (length xs) (without _ _ e) in
      list_all-from_AllPass p xs (λ k d within. affirmed (p (get_or xs k d)) (fails_before_first (λ x. not (p x)) xs k d (omega (arith, within, past))))

-- what is wrong with the first queue that isn't taken is wrong with the queues
pub of_queue : (form : Form) (memory : ℕ) (queues : List Layout) (queue_index : ℕ) (l : Layout) (f : ConfigFault)
    → is_within 3 18 (length queues) ≡ true → first (is_queue form memory) queues ≡ Some queue_index → slice_get queues queue_index ≡ Some l → IsQueueFault form memory queue_index l f → IsQueuesFault form memory queues f
of_queue form memory queues queue_index l (fault.QueueSize k) many e at h =
    subst (λ n. FirstQueue form memory queues n (fault.QueueSize n)) (sym h.0) (record { many = many; first = e; layout = l; at = at; cause = (refl, h.1) })
of_queue form memory queues queue_index l (fault.QueueLayout k cause) many e at h =
    subst (λ n. FirstQueue form memory queues n (fault.QueueLayout n cause)) (sym h.0) (record { many = many; first = e; layout = l; at = at; cause = (refl, h.1, h.2) })
of_queue form memory queues queue_index l fault.Pages many e at h = h
of_queue form memory queues queue_index l fault.Features many e at h = h
of_queue form memory queues queue_index l fault.QueueCount many e at h = absurd h
of_queue form memory queues queue_index l fault.Workers many e at h = h
of_queue form memory queues queue_index l fault.Handoff many e at h = h
of_queue form memory queues queue_index l fault.UnitCount many e at h = h
of_queue form memory queues queue_index l (fault.UnitLun k) many e at h = h
of_queue form memory queues queue_index l (fault.UnitBlocks k) many e at h = h
of_queue form memory queues queue_index l (fault.UnitOrder k) many e at h = h
of_queue form memory queues queue_index l (fault.NoLun0 k) many e at h = h
of_queue form memory queues queue_index l (fault.UnitIdentity k) many e at h = h
of_queue form memory queues queue_index l (fault.UnitNaa k) many e at h = h

pub of_unit : (units : List UnitSpec) (unit_index : ℕ) (u : UnitSpec) (f : ConfigFault)
    → is_within 1 64 (length units) ≡ true → first is_unit units ≡ Some unit_index → slice_get units unit_index ≡ Some u → IsUnitFault unit_index u f → IsUnitsFault units f
of_unit units unit_index u (fault.UnitLun k) many e at h =
    subst (λ n. FirstUnit units n (fault.UnitLun n)) (sym h.0) (record { many = many; first = e; unit = u; at = at; cause = (refl, h.1) })
of_unit units unit_index u (fault.UnitBlocks k) many e at h =
    subst (λ n. FirstUnit units n (fault.UnitBlocks n)) (sym h.0) (record { many = many; first = e; unit = u; at = at; cause = (refl, h.1, h.2) })
of_unit units unit_index u fault.Pages many e at h = h
of_unit units unit_index u fault.Features many e at h = h
of_unit units unit_index u fault.QueueCount many e at h = h
of_unit units unit_index u (fault.QueueSize k) many e at h = h
of_unit units unit_index u (fault.QueueLayout k cause) many e at h = h
of_unit units unit_index u fault.Workers many e at h = h
of_unit units unit_index u fault.Handoff many e at h = h
of_unit units unit_index u fault.UnitCount many e at h = absurd h
of_unit units unit_index u (fault.UnitOrder k) many e at h = absurd h
of_unit units unit_index u (fault.NoLun0 k) many e at h = absurd h
of_unit units unit_index u (fault.UnitIdentity k) many e at h =
    subst (λ n. FirstUnit units n (fault.UnitIdentity n)) (sym h.0) (record { many = many; first = e; unit = u; at = at; cause = (refl, h.1, h.2, h.3) })
of_unit units unit_index u (fault.UnitNaa k) many e at h = absurd h

-- a number that isn't 0 leaves the test to what stands behind it
pub or_else : (n m : ℕ) (a b : Bool) → n ≡ m → (n ≡ 0 → ⊥) → a ≡ b → not a ≡ ((m == 0) || not b)
or_else n m a b e never f = ap not f ∙ ap (λ (w : Bool). w || not b) (sym (ne_eqb m 0 (λ z. never (e ∙ z))))

-- units rise where each stands above the one before it
pub rising : (units : List UnitSpec) → ((k : ℕ) (a b : UnitSpec) → slice_get units k ≡ Some a → slice_get units (suc k) ≡ Some b → stands_before (address_of a) (address_of b) ≡ true)
    → is_rising (map address_of units) ≡ true
rising [] each = refl
rising (a ∷ []) each = refl
rising (a ∷ b ∷ more) each = let one : stands_before (address_of a) (address_of b) ≡ true = each 0 a b refl refl in
    let rest : is_rising (map address_of (b ∷ more)) ≡ true = rising (b ∷ more) (λ k c d e f. each (suc k) c d e f) in
    rw one rest

both : (a b : Bool) → (a && b) ≡ true → (a ≡ true) × (b ≡ true)
both true true e = (refl, refl)
both true false e = cc
both false b e = cc

given : (a b u v : UnitSpec) → Some u ≡ Some a → Some v ≡ Some b → stands_before (address_of u) (address_of v) ≡ true → stands_before (address_of a) (address_of b) ≡ true
given a b u v e f h = cc

pub each_rising : (units : List UnitSpec) (k : ℕ) (a b : UnitSpec) → is_rising (map address_of units) ≡ true → slice_get units k ≡ Some a → slice_get units (suc k) ≡ Some b
    → stands_before (address_of a) (address_of b) ≡ true
each_rising [] k a b r e f = cc
each_rising (x ∷ []) zero a b r e f = cc
each_rising (x ∷ []) (suc k) a b r e f = cc
each_rising (x ∷ y ∷ more) zero a b r e f = given a b x y e f (both (stands_before (address_of x) (address_of y)) (is_rising (map address_of (y ∷ more))) r).0
each_rising (x ∷ y ∷ more) (suc k) a b r e f = each_rising (y ∷ more) k a b (both (stands_before (address_of x) (address_of y)) (is_rising (map address_of (y ∷ more))) r).1 e f

within_of : (units : List UnitSpec) (k : ℕ) (u : UnitSpec) → slice_get units k ≡ Some u → k < length units
within_of [] k u e = cc
within_of (x ∷ xs) zero u e = omega arith
within_of (x ∷ xs) (suc k) u e = let rest = within_of xs k u e in omega (arith, rest)

-- what the loop that looks for a fall knows: so far each unit stands above the one before it
abbrev Rising : List UnitSpec → ℕ → Type 0
Rising units index = (k : ℕ) → 0 < k → k < index → Rises units k

pub none_falls : (units : List UnitSpec) (index : ℕ) → Rising units index → length units ≤ index → true ≡ is_rising (map address_of units)
none_falls units index each past = sym (rising units (λ k a b e f.
    let back : suc k - 1 ≡ k = omega arith in let below = within_of units (suc k) b f in
    each (suc k) (omega arith) (omega (arith, past, below)) a b (subst (λ (n : ℕ). slice_get units n ≡ Some a) (sym back) e) f))

same : (a b : UnitSpec) → Some a ≡ Some b → a ≡ b
same a b e = cc

pub stays : (units : List UnitSpec) (index : ℕ) (a b : UnitSpec) → Rising units index → slice_get units (index - 1) ≡ Some a → slice_get units index ≡ Some b
    → stands_before (address_of a) (address_of b) ≡ true → Rising units (index + 1)
stays units index a b each e f g k positive below before here at_before at_here =
    elim (below_next k index below) [
      | inl less ↦ each k positive less before here at_before at_here
      | inr is ↦
          let p : a ≡ before = same a before (sym e ∙ subst (λ (n : ℕ). slice_get units (n - 1) ≡ Some before) is at_before) in
          let q : b ≡ here = same b here (sym f ∙ subst (λ (n : ℕ). slice_get units n ≡ Some here) is at_here) in
          subst (λ (u : UnitSpec). stands_before (address_of before) (address_of u) ≡ true) q (subst (λ (u : UnitSpec). stands_before (address_of u) (address_of b) ≡ true) p g)
    ]

decided : (b : Bool) → ((b ≡ true) → ⊥) → false ≡ b
decided true never = absurd (never refl)
decided false never = refl

pub falling : (units : List UnitSpec) (index : ℕ) (a b : UnitSpec) → 0 < index → slice_get units (index - 1) ≡ Some a → slice_get units index ≡ Some b
    → stands_before (address_of a) (address_of b) ≡ false → false ≡ is_rising (map address_of units)
falling units index a b positive e f g = let next : index ≡ suc (index - 1) = omega (arith, positive) in decided (is_rising (map address_of units)) (λ r.
    let h : stands_before (address_of a) (address_of b) ≡ true = each_rising units (index - 1) a b r e (subst (λ (n : ℕ). slice_get units n ≡ Some b) next f) in cc)
