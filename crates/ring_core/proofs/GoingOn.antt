-- A queue that is opened where another one goes on.
use Rattle.std.proofs.Common.{◌≡◌, ◌≢◌, ℕ, suc, ◌+◌, ◌-◌, ◌*◌, ◌<◌, ◌%◌, ◌&&◌, not, nat_lt, nat_le, List, [], ◌∷◌, length, Bool, true, false, cond, Option, Some, None, is_some, get_or, sum_by, replicate, refl, sym, ap, subst, ◌∙◌, arith, ◌⊎◌, inl, inr}
use Rattle.std.proofs.Math.Nat.{mod-add-mod}
use Rattle.std.specs.Prelude.{◌↔◌}
use mathlib.Core.Path.{fun_ext}
use Rattle.byteorder.specs.Endian.{little_number}
use Rattle.guest_mem.specs.Memory.{bytes_at}
use Rattle.ring_core.specs.State.{RingState, under, opening}
use Rattle.ring_core.specs.Sound.{IsSound, slots_of}
use Rattle.ring_core.specs.Walk.{by_next, first_of, Sequence, IsChain, ChainFails}
use Rattle.ring_core.specs.Split.{available_index, used_index_after, ahead, next_head, entry_wrong, SplitChain, SplitFails}
use Rattle.ring_core.specs.Packed.{packed_descriptor, slot_at, slots_from, wrap_counter, index_at, passed_at, available_place, used_place, avail_bit, used_bit, is_available, packed_wrong, packed_table, chain_wrong}
use Rattle.ring_core.specs.Offer.{Offer, Nothing, Found, Refused, Offers, SplitOffers, PackedOffers, OffersInForm, OffersUnless}
use Rattle.ring_core.specs.Position.{position, position_in_form, going_on, reopened}
use Rattle.ring_core.specs.declared.layout.Form.{Form}
use Rattle.ring_core.specs.declared.layout.Form.TheVariants.{Split, Packed}
use Rattle.ring_core.specs.declared.layout.Layout.{Layout}
use Rattle.ring_core.specs.declared.layout.Features.{Features}
use Rattle.ring_core.specs.declared.layout.RingIndex.{RingIndex}
use Rattle.ring_core.specs.declared.layout.Position.{Position}
use Rattle.ring_core.specs.declared.outstanding.OutstandingChain.{OutstandingChain}
use Rattle.ring_core.specs.declared.descriptor.Part.{Part}
use Rattle.ring_core.specs.declared.descriptor.Descriptor.{Descriptor}
use Rattle.ring_core.specs.declared.fault.RingFault.{RingFault}
use Rattle.ring_core.specs.declared.fault.RingFault.TheVariants.{IndexJump, HeadOutOfRange, AlreadyOutstanding, RingOverrun}
use Rattle.ring_core.proofs.Cases.{goes_on_slot, goes_on_wrap}
use Rattle.ring_core.proofs.Sound.{none_there}

-- Where it is

-- an index modulo 65,536 stays as it is
index_stays : (a : ℕ) → (a % 65536 + 0) % 65536 ≡ a % 65536
index_stays a = omega arith

abbrev index_of : ℕ → Bool → RingIndex
index_of a w = record { index = a; wrap = w }

indices : (a b : ℕ) (v w : Bool) → a ≡ b → v ≡ w → index_of a v ≡ index_of b w
indices a b v w e f = ap (λ (n : ℕ). index_of n v) e ∙ ap (λ (x : Bool). index_of b x) f

-- that which was reached, once it is counted from a fresh ring's
begun : (size t : ℕ) → 0 < size → index_at size (0 + passed_at size (index_at size t)) ≡ index_at size t
begun size t some =
    ap (index_at size) (let e : 0 + passed_at size (index_at size t) ≡ passed_at size (index_at size t) = omega arith in e)
    ∙ indices _ _ _ _ (goes_on_slot size t some) (goes_on_wrap size t some)

abbrev position_of : RingIndex → RingIndex → Position
position_of a u = record { available = a; used = u }

positions : (a b c d : RingIndex) → a ≡ b → c ≡ d → position_of a c ≡ position_of b d
positions a b c d e f = ap (λ (i : RingIndex). position_of i c) e ∙ ap (λ (i : RingIndex). position_of b i) f

-- a queue of this form as it is opened where another goes on
abbrev opened_as : Form → RingState → RingState
opened_as f s = opening f s.queue (going_on s.layout (position_in_form f s)) s.features s.memory (length s.outstanding)

position_as : (f : Form) (s : RingState) → 0 < s.layout.size → position_in_form f (opened_as f s) ≡ position_in_form f s
unfolding opening
position_as Split s some =
    positions _ _ _ _
    (indices _ _ true true (index_stays (s.layout.first_available.index + length s.log.accepted)) refl)
    (indices _ _ true true (index_stays (s.layout.first_used.index + length s.log.used)) refl)
position_as Packed s some =
    positions _ _ _ _ (begun s.layout.size (available_place s) some) (begun s.layout.size (used_place s) some)

pub same_position : (s : RingState) → 0 < s.layout.size → position (reopened s) ≡ position s
unfolding opening
same_position s some = position_as s.form s some

-- What it offers, by what it depends on

module _ (features : Features) (m : List ℕ) (desc size : ℕ) where
  SplitBy : ℕ → Option RingFault → ℕ → Offer → Type 0
  SplitBy a w h Nothing = a ≡ 0
  SplitBy a w h (Found id slots parts) =
      (a ≢ 0) × (w ≡ None) × (id ≡ h) × (slots ≡ 1) × SplitChain features m desc size h parts
  SplitBy a w h (Refused f) =
      (a ≢ 0) × ((w ≡ Some f) ⊎ ((w ≡ None) × SplitFails features m desc size h f))

  split_moves : (a b : ℕ) (w v : Option RingFault) (h k : ℕ) (o : Offer) → a ≡ b → w ≡ v → h ≡ k → SplitBy a w h o → SplitBy b v k o
  split_moves a b w v h k o e f g x =
      subst (λ (n : ℕ). SplitBy b v n o) g
      (subst (λ (u : Option RingFault). SplitBy b u h o) f (subst (λ (n : ℕ). SplitBy n w h o) e x))

  tests : ℕ → ℕ → Option OutstandingChain → Option RingFault
  tests a h u =
      first_of (
      (nat_lt size a, IndexJump)
      ∷ (nat_le size h, HeadOutOfRange)
      ∷ (is_some u, AlreadyOutstanding)
      ∷ [])

split_by : (s : RingState) (m : List ℕ) (o : Offer) → SplitOffers s m o
    → SplitBy s.features m s.layout.desc s.layout.size (ahead s m) (entry_wrong s m) (next_head s m) o
unfolding SplitBy
split_by s m Nothing x = x
split_by s m (Found id slots parts) x = x
split_by s m (Refused f) x = x

by_split : (s : RingState) (m : List ℕ) (o : Offer)
    → SplitBy s.features m s.layout.desc s.layout.size (ahead s m) (entry_wrong s m) (next_head s m) o → SplitOffers s m o
unfolding SplitBy
by_split s m Nothing x = x
by_split s m (Found id slots parts) x = x
by_split s m (Refused f) x = x

split_offers : (s : RingState) (m : List ℕ) (o : Offer) → ((id : ℕ) → under s id ≡ None)
    → SplitOffers (opened_as Split s) m o ↔ SplitOffers s m o
unfolding opening tests
split_offers s m o none =
    let t : RingState = opened_as Split s in
    let i : available_index t ≡ available_index s = index_stays (s.layout.first_available.index + length s.log.accepted) in
    let a : ahead t m ≡ ahead s m =
    ap (λ (n : ℕ). (little_number 2 (bytes_at m (s.layout.driver + 2) 2) + 65536 - n) % 65536) i in
    let h : next_head t m ≡ next_head s m =
    ap (λ (n : ℕ). little_number 2 (bytes_at m (s.layout.driver + 4 + 2 * (n % s.layout.size)) 2)) i in
    let u : under t (next_head t m) ≡ under s (next_head s m) =
    none_there (length s.outstanding) (next_head t m) ∙ sym (none (next_head s m)) in
    let w : entry_wrong t m ≡ entry_wrong s m =
    ap (λ (n : ℕ). tests s.features m s.layout.desc s.layout.size n (next_head t m) (under t (next_head t m))) a
    ∙ ap (λ (n : ℕ). tests s.features m s.layout.desc s.layout.size (ahead s m) n (under t (next_head t m))) h
    ∙ ap (λ (c : Option OutstandingChain). tests s.features m s.layout.desc s.layout.size (ahead s m) (next_head s m) c) u in (
      λ x.
          by_split s m o (split_moves s.features m s.layout.desc s.layout.size _ _ _ _ _ _ o a w h (split_by t m o x)),
      λ x.
          by_split t m o
          (split_moves s.features m s.layout.desc s.layout.size _ _ _ _ _ _ o (sym a) (sym w) (sym h) (split_by s m o x)),
    )

module _ (features : Features) (m : List ℕ) (size : ℕ) where
  -- the slots from there on
  abbrev ring_of : (ℕ → Descriptor) → Sequence
  ring_of at = record { at = at; on = by_next; wrong = packed_wrong features (length m) size }

  abbrev has_one : Descriptor → Bool → Bool
  has_one d wrap = cond wrap (avail_bit d && not (used_bit d)) (not (avail_bit d) && used_bit d)

  abbrev ChainIn : (ℕ → Descriptor) → ℕ → ℕ → List Part → Type 0
  ChainIn at id slots parts =
      (direct : List Descriptor) × (last : Descriptor)
      × IsChain (ring_of at) (packed_table m) direct last parts
      × (id ≡ last.next_or_id) × (slots ≡ length direct + 1)

  abbrev wrong_by : (ℕ → Option OutstandingChain) → ℕ → ℕ → ℕ → Option RingFault
  wrong_by u n id slots =
      first_of (
      (is_some (u id), AlreadyOutstanding)
      ∷ (nat_lt size (n + slots), RingOverrun)
      ∷ [])

  PackedBy : Descriptor → Bool → (ℕ → Descriptor) → (ℕ → Option OutstandingChain) → ℕ → Offer → Type 0
  PackedBy d wrap at u n Nothing = has_one d wrap ≡ false
  PackedBy d wrap at u n (Found id slots parts) =
      (has_one d wrap ≡ true) × ChainIn at id slots parts × (wrong_by u n id slots ≡ None)
  PackedBy d wrap at u n (Refused f) =
      (has_one d wrap ≡ true)
      × (ChainFails (ring_of at) (packed_table m) f
      ⊎ ((id : ℕ) × (slots : ℕ) × (parts : List Part) × ChainIn at id slots parts × (wrong_by u n id slots ≡ Some f)))

  packed_moves : (d e : Descriptor) (v w : Bool) (at bt : ℕ → Descriptor) (t u : ℕ → Option OutstandingChain) (k n : ℕ) (o : Offer)
      → d ≡ e → v ≡ w → at ≡ bt → t ≡ u → k ≡ n → PackedBy d v at t k o → PackedBy e w bt u n o
  packed_moves d e v w at bt t u k n o p q r s z x =
      subst (λ (j : ℕ). PackedBy e w bt u j o) z
      (subst (λ (y : ℕ → Option OutstandingChain). PackedBy e w bt y k o) s
      (subst (λ (y : ℕ → Descriptor). PackedBy e w y t k o) r
      (subst (λ (y : Bool). PackedBy e y at t k o) q (subst (λ (y : Descriptor). PackedBy y v at t k o) p x))))

packed_by : (s : RingState) (m : List ℕ) (o : Offer) → PackedOffers s m o
    → PackedBy s.features m s.layout.size (slot_at s.layout m (available_place s)) (wrap_counter s.layout.size (available_place s))
    (slots_from s.layout m (available_place s)) (under s) (s.accepted_slots - s.used_slots) o
unfolding PackedBy
packed_by s m Nothing x = x
packed_by s m (Found id slots parts) x = x
packed_by s m (Refused f) x = x

by_packed : (s : RingState) (m : List ℕ) (o : Offer)
    → PackedBy s.features m s.layout.size (slot_at s.layout m (available_place s)) (wrap_counter s.layout.size (available_place s))
    (slots_from s.layout m (available_place s)) (under s) (s.accepted_slots - s.used_slots) o → PackedOffers s m o
unfolding PackedBy
by_packed s m Nothing x = x
by_packed s m (Found id slots parts) x = x
by_packed s m (Refused f) x = x

-- with nothing outstanding no slots are
no_slots : (chains : List (Option OutstandingChain)) → ((id : ℕ) → get_or chains id None ≡ None) → sum_by slots_of chains ≡ 0
no_slots [] none = refl
no_slots (c ∷ chains) none =
    let head : c ≡ None = none 0 in
    let rest : sum_by slots_of chains ≡ 0 = no_slots chains (λ id. none (suc id)) in
    rw (head, rest) refl

packed_offers : (s : RingState) (m : List ℕ) (o : Offer) → 0 < s.layout.size → IsSound s → ((id : ℕ) → under s id ≡ None)
    → PackedOffers (opened_as Packed s) m o ↔ PackedOffers s m o
unfolding opening
packed_offers s m o some sound none =
    let t : RingState = opened_as Packed s in
    let size : ℕ = s.layout.size in
    let passed : ℕ = available_place s in
    let i : index_at size (available_place t) ≡ index_at size passed = begun size passed some in
    let slot : available_place t % size ≡ passed % size = ap (λ (k : RingIndex). k.index) i in
    let wrap : wrap_counter size (available_place t) ≡ wrap_counter size passed = ap (λ (k : RingIndex). k.wrap) i in
    let descriptor : ℕ → Descriptor = λ k. packed_descriptor (bytes_at m (s.layout.desc + 16 * k) 16) in
    let first : slot_at t.layout m (available_place t) ≡ slot_at s.layout m passed = ap descriptor slot in
    let all : slots_from t.layout m (available_place t) ≡ slots_from s.layout m passed =
    fun_ext (λ k. ap descriptor (sym (mod-add-mod (available_place t) size k) ∙ ap (λ (x : ℕ). (x + k) % size) slot ∙ mod-add-mod passed size k)) in
    let free : under t ≡ under s = fun_ext (λ id. none_there (length s.outstanding) id ∙ sym (none id)) in
    let outstanding : 0 - 0 ≡ s.accepted_slots - s.used_slots = omega (arith, sound.slots_counted, no_slots s.outstanding none) in (
      λ x.
          by_packed s m o (packed_moves s.features m size _ _ _ _ _ _ _ _ _ _ o first wrap all free outstanding (packed_by t m o x)),
      λ x.
          by_packed t m o
          (packed_moves s.features m size _ _ _ _ _ _ _ _ _ _ o (sym first) (sym wrap) (sym all) (sym free) (sym outstanding) (packed_by s m o x)),
    )

offers_as : (f : Form) (s : RingState) (m : List ℕ) (o : Offer) → 0 < s.layout.size → IsSound s → ((id : ℕ) → under s id ≡ None)
    → OffersInForm f (opened_as f s) m o ↔ OffersInForm f s m o
offers_as Split s m o some sound none = split_offers s m o none
offers_as Packed s m o some sound none = packed_offers s m o some sound none

pub same_offers : (s : RingState) (m : List ℕ) (o : Offer) → 0 < s.layout.size → IsSound s → s.broken ≡ None
    → ((id : ℕ) → under s id ≡ None) → Offers (reopened s) m o ↔ Offers s m o
unfolding opening
same_offers s m o some sound whole none =
    subst (λ (b : Option RingFault). OffersInForm s.form (reopened s) m o ↔ OffersUnless b s m o) (sym whole)
    (offers_as s.form s m o some sound none)
