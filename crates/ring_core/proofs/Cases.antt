-- Small cases of queues.
use Rattle.std.proofs.Common.{◌≡◌, ℕ, zero, suc, ◌+◌, ◌-◌, ◌*◌, ◌/◌, ◌%◌, Bool, cond, mod-lt, ◌^◌, ◌<◌, ◌≤◌, List, [], ◌∷◌, ◌++◌, length, nat_lt, ◌==◌, ◌&&◌, true, false, Option, Some, None, refl, sym, ap, ◌∙◌, arith, add-one, inl}
use Rattle.std.proofs.lemmas.Bool.Decides.{nat_tests}
use Rattle.std.proofs.lemmas.Grind.{common_steps}
use Rattle.std.proofs.lemmas.Nat.{div-mul-add, mod-mul-add}
use Rattle.byteorder.specs.Endian.{little_number, little_bytes}
use Rattle.byteorder.specs.Numbers.{little_number-reads_back}
use Rattle.guest_mem.specs.Memory.{bytes_at}
use Rattle.ring_core.specs.State.{RingState, first_index}
use Rattle.ring_core.specs.Walk.{nothing_before, goes_on, is_indirect, part_of, front, Sequence}
use Rattle.ring_core.specs.Split.{split_descriptor, in_table, number_on, path, split_path, split_table, split_wrong, SplitChain, SplitFails, available_index, ahead, entry_wrong, used_event, used_index_after, split_wants_notice}
use Rattle.ring_core.specs.Packed.{packed_descriptor, wrap_counter, passed_at, index_at, available_place, used_place, names_one}
use Rattle.ring_core.specs.declared.layout.Features.{Features}
use Rattle.ring_core.specs.declared.descriptor.Part.{Part}
use Rattle.ring_core.specs.declared.descriptor.Descriptor.{Descriptor}
use Rattle.ring_core.specs.declared.before.Before.{Before}
use Rattle.ring_core.specs.declared.fault.RingFault.{RingFault}
use Rattle.ring_core.specs.declared.fault.RingFault.TheVariants.{IndexJump, ChainTooLong}
use Rattle.ring_core.proofs.Along.{Along, along_start, along_more, along_end, along_wrong}
use Rattle.ring_core.proofs.Walking.{chain_direct}

-- The available index:
pub ahead_some : (s : RingState) (m : List ℕ) (k : ℕ) → k < 65536 → little_number 2 (bytes_at m (s.layout.driver + 2) 2) ≡ (s.layout.first_available.index + length s.log.accepted + k) % 65536 → ahead s m ≡ k
ahead_some s m k small e = counted _ (s.layout.first_available.index + length s.log.accepted) k small e
  where
    counted : (idx n k : ℕ) → k < 65536 → idx ≡ (n + k) % 65536 → (idx + 65536 - n % 65536) % 65536 ≡ k
    counted idx n k small e = omega arith

pub ahead_none : (s : RingState) (m : List ℕ) → little_number 2 (bytes_at m (s.layout.driver + 2) 2) ≡ (s.layout.first_available.index + length s.log.accepted) % 65536 → ahead s m ≡ 0
ahead_none s m e = let same : s.layout.first_available.index + length s.log.accepted + 0 ≡ s.layout.first_available.index + length s.log.accepted = omega arith in ahead_some s m 0 (omega arith) (rw same e)

pub jump_above : (s : RingState) (m : List ℕ) → s.layout.size < ahead s m → entry_wrong s m ≡ Some IndexJump
jump_above s m lt = grind (arith, common_steps, nat_tests)

pub no_jump_at : (s : RingState) (m : List ℕ) → ahead s m ≤ s.layout.size → entry_wrong s m ≡ Some IndexJump → ⊥
no_jump_at s m le e = grind (arith, common_steps, nat_tests)

-- nothing is wrong with a descriptor
right : (features : Features) (memory size : ℕ) (b : Before) (d : Descriptor) → is_indirect d ≡ false → d.addr + d.len ≤ memory → b.writable ≡ false → b.total + d.len ≤ 2 ^ 32
    → (goes_on d ≡ true → (d.next_or_id < size) × (b.count + 1 < size)) → split_wrong features memory size b d ≡ None
right features memory size b d direct inside first small more = grind (arith, common_steps, nat_tests)

module _ (features : Features) (m : List ℕ) (table size : ℕ) where
  abbrev Wrong : Before → Descriptor → Option RingFault
  Wrong = split_wrong features (length m) size

  abbrev From : ℕ → Sequence
  From head = split_path features m table size head

  pub one_alone : (head addr len next : ℕ) → in_table m table head ≡ record { addr = addr; len = len; flags = 0; next_or_id = next } → addr + len ≤ length m → len ≤ 2 ^ 32
      → SplitChain features m table size head (record { addr = addr; len = len; writable = false } ∷ [])
  unfolding number_on front
  one_alone head addr len next is inside small =
      let d : Descriptor = record { addr = addr; len = len; flags = 0; next_or_id = next } in
      let b : Before = record { count = 0; total = 0; writable = false } in
      let fine : Wrong b d ≡ None = right features (length m) size b d refl inside refl (omega arith) (λ on. absurd (cc)) in
      let e = along_end (From head) nothing_before [] 0 b [] d (along_start (From head) nothing_before []) (sym is) fine refl in
      ([], d, chain_direct (From head) (split_table m) [] d [] e refl refl)

  pub three_linked : (a b c i j k next : ℕ) → 5 < size
      → in_table m table 3 ≡ record { addr = a; len = i; flags = 1; next_or_id = 5 }
      → in_table m table 5 ≡ record { addr = b; len = j; flags = 1; next_or_id = 1 }
      → in_table m table 1 ≡ record { addr = c; len = k; flags = 2; next_or_id = next }
      → a + i ≤ length m → b + j ≤ length m → c + k ≤ length m → i + j + k ≤ 2 ^ 32
      → SplitChain features m table size 3 (record { addr = a; len = i; writable = false } ∷ record { addr = b; len = j; writable = false } ∷ record { addr = c; len = k; writable = true } ∷ [])
  unfolding number_on
  three_linked a b c i j k next big is3 is5 is1 in3 in5 in1 small =
      let at : Sequence = From 3 in
      let d0 : Descriptor = record { addr = a; len = i; flags = 1; next_or_id = 5 } in
      let d1 : Descriptor = record { addr = b; len = j; flags = 1; next_or_id = 1 } in
      let d2 : Descriptor = record { addr = c; len = k; flags = 2; next_or_id = next } in
      let n1 : number_on m table 3 1 ≡ 5 = ap (λ (d : Descriptor). d.next_or_id) is3 in
      let e1 : path m table 3 1 ≡ d1 = ap (in_table m table) n1 ∙ is5 in
      let n2 : number_on m table 3 2 ≡ 1 = ap (λ (d : Descriptor). d.next_or_id) e1 in
      let e2 : path m table 3 2 ≡ d2 = ap (in_table m table) n2 ∙ is1 in
      let b0 : Before = record { count = 0; total = 0; writable = false } in
      let b1 : Before = record { count = 1; total = 0 + i; writable = false } in
      let b2 : Before = record { count = 2; total = 0 + i + j; writable = false } in
      let s1 : Along (From 3) nothing_before [] 1 b1 (part_of d0 ∷ []) =
      along_more (From 3) nothing_before [] 0 b0 [] d0 (along_start (From 3) nothing_before []) (sym is3)
      (right features (length m) size b0 d0 refl in3 refl (omega arith) (λ on. (big, omega arith))) refl in
      let s2 : Along (From 3) nothing_before [] 2 b2 (part_of d0 ∷ part_of d1 ∷ []) =
      along_more (From 3) nothing_before [] 1 b1 (part_of d0 ∷ []) d1 s1 (sym e1)
      (right features (length m) size b1 d1 refl in5 refl (omega arith) (λ on. (omega arith, omega arith))) refl in
      let e = along_end (From 3) nothing_before [] 2 b2 (part_of d0 ∷ part_of d1 ∷ []) d2 s2 (sym e2)
      (right features (length m) size b2 d2 refl in1 refl (omega arith) (λ on. absurd (cc))) refl in
      (front (From 3).at 2, d2, chain_direct (From 3) (split_table m) (front (From 3).at 2) d2 (part_of d0 ∷ part_of d1 ∷ []) e refl s2.found)

  module _ (head addr : ℕ) (within : head < size) (is : in_table m table head ≡ record { addr = addr; len = 0; flags = 1; next_or_id = head }) where
    abbrev Itself : Descriptor
    Itself = record { addr = addr; len = 0; flags = 1; next_or_id = head }

    abbrev behind : ℕ → Before
    behind n = record { count = n; total = 0; writable = false }

    stays : (n : ℕ) → number_on m table head n ≡ head
    unfolding number_on
    stays zero = refl
    stays (suc n) = ap (λ (d : Descriptor). d.next_or_id) (ap (in_table m table) (stays n) ∙ is)

    is_itself : (n : ℕ) → Itself ≡ path m table head n
    is_itself n = sym (ap (in_table m table) (stays n) ∙ is)

    once_more : (n : ℕ) → n + 1 < size → Wrong (behind n) Itself ≡ None
    once_more n lt = grind (arith, common_steps, nat_tests)

    at_last : (n : ℕ) → size ≤ n + 1 → Wrong (behind n) Itself ≡ Some ChainTooLong
    at_last n le = grind (arith, common_steps, nat_tests)

    round : (n : ℕ) → n < size → (parts : List Part) × Along (From head) nothing_before [] n (behind n) parts
    round zero lt = ([], along_start (From head) nothing_before [])
    round (suc n) lt =
        let before = round n (omega arith) in
        let next = along_more (From head) nothing_before [] n (behind n) before.0 Itself before.1 (is_itself n) (once_more n (omega arith)) refl in
        (before.0 ++ part_of Itself ∷ [], rw add-one at next)

    pub names_itself : SplitFails features m table size head ChainTooLong
    names_itself =
        let n : ℕ = size - 1 in
        let before = round n (omega arith) in
        inl (along_wrong (From head) nothing_before [] n (behind n) before.0 Itself before.1 (is_itself n) ChainTooLong (at_last n (omega arith)))

-- A descriptor in the bytes that a driver writes:
module _ (addr len flags last : ℕ) (a : addr < 2 ^ 64) (n : len < 2 ^ 32) (f : flags < 2 ^ 16) (l : last < 2 ^ 16) where
  pub split_bytes : split_descriptor (little_bytes 8 addr ++ little_bytes 4 len ++ little_bytes 2 flags ++ little_bytes 2 last) ≡ record { addr = addr; len = len; flags = flags; next_or_id = last }
  split_bytes =
      let e8 = little_number-reads_back 8 addr (little_bytes 4 len ++ little_bytes 2 flags ++ little_bytes 2 last) a in
      let e4 = little_number-reads_back 4 len (little_bytes 2 flags ++ little_bytes 2 last) n in
      let e2 = little_number-reads_back 2 flags (little_bytes 2 last) f in
      let e0 = little_number-reads_back 2 last [] l in
      cc

  pub packed_bytes : packed_descriptor (little_bytes 8 addr ++ little_bytes 4 len ++ little_bytes 2 last ++ little_bytes 2 flags) ≡ record { addr = addr; len = len; flags = flags; next_or_id = last }
  packed_bytes =
      let e8 = little_number-reads_back 8 addr (little_bytes 4 len ++ little_bytes 2 last ++ little_bytes 2 flags) a in
      let e4 = little_number-reads_back 4 len (little_bytes 2 last ++ little_bytes 2 flags) n in
      let e2 = little_number-reads_back 2 last (little_bytes 2 flags) l in
      let e0 = little_number-reads_back 2 flags [] f in
      cc

-- Notices:
pub notice_once : (s : RingState) (m : List ℕ) (k : ℕ) → s.features.event_index ≡ true → length s.log.used ≤ 65536 → k < 65536 → used_event s m ≡ (s.layout.first_used.index + k) % 65536 → split_wants_notice s m ≡ (length s.log.used == k + 1)
notice_once s m k agreed few small is = rw (agreed, is) (once s.layout.first_used.index (length s.log.used) k few small)
  where
    same_index : (b n k : ℕ) → n < 65536 → k < 65536 → (b + k) % 65536 ≡ (b + n) % 65536 → k ≡ n
    same_index b n k ln lk e = omega (arith, e)

    once : (b n k : ℕ) → n ≤ 65536 → k < 65536 → nat_lt 0 n && ((b + k) % 65536 == (b + (n - 1)) % 65536) ≡ (n == k + 1)
    once b zero k few small = grind (arith, common_steps, nat_tests)
    once b (suc n) k few small =
        let same = same_index b n k (omega (arith, few)) small in
        grind (arith, common_steps, nat_tests)

-- Where a ring begins:
pub first_available_index : (s : RingState) → s.layout.first_available ≡ first_index → available_index s ≡ length s.log.accepted % 65536
first_available_index s is = rw is (ap (λ (n : ℕ). n % 65536) (let e : 0 + length s.log.accepted ≡ length s.log.accepted = omega arith in e))

pub first_used_index : (s : RingState) (n : ℕ) → s.layout.first_used ≡ first_index → used_index_after s n ≡ n % 65536
first_used_index s n is = rw is (ap (λ (n : ℕ). n % 65536) (let e : 0 + n ≡ n = omega arith in e))

pub first_available_place : (s : RingState) → s.layout.first_available ≡ first_index → available_place s ≡ s.accepted_slots
first_available_place s is = rw is (let e : s.accepted_slots + 0 ≡ s.accepted_slots = omega arith in e)

pub first_used_place : (s : RingState) → s.layout.first_used ≡ first_index → used_place s ≡ s.used_slots
first_used_place s is = rw is (let e : s.used_slots + 0 ≡ s.used_slots = omega arith in e)

-- an index below the size, in a round with wrap counter 1 or in the next
slot_of_index : (w : Bool) (size x : ℕ) → x < size → (x + cond w 0 size) % size ≡ x
slot_of_index true size x lt = ap (λ (n : ℕ). n % size) (let e : x + 0 ≡ 0 * size + x = omega arith in e) ∙ mod-mul-add 0 size x lt
slot_of_index false size x lt = ap (λ (n : ℕ). n % size) (let e : x + size ≡ 1 * size + x = omega arith in e) ∙ mod-mul-add 1 size x lt

wrap_of_index : (w : Bool) (size x : ℕ) → x < size → wrap_counter size (x + cond w 0 size) ≡ w
wrap_of_index true size x lt = ap (λ (n : ℕ). n % 2 == 0) (ap (λ (n : ℕ). n / size) (let e : x + 0 ≡ 0 * size + x = omega arith in e) ∙ div-mul-add 0 size x lt)
wrap_of_index false size x lt = ap (λ (n : ℕ). n % 2 == 0) (ap (λ (n : ℕ). n / size) (let e : x + size ≡ 1 * size + x = omega arith in e) ∙ div-mul-add 1 size x lt)

pub goes_on_slot : (size t : ℕ) → 0 < size → passed_at size (index_at size t) % size ≡ t % size
goes_on_slot size t some = slot_of_index (wrap_counter size t) size (t % size) (mod-lt t some)

pub goes_on_wrap : (size t : ℕ) → 0 < size → wrap_counter size (passed_at size (index_at size t)) ≡ wrap_counter size t
goes_on_wrap size t some = wrap_of_index (wrap_counter size t) size (t % size) (mod-lt t some)

pub four_named : (names_one 7 32772 0 3 ≡ false) × (names_one 7 32772 3 3 ≡ true) × (names_one 7 32772 6 3 ≡ false) × (names_one 7 32772 9 3 ≡ false)
unfolding names_one
four_named = (refl, refl, refl, refl)
