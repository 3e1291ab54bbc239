-- What the use of a buffer is, and what the raising of an event is, where no buffer gets it.
use Rattle.std.proofs.Common.{◌≡◌, ℕ, Bool, true, false, ◌||◌, List, [], ◌∷◌, ◌++◌, length, Option, Some, None, refl, ap, sym, ◌∙◌, subst}
use Rattle.std.specs.Prelude.{slice_get, drop, if◌then◌else◌}
use Rattle.scsi_codec.specs.declared.event_queue.Event.{Event as EventRecord}
use Rattle.ring_core.specs.State.{PlainChain}
use Rattle.ring_core.specs.Writes.{Wrote, Write, all_written, scatter_writes}
use Rattle.ring_core.specs.Offer.{used_writes}
use Rattle.scsi_codec.specs.EventQueue.{event_bytes, missed_event}
use Rattle.event_queue.specs.Port.{PlainPort, Gift, Happening, gives, after as port_of, gives_to, raised_to}
use Rattle.device_model.specs.Parts.{answer_writes, is_short}
use Rattle.virtqueue.specs.Queue.{BareQueue, completing}
use Rattle.virtqueue.specs.Completing.{SeenBehind}
use Rattle.phases.specs.Inner.EventQueue.{MayRaise}
use Rattle.phases.specs.InMemory.{EachSeen}
use Rattle.phases.specs.Inner.EventsInMemory.{RaisesToIn, RaisesNextIn, UsesWith, TakesBuffer, TakesBufferOf}
use Rattle.phases.proofs.Behind.{is_seen, behind_both, each_read}

-- bytes that were written over a chain that was then used
pub uses_with : (shared : Bool) (c : PlainChain) (bytes : List ℕ) (q q' : BareQueue) (before middle after : List ℕ → Type 0)
    (len : ℕ) → len ≡ length bytes → Wrote before middle (scatter_writes c.parts 0 bytes)
    → SeenBehind shared middle after (used_writes q.ring c.id len) → ((m : List ℕ) → after m → q' ≡ completing m c q)
    → EachSeen shared before after (λ found left seen. UsesWith c bytes q found q' left seen)
uses_with shared c bytes q q' before middle after len is wrote used queue =
    λ seen may.
    let first : List Write = scatter_writes c.parts 0 bytes in
    let last : List Write = used_writes q.ring c.id (length bytes) in
    let (found, was, behind) = behind_both shared before middle after first last wrote
    (subst (λ (n : ℕ). SeenBehind shared middle after (used_writes q.ring c.id n)) is used) seen may in
    let left = all_written found (answer_writes q.ring c bytes) in (
      found,
      was,
      (left, is_seen shared left seen behind, record { memory = refl; queue = queue seen may }),
    )

-- a chain that is held
pub takes_held : (shared : Bool) (c : PlainChain) (q : BareQueue) (p p' : PlainPort) (may : List ℕ → Type 0)
    → (is_short c || p.missed) ≡ false → p' ≡ record p { buffers = p.buffers ++ c ∷ [] }
    → EachSeen shared may may (λ found left seen. TakesBufferOf c q found p q left seen p')
takes_held shared c q p p' may held port =
    each_read shared may may (λ found left seen. TakesBufferOf c q found p q left seen p') (λ m stood. stood)
    (λ m stood. subst (λ (b : Bool). TakesBuffer b c q m p q m m p') (sym held)
    (record { queue = refl; memory = refl; seen = refl }, port))

-- the port misses nothing where it holds a buffer
holds_none : (missed : Bool) (gift : Gift) → None ≡ (if missed then Some gift else None) → missed ≡ false
holds_none false gift none = refl
holds_none true gift none = absurd (cc)

-- and has it then
pub is_held : (c : PlainChain) (p p' : PlainPort) → is_short c ≡ false → None ≡ gives (Happening.Came c) p
    → p' ≡ port_of (Happening.Came c) p
    → ((is_short c || p.missed) ≡ false) × (p' ≡ record p { buffers = p.buffers ++ c ∷ [] })
is_held c p p' short none port =
    let missed : p.missed ≡ false = holds_none p.missed (c, event_bytes missed_event) none in (
      ap (λ (b : Bool). b || p.missed) short ∙ missed,
      port ∙ ap (λ (b : Bool). if b then record p { missed = false } else record p { buffers = p.buffers ++ c ∷ [] }) missed,
    )

-- Raise

-- no buffer is held
missed_first : (shared : Bool) (cs : List PlainChain) (e : EventRecord) (later : List EventRecord) (q : BareQueue) (m : List ℕ)
    (p p' : PlainPort) → None ≡ gives_to e cs → p' ≡ raised_to cs p → RaisesToIn shared cs e later q m p true q m m p' later
missed_first shared [] e later q m p p' none port = (record { queue = refl; memory = refl; seen = refl }, port, refl)
missed_first shared (c ∷ more) e later q m p p' none port = absurd (cc)

-- an option that isn't some is none
pub none_left : {X : Type 0} (o : Option X) → ((x : X) → o ≡ Some x → ⊥) → None ≡ o
none_left None without = refl
none_left (Some x) without = absurd (without x refl)

-- the oldest buffer may not be completed
refused_first : (shared : Bool) (cs : List PlainChain) (e : EventRecord) (later : List EventRecord) (q : BareQueue) (m : List ℕ)
    (p : PlainPort) → (MayRaise cs q m → ⊥) → RaisesToIn shared cs e later q m p false q m m p (e ∷ later)
refused_first shared [] e later q m p refused = absurd (refused tt)
refused_first shared (c ∷ more) e later q m p refused =
    (refused, record { at_queue = record { queue = refl; memory = refl; seen = refl }; port = refl; waiting = refl })

pub missed : (shared : Bool) (w : List EventRecord) (e : EventRecord) (q : BareQueue) (may : List ℕ → Type 0) (p p' : PlainPort)
    (w' : List EventRecord) → Some e ≡ slice_get w 0 → w' ≡ drop 1 w → None ≡ gives_to e p.buffers → p' ≡ raised_to p.buffers p
    → EachSeen shared may may (λ found left seen. RaisesNextIn shared w q found p true q left seen p' w')
missed shared [] e q may p p' w' first rest none port = absurd (cc)
missed shared (f ∷ later) e q may p p' w' first rest none port =
    let same : e ≡ f = cc in
    each_read shared may may (λ found left seen. RaisesNextIn shared (f ∷ later) q found p true q left seen p' w') (λ m stood. stood)
    (λ m stood. subst (λ (k : List EventRecord). RaisesToIn shared p.buffers f later q m p true q m m p' k) (sym rest)
    (missed_first shared p.buffers f later q m p p'
    (subst (λ (g : EventRecord). None ≡ gives_to g p.buffers) same none) port))

pub refused : (shared : Bool) (w : List EventRecord) (e : EventRecord) (q : BareQueue) (may : List ℕ → Type 0) (p : PlainPort)
    → Some e ≡ slice_get w 0 → ((m : List ℕ) → may m → MayRaise p.buffers q m → ⊥)
    → EachSeen shared may may (λ found left seen. RaisesNextIn shared w q found p false q left seen p w)
refused shared [] e q may p first not_so = absurd (cc)
refused shared (f ∷ later) e q may p first not_so =
    each_read shared may may (λ found left seen. RaisesNextIn shared (f ∷ later) q found p false q left seen p (f ∷ later))
    (λ m stood. stood) (λ m stood. refused_first shared p.buffers f later q m p (not_so m stood))

pub quiet : (shared : Bool) (w : List EventRecord) (q : BareQueue) (may : List ℕ → Type 0) (p : PlainPort)
    → None ≡ slice_get w 0 → EachSeen shared may may (λ found left seen. RaisesNextIn shared w q found p false q left seen p w)
quiet shared [] q may p none =
    each_read shared may may (λ found left seen. RaisesNextIn shared [] q found p false q left seen p []) (λ m stood. stood)
    (λ m stood. record { at_queue = record { queue = refl; memory = refl; seen = refl }; port = refl; waiting = refl })
quiet shared (f ∷ later) q may p none = absurd (cc)
