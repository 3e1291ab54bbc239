-- A driver that is asked has its write.
use Rattle.std.proofs.Common.{◌≡◌, ℕ, ◌+◌, ◌≤◌, Bool, true, false, List, length, Option, Some, Ok, refl, sym, ap, ◌∙◌, subst}
use Rattle.std.specs.Option.{IfSome}
use Rattle.guest_mem.specs.Memory.{LiesIn}
use Rattle.ring_core.specs.Writes.{Write}
use Rattle.device_model.specs.World.{PlainWorld}
use Rattle.device_model.specs.Events.{Event}
use Rattle.device_model.specs.Turns.{Turns}
use Rattle.device_steps.specs.Apart.{PlainDevice}
use Rattle.device_steps.specs.Inner.Apart.{TurnsIn}
use Rattle.world.specs.Asking.{Asks, AsksAsPromised, AsksLive, AsksPromised}
use Rattle.world.specs.LiveWorld.{PlainLive, StepsLive, StepsPromised}
use Rattle.world.specs.Promise.{StepsAsPromised}

-- a write with the address and the bytes of another is that one
same_write : (a : ℕ) (bs : List ℕ) (x : Write) → a ≡ x.addr → bs ≡ x.bytes → record { addr = a; bytes = bs } ≡ x
same_write a bs x at are = rw (at, are) refl

-- what was found is what there is to ask
pub found : (a : ℕ) (bs : List ℕ) (x : Write) (there o : Option Write) → a ≡ x.addr → bs ≡ x.bytes → there ≡ Some x
    → there ≡ o → Some (record { addr = a; bytes = bs }) ≡ o
found a bs x there o at are is asks = ap (λ (z : Write). Some z) (same_write a bs x at are) ∙ sym is ∙ asks

-- it lies in memory
pub lies : (n a : ℕ) (bs : List ℕ) (x : Write) (there : Option Write) → a ≡ x.addr → bs ≡ x.bytes → there ≡ Some x
    → IfSome there (λ (z : Write). z.addr + length z.bytes ≤ n) → LiesIn n a (length bs)
lies n a bs x there at are is inside =
    rw (at, are) (subst (λ z. IfSome z (λ (y : Write). y.addr + length y.bytes ≤ n)) is inside)

-- a write that lies in memory is made
pub made : (w : PlainWorld) (x : Write) (r : Bool) (w' : PlainWorld) → LiesIn (length w.memory) x.addr (length x.bytes)
    → Turns w (Event.Poke x) r w' → r ≡ true
made w x true w' lies t = refl
made w x false w' lies t = absurd (t.1 lies)

pub asked : (w : PlainWorld) (o : Option Write) (x : Write) (r : Bool) (w' : PlainWorld) → Some x ≡ o → r ≡ true
    → Turns w (Event.Poke x) r w' → Asks w o r w'
asked w o x r w' is sure t =
    subst (λ z. Asks w z r w') is (sure, subst (λ b. Turns w (Event.Poke x) b w') sure t)

pub asked_promised : (w : PlainWorld) (o : Option Write) (x : Write) (r : Bool) (w' : PlainWorld) → Some x ≡ o → r ≡ true
    → StepsAsPromised w (Event.Poke x) (Ok r) w' → AsksAsPromised w o w'
asked_promised w o x r w' is sure p =
    subst (λ z. AsksAsPromised w z w') is (subst (λ b. StepsAsPromised w (Event.Poke x) (Ok b) w') sure p)

pub asked_live : {X : Type 0} (shared : Bool) (begins : X → X → Type 0) (may_be : X → List ℕ → Type 0)
    (stored : X → X → List Write → Type 0) (x : PlainLive X) (o : Option Write) (write : Write) (r : Bool) (y : PlainLive X)
    → Some write ≡ o → r ≡ true → StepsLive shared begins may_be stored x (Event.Poke write) (Ok r) y
    → AsksLive shared begins may_be stored x o r y
asked_live shared begins may_be stored x o write r y is sure t =
    subst (λ z. AsksLive shared begins may_be stored x z r y) is
    (sure, subst (λ b. StepsLive shared begins may_be stored x (Event.Poke write) (Ok b) y) sure t)

pub asked_live_promised : (shared : Bool) (size : ℕ) (d : PlainDevice) (o : Option Write) (write : Write) (r : Bool)
    (d' : PlainDevice) → Some write ≡ o → r ≡ true → StepsPromised shared size d (Event.Poke write) (Ok r) d'
    → AsksPromised shared size d o d'
asked_live_promised shared size d o write r d' is sure p =
    subst (λ z. AsksPromised shared size d z d') is
    (subst (λ b. StepsPromised shared size d (Event.Poke write) (Ok b) d') sure p)

pub made_live : (shared : Bool) (size : ℕ) (before after : List ℕ → Type 0) (stored : List Write → Type 0) (d : PlainDevice) (x : Write) (r : Bool)
    → ((m : List ℕ) → before m → length m ≡ size) → ((m : List ℕ) × after m) → LiesIn size x.addr (length x.bytes)
    → TurnsIn shared before after stored d (Event.Poke x) r d → r ≡ true
made_live shared size before after stored d x true sized some inside t = refl
made_live shared size before after stored d x false sized some inside t =
    let (was, may, rest) = t some.0 some.1 in
    let (left, is, turn) = rest in
    absurd (turn.1 (subst (λ n. LiesIn n x.addr (length x.bytes)) (sym (sized was may)) inside))
