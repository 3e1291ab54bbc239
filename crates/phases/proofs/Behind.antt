-- What is found, left and seen of a memory that others may write too.
use Rattle.std.proofs.Common.{◌≡◌, ℕ, Bool, true, false, List, ◌++◌, refl, sym, ap, ◌∙◌, subst}
use Rattle.ring_core.specs.Writes.{Write, Wrote, all_written}
use Rattle.ring_core.proofs.Scattering.{written_in_order}
use Rattle.request_intake.specs.Inventory.{PlainInventory}
use Rattle.device_model.specs.Parts.{IsSeen}
use Rattle.device_model.specs.World.{PlainQueue}
use Rattle.device_model.specs.Transitions.{Transition}
use Rattle.device_model.specs.Phases.{AsksQueue}
use Rattle.device_model.proofs.Seeing.{seen_as_left}
use Rattle.virtqueue.specs.Completing.{SeenAs, SeenBehind}
use Rattle.phases.specs.DoingQueue.{DoesQueue}
use Rattle.phases.specs.InMemory.{EachSeen, ByOneReading}
use Rattle.phases.specs.Inner.InMemory.{DoesQueueIn}

-- memory that was left so is seen so
pub is_seen : (shared : Bool) (left seen : List ℕ) → SeenAs shared left seen → IsSeen shared left seen
is_seen false left seen behind = behind.own refl
is_seen true left seen behind = behind.long

-- writes and then others are both
pub behind_both : (shared : Bool) (before middle after : List ℕ → Type 0) (first then : List Write) → Wrote before middle first
    → SeenBehind shared middle after then → SeenBehind shared before after (first ++ then)
behind_both shared before middle after first then wrote behind =
    λ seen may.
    let (between, stood, left_so) = behind seen may in
    let (found, was, is) = wrote between stood in
    let left : all_written between then ≡ all_written found (first ++ then) =
    ap (λ (k : List ℕ). all_written k then) is ∙ sym (written_in_order found first then) in (
      found,
      was,
      subst (λ (k : List ℕ). SeenAs shared k seen) left left_so,
    )

-- what holds of all that may be read, where nothing was written
pub each_read : (shared : Bool) (before after : List ℕ → Type 0) (Does : List ℕ → List ℕ → List ℕ → Type 0)
    → ((m : List ℕ) → after m → before m) → ((m : List ℕ) → after m → Does m m m) → EachSeen shared before after Does
each_read shared before after Does stays does = λ seen may. (seen, stays seen may, (seen, seen_as_left shared seen, does seen may))

-- and so by one reading
pub read_once : {X : Type 0} (shared : Bool) (may_be : X → List ℕ → Type 0) (x y : X) (Does : List ℕ → List ℕ → List ℕ → Type 0)
    → ((m : List ℕ) → may_be y m → may_be x m) → ((m : List ℕ) → may_be y m → Does m m m)
    → ByOneReading shared may_be x y Does
read_once shared may_be x y Does stays does =
    record {
      read = y;
      stays = stays;
      each_seen = each_read shared (may_be y) (may_be y) Does (λ m may. may) does;
      each_found = λ m may. (m, m, seen_as_left shared m, does m may);
    }

-- what follows for each
pub each_maps : (shared : Bool) (before after : List ℕ → Type 0) (P Q : List ℕ → List ℕ → List ℕ → Type 0)
    → ((found left seen : List ℕ) → IsSeen shared left seen → P found left seen → Q found left seen)
    → EachSeen shared before after P → EachSeen shared before after Q
each_maps shared before after P Q follows each =
    λ seen may.
    let (found, was, rest) = each seen may in
    let (left, is, p) = rest in (found, was, (left, is, follows found left seen is p))

-- The memory that nobody else writes

-- what holds of each that may be seen holds of the one that is
pub each_own : (old new : List ℕ) (Does : List ℕ → List ℕ → List ℕ → Type 0)
    → EachSeen false (λ m. m ≡ old) (λ m. m ≡ new) Does → Does old new new
each_own old new Does each =
    let (found, was, rest) = each new refl in
    let (left, is, does) = rest in
    subst (λ f. Does f new new) was (subst (λ l. Does found l new) (sym is) does)

-- what is seen as it was left may be seen so, shared or not
any_seen : (shared : Bool) (left seen : List ℕ) → seen ≡ left → IsSeen shared left seen
any_seen shared left seen is = subst (λ k. IsSeen shared left k) (sym is) (seen_as_left shared left)

-- and so may what a transition asks
pub asks_any : (shared : Bool) (inventory : PlainInventory) (missed : Bool) (d : Transition) (q : PlainQueue) (m : List ℕ)
    → AsksQueue false inventory missed d q m → AsksQueue shared inventory missed d q m
asks_any shared inventory missed (Transition.UseBuffer f xs) q m (gives, spent, writes, is) =
    (gives, spent, writes, any_seen shared (all_written m xs.writes) xs.seen is)
asks_any shared inventory missed (Transition.Direct c o xs) q m (writes, is) =
    (writes, any_seen shared (all_written m xs.writes) xs.seen is)
asks_any shared inventory missed (Transition.Answer k x o xs) q m (writes, is) =
    (writes, any_seen shared (all_written m xs.writes) xs.seen is)
asks_any shared inventory missed (Transition.Respond c r xs) q m (writes, is) =
    (writes, any_seen shared (all_written m xs.writes) xs.seen is)
asks_any shared inventory missed (Transition.Give e c xs) q m (writes, is) =
    (writes, any_seen shared (all_written m xs.writes) xs.seen is)
asks_any shared inventory missed d q m asks = asks

-- a transition on a queue
pub does_own : (inventory : PlainInventory) (d : Transition) (q q' : PlainQueue) (m m' : List ℕ)
    → DoesQueueIn false inventory d q m q' m' → DoesQueue inventory d q m q' m'
does_own inventory d q q' m m' does =
    record {
      asks = λ shared missed. asks_any shared inventory missed d q m (does.asks missed);
      queue = does.queue;
      memory = does.memory;
    }
