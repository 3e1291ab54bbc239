-- What is lent, and what it is whenever no one has it.
use Rattle.std.specs.Prelude.{ℕ, ◌≡◌, ◌≤◌, ◌^◌, false, List, length}
use Rattle.std.specs.Borrow.{MutBor}
use Rattle.std.specs.Fn.{Once}
use Rattle.ring_core.specs.Sound.{IsSound, outstanding_count}
use Rattle.unit_model.specs.Unit.{PlainUnit, IsUnit, is_backed}
use Rattle.virtqueue.specs.Queue.{BareQueue}

-- own: what every queue is: its log is lawful, with which what is outstanding agrees, and no more is than it has
-- descriptors
pub record IsQueue (q : BareQueue) : Type 0 where
  pub sound : IsSound q.ring
  pub few : outstanding_count q.ring ≤ q.ring.layout.size

-- own: what every unit is that threads share: its history is lawful, and its disk isn't backed
pub record IsLent (u : PlainUnit) : Type 0 where
  pub stands : IsUnit u
  pub resident : is_backed u ≡ false

-- own: what every memory is: it has at most 65,536 pages of 4,096 bytes
abbrev pub IsMemory : List ℕ → Type 0
IsMemory m = length m ≤ 2 ^ 28

-- own: what was done to a queue takes no chain of a request queue (queues 2 and up, VIRTIO 1.2, 5.6.2), and the queue
-- has its number
pub record TakesNone (q r : BareQueue) : Type 0 where
  pub number : r.ring.queue ≡ q.ring.queue
  pub accepted : 2 ≤ q.ring.queue → r.ring.log.accepted ≡ q.ring.log.accepted

-- own: a closure, called once at a `&mut` to x and one to y, may give r and leave x' and y' there
pub record OnceAtTwo {F T S R : Type 0}
    (g : Once F (MutBor T × (MutBor S × Unit {0})) (R × (MutBor T × (MutBor S × Unit {0}))))
    (f : F) (x : T) (y : S) (r : R) (x' : T) (y' : S) : Type 0 where
  pub first : MutBor T
  pub second : MutBor S
  pub first_shows : first.now ≡ x
  pub second_shows : second.now ≡ y
  pub first_left : MutBor T
  pub second_left : MutBor S
  pub met : g.post f (first, (second, tt)) (r, (first_left, (second_left, tt)))
  pub first_leaves : first_left.now ≡ x'
  pub second_leaves : second_left.now ≡ y'

-- own: a closure, called once at a `&mut` to x, one to y and one to z, may give r and leave x', y' and z' there
pub record OnceAtThree {F T S U R : Type 0}
    (g : Once F (MutBor T × (MutBor S × (MutBor U × Unit {0}))) (R × (MutBor T × (MutBor S × (MutBor U × Unit {0})))))
    (f : F) (x : T) (y : S) (z : U) (r : R) (x' : T) (y' : S) (z' : U) : Type 0 where
  pub first : MutBor T
  pub second : MutBor S
  pub third : MutBor U
  pub first_shows : first.now ≡ x
  pub second_shows : second.now ≡ y
  pub third_shows : third.now ≡ z
  pub first_left : MutBor T
  pub second_left : MutBor S
  pub third_left : MutBor U
  pub met : g.post f (first, (second, (third, tt))) (r, (first_left, (second_left, (third_left, tt))))
  pub first_leaves : first_left.now ≡ x'
  pub second_leaves : second_left.now ≡ y'
  pub third_leaves : third_left.now ≡ z'

-- own: the same of a closure at four of them
pub record OnceAtFour {F T S U V R : Type 0}
    (g : Once F (MutBor T × (MutBor S × (MutBor U × (MutBor V × Unit {0}))))
    (R × (MutBor T × (MutBor S × (MutBor U × (MutBor V × Unit {0}))))))
    (f : F) (x : T) (y : S) (z : U) (w : V) (r : R) (x' : T) (y' : S) (z' : U) (w' : V) : Type 0 where
  pub first : MutBor T
  pub second : MutBor S
  pub third : MutBor U
  pub fourth : MutBor V
  pub first_shows : first.now ≡ x
  pub second_shows : second.now ≡ y
  pub third_shows : third.now ≡ z
  pub fourth_shows : fourth.now ≡ w
  pub first_left : MutBor T
  pub second_left : MutBor S
  pub third_left : MutBor U
  pub fourth_left : MutBor V
  pub met : g.post f (first, (second, (third, (fourth, tt))))
      (r, (first_left, (second_left, (third_left, (fourth_left, tt)))))
  pub first_leaves : first_left.now ≡ x'
  pub second_leaves : second_left.now ≡ y'
  pub third_leaves : third_left.now ≡ z'
  pub fourth_leaves : fourth_left.now ≡ w'

-- own: a closure takes no chain of a request queue
abbrev pub TakesNoRequest : {F S U R : Type 0}
    (g : Once F (MutBor BareQueue × (MutBor (List ℕ) × (MutBor S × (MutBor U × Unit {0}))))
    (R × (MutBor BareQueue × (MutBor (List ℕ) × (MutBor S × (MutBor U × Unit {0}))))))
    → F → Type 0
TakesNoRequest {F} {S} {U} {R} g f = (q r : BareQueue) (m n : List ℕ) (x x' : S) (y y' : U) (a : R)
    → OnceAtFour g f q m x y a r n x' y' → TakesNone q r
