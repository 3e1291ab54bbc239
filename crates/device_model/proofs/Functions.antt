-- The units of the open function are there.
use Rattle.std.proofs.Common.{◌≡◌, ℕ, Bool, slice_index, ◌<◌, List, [], ◌∷◌, ◌++◌, drop, length, Option, Some, None, refl, sym, subst}
use Rattle.std.specs.List.{AllByRecursion}
use Rattle.task_mgmt.specs.Functions.{PlainFunction, marking, next_look, asking, failing, checking}
use Rattle.task_mgmt.specs.declared.function.Mark.{Mark as MarkAt}
use Rattle.device_model.specs.Parts.{lengths_of}
use Rattle.device_model.specs.World.{Opened, PlainWorld, Opens}
use Rattle.device_model.specs.Transitions.{Transition}
use Rattle.device_model.specs.Changing.{on_function}
use Rattle.device_model.specs.After.{after}
use Rattle.device_model.specs.Happens.{MayHappen}
use Rattle.device_model.specs.Standing.{FunctionIsThere}
use Rattle.device_model.proofs.Deciding.{opened_there}

-- the units that are left, and those of the marks, are among so many
abbrev IsThere : ℕ → PlainFunction → Type 0
IsThere n f = AllByRecursion (λ unit_index. unit_index < n) f.left × AllByRecursion (λ (p : MarkAt). p.unit < n) f.waits

-- what holds of all holds of all but the first
pub all_drop : {X : Type 0} (P : X → Type 0) (xs : List X) → AllByRecursion P xs → AllByRecursion P (drop 1 xs)
all_drop P [] h = tt
all_drop P (x ∷ xs) h = h.1

-- what holds of all and of one more holds of both
pub all_push : {X : Type 0} (P : X → Type 0) (xs : List X) (x : X) → AllByRecursion P xs → P x
    → AllByRecursion P (xs ++ x ∷ [])
all_push P [] x h p = (p, tt)
all_push P (y ∷ xs) x h p = (h.0, all_push P xs x h.1 p)

-- the open function goes on, and finds its units
goes_on : (n : ℕ) (g : PlainFunction → PlainFunction) (o : Option Opened)
    → ((x : Opened) → o ≡ Some x → IsThere n x.function → IsThere n (g x.function)) → FunctionIsThere n o
    → FunctionIsThere n (on_function g o)
goes_on n g None f h = tt
goes_on n g (Some x) f h = f x refl h

-- one function is open
pub same_function : {x y : Opened} {o : Option Opened} → o ≡ Some x → o ≡ Some y → x ≡ y
same_function e f = cc

-- the units of the open function are those of the inventory's addresses
abbrev pub FindsUnits : PlainWorld → Type 0
FindsUnits w = FunctionIsThere (length w.inventory.addresses) w.function

-- the next unit is marked
marks_there : (n : ℕ) (later : List ℕ) (p : MarkAt) (f : PlainFunction) → f.left ≡ p.unit ∷ later → IsThere n f
    → IsThere n (marking p f)
marks_there n later p f left h =
    let unit : p.unit < n = (subst (AllByRecursion (λ unit_index. unit_index < n)) left h.0).0 in
    (all_drop (λ unit_index. unit_index < n) f.left h.0, all_push (λ (q : MarkAt). q.unit < n) f.waits p h.1 unit)

-- the next unit is looked at
looks_there : (n unit_index : ℕ) (later : List ℕ) (b : Bool) (f : PlainFunction) → f.left ≡ unit_index ∷ later → IsThere n f
    → IsThere n (asking b f)
looks_there n unit_index later b f left h =
    let unit : (next_look f).unit < n =
    subst (λ z. slice_index z 0 < n) (sym left) (subst (AllByRecursion (λ k. k < n)) left h.0).0 in
    (all_drop (λ k. k < n) f.left h.0, all_push (λ (q : MarkAt). q.unit < n) f.waits (next_look f) h.1 unit)

-- no function is open yet
pub new_finds : (w : PlainWorld) → Opens w → FindsUnits w
new_finds w o = subst (FunctionIsThere (length w.inventory.addresses)) (sym o.function) tt

-- each transition leaves the open function's units there
pub transition_finds : (d : Transition) (w : PlainWorld) → MayHappen d w → FindsUnits w → FindsUnits (after d w)
transition_finds (Transition.Open f g) w m h =
    let c = m.decided in
    let n = length w.inventory.addresses in
    let there = opened_there w.inventory.addresses c.0 (lengths_of f.chain).writable g c.2 in
    (there.0, subst (AllByRecursion (λ (q : MarkAt). q.unit < n)) (sym there.1) tt)
transition_finds (Transition.Mark t p s jobs) w m h =
    let n = length w.inventory.addresses in
    goes_on n (marking p) w.function (λ x is i.
    let now : m.marking.opened ≡ x = same_function m.marking.there is in
    let left = subst (λ (z : Opened). z.function.left ≡ p.unit ∷ m.marking.later) now m.marking.left in
    marks_there n m.marking.later p x.function left i) h
transition_finds (Transition.Ask t unit_index rule b) w m h =
    let n = length w.inventory.addresses in
    goes_on n (asking b) w.function (λ x is i.
    let now : m.marking.opened ≡ x = same_function m.marking.there is in
    let left = subst (λ (z : Opened). z.function.left ≡ unit_index ∷ m.marking.later) now m.marking.left in
    looks_there n unit_index m.marking.later b x.function left i) h
transition_finds (Transition.MarkRefused t) w m h = goes_on (length w.inventory.addresses) failing w.function (λ x is i. (tt, i.1)) h
transition_finds (Transition.Check t p) w m h =
    let n = length w.inventory.addresses in
    goes_on n checking w.function (λ x is i. (i.0, all_drop (λ (q : MarkAt). q.unit < n) x.function.waits i.1)) h
transition_finds (Transition.Respond c r xs) w m h = tt
transition_finds d w m h = h
