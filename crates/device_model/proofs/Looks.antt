-- A query's checks are of no step, so that each is clear at once.
use Rattle.std.proofs.Common.{◌≡◌, ◌<◌, true, List, [], ◌∷◌, ◌++◌, drop, length, Option, Some, None, refl, sym, ap, subst, ◌∙◌}
use Rattle.std.specs.List.{AllByRecursion}
use Rattle.unit_model.specs.Clearing.{is_clear}
use Rattle.unit_model.specs.Unit.{PlainUnit}
use Rattle.task_mgmt.specs.Functions.{PlainFunction, marking, next_look, asking, failing, checking}
use Rattle.task_mgmt.specs.declared.kind.Kind.{Kind}
use Rattle.task_mgmt.specs.declared.kind.Kind.TheVariants.{Marking, Querying}
use Rattle.task_mgmt.specs.declared.kind.MarkBy.{MarkBy}
use Rattle.task_mgmt.specs.declared.function.Mark.{Mark as MarkAt}
use Rattle.task_mgmt.proofs.Visits.{look_clear}
use Rattle.device_model.specs.Parts.{lengths_of}
use Rattle.device_model.specs.World.{Opened, PlainWorld, Opens}
use Rattle.device_model.specs.Events.{Event}
use Rattle.device_model.specs.Transitions.{Transition}
use Rattle.device_model.specs.Changing.{on_function}
use Rattle.device_model.specs.After.{after}
use Rattle.device_model.specs.Applies.{Applies}
use Rattle.device_model.specs.Happens.{MayHappen}
use Rattle.device_model.specs.Standing.{FunctionIsThere, IsToCheck}
use Rattle.device_model.specs.Inner.Standing.{AreLooks, LooksAreFree}
use Rattle.device_model.proofs.Deciding.{opened_there}
use Rattle.device_model.proofs.Functions.{all_drop, all_push, same_function}
use Rattle.device_model.proofs.Rooms.{below_found}

abbrev pub LooksFree : PlainWorld → Type 0
LooksFree w = LooksAreFree w.function

abbrev AreFree : PlainFunction → Type 0
AreFree f = AreLooks f.kind f.waits

-- what waits for nothing waits for no step
none_free : (kind : Kind) (waits : List MarkAt) → waits ≡ [] → AreLooks kind waits
none_free (Marking m) waits e = tt
none_free (Querying rule) waits e = subst (AllByRecursion (λ (p : MarkAt). p.place ≡ 0)) (sym e) tt

push_free : (kind : Kind) (waits : List MarkAt) (p : MarkAt) → p.place ≡ 0 → AreLooks kind waits
    → AreLooks kind (waits ++ p ∷ [])
push_free (Marking m) waits p e h = tt
push_free (Querying rule) waits p e h = all_push (λ (q : MarkAt). q.place ≡ 0) waits p h e

drop_free : (kind : Kind) (waits : List MarkAt) → AreLooks kind waits → AreLooks kind (drop 1 waits)
drop_free (Marking m) waits h = tt
drop_free (Querying rule) waits h = all_drop (λ (q : MarkAt). q.place ≡ 0) waits h

marks_free : (kind : Kind) (m : MarkBy) (waits : List MarkAt) → kind ≡ Marking m → AreLooks kind waits
marks_free kind m waits e = subst (λ k. AreLooks k waits) (sym e) tt

-- the open function goes on
on_free : (g : PlainFunction → PlainFunction) (o : Option Opened)
    → ((x : Opened) → o ≡ Some x → AreFree x.function → AreFree (g x.function)) → LooksAreFree o
    → LooksAreFree (on_function g o)
on_free g None f h = tt
on_free g (Some x) f h = f x refl h

-- no function is open yet
pub new_looks : (w : PlainWorld) → Opens w → LooksFree w
new_looks w o = subst LooksAreFree (sym o.function) tt

-- each transition leaves a query's checks of no step
pub transition_looks : (d : Transition) (w : PlainWorld) → MayHappen d w → LooksFree w → LooksFree (after d w)
transition_looks (Transition.Open f g) w m h =
    let c = m.decided in
    none_free g.kind g.waits (opened_there w.inventory.addresses c.0 (lengths_of f.chain).writable g c.2).1
transition_looks (Transition.Mark t p s jobs) w m h =
    on_free (marking p) w.function (λ x is i.
    let now : m.marking.opened ≡ x = same_function m.marking.there is in
    let kind = subst (λ (z : Opened). z.function.kind ≡ Marking s) now m.marking.does in
    marks_free x.function.kind s (x.function.waits ++ p ∷ []) kind) h
transition_looks (Transition.Ask t unit_index rule b) w m h =
    on_free (asking b) w.function (λ x is i. push_free x.function.kind x.function.waits (next_look x.function) refl i) h
transition_looks (Transition.MarkRefused t) w m h = on_free failing w.function (λ x is i. i) h
transition_looks (Transition.Check t p) w m h =
    on_free checking w.function (λ x is i. drop_free x.function.kind x.function.waits i) h
transition_looks (Transition.Respond c r xs) w m h = tt
transition_looks d w m h = h

clear_at_none : (p : MarkAt) (u : PlainUnit) → p.place ≡ 0 → is_clear p.place u.steps ≡ true
clear_at_none p u e = ap (λ n. is_clear n u.steps) e ∙ look_clear u.steps

-- so the next check applies
pub checks_next : (w : PlainWorld) → FunctionIsThere (length w.units) w.function → LooksFree w → IsToCheck w
    → Applies w Event.Check
checks_next w finds free h =
    let f = h.opened.function in
    let all = subst (FunctionIsThere (length w.units)) h.there finds in
    let lt : h.mark.unit < length w.units =
    (subst (AllByRecursion (λ (p : MarkAt). p.unit < length w.units)) h.waits all.1).0 in
    let looks = subst LooksAreFree h.there free in
    let asked = subst (λ k. AreLooks k f.waits) h.asks looks in
    let none : h.mark.place ≡ 0 = (subst (AllByRecursion (λ (p : MarkAt). p.place ≡ 0)) h.waits asked).0 in
    let u = below_found w.units h.mark.unit lt in
    record {
      opened = h.opened;
      there = h.there;
      left = h.left;
      mark = h.mark;
      later = h.later;
      still = h.waits;
      unit = u.0;
      unit_there = u.1;
      clear = clear_at_none h.mark u.0 none;
    }
