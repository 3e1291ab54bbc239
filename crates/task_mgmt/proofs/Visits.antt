-- A function over all of its units, and over all of its marks, from any point on.
use Rattle.std.proofs.Common.{◌≡◌, ℕ, zero, suc, Bool, true, false, if◌then◌else◌, not, ◌||◌, ◌&&◌, ◌==◌, nat_le, List, [], ◌∷◌, ◌++◌, length, map, drop, slice_index, refl, sym, ap, ◌∙◌, arith}
use Rattle.std.specs.List.{list_any, list_all}
use Rattle.std.proofs.lemmas.List.{append-nil, append_assoc}
use Rattle.std.proofs.lemmas.Bool.Decides.{nat_tests}
use Rattle.scsi_codec.specs.declared.control_queue.FunctionResponse.TheVariants.{Failure}
use Rattle.task_mgmt.specs.declared.function.Mark.{Mark}
use Rattle.unit_model.specs.Tasks.{Entry}
use Rattle.unit_model.specs.Steps.{Step, is_alive}
use Rattle.unit_model.specs.Clearing.{met_by, met_at, is_clear}
use Rattle.task_mgmt.specs.Functions.{PlainFunction, marking, next_mark, next_look, asking, checking, failing, is_over, response_of}
use Rattle.task_mgmt.specs.Visits.{all_marked, all_asked, all_checked}

none_of : {X : Type 0} (xs : List X) → 0 ≡ length xs → xs ≡ []
none_of [] e = refl
none_of (x ∷ xs) e = absurd (omega arith)

one_less : {X : Type 0} (n : ℕ) (xs : List X) → suc n ≡ length xs → n ≡ length (drop 1 xs)
one_less n [] e = absurd (omega arith)
one_less n (x ∷ xs) e = omega arith

whole : (n : ℕ) (xs : List ℕ) → suc n ≡ length xs → slice_index xs 0 ∷ drop 1 xs ≡ xs
whole n [] e = absurd (omega arith)
whole n (x ∷ xs) e = refl

map-push : {X Y : Type 0} (f : X → Y) (xs : List X) (x : X) → map f (xs ++ x ∷ []) ≡ map f xs ++ f x ∷ []
map-push f [] x = refl
map-push f (y ∷ xs) x = ap (λ w. f y ∷ w) (map-push f xs x)

pub marked_left : (places : List ℕ) (f : PlainFunction) → length places ≡ length f.left → (all_marked places f).left ≡ []
marked_left [] f e = none_of f.left e
marked_left (place ∷ places) f e = marked_left places (marking (next_mark place f) f) (one_less (length places) f.left e)

pub marked_units : (places : List ℕ) (f : PlainFunction) → length places ≡ length f.left
    → map (λ (m : Mark). m.unit) (all_marked places f).waits ≡ map (λ (m : Mark). m.unit) f.waits ++ f.left
marked_units [] f e =
    sym (append-nil (map (λ (m : Mark). m.unit) f.waits))
    ∙ ap (λ w. map (λ (m : Mark). m.unit) f.waits ++ w) (sym (none_of f.left e))
marked_units (place ∷ places) f e =
    marked_units places (marking (next_mark place f) f) (one_less (length places) f.left e)
    ∙ ap (λ w. w ++ drop 1 f.left) (map-push (λ (m : Mark). m.unit) f.waits (next_mark place f))
    ∙ append_assoc (map (λ (m : Mark). m.unit) f.waits) (slice_index f.left 0 ∷ []) (drop 1 f.left)
    ∙ ap (λ w. map (λ (m : Mark). m.unit) f.waits ++ w) (whole (length places) f.left e)

pub marked_places : (places : List ℕ) (f : PlainFunction)
    → map (λ (m : Mark). m.place) (all_marked places f).waits ≡ map (λ (m : Mark). m.place) f.waits ++ places
marked_places [] f = sym (append-nil (map (λ (m : Mark). m.place) f.waits))
marked_places (place ∷ places) f =
    marked_places places (marking (next_mark place f) f)
    ∙ ap (λ w. w ++ places) (map-push (λ (m : Mark). m.place) f.waits (next_mark place f))
    ∙ append_assoc (map (λ (m : Mark). m.place) f.waits) (place ∷ []) places

pub asked_left : (looks : List Bool) (f : PlainFunction) → length looks ≡ length f.left → (all_asked looks f).left ≡ []
asked_left [] f e = none_of f.left e
asked_left (look ∷ looks) f e = asked_left looks (asking look f) (one_less (length looks) f.left e)

first_alone : (s : Step) → met_at 0 (s ∷ []) ≡ []
first_alone (Step.Abort rule) = refl
first_alone (Step.Reset c) = refl
first_alone (Step.Enter e) = refl
first_alone (Step.Full t) = refl
first_alone (Step.Resize blocks) = refl
first_alone (Step.Commit t r) = refl
first_alone (Step.Busy t) = refl
first_alone (Step.Leave t) = refl

pub asked_units : (looks : List Bool) (f : PlainFunction) → length looks ≡ length f.left
    → map (λ (m : Mark). m.unit) (all_asked looks f).waits ≡ map (λ (m : Mark). m.unit) f.waits ++ f.left
asked_units [] f e =
    sym (append-nil (map (λ (m : Mark). m.unit) f.waits))
    ∙ ap (λ w. map (λ (m : Mark). m.unit) f.waits ++ w) (sym (none_of f.left e))
asked_units (look ∷ looks) f e =
    asked_units looks (asking look f) (one_less (length looks) f.left e)
    ∙ ap (λ w. w ++ drop 1 f.left) (map-push (λ (m : Mark). m.unit) f.waits (next_look f))
    ∙ append_assoc (map (λ (m : Mark). m.unit) f.waits) (slice_index f.left 0 ∷ []) (drop 1 f.left)
    ∙ ap (λ w. map (λ (m : Mark). m.unit) f.waits ++ w) (whole (length looks) f.left e)

length_map : {X Y : Type 0} (g : X → Y) (xs : List X) → length (map g xs) ≡ length xs
length_map g [] = refl
length_map g (x ∷ xs) = ap suc (length_map g xs)

asked_number : (looks : List Bool) (f : PlainFunction) → length looks ≡ length f.left → f.waits ≡ []
    → length (all_asked looks f).waits ≡ length f.left
asked_number looks f e none =
    sym (length_map (λ (m : Mark). m.unit) (all_asked looks f).waits)
    ∙ ap (λ (l : List ℕ). length l) (asked_units looks f e)
    ∙ ap (λ (w : List Mark). length (map (λ (m : Mark). m.unit) w ++ f.left)) none

either_first : (a b c : Bool) → (a || (b || c)) ≡ ((b || a) || c)
either_first true true c = refl
either_first true false c = refl
either_first false true c = refl
either_first false false c = refl

pub asked_found : (looks : List Bool) (f : PlainFunction) → (all_asked looks f).found ≡ (list_any (λ look. look) looks || f.found)
asked_found [] f = refl
asked_found (look ∷ looks) f = asked_found looks (asking look f) ∙ either_first (list_any (λ it. it) looks) look f.found

over_where : {X : Type 0} (left : List ℕ) (waits : List X) → left ≡ [] → ((length left == 0) && (length waits == 0)) ≡ nat_le (length waits) 0
over_where left [] e = rw e refl
over_where left (x ∷ waits) e = rw e (grind (arith, nat_tests))

le_more : {X : Type 0} (n : ℕ) (xs : List X) → nat_le (length (drop 1 xs)) n ≡ nat_le (length xs) (suc n)
le_more n [] = grind (arith, nat_tests)
le_more n (x ∷ xs) = grind (arith, nat_tests)

pub checked_over : (n : ℕ) (f : PlainFunction) → f.left ≡ [] → is_over (all_checked n f) ≡ nat_le (length f.waits) n
checked_over zero f e = over_where f.left f.waits e
checked_over (suc n) f e = checked_over n (checking f) e ∙ le_more n f.waits

pub asked_over : (looks : List Bool) (f : PlainFunction) (n : ℕ) → length looks ≡ length f.left → f.waits ≡ []
    → is_over (all_checked n (all_asked looks f)) ≡ nat_le (length f.left) n
asked_over looks f n e none =
    checked_over n (all_asked looks f) (asked_left looks f e) ∙ ap (λ k. nat_le k n) (asked_number looks f e none)

later_step : (n : ℕ) → (suc n == 0) ≡ false
later_step n = grind (arith, nat_tests)

-- the first step of a history met no task
pub first_meets_none : (h : List Step) → met_at 0 h ≡ []
first_meets_none [] = refl
first_meets_none (s ∷ []) = first_alone s
first_meets_none (s ∷ r ∷ past) =
    ap (λ b. if b then met_by s (r ∷ past) else met_at 0 (r ∷ past)) (later_step (length past)) ∙ first_meets_none (r ∷ past)

pub look_clear : (h : List Step) → is_clear 0 h ≡ true
look_clear h = ap (λ es. list_all (λ (e : Entry). not (is_alive e.ticket h)) es) (first_meets_none h)

pub checked_left : (n : ℕ) (f : PlainFunction) → (all_checked n f).left ≡ f.left
checked_left zero f = refl
checked_left (suc n) f = checked_left n (checking f)

checked_refused : (n : ℕ) (f : PlainFunction) → (all_checked n f).refused ≡ f.refused
checked_refused zero f = refl
checked_refused (suc n) f = checked_refused n (checking f)

fails_where : (f : PlainFunction) → f.refused ≡ true → response_of f ≡ Failure
fails_where f refused = rw refused refl

pub failed : (n : ℕ) (f : PlainFunction) → response_of (all_checked n (failing f)) ≡ Failure
failed n f = fails_where (all_checked n (failing f)) (checked_refused n (failing f))
