-- A marked task is not done, and stays marked; what is done stays done.
use Rattle.std.proofs.Common.{◌≡◌, Bool, true, false, not, ◌&&◌, ◌||◌, is_some, List, [], ◌∷◌, ◌++◌, Option, Some, None, refl, sym, ◌∙◌, ap}
use Rattle.ring_core.specs.declared.log.Ticket.{Ticket}
use Rattle.unit_model.specs.declared.rule.Rule.TheVariants as rules
use Rattle.unit_model.specs.declared.reason.Reason.{Reason}
use Rattle.unit_model.specs.declared.reason.Reason.TheVariants as reason
use Rattle.unit_model.specs.Tasks.{same_ticket, task_of}
use Rattle.unit_model.specs.Steps.{Step, alive, done, has_left}
use Rattle.unit_model.specs.Marks.{meets_one, is_marked_by, first_mark, mark_of, marked}
use Rattle.unit_model.specs.Contents.{Opening}
use Rattle.unit_model.specs.Lawful.{IsLawful}
use Rattle.unit_model.proofs.Tickets.{same-true, clash, or_right, right_off}

with_mark_off : (a b : Bool) → (a && not b) ≡ true → b ≡ false
with_mark_off true true h = absurd (cc)
with_mark_off true false h = refl
with_mark_off false b h = absurd (cc)

-- a mark is the earlier one or the step's
by_mark : (m : Option Reason) (b : Bool) (now : Reason) (d : Bool) → is_some (first_mark m b now) ≡ true → (is_some m ≡ true → d ≡ false) → (b ≡ true → d ≡ false) → d ≡ false
by_mark (Some r) b now d h p q = p refl
by_mark None true now d h p q = q refl
by_mark None false now d h p q = absurd (cc)

-- what is marked is no ticket of a Commit or a Busy
not_its : (u t : Ticket) (past : List Step) → marked t past ≡ true → marked u past ≡ false → same_ticket u t ≡ false
not_its u t past m n =
    elim (same_ticket u t) as (λ b. (same_ticket u t ≡ b) → b ≡ false) [
      | true ↦ λ k. absurd (clash (sym m ∙ ap (λ z. marked z past) (sym (same-true u t k)) ∙ n))
      | false ↦ λ k. refl
    ] refl

pub marked_undone : (o : Opening) (t : Ticket) (h : List Step) → IsLawful o h → marked t h ≡ true → done t h ≡ false
marked_undone o t [] l m = refl
marked_undone o t (Step.Enter e ∷ past) l m = marked_undone o t past l.0 m
marked_undone o t (Step.Full u ∷ past) l m = marked_undone o t past l.0 m
marked_undone o t (Step.Resize blocks ∷ past) l m = marked_undone o t past l.0 m
marked_undone o t (Step.Commit u r ∷ past) l m = ap (λ b. b || done t past) (not_its u t past m l.1.1.is_unmarked) ∙ marked_undone o t past l.0 m
marked_undone o t (Step.Busy u ∷ past) l m = ap (λ b. b || done t past) (not_its u t past m l.1.1.is_unmarked) ∙ marked_undone o t past l.0 m
marked_undone o t (Step.Abort rule ∷ past) l m =
    by_mark (mark_of t past) (is_marked_by rule t past) reason.Aborted (done t past) m (λ k. marked_undone o t past l.0 k) (λ k. with_mark_off (meets_one rule (task_of t (alive past))) (done t past) k)
marked_undone o t (Step.Reset c ∷ past) l m =
    by_mark (mark_of t past) (is_marked_by rules.All t past) reason.Reset (done t past) m (λ k. marked_undone o t past l.0 k) (λ k. with_mark_off (meets_one rules.All (task_of t (alive past))) (done t past) k)
marked_undone o t (Step.Leave u ∷ past) l m = marked_undone o t past l.0 m

stays_first : (m : Option Reason) (b : Bool) (now r : Reason) → m ≡ Some r → first_mark m b now ≡ Some r
stays_first m b now r h = ap (λ x. first_mark x b now) h

pub mark_on : (s : Step) (t : Ticket) (r : Reason) (past : List Step) → mark_of t past ≡ Some r → mark_of t (s ∷ past) ≡ Some r
mark_on (Step.Enter e) t r past h = h
mark_on (Step.Full u) t r past h = h
mark_on (Step.Resize blocks) t r past h = h
mark_on (Step.Commit u x) t r past h = h
mark_on (Step.Busy u) t r past h = h
mark_on (Step.Abort rule) t r past h = stays_first (mark_of t past) (is_marked_by rule t past) reason.Aborted r h
mark_on (Step.Reset c) t r past h = stays_first (mark_of t past) (is_marked_by rules.All t past) reason.Reset r h
mark_on (Step.Leave u) t r past h = h

-- the first mark stays, whatever follows
pub mark_lasts : (t : Ticket) (r : Reason) (later past : List Step) → mark_of t past ≡ Some r → mark_of t (later ++ past) ≡ Some r
mark_lasts t r [] past h = h
mark_lasts t r (s ∷ later) past h = mark_on s t r (later ++ past) (mark_lasts t r later past h)

pub done_on : (s : Step) (t : Ticket) (past : List Step) → done t past ≡ true → done t (s ∷ past) ≡ true
done_on (Step.Enter e) t past h = h
done_on (Step.Full u) t past h = h
done_on (Step.Resize blocks) t past h = h
done_on (Step.Commit u x) t past h = or_right (same_ticket u t) (done t past) h
done_on (Step.Busy u) t past h = or_right (same_ticket u t) (done t past) h
done_on (Step.Abort rule) t past h = h
done_on (Step.Reset c) t past h = h
done_on (Step.Leave u) t past h = h

-- what is done stays done, whatever follows
pub done_lasts : (t : Ticket) (later past : List Step) → done t past ≡ true → done t (later ++ past) ≡ true
done_lasts t [] past h = h
done_lasts t (s ∷ later) past h = done_on s t (later ++ past) (done_lasts t later past h)

some_stays : (m : Option Reason) (b : Bool) (now : Reason) → is_some m ≡ true → is_some (first_mark m b now) ≡ true
some_stays (Some r) b now h = refl
some_stays None b now h = absurd (cc)

marked_on : (s : Step) (t : Ticket) (past : List Step) → marked t past ≡ true → marked t (s ∷ past) ≡ true
marked_on (Step.Enter e) t past h = h
marked_on (Step.Full u) t past h = h
marked_on (Step.Resize blocks) t past h = h
marked_on (Step.Commit u x) t past h = h
marked_on (Step.Busy u) t past h = h
marked_on (Step.Abort rule) t past h = some_stays (mark_of t past) (is_marked_by rule t past) reason.Aborted h
marked_on (Step.Reset c) t past h = some_stays (mark_of t past) (is_marked_by rules.All t past) reason.Reset h
marked_on (Step.Leave u) t past h = h

-- what is marked stays marked, whatever follows
pub marked_lasts : (t : Ticket) (later past : List Step) → marked t past ≡ true → marked t (later ++ past) ≡ true
marked_lasts t [] past h = h
marked_lasts t (s ∷ later) past h = marked_on s t (later ++ past) (marked_lasts t later past h)

pub marked_never_runs : (o : Opening) (t : Ticket) (later past : List Step) → IsLawful o (later ++ past) → marked t past ≡ true → done t (later ++ past) ≡ false
marked_never_runs o t later past l m = marked_undone o t (later ++ past) l (marked_lasts t later past m)

pub done_never_marked : (o : Opening) (t : Ticket) (later past : List Step) → IsLawful o (later ++ past) → done t past ≡ true → marked t (later ++ past) ≡ false
done_never_marked o t later past l d =
    elim (marked t (later ++ past)) as (λ b. (marked t (later ++ past) ≡ b) → b ≡ false) [
      | true ↦ λ k. absurd (clash (sym (done_lasts t later past d) ∙ marked_undone o t (later ++ past) l k))
      | false ↦ λ k. refl
    ] refl

-- of a task that is done or marked, and not done
other_one : (a b : Bool) → (a || b) ≡ true → a ≡ false → b ≡ true
other_one true b h n = absurd (cc)
other_one false b h n = h

-- what left without having run, nor was answered BUSY, was marked
pub left_marked : (o : Opening) (t : Ticket) (h : List Step) → IsLawful o h → has_left t h ≡ true → done t h ≡ false → marked t h ≡ true
left_marked o t [] l k n = absurd (cc)
left_marked o t (Step.Enter e ∷ past) l k n = left_marked o t past l.0 k n
left_marked o t (Step.Full u ∷ past) l k n = left_marked o t past l.0 k n
left_marked o t (Step.Resize blocks ∷ past) l k n = left_marked o t past l.0 k n
left_marked o t (Step.Commit u r ∷ past) l k n = left_marked o t past l.0 k (right_off (same_ticket u t) (done t past) n)
left_marked o t (Step.Busy u ∷ past) l k n = left_marked o t past l.0 k (right_off (same_ticket u t) (done t past) n)
left_marked o t (Step.Abort rule ∷ past) l k n = marked_on (Step.Abort rule) t past (left_marked o t past l.0 k n)
left_marked o t (Step.Reset c ∷ past) l k n = marked_on (Step.Reset c) t past (left_marked o t past l.0 k n)
left_marked o t (Step.Leave u ∷ past) l k n =
    (elim (same_ticket u t) as (λ b. (same_ticket u t ≡ b) → (b || has_left t past) ≡ true → marked t past ≡ true) [
      | true ↦ λ q w. other_one (done t past) (marked t past) (ap (λ z. done z past || marked z past) (sym (same-true u t q)) ∙ l.1.2) n
      | false ↦ λ q w. left_marked o t past l.0 w n
    ]) refl k
