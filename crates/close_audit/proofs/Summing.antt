-- What a report says where nothing is outstanding.
use Rattle.std.proofs.Common.{◌≡◌, ℕ, zero, suc, Bool, true, false, not, ◌&&◌, ◌||◌, eqb, List, [], ◌∷◌, Some, sym, ap, subst, ◌∙◌}
use Rattle.std.proofs.lemmas.Bool.{eqb-true}
use Rattle.std.proofs.lemmas.Option.{same_Some}
use Rattle.std.specs.Prelude.{slice_get}
use Rattle.std.specs.List.{list_any}
use Rattle.ring_core.specs.declared.log.Ticket.{Ticket}
use Rattle.unit_model.specs.Tasks.{same_ticket}
use Rattle.unit_model.specs.Steps.{has_entered, has_left}
use Rattle.unit_model.specs.Base.{kept_steps}
use Rattle.unit_model.specs.Receipts.{Receipt}
use Rattle.unit_model.proofs.Tickets.{itself}
use Rattle.unit_model.specs.Unit.{PlainUnit}
use Rattle.request_intake.specs.declared.inventory.UnitSpec.{UnitSpec}
use Rattle.virtqueue.specs.Queue.{BareQueue}
use Rattle.phases.specs.Notes.{PlainNote}
use Rattle.phases.specs.declared.note.Cause.{Cause}
use Rattle.phases.specs.declared.note.Cause.TheVariants as cause
use Rattle.close_audit.specs.Words.{has_run}
use Rattle.close_audit.specs.Settled.{answers, is_asked, is_used, is_request, is_settled, is_astray, has_answer, all_left, where_entered, any_run, has_run_there, is_of, is_founded, is_right, are_right}
use Rattle.close_audit.specs.Opened.{AreOpenedAs, AreInPlace}
use Rattle.close_audit.specs.Closed.{IsReport, AreConfirmed, is_outstanding}
use Rattle.close_audit.specs.Inner.Unconfirmed.{AllStand, AllSound}
use Rattle.close_audit.proofs.Bools.{all_at, split_true, split_false, only_true, unless_true, not_false, is_true, clash, or_true}

any_at : {X : Type 0} (p : X → Bool) (xs : List X) (k : ℕ) (x : X) → p x ≡ true → slice_get xs k ≡ Some x → list_any p xs ≡ true
any_at p [] k x holds e = absurd (cc)
any_at p (y ∷ ys) zero x holds e = ap (λ b. b || list_any p ys) (ap p (same_Some y x e) ∙ holds)
any_at p (y ∷ ys) (suc k) x holds e = ap (λ b. p y || b) (any_at p ys k x holds e) ∙ or_true (p y)

module _ (units : List PlainUnit) (queues : List BareQueue) (receipts : List Receipt) (notes : List PlainNote)
    (nothing : (t : Ticket) → is_outstanding units queues receipts notes t ≡ false) where
  abbrev unused : Ticket → Bool
  unused t = is_asked queues t && not (is_used queues t)

  abbrev unsettled : Ticket → Bool
  unsettled t = is_request queues t && not (is_settled units receipts notes t)

  abbrev stray : Ticket → Bool
  stray t = not (is_request queues t) && has_answer receipts notes t

  abbrev are_ends : Ticket → Bool
  are_ends t = has_run_there units receipts t && are_right units notes t

  abbrev at_home : Ticket → Bool
  at_home t = not (is_astray units t) && are_ends t

  settled : (t : Ticket) → is_request queues t ≡ true → is_settled units receipts notes t ≡ true
  settled t r =
      only_true (is_request queues t) (is_settled units receipts notes t)
      (split_false (unsettled t) (stray t) (split_false (unused t) (unsettled t || stray t) (nothing t)).1).0 r

  none_stray : (t : Ticket) → stray t ≡ false
  none_stray t = (split_false (unsettled t) (stray t) (split_false (unused t) (unsettled t || stray t) (nothing t)).1).1

  -- by the parts of what settles a request
  once : (t : Ticket) → is_request queues t ≡ true → answers receipts notes t ≡ 1
  once t r =
      eqb-true (answers receipts notes t) 1
      (split_true (eqb (answers receipts notes t) 1) (all_left units t && at_home t) (settled t r)).0

  leaves : (t : Ticket) → is_request queues t ≡ true → all_left units t ≡ true
  leaves t r =
      (split_true (all_left units t) (at_home t)
      (split_true (eqb (answers receipts notes t) 1) (all_left units t && at_home t) (settled t r)).1).0

  homed : (t : Ticket) → is_request queues t ≡ true → at_home t ≡ true
  homed t r =
      (split_true (all_left units t) (at_home t)
      (split_true (eqb (answers receipts notes t) 1) (all_left units t && at_home t) (settled t r)).1).1

  one_home : (t : Ticket) → is_request queues t ≡ true → is_astray units t ≡ false
  one_home t r = not_false (is_astray units t) (split_true (not (is_astray units t)) (are_ends t) (homed t r)).0

  all_run : (t : Ticket) → is_request queues t ≡ true → has_run_there units receipts t ≡ true
  all_run t r =
      (split_true (has_run_there units receipts t) (are_right units notes t)
      (split_true (not (is_astray units t)) (are_ends t) (homed t r)).1).0

  all_right : (t : Ticket) → is_request queues t ≡ true → are_right units notes t ≡ true
  all_right t r =
      (split_true (has_run_there units receipts t) (are_right units notes t)
      (split_true (not (is_astray units t)) (are_ends t) (homed t r)).1).1

  -- the ticket of a receipt is that of a request
  asked_for : (k : ℕ) (c : Receipt) → slice_get receipts k ≡ Some c → is_request queues c.ticket ≡ true
  asked_for k c at =
      is_true (is_request queues c.ticket)
      (λ e. clash (sym (ap (λ b. b || list_any (λ (x : PlainNote). same_ticket x.ticket c.ticket) notes) (any_at (λ (x : Receipt). same_ticket x.ticket c.ticket) receipts k c (itself c.ticket) at))
      ∙ sym (ap (λ b. not b && has_answer receipts notes c.ticket) e)
      ∙ none_stray c.ticket))

  ran_there : (k : ℕ) (c : Receipt) → slice_get receipts k ≡ Some c → where_entered units c.ticket (λ h. has_run c.ticket h) ≡ true
  ran_there k c at =
      unless_true (same_ticket c.ticket c.ticket) (where_entered units c.ticket (λ h. has_run c.ticket h))
      (all_at (λ (x : Receipt). not (same_ticket x.ticket c.ticket) || where_entered units c.ticket (λ h. has_run c.ticket h)) receipts k c (all_run c.ticket (asked_for k c at)) at)
      (itself c.ticket)

  -- the ticket of a note is that of a request, and the note is right
  module _ (k : ℕ) (n : PlainNote) (at : slice_get notes k ≡ Some n) where
    of_request : is_request queues n.ticket ≡ true
    of_request =
        is_true (is_request queues n.ticket)
        (λ e. clash (sym (ap (λ b. list_any (λ (c : Receipt). same_ticket c.ticket n.ticket) receipts || b) (any_at (λ (x : PlainNote). same_ticket x.ticket n.ticket) notes k n (itself n.ticket) at)
        ∙ or_true (list_any (λ (c : Receipt). same_ticket c.ticket n.ticket) receipts))
        ∙ sym (ap (λ b. not b && has_answer receipts notes n.ticket) e)
        ∙ none_stray n.ticket))

    its_right : is_right units n.ticket n.cause ≡ true
    its_right =
        unless_true (same_ticket n.ticket n.ticket) (is_right units n.ticket n.cause)
        (all_at (λ (x : PlainNote). not (same_ticket x.ticket n.ticket) || is_right units n.ticket x.cause) notes k n (all_right n.ticket of_request) at)
        (itself n.ticket)

    its_ground : is_founded units n.cause n.ticket ≡ true
    its_ground = (split_true (is_founded units n.cause n.ticket) (not (any_run units n.ticket) && where_entered units n.ticket (λ h. is_of n.cause n.ticket h)) its_right).0

    unrun_and_ended : (not (any_run units n.ticket) && where_entered units n.ticket (λ h. is_of n.cause n.ticket h)) ≡ true
    unrun_and_ended =
        (split_true (is_founded units n.cause n.ticket) (not (any_run units n.ticket) && where_entered units n.ticket (λ h. is_of n.cause n.ticket h)) its_right).1

    unrun : any_run units n.ticket ≡ false
    unrun = not_false (any_run units n.ticket) (split_true (not (any_run units n.ticket)) (where_entered units n.ticket (λ h. is_of n.cause n.ticket h)) unrun_and_ended).0

    its_end : where_entered units n.ticket (λ h. is_of n.cause n.ticket h) ≡ true
    its_end = (split_true (not (any_run units n.ticket)) (where_entered units n.ticket (λ h. is_of n.cause n.ticket h)) unrun_and_ended).1

    ground_by : (w : Cause) → n.cause ≡ w → is_founded units w n.ticket ≡ true
    ground_by w e = subst (λ (z : Cause). is_founded units z n.ticket ≡ true) e its_ground

  pub adds_up : (specs : List UnitSpec) → AreOpenedAs specs units → AreInPlace queues → AllStand units → AllSound queues
      → AreConfirmed units receipts → IsReport specs units queues receipts notes
  adds_up specs opened in_place stand sound confirmed =
      record {
        opened = opened;
        in_place = in_place;
        units_stand = stand;
        logs_lawful = sound;
        used = λ t e. only_true (is_asked queues t) (is_used queues t) (split_false (unused t) (unsettled t || stray t) (nothing t)).0 e;
        answered_once = once;
        of_requests = λ t e. sym (ap (λ b. not b && has_answer receipts notes t) e) ∙ none_stray t;
        known = λ k n at. ((λ e. clash (sym (ground_by k n at cause.Stale e))), (λ e. clash (sym (ground_by k n at cause.Unknown e))));
        confirmed = confirmed;
        left = λ t k u r at e. unless_true (has_entered t u.steps) (has_left t u.steps) (all_at (λ (v : PlainUnit). not (has_entered t v.steps) || has_left t v.steps) units k u (leaves t r) at) e;
        in_one = one_home;
        ran = λ j k d u at there e.
            unless_true (has_entered d.ticket (kept_steps u.steps)) (has_run d.ticket u.steps)
            (all_at (λ (v : PlainUnit). not (has_entered d.ticket (kept_steps v.steps)) || has_run d.ticket v.steps) units k u (ran_there j d at) there) e;
        of_its_end = λ j k n u at there e.
            unless_true (has_entered n.ticket (kept_steps u.steps)) (is_of n.cause n.ticket u.steps)
            (all_at (λ (v : PlainUnit). not (has_entered n.ticket (kept_steps v.steps)) || is_of n.cause n.ticket v.steps) units k u (its_end j n at) there) e;
        of_no_commit = unrun;
        aborted_entered = λ j n at e. ground_by j n at cause.Aborted e;
        full_stands = λ j n at e. ground_by j n at cause.Full e;
      }
