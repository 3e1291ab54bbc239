-- How each step changes what a task set keeps.
use Rattle.std.proofs.Common.{◌≡◌, ℕ, ◌==◌, Bool, true, false, not, ◌||◌, ◌&&◌, cond, List, [], ◌∷◌, ◌++◌, map, length, Option, Some, None, is_some, refl, sym, ◌∙◌, ap}
use Rattle.std.specs.List.{AllByRecursion}
use Rattle.std.proofs.lemmas.List.{map-append}
use Rattle.ring_core.specs.declared.log.Ticket.{Ticket}
use Rattle.unit_attention.specs.declared.code.Code.{Code}
use Rattle.command_model.specs.PlainReply.{PlainReply}
use Rattle.unit_model.specs.declared.rule.Rule.{Rule}
use Rattle.unit_model.specs.declared.rule.Rule.TheVariants as rules
use Rattle.unit_model.specs.declared.reason.Reason.{Reason}
use Rattle.unit_model.specs.declared.reason.Reason.TheVariants as reason
use Rattle.unit_model.specs.Tasks.{Entry, same_ticket, task_of, without, is_blocked, meets, AreDistinct}
use Rattle.command_model.specs.Statuses.{good}
use Rattle.unit_model.specs.Steps.{Step, alive, has_entered, done, ended_well}
use Rattle.unit_model.specs.Marks.{meets_one, is_marked_by, first_mark, mark_of}
use Rattle.unit_model.specs.Enabling.{enabled}
use Rattle.unit_model.specs.Seen.{Seen, entered_at, seen, tasks_of, entries, others, joined, finished, with_mark, freed}
use Rattle.unit_model.specs.Contents.{Opening}
use Rattle.unit_model.specs.Lawful.{IsLawful}
use Rattle.unit_model.proofs.Tickets.{itself, same-true}
use Rattle.unit_model.proofs.Fresh.{above_fresh, fresh_undone, fresh_unmarked}
use Rattle.unit_model.proofs.Distinct.{alive_distinct}
use Rattle.unit_model.proofs.Blocking.{enabled_entering}
use Rattle.unit_model.proofs.Clearing.{Each, all_found, enters_once}
use Rattle.unit_model.proofs.Fewer.{all_entered}
use Rattle.unit_model.proofs.HandedOut.{each_without}
use Rattle.unit_model.proofs.Parked.{enabled_same}
use Rattle.unit_model.proofs.Entering.{enabled_other}
use Rattle.unit_model.proofs.Kept.{others_map, others_tasks}

same_maps : {X Y : Type 0} (f g : X → Y) (xs : List X) → AllByRecursion (λ x. f x ≡ g x) xs → map f xs ≡ map g xs
same_maps f g [] h = refl
same_maps f g (x ∷ xs) h = ap (λ w. f x ∷ w) (same_maps f g xs h.1) ∙ ap (λ y. y ∷ map g xs) h.0

-- a map that first sees
same_seen : {X Y Z : Type 0} (f : X → Z) (g : Y → Z) (k : X → Y) (xs : List X) → AllByRecursion (λ x. f x ≡ g (k x)) xs → map f xs ≡ map g (map k xs)
same_seen f g k [] h = refl
same_seen f g k (x ∷ xs) h = ap (λ w. f x ∷ w) (same_seen f g k xs h.1) ∙ ap (λ y. y ∷ map g (map k xs)) h.0

of_all : {X : Type 0} (P : X → Type 0) (xs : List X) → ((x : X) → P x) → AllByRecursion P xs
of_all P [] h = tt
of_all P (x ∷ xs) h = (h x, of_all P xs h)

abbrev kept : Entry → Bool → Bool → Bool → Option Reason → ℕ → Seen
kept e on ran well mark place = record { entry = e; enabled = on; done = ran; ended_well = well; mark = mark; place = place }

same_kept : (e : Entry) (a b c d f g : Bool) (m n : Option Reason) (p q : ℕ) → a ≡ b → c ≡ d → f ≡ g → m ≡ n → p ≡ q
    → kept e a c f m p ≡ kept e b d g n q
same_kept e a b c d f g m n p q on ran well mark place = cc

-- what ended with GOOD is done
pub well_done : (t : Ticket) (past : List Step) → ended_well t past ≡ true → done t past ≡ true
well_done t [] w = w
well_done t (Step.Commit u r ∷ past) w =
    (elim (same_ticket u t) as (λ b. ((b && (r.status == good)) || ended_well t past) ≡ true → (b || done t past) ≡ true) [
      | true ↦ λ h. refl
      | false ↦ λ h. well_done t past h
    ]) w
well_done t (Step.Busy u ∷ past) w =
    (elim (same_ticket u t) as (λ b. (b || done t past) ≡ true) [
      | true ↦ refl
      | false ↦ well_done t past w
    ])
well_done t (Step.Enter e ∷ past) w = well_done t past w
well_done t (Step.Full u ∷ past) w = well_done t past w
well_done t (Step.Resize blocks ∷ past) w = well_done t past w
well_done t (Step.Leave u ∷ past) w = well_done t past w
well_done t (Step.Abort rule ∷ past) w = well_done t past w
well_done t (Step.Reset c ∷ past) w = well_done t past w

-- what isn't done didn't end with GOOD
pub undone_unwell : (t : Ticket) (past : List Step) → done t past ≡ false → ended_well t past ≡ false
undone_unwell t past undone =
    (elim (ended_well t past) as (λ b. (ended_well t past ≡ b) → b ≡ false) [
      | true ↦ λ w. absurd (let f : false ≡ true = sym undone ∙ well_done t past w in cc)
      | false ↦ λ w. refl
    ]) refl

enabled_enter : (e f : Entry) (h : List Step) → same_ticket e.ticket f.ticket ≡ false → has_entered f.ticket h ≡ true → is_some (task_of f.ticket (alive h)) ≡ true
    → enabled f (Step.Enter e ∷ h) ≡ enabled f h
enabled_enter e f [] ne n found = absurd (let k : false ≡ true = n in cc)
enabled_enter e f (s ∷ past) ne n found = enabled_other e f s past ne found

-- another task that enters changes nothing that is kept of a task
old_entering : (e f : Entry) (past : List Step) → same_ticket e.ticket f.ticket ≡ false → has_entered f.ticket past ≡ true → is_some (task_of f.ticket (alive past)) ≡ true
    → seen (Step.Enter e ∷ past) f ≡ seen past f
old_entering e f past ne n found =
    same_kept f (enabled f (Step.Enter e ∷ past)) (enabled f past) (done f.ticket past) (done f.ticket past) (ended_well f.ticket past) (ended_well f.ticket past) (mark_of f.ticket past) (mark_of f.ticket past)
    (entered_at f.ticket (Step.Enter e ∷ past)) (entered_at f.ticket past)
    (enabled_enter e f past ne n found) refl refl refl (ap (λ b. cond b (length past) (entered_at f.ticket past)) ne)

all_old : (o : Opening) (e : Entry) (past : List Step) (es : List Entry) → IsLawful o (Step.Enter e ∷ past) → Each (λ f. has_entered f.ticket past ≡ true) es
    → Each (λ f. is_some (task_of f.ticket (alive past)) ≡ true) es → Each (λ f. seen (Step.Enter e ∷ past) f ≡ seen past f) es
all_old o e past [] l n found = tt
all_old o e past (f ∷ es) l n found = (
  old_entering e f past (enters_once o e f.ticket past l n.0) n.0 found.0,
  all_old o e past es l n.1 found.1,
)

new_entering : (o : Opening) (e : Entry) (past : List Step) → IsLawful o (Step.Enter e ∷ past) → seen (Step.Enter e ∷ past) e ≡ joined (length past) (alive past ++ e ∷ []) e
new_entering o e past l =
    let new = above_fresh o e.ticket past l.0 l.1.1 in
    same_kept e (enabled e (Step.Enter e ∷ past)) (not (is_blocked e (alive past ++ e ∷ []))) (done e.ticket past) false (ended_well e.ticket past) false (mark_of e.ticket past) None
    (entered_at e.ticket (Step.Enter e ∷ past)) (length past)
    (enabled_entering e past new) (fresh_undone o e.ticket past l.0 new)
    (undone_unwell e.ticket past (fresh_undone o e.ticket past l.0 new)) (fresh_unmarked e.ticket past new)
    (ap (λ b. cond b (length past) (entered_at e.ticket past)) (itself e.ticket))

pub tasks_enter : (o : Opening) (e : Entry) (past : List Step) → IsLawful o (Step.Enter e ∷ past)
    → tasks_of (Step.Enter e ∷ past) ≡ tasks_of past ++ joined (length past) (alive past ++ e ∷ []) e ∷ []
tasks_enter o e past l =
    map-append (seen (Step.Enter e ∷ past)) (alive past) (e ∷ [])
    ∙ ap (λ w. w ++ seen (Step.Enter e ∷ past) e ∷ []) (same_maps (seen (Step.Enter e ∷ past)) (seen past) (alive past) (all_old o e past (alive past) l (all_entered past) (all_found (alive past))))
    ∙ ap (λ w. tasks_of past ++ w ∷ []) (new_entering o e past l)

pub tasks_full : (t : Ticket) (past : List Step) → tasks_of (Step.Full t ∷ past) ≡ tasks_of past
tasks_full t [] = refl
tasks_full t (r ∷ past) =
    let h = r ∷ past in
    same_maps (seen (Step.Full t ∷ h)) (seen h) (alive h)
    (of_all _ (alive h) (λ e. ap (λ b. kept e b (done e.ticket h) (ended_well e.ticket h) (mark_of e.ticket h) (entered_at e.ticket h)) (enabled_same e (Step.Full t) r past refl refl)))

pub tasks_resize : (blocks : ℕ) (past : List Step) → tasks_of (Step.Resize blocks ∷ past) ≡ tasks_of past
tasks_resize blocks [] = refl
tasks_resize blocks (r ∷ past) =
    let h = r ∷ past in
    same_maps (seen (Step.Resize blocks ∷ h)) (seen h) (alive h)
    (of_all _ (alive h) (λ e. ap (λ b. kept e b (done e.ticket h) (ended_well e.ticket h) (mark_of e.ticket h) (entered_at e.ticket h)) (enabled_same e (Step.Resize blocks) r past refl refl)))

pub tasks_commit : (t : Ticket) (r : PlainReply) (past : List Step) → tasks_of (Step.Commit t r ∷ past) ≡ map (finished t (r.status == good)) (tasks_of past)
tasks_commit t r [] = refl
tasks_commit t r (s ∷ past) =
    let h = s ∷ past in
    same_seen (seen (Step.Commit t r ∷ h)) (finished t (r.status == good)) (seen h) (alive h)
    (of_all _ (alive h) (λ e. ap (λ b. kept e b (same_ticket t e.ticket || done e.ticket h) ((same_ticket t e.ticket && (r.status == good)) || ended_well e.ticket h) (mark_of e.ticket h) (entered_at e.ticket h)) (enabled_same e (Step.Commit t r) s past refl refl)))

no_better : (a b : Bool) → b ≡ ((a && false) || b)
no_better true b = refl
no_better false b = refl

pub tasks_busy : (t : Ticket) (past : List Step) → tasks_of (Step.Busy t ∷ past) ≡ map (finished t false) (tasks_of past)
tasks_busy t [] = refl
tasks_busy t (s ∷ past) =
    let h = s ∷ past in
    same_seen (seen (Step.Busy t ∷ h)) (finished t false) (seen h) (alive h)
    (of_all _ (alive h) (λ e.
    same_kept e (enabled e (Step.Busy t ∷ h)) (enabled e h) (same_ticket t e.ticket || done e.ticket h) (same_ticket t e.ticket || done e.ticket h)
    (ended_well e.ticket h) ((same_ticket t e.ticket && false) || ended_well e.ticket h) (mark_of e.ticket h) (mark_of e.ticket h)
    (entered_at e.ticket h) (entered_at e.ticket h)
    (enabled_same e (Step.Busy t) s past refl refl) refl (no_better (same_ticket t e.ticket) (ended_well e.ticket h)) refl refl))

nothing : {X : Type 0} {x : X} → None ≡ Some x → ⊥
nothing e = cc

later_own : (e : Entry) (es fs : List Entry) → task_of e.ticket es ≡ None → Each (λ f. task_of f.ticket es ≡ Some f) fs → Each (λ f. task_of f.ticket (e ∷ es) ≡ Some f) fs
later_own e es [] none own = tt
later_own e es (f ∷ fs) none own = (
  (elim (same_ticket e.ticket f.ticket) as (λ b. (same_ticket e.ticket f.ticket ≡ b) → cond b (Some e) (task_of f.ticket es) ≡ Some f) [
    | true ↦ λ k. absurd (nothing (sym none ∙ ap (λ n. task_of n es) (same-true e.ticket f.ticket k) ∙ own.0))
    | false ↦ λ k. own.0
  ]) refl,
  later_own e es fs none own.1,
)

-- where tickets are distinct, each finds its own task
pub all_own : (es : List Entry) → AreDistinct es → Each (λ e. task_of e.ticket es ≡ Some e) es
all_own [] d = tt
all_own (e ∷ es) d = (ap (λ b. cond b (Some e) (task_of e.ticket es)) (itself e.ticket), later_own e es es d.0 (all_own es d.1))

-- a step that marks by a rule and leaves the alive tasks as they are
marking : (rule : Rule) (why : Reason) (s r : Step) (past : List Step) (es : List Entry) → Each (λ e. task_of e.ticket (alive (r ∷ past)) ≡ Some e) es
    → alive (s ∷ r ∷ past) ≡ alive (r ∷ past)
    → ((t : Ticket) → has_entered t (s ∷ r ∷ past) ≡ has_entered t (r ∷ past)) → ((t : Ticket) → done t (s ∷ r ∷ past) ≡ done t (r ∷ past))
    → ((t : Ticket) → ended_well t (s ∷ r ∷ past) ≡ ended_well t (r ∷ past))
    → ((t : Ticket) → mark_of t (s ∷ r ∷ past) ≡ first_mark (mark_of t (r ∷ past)) (is_marked_by rule t (r ∷ past)) why)
    → ((t : Ticket) → entered_at t (s ∷ r ∷ past) ≡ entered_at t (r ∷ past))
    → Each (λ e. seen (s ∷ r ∷ past) e ≡ with_mark rule why (seen (r ∷ past) e)) es
marking rule why s r past [] own same n d w m p = tt
marking rule why s r past (e ∷ es) own same n d w m p =
    let h = r ∷ past in
    let t = e.ticket in (
      same_kept e (enabled e (s ∷ h)) (enabled e h) (done t (s ∷ h)) (done t h) (ended_well t (s ∷ h)) (ended_well t h)
          (mark_of t (s ∷ h)) (first_mark (mark_of t h) (meets rule e && not (done t h)) why) (entered_at t (s ∷ h)) (entered_at t h)
          (enabled_same e s r past (n t) same) (d t) (w t) (m t ∙ ap (λ (x : Option Entry). first_mark (mark_of t h) (meets_one rule x && not (done t h)) why) own.0) (p t),
      marking rule why s r past es own.1 same n d w m p,
    )

pub tasks_abort : (o : Opening) (rule : Rule) (past : List Step) → IsLawful o past → tasks_of (Step.Abort rule ∷ past) ≡ map (with_mark rule reason.Aborted) (tasks_of past)
tasks_abort o rule [] l = refl
tasks_abort o rule (r ∷ past) l =
    let h = r ∷ past in
    same_seen (seen (Step.Abort rule ∷ h)) (with_mark rule reason.Aborted) (seen h) (alive h)
    (marking rule reason.Aborted (Step.Abort rule) r past (alive h) (all_own (alive h) (alive_distinct o h l)) refl (λ t. refl) (λ t. refl) (λ t. refl) (λ t. refl) (λ t. refl))

pub tasks_reset : (o : Opening) (c : Code) (past : List Step) → IsLawful o past → tasks_of (Step.Reset c ∷ past) ≡ map (with_mark rules.All reason.Reset) (tasks_of past)
tasks_reset o c [] l = refl
tasks_reset o c (r ∷ past) l =
    let h = r ∷ past in
    same_seen (seen (Step.Reset c ∷ h)) (with_mark rules.All reason.Reset) (seen h) (alive h)
    (marking rules.All reason.Reset (Step.Reset c) r past (alive h) (all_own (alive h) (alive_distinct o h l)) refl (λ t. refl) (λ t. refl) (λ t. refl) (λ t. refl) (λ t. refl))

freeing : (t : Ticket) (past : List Step) (es : List Entry) → Each (λ e. has_entered e.ticket past ≡ true) es
    → Each (λ e. seen (Step.Leave t ∷ past) e ≡ freed (without t (alive past)) (seen past e)) es
freeing t past [] n = tt
freeing t past (e ∷ es) n = (
  ap (λ b. kept e (enabled e past || (b && not (is_blocked e (without t (alive past))))) (done e.ticket past) (ended_well e.ticket past) (mark_of e.ticket past) (entered_at e.ticket past)) n.0,
  freeing t past es n.1,
)

pub tasks_leave : (t : Ticket) (past : List Step)
    → tasks_of (Step.Leave t ∷ past) ≡ map (freed (entries (others t (tasks_of past)))) (others t (tasks_of past))
tasks_leave t past =
    let rest = without t (alive past) in
    same_seen (seen (Step.Leave t ∷ past)) (freed rest) (seen past) rest (freeing t past rest (each_without (λ e. has_entered e.ticket past ≡ true) t (alive past) (all_entered past)))
    ∙ ap (λ w. map (freed rest) w) (sym (others_map t past (alive past)))
    ∙ ap (λ w. map (freed w) (others t (tasks_of past))) (sym (others_tasks t past))
