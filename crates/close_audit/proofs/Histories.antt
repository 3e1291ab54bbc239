-- What the steps of a unit tell of a ticket, read from the oldest on.
use Rattle.std.proofs.Common.{◌≡◌, ℕ, Bool, true, false, not, ◌&&◌, ◌||◌, cond, eqb, List, [], ◌∷◌, Option, Some, None, refl, sym, ap, ◌∙◌, arith}
use Rattle.std.proofs.lemmas.Bool.Decides.{nat_tests}
use Rattle.ring_core.specs.declared.log.Ticket.{Ticket}
use Rattle.unit_model.specs.Tasks.{same_ticket}
use Rattle.unit_model.specs.Steps.{Step, has_entered}
use Rattle.close_audit.specs.declared.tally.Fact.{Fact}
use Rattle.close_audit.specs.declared.tally.Fact.TheVariants as fact
use Rattle.close_audit.specs.declared.tally.TaskStep.TheVariants as step
use Rattle.close_audit.specs.declared.tally.Tally.{Tally}
use Rattle.close_audit.specs.Words.{has_busy, has_full, has_run, has_step}
use Rattle.close_audit.specs.Inner.Tallies.{home_at, elsewhere, after, read, read_commits}
use Rattle.close_audit.proofs.Bools.{or_over}

-- the first unit with a step of the task, once this was read or not
abbrev pub home_by : Bool → ℕ → Option ℕ → Option ℕ
home_by true k home = home_at k home
home_by false k home = home

-- a tally once steps were read, by what those have of the ticket: a step, an Enter, a Full, a Commit, a Busy
abbrev pub shut : Bool → Bool → Bool → Bool → Bool → ℕ → Tally → Tally
shut p e f r b k s =
    record {
      answer = s.answer;
      home = home_by p k s.home;
      astray = (p && elsewhere k s.home) || s.astray;
      entered = e || s.entered;
      full = f || s.full;
      ran = r || s.ran;
      busy = b || s.busy;
      alive = s.alive;
    }

abbrev pub closed : Ticket → ℕ → List Step → Tally → Tally
closed t k h s = shut (has_step t h) (has_entered t h) (has_full t h) (has_run t h) (has_busy t h) k s

same_number : (k : ℕ) → eqb k k ≡ true
same_number k = grind (arith, nat_tests)

home_again : (p : Bool) (k : ℕ) (home : Option ℕ) → home_at k (home_by p k home) ≡ home_at k home
home_again true k None = refl
home_again true k (Some j) = refl
home_again false k home = refl

or_twice : (a b : Bool) → (a || (a || b)) ≡ (a || b)
or_twice true b = refl
or_twice false b = refl

astray_again : (p a : Bool) (k : ℕ) (home : Option ℕ) → (elsewhere k (home_by p k home) || ((p && elsewhere k home) || a)) ≡ (elsewhere k home || a)
astray_again true a k None = ap (λ b. not b || a) (same_number k)
astray_again true a k (Some j) = or_twice (not (eqb j k)) a
astray_again false a k home = refl

-- A step of the task itself, by what it adds:
module _ (s : Tally) (p e f r b : Bool) (k : ℕ) where
  abbrev with_home : Option ℕ → Bool → Bool → Bool → Bool → Tally
  with_home home astray x y z =
      record {
        answer = s.answer;
        home = home;
        astray = astray;
        entered = x || s.entered;
        full = f || s.full;
        ran = y || s.ran;
        busy = z || s.busy;
        alive = s.alive;
      }

  once_more : (x y z : Bool)
      → with_home (home_at k (home_by p k s.home)) (elsewhere k (home_by p k s.home) || ((p && elsewhere k s.home) || s.astray)) x y z ≡ shut true x f y z k s
  once_more x y z =
      ap (λ h. with_home h (elsewhere k (home_by p k s.home) || ((p && elsewhere k s.home) || s.astray)) x y z) (home_again p k s.home)
      ∙ ap (λ a. with_home (home_at k s.home) a x y z) (astray_again p s.astray k s.home)

  entering : after (fact.Step k step.Enter) (shut p e f r b k s) ≡ shut true true f r b k s
  entering = once_more true r b

  committing : after (fact.Step k step.Commit) (shut p e f r b k s) ≡ shut true e f true b k s
  committing = once_more e true b

  refusing : after (fact.Step k step.Busy) (shut p e f r b k s) ≡ shut true e f r true k s
  refusing = once_more e r true

  leaving : after (fact.Step k step.Leave) (shut p e f r b k s) ≡ shut true e f r b k s
  leaving = once_more e r b

abbrev seen : Fact → Bool → Tally → Tally
seen m c s = cond c (after m s) s

pub read_closed : (t : Ticket) (k : ℕ) (h : List Step) (s : Tally) → read t k h s ≡ closed t k h s
read_closed t k [] s = refl
read_closed t k (Step.Enter x ∷ past) s =
    ap (seen (fact.Step k step.Enter) (same_ticket x.ticket t)) (read_closed t k past s)
    ∙ elim (same_ticket x.ticket t) as (λ c. seen (fact.Step k step.Enter) c (closed t k past s)
    ≡ shut (c || has_step t past) (c || has_entered t past) (has_full t past) (has_run t past) (has_busy t past) k s) [
      | true ↦ entering s (has_step t past) (has_entered t past) (has_full t past) (has_run t past) (has_busy t past) k
      | false ↦ refl
    ]
read_closed t k (Step.Full u ∷ past) s =
    ap (seen fact.Full (same_ticket u t)) (read_closed t k past s)
    ∙ elim (same_ticket u t) as (λ c. seen fact.Full c (closed t k past s)
    ≡ shut (has_step t past) (has_entered t past) (c || has_full t past) (has_run t past) (has_busy t past) k s) [ true ↦ refl | false ↦ refl ]
read_closed t k (Step.Commit u x ∷ past) s =
    ap (seen (fact.Step k step.Commit) (same_ticket u t)) (read_closed t k past s)
    ∙ elim (same_ticket u t) as (λ c. seen (fact.Step k step.Commit) c (closed t k past s)
    ≡ shut (c || has_step t past) (has_entered t past) (has_full t past) (c || has_run t past) (has_busy t past) k s) [
      | true ↦ committing s (has_step t past) (has_entered t past) (has_full t past) (has_run t past) (has_busy t past) k
      | false ↦ refl
    ]
read_closed t k (Step.Busy u ∷ past) s =
    ap (seen (fact.Step k step.Busy) (same_ticket u t)) (read_closed t k past s)
    ∙ elim (same_ticket u t) as (λ c. seen (fact.Step k step.Busy) c (closed t k past s)
    ≡ shut (c || has_step t past) (has_entered t past) (has_full t past) (has_run t past) (c || has_busy t past) k s) [
      | true ↦ refusing s (has_step t past) (has_entered t past) (has_full t past) (has_run t past) (has_busy t past) k
      | false ↦ refl
    ]
read_closed t k (Step.Abort rule ∷ past) s = read_closed t k past s
read_closed t k (Step.Reset c ∷ past) s = read_closed t k past s
read_closed t k (Step.Resize blocks ∷ past) s = read_closed t k past s
read_closed t k (Step.Leave u ∷ past) s =
    ap (seen (fact.Step k step.Leave) (same_ticket u t)) (read_closed t k past s)
    ∙ elim (same_ticket u t) as (λ c. seen (fact.Step k step.Leave) c (closed t k past s)
    ≡ shut (c || has_step t past) (has_entered t past) (has_full t past) (has_run t past) (has_busy t past) k s) [
      | true ↦ leaving s (has_step t past) (has_entered t past) (has_full t past) (has_run t past) (has_busy t past) k
      | false ↦ refl
    ]

-- the Commits alone
pub commits_closed : (t : Ticket) (k : ℕ) (h : List Step) (s : Tally) → read_commits t k h s ≡ shut (has_run t h) false false (has_run t h) false k s
commits_closed t k [] s = refl
commits_closed t k (Step.Enter x ∷ past) s = commits_closed t k past s
commits_closed t k (Step.Full u ∷ past) s = commits_closed t k past s
commits_closed t k (Step.Commit u x ∷ past) s =
    ap (seen (fact.Step k step.Commit) (same_ticket u t)) (commits_closed t k past s)
    ∙ elim (same_ticket u t) as (λ c. seen (fact.Step k step.Commit) c (shut (has_run t past) false false (has_run t past) false k s)
    ≡ shut (c || has_run t past) false false (c || has_run t past) false k s) [
      | true ↦ committing s (has_run t past) false false (has_run t past) false k
      | false ↦ refl
    ]
commits_closed t k (Step.Busy u ∷ past) s = commits_closed t k past s
commits_closed t k (Step.Abort rule ∷ past) s = commits_closed t k past s
commits_closed t k (Step.Reset c ∷ past) s = commits_closed t k past s
commits_closed t k (Step.Resize blocks ∷ past) s = commits_closed t k past s
commits_closed t k (Step.Leave u ∷ past) s = commits_closed t k past s

home_both : (p q : Bool) (k : ℕ) (home : Option ℕ) → home_by p k (home_by q k home) ≡ home_by (p || q) k home
home_both true q k home = home_again q k home
home_both false q k home = refl

astray_both : (p q a : Bool) (k : ℕ) (home : Option ℕ) → ((p && elsewhere k (home_by q k home)) || ((q && elsewhere k home) || a)) ≡ (((p || q) && elsewhere k home) || a)
astray_both true q a k home = astray_again q a k home
astray_both false q a k home = refl

-- the Commits that are folded, and then the steps that are kept
abbrev both : Bool → Bool → Bool → Tally → Option ℕ → Bool → Bool → Tally
both e f b s home astray ran =
    record {
      answer = s.answer;
      home = home;
      astray = astray;
      entered = e || s.entered;
      full = f || s.full;
      ran = ran;
      busy = b || s.busy;
      alive = s.alive;
    }

pub shut_both : (p e f r b q : Bool) (k : ℕ) (s : Tally) → shut p e f r b k (shut q false false q false k s) ≡ shut (p || q) e f (r || q) b k s
shut_both p e f r b q k s =
    ap (λ (h : Option ℕ). both e f b s h ((p && elsewhere k (home_by q k s.home)) || ((q && elsewhere k s.home) || s.astray)) (r || (q || s.ran))) (home_both p q k s.home)
    ∙ ap (λ (a : Bool). both e f b s (home_by (p || q) k s.home) a (r || (q || s.ran))) (astray_both p q s.astray k s.home)
    ∙ ap (λ (a : Bool). both e f b s (home_by (p || q) k s.home) (((p || q) && elsewhere k s.home) || s.astray) a) (sym (or_over r q s.ran))

-- a step of its own is a step of the task
module _ (t : Ticket) where
  left_of : (a b c : Bool) → (b ≡ true → c ≡ true) → (a || b) ≡ true → (a || c) ≡ true
  left_of true b c f w = refl
  left_of false b c f w = f w

  right_of : (a b c : Bool) → (b ≡ true → c ≡ true) → b ≡ true → (a || c) ≡ true
  right_of true b c f w = refl
  right_of false b c f w = f w

  pub entered_step : (h : List Step) → has_entered t h ≡ true → has_step t h ≡ true
  entered_step [] w = w
  entered_step (Step.Enter e ∷ past) w = left_of (same_ticket e.ticket t) (has_entered t past) (has_step t past) (entered_step past) w
  entered_step (Step.Full u ∷ past) w = entered_step past w
  entered_step (Step.Resize blocks ∷ past) w = entered_step past w
  entered_step (Step.Commit u r ∷ past) w = right_of (same_ticket u t) (has_entered t past) (has_step t past) (entered_step past) w
  entered_step (Step.Busy u ∷ past) w = right_of (same_ticket u t) (has_entered t past) (has_step t past) (entered_step past) w
  entered_step (Step.Abort rule ∷ past) w = entered_step past w
  entered_step (Step.Reset c ∷ past) w = entered_step past w
  entered_step (Step.Leave u ∷ past) w = right_of (same_ticket u t) (has_entered t past) (has_step t past) (entered_step past) w

  pub run_step : (h : List Step) → has_run t h ≡ true → has_step t h ≡ true
  run_step [] w = w
  run_step (Step.Enter e ∷ past) w = right_of (same_ticket e.ticket t) (has_run t past) (has_step t past) (run_step past) w
  run_step (Step.Full u ∷ past) w = run_step past w
  run_step (Step.Resize blocks ∷ past) w = run_step past w
  run_step (Step.Commit u r ∷ past) w = left_of (same_ticket u t) (has_run t past) (has_step t past) (run_step past) w
  run_step (Step.Busy u ∷ past) w = right_of (same_ticket u t) (has_run t past) (has_step t past) (run_step past) w
  run_step (Step.Abort rule ∷ past) w = run_step past w
  run_step (Step.Reset c ∷ past) w = run_step past w
  run_step (Step.Leave u ∷ past) w = right_of (same_ticket u t) (has_run t past) (has_step t past) (run_step past) w

  pub busy_step : (h : List Step) → has_busy t h ≡ true → has_step t h ≡ true
  busy_step [] w = w
  busy_step (Step.Enter e ∷ past) w = right_of (same_ticket e.ticket t) (has_busy t past) (has_step t past) (busy_step past) w
  busy_step (Step.Full u ∷ past) w = busy_step past w
  busy_step (Step.Resize blocks ∷ past) w = busy_step past w
  busy_step (Step.Commit u r ∷ past) w = right_of (same_ticket u t) (has_busy t past) (has_step t past) (busy_step past) w
  busy_step (Step.Busy u ∷ past) w = left_of (same_ticket u t) (has_busy t past) (has_step t past) (busy_step past) w
  busy_step (Step.Abort rule ∷ past) w = busy_step past w
  busy_step (Step.Reset c ∷ past) w = busy_step past w
  busy_step (Step.Leave u ∷ past) w = right_of (same_ticket u t) (has_busy t past) (has_step t past) (busy_step past) w
