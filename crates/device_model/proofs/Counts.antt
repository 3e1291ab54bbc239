-- How often transitions of some kind were done.
use Rattle.std.proofs.Common.{◌≡◌, ℕ, ◌+◌, ◌≤◌, Bool, true, false, List, [], ◌∷◌, Some, map, refl, sym, ◌∙◌, ap, subst, arith, inl, inr, zero, suc}
use Rattle.std.specs.Prelude.{◌⊎◌}
use Rattle.std.specs.List.{AllByRecursion, sum_by}
use Rattle.std.proofs.lemmas.List.Sums.{sum_by-cons}
use Rattle.ring_core.specs.State.{PlainChain}
use Rattle.ring_core.specs.declared.log.Ticket.{Ticket}
use Rattle.unit_model.specs.Tasks.{same_ticket}
use Rattle.unit_model.proofs.Tickets.{eq-same, same-true}
use Rattle.unit_model.specs.Jobs.{PlainJob}
use Rattle.device_model.specs.World.{Opened, PlainWorld, Opens}
use Rattle.device_model.specs.Transitions.{Transition}
use Rattle.device_model.specs.Changing.{bit}
use Rattle.device_model.specs.Happens.{MayHappen, occurrence_of, world_of, Leads}
use Rattle.device_model.specs.Places.{only}
use Rattle.device_model.specs.Standing.{AreOwned, FunctionOwns, IsOwned}
use Rattle.device_model.specs.Weights.{fetches, uses, directs, answers}
use Rattle.device_model.specs.Inner.Weights.{enters, ends, leaves, IsFlowing}
use Rattle.device_model.proofs.Owning.{owned}
use Rattle.device_model.proofs.Flowing.{run_flows, tallies, fetched_once}
use Rattle.device_model.specs.Happened.{Happened, IsBeginning}
use Rattle.device_model.specs.Inner.Happened.{IsEnter}
use Rattle.device_model.proofs.Traces.{leads_run, run_transitions}

pub flows_at : (old : PlainWorld) (ds : List Transition) → Opens old → Leads old ds → IsFlowing ds (world_of old ds)
flows_at old ds o l =
    let w = world_of old ds in
    subst (λ z. IsFlowing z w) (run_transitions old ds l) (run_flows old (map occurrence_of ds) w o (leads_run old ds l))

pub owned_at : (old : PlainWorld) (ds : List Transition) → Opens old → Leads old ds → AreOwned (world_of old ds)
owned_at old ds o l = owned old (map occurrence_of ds) (world_of old ds) o (leads_run old ds l)

-- One ticket

pub only_one : (t u : Ticket) → u ≡ t → only t u ≡ 1
only_one t u e = ap bit (eq-same t u (sym e))

is_on : (b : Bool) → 1 ≤ bit b → b ≡ true
is_on true h = refl
is_on false h = absurd (omega arith)

pub one_is : (t u : Ticket) → 1 ≤ only t u → u ≡ t
one_is t u h = sym (same-true t u (is_on (same_ticket t u) h))

-- another ticket, for its queue is another
other_queue : (t u : Ticket) → u.queue + 1 ≤ t.queue → only t u ≡ 0
other_queue t u le =
    (elim (only t u) as (λ n. only t u ≡ n → n ≡ 0) [
      | zero ↦ λ e. refl
      | suc n ↦ λ e.
          let same = ap (λ (z : Ticket). z.queue) (one_is t u (omega (arith, e))) in
          absurd (omega (arith, same, le))
    ]) refl

-- of one ticket: it is fetched at most once; of one that entered no slot answered; how it ended is known at most once,
-- and it is answered from a hand at most then
pub record Few (t : Ticket) (ds : List Transition) : Type 0 where
  pub fetched : sum_by (fetches (only t)) ds ≤ 1
  pub entered : sum_by (enters (only t)) ds + sum_by (directs (only t)) ds ≤ sum_by (fetches (only t)) ds
  pub ended : sum_by (ends (only t)) ds ≤ sum_by (enters (only t)) ds
  pub answered : sum_by (answers (only t)) ds ≤ sum_by (ends (only t)) ds
  pub left : sum_by (leaves (only t)) ds ≤ sum_by (answers (only t)) ds
  pub used : sum_by (directs (only t)) ds + sum_by (answers (only t)) ds ≤ sum_by (fetches (only t)) ds

pub few_at : (old : PlainWorld) (ds : List Transition) (t : Ticket) → Opens old → Leads old ds → Few t ds
few_at old ds t o l =
    let w = world_of old ds in
    let f = flows_at old ds o l in
    let a = tallies (only t) ds w f in
    record {
      fetched = fetched_once t ds w f;
      entered = omega (arith, a.slots, a.uses);
      ended = omega (arith, a.jobs);
      answered = omega (arith, a.dones);
      left = omega (arith, a.tolds);
      used = omega (arith, a.chains, a.uses);
    }

-- What was told counts

pub told_counts : (P : Transition → Type 0) (f : Transition → ℕ) → ((d : Transition) → P d → 1 ≤ f d) → (ds : List Transition) → Happened P ds
    → 1 ≤ sum_by f ds
told_counts P f one [] h = absurd h
told_counts P f one (d ∷ ds) (inl p) = let q = one d p in let c = sum_by-cons f d ds in omega (arith, q, c)
told_counts P f one (d ∷ ds) (inr h) =
    let q = told_counts P f one ds h in
    let c = sum_by-cons f d ds in
    omega (arith, q, c)

-- what counts once is one transition
pub told_one : (P Q : Transition → Type 0) (f : Transition → ℕ) → ((d : Transition) → P d → 1 ≤ f d) → ((d : Transition) → Q d → 1 ≤ f d)
    → (ds : List Transition) → sum_by f ds ≤ 1 → Happened P ds → Happened Q ds → (d : Transition) × P d × Q d
told_one P Q f a b [] few h k = absurd h
told_one P Q f a b (d ∷ ds) few (inl p) (inl q) = (d, p, q)
told_one P Q f a b (d ∷ ds) few (inl p) (inr k) =
    let x = a d p in
    let y = told_counts Q f b ds k in
    let c = sum_by-cons f d ds in
    absurd (omega (arith, x, y, c, few))
told_one P Q f a b (d ∷ ds) few (inr h) (inl q) =
    let x = b d q in
    let y = told_counts P f a ds h in
    let c = sum_by-cons f d ds in
    absurd (omega (arith, x, y, c, few))
told_one P Q f a b (d ∷ ds) few (inr h) (inr k) =
    let c = sum_by-cons f d ds in
    told_one P Q f a b ds (omega (arith, c, few)) h k

pub enter_counts : (t : Ticket) (x : PlainJob) → x.chain.ticket ≡ t → (d : Transition) → IsEnter x d → 1 ≤ enters (only t) d
enter_counts t x is (Transition.Run y) e =
    let n = only_one t y.chain.ticket (ap (λ (z : PlainJob). z.chain.ticket) e ∙ is) in
    omega (arith, n)
enter_counts t x is (Transition.Park y) e =
    let n = only_one t y.chain.ticket (ap (λ (z : PlainJob). z.chain.ticket) e ∙ is) in
    omega (arith, n)
enter_counts t x is d e = absurd e

same_enter : (x y : PlainJob) (d : Transition) → IsEnter x d → IsEnter y d → x ≡ y
same_enter x y (Transition.Run z) a b = sym a ∙ b
same_enter x y (Transition.Park z) a b = sym a ∙ b
same_enter x y d a b = absurd a

-- two jobs of one ticket that entered are one
pub one_entered : (old : PlainWorld) (x y : PlainJob) (ds : List Transition) → Opens old → Leads old ds
    → y.chain.ticket ≡ x.chain.ticket → Happened (IsEnter x) ds → Happened (IsEnter y) ds → x ≡ y
one_entered old x y ds o l is h k =
    let t = x.chain.ticket in
    let few = few_at old ds t o l in
    let a = few.entered in
    let b = few.fetched in
    let d = told_one (IsEnter x) (IsEnter y) (enters (only t)) (λ d e. enter_counts t x refl d e)
    (λ d e. enter_counts t y is d e) ds (omega (arith, a, b)) h k in
    same_enter x y d.0 d.1 d.2

-- and what counts was told
pub counted_told : (f : Transition → ℕ) (P : Transition → Type 0) → ((d : Transition) → 1 ≤ f d → P d) → (ds : List Transition)
    → 1 ≤ sum_by f ds → Happened P ds
counted_told f P is [] h = absurd (omega arith)
counted_told f P is (d ∷ ds) h =
    let c = sum_by-cons f d ds in
    (elim (f d) as (λ n. f d ≡ n → P d ⊎ Happened P ds) [
      | zero ↦ λ e. inr (counted_told f P is ds (omega (arith, e, c, h)))
      | suc n ↦ λ e. inl (is d (omega (arith, e)))
    ]) refl

-- more transitions count no less
pub beginning_counts : (f : Transition → ℕ) (past ds : List Transition) → IsBeginning past ds → sum_by f past ≤ sum_by f ds
beginning_counts f past [] b = let e = ap (λ z. sum_by f z) b in omega (arith, e)
beginning_counts f past (d ∷ ds) (inl e) = let q = ap (λ z. sum_by f z) e in omega (arith, q)
beginning_counts f past (d ∷ ds) (inr b) =
    let q = beginning_counts f past ds b in
    let c = sum_by-cons f d ds in
    omega (arith, q, c)

-- What uses a chain of a request queue

head_is : {X : Type 0} (P : X → Type 0) (xs more : List X) (x : X) → xs ≡ x ∷ more → AllByRecursion P xs → P x
head_is P xs more x e h = (subst (AllByRecursion P) e h).0

low_function : (w : PlainWorld) (x : Opened) → w.function ≡ Some x → FunctionOwns w w.function
    → x.chain.ticket.queue ≡ 0
low_function w x e h = (subst (FunctionOwns w) e h).0

uses_one : (t : Ticket) (d : Transition) (w : PlainWorld) → 2 ≤ t.queue → MayHappen d w → AreOwned w
    → uses (only t) d ≡ directs (only t) d + answers (only t) d
uses_one t (Transition.UseBuffer f xs) w le m h =
    let z = other_queue t f.chain.ticket (let e = m.event in omega (arith, le, e)) in
    let c = sum_by-cons (only t) f.chain.ticket [] in
    omega (arith, z, c)
uses_one t (Transition.Direct c o xs) w le m h = let k = sum_by-cons (only t) c.ticket [] in omega (arith, k)
uses_one t (Transition.Answer k x o xs) w le m h = let c = sum_by-cons (only t) x.chain.ticket [] in omega (arith, c)
uses_one t (Transition.Respond c r xs) w le m h =
    let q = low_function w m.waiting.opened m.waiting.there h.function in
    let same = ap (λ (z : PlainChain). z.ticket.queue) m.chain in
    let z = other_queue t c.ticket (omega (arith, le, q, same)) in
    let k = sum_by-cons (only t) c.ticket [] in
    omega (arith, z, k)
uses_one t (Transition.Give e c xs) w le m h =
    let q = (head_is (λ (y : PlainChain). (y.ticket.queue ≡ 1) × IsOwned w y) w.buffers m.more c m.held h.buffers).0 in
    let z = other_queue t c.ticket (omega (arith, le, q)) in
    let k = sum_by-cons (only t) c.ticket [] in
    omega (arith, z, k)
uses_one t d w le m h = refl

pub uses_all : (old : PlainWorld) (t : Ticket) (ds : List Transition) → 2 ≤ t.queue → Opens old → Leads old ds
    → sum_by (uses (only t)) ds ≡ sum_by (directs (only t)) ds + sum_by (answers (only t)) ds
uses_all old t [] le o l = refl
uses_all old t (d ∷ ds) le o l =
    let a = uses_one t d (world_of old ds) le l.1 (owned_at old ds o l.0) in
    let b = uses_all old t ds le o l.0 in
    let u = sum_by-cons (uses (only t)) d ds in
    let v = sum_by-cons (directs (only t)) d ds in
    let k = sum_by-cons (answers (only t)) d ds in
    omega (arith, a, b, u, v, k)
