-- A trace is its transitions; each beginning of it is a trace.
use Rattle.std.proofs.Common.{◌≡◌, List, [], ◌∷◌, map, refl, sym, ap, subst, inl, inr}
use Rattle.device_model.specs.World.{PlainWorld}
use Rattle.device_model.specs.Transitions.{Transition}
use Rattle.device_model.specs.Happens.{Occurrence, MayHappen, Runs, transitions_of, occurrence_of, world_of, Leads}
use Rattle.device_model.proofs.Running.{run_world, run_leads}
use Rattle.device_model.specs.Happened.{Happened, IsBeginning}

-- transitions that lead somewhere are a run
pub leads_run : (old : PlainWorld) (ds : List Transition) → Leads old ds → Runs old (map occurrence_of ds) (world_of old ds)
leads_run old [] l = refl
leads_run old (d ∷ ds) l = (
  world_of old ds,
  leads_run old ds l.0,
  record { transition = d; event = refl; action = refl; may = l.1; is = refl },
)

-- with these transitions
pub run_transitions : (old : PlainWorld) (ds : List Transition) (l : Leads old ds)
    → transitions_of old (map occurrence_of ds) (world_of old ds) (leads_run old ds l) ≡ ds
unfolding leads_run
run_transitions old [] l = refl
run_transitions old (d ∷ ds) l = ap (λ z. d ∷ z) (run_transitions old ds l.0)

-- what holds of all transitions that lead somewhere holds of those of a run
pub in_run : (P : List Transition → PlainWorld → Type 0) (old : PlainWorld)
    → ((ds : List Transition) → Leads old ds → P ds (world_of old ds)) → (trace : List Occurrence) (w : PlainWorld)
    → (r : Runs old trace w) → P (transitions_of old trace w r) w
in_run P old f trace w r =
    let ds = transitions_of old trace w r in
    let Q : PlainWorld → Type 0 = λ v. P ds v in
    subst Q (sym (run_world old trace w r)) (f ds (run_leads old trace w r))

-- what holds of the opening and goes on with each transition holds of all that they lead to
pub leads_keep : (P : List Transition → PlainWorld → Type 0) (old : PlainWorld) → P [] old
    → ((d : Transition) (ds : List Transition) → Leads old ds → MayHappen d (world_of old ds) → P ds (world_of old ds)
    → P (d ∷ ds) (world_of old (d ∷ ds)))
    → (ds : List Transition) → Leads old ds → P ds (world_of old ds)
leads_keep P old new on [] l = new
leads_keep P old new on (d ∷ ds) l = on d ds l.0 l.1 (leads_keep P old new on ds l.0)

-- Beginnings

pub whole : (ds : List Transition) → IsBeginning ds ds
whole [] = refl
whole (d ∷ ds) = inl refl

tail_is : (d x : Transition) (past ds : List Transition) → d ∷ past ≡ x ∷ ds → past ≡ ds
tail_is d x past ds e = cc

pub beginning_tail : (d : Transition) (past ds : List Transition) → IsBeginning (d ∷ past) ds → IsBeginning past ds
beginning_tail d past [] b = absurd (cc)
beginning_tail d past (x ∷ ds) (inl e) =
    inr (subst (λ z. IsBeginning past z) (tail_is d x past ds e) (whole past))
beginning_tail d past (x ∷ ds) (inr b) = inr (beginning_tail d past ds b)

pub leads_beginning : (old : PlainWorld) (past ds : List Transition) → IsBeginning past ds → Leads old ds → Leads old past
leads_beginning old past [] b l = subst (λ z. Leads old z) (sym b) l
leads_beginning old past (d ∷ ds) (inl e) l = subst (λ z. Leads old z) (sym e) l
leads_beginning old past (d ∷ ds) (inr b) l = leads_beginning old past ds b l.0

-- what goes on with each transition goes on
pub keeps_on : (P : List Transition → Type 0) → ((d : Transition) (ds : List Transition) → P ds → P (d ∷ ds)) → (past ds : List Transition)
    → IsBeginning past ds → P past → P ds
keeps_on P on past [] b h = subst P b h
keeps_on P on past (d ∷ ds) (inl e) h = subst P e h
keeps_on P on past (d ∷ ds) (inr b) h = on d ds (keeps_on P on past ds b h)

pub told_on : (P : Transition → Type 0) (past ds : List Transition) → IsBeginning past ds → Happened P past → Happened P ds
told_on P past ds b h = keeps_on (λ z. Happened P z) (λ d z q. inr q) past ds b h

-- what was told was told at a moment
pub told_at : (P : Transition → Type 0) (ds : List Transition) → Happened P ds
    → (d : Transition) × (past : List Transition) × IsBeginning (d ∷ past) ds × P d
told_at P [] h = absurd h
told_at P (d ∷ ds) (inl p) = (d, ds, inl refl, p)
told_at P (d ∷ ds) (inr h) = let q = told_at P ds h in (q.0, q.1, inr q.2, q.3)

pub told_there : (P : Transition → Type 0) (d : Transition) (past ds : List Transition) → IsBeginning (d ∷ past) ds → P d → Happened P ds
told_there P d past ds b p = told_on P (d ∷ past) ds b (inl p)
