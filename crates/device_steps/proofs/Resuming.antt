-- The jobs that wait for pages are woken, and a worker takes the first of those that are to be tried again.
use Rattle.std.proofs.Common.{◌≡◌, ◌<◌, ◌≤◌, ◌+◌, ℕ, Bool, true, false, List, [], ◌∷◌, ◌++◌, length, Some, None, inl, inr, refl, sym, ap, ◌∙◌, subst, append-nil, length-append, arith}
use Rattle.std.specs.Prelude.{slice_get, slice_set, map, drop}
use Rattle.std.proofs.lemmas.List.{append_assoc}
use Rattle.std.proofs.lemmas.Option.{slice_get_within}
use Rattle.unit_model.specs.Jobs.{PlainJob, Jobs}
use Rattle.unit_model.specs.Unit.{PlainUnit}
use Rattle.device_model.specs.Parts.{Hand}
use Rattle.device_model.specs.World.{Seat, PlainWorld}
use Rattle.device_model.specs.Events.{Event}
use Rattle.device_model.specs.Transitions.{Transition}
use Rattle.device_model.specs.Changing.{with_hand}
use Rattle.device_model.specs.Event.Wake.{Awakens}
use Rattle.device_model.specs.Turns.{Turns}
use Rattle.device_steps.specs.Kept.{KeptSeat, seat_of}
use Rattle.phases.specs.Inner.Units.{CommitsOrDefers}
use Rattle.device_steps.specs.Aside.{KeptAside}
use Rattle.device_steps.specs.Inner.Aside.{awakened, ShareLimit}
use Rattle.device_steps.specs.Inner.Cursors.{Denies}
use Rattle.device_steps.proofs.Handing.{begins, is_empty, seat_is, seats_after}
use Rattle.device_steps.proofs.Stages.{none_wakes, none_resumes}

-- what waits in the device as it is kept, and the device with these jobs that wait
abbrev pub waits_in : PlainWorld → ℕ → KeptAside
waits_in w limit = record { aside = w.aside; woken = w.woken; limit = limit }

abbrev pub with_waiting : KeptAside → PlainWorld → PlainWorld
with_waiting k w = record w { aside = k.aside; woken = k.woken }

-- a job waits where a list of those that do isn't empty
awakens : (w : PlainWorld) (jobs : List PlainJob) → w.aside ≡ jobs → (jobs ≡ [] → ⊥) → Awakens w
awakens w [] is some = absurd (some refl)
awakens w (x ∷ rest) is some = record { first = x; rest = rest; waits = is }

-- where none waits, a wake changes nothing
wakes_none : (w : PlainWorld) (limit : ℕ) → w.aside ≡ [] → with_waiting (awakened (waits_in w limit)) w ≡ w
wakes_none w limit none =
    ap (λ (l : List PlainJob). record w { aside = []; woken = w.woken ++ l }) none
    ∙ ap (λ (l : List PlainJob). record w { aside = []; woken = l }) (append-nil w.woken)
    ∙ ap (λ (l : List PlainJob). record w { aside = l; woken = w.woken }) (sym none)

-- a wake's turn
pub wakes : (w : PlainWorld) (limit : ℕ) (k : KeptAside) (b : Bool) → k ≡ awakened (waits_in w limit) → Denies (w.aside ≡ []) b
    → Turns w Event.Wake b (with_waiting k w)
wakes w limit k true is some = (
  Transition.Wake,
  refl,
  awakens w w.aside refl some,
  ap (λ (j : KeptAside). with_waiting j w) is,
)
wakes w limit k false is none = (
  ap (λ (j : KeptAside). with_waiting j w) is ∙ wakes_none w limit none,
  none_wakes w none,
)

module _ (w : PlainWorld) (kept : List KeptSeat) (seats : w.seats ≡ map seat_of kept) (n : ℕ) (limit : ℕ) (k : KeptAside)
    (is : k ≡ record { aside = w.aside; woken = drop 1 w.woken; limit = limit }) where
  -- a worker whose hand is free takes the first job
  pub resumes : (s t : KeptSeat) (x : PlainJob) → slice_get kept n ≡ Some s → n < w.workers → s.hand ≡ Hand.Empty
      → t ≡ record s { hand = Hand.Taken x } → slice_get w.woken 0 ≡ Some x
      → Turns w (Event.Resume n) true (with_waiting k (record w { seats = map seat_of (slice_set kept n t) }))
  resumes s t x at worker free holds first = (
    Transition.Resume n x,
    refl,
    record {
      worker = worker;
      free = (s.jobs, seat_is w kept seats n s t at Hand.Empty s.jobs free refl);
      rest = drop 1 w.woken;
      first = begins w.woken x first;
    },
    ap (λ (j : KeptAside). with_waiting j (record w { seats = map seat_of (slice_set kept n t) })) is
        ∙ ap (λ (l : List Seat). record w { seats = l; woken = drop 1 w.woken })
        (seats_after w kept seats n s t at (with_hand (Hand.Taken x)) (ap seat_of holds)),
  )

  -- or none is to be tried again
  pub resumes_none : slice_get w.woken 0 ≡ None → Turns w (Event.Resume n) false (with_waiting k w)
  resumes_none none =
      let e = is_empty w.woken none in (
        ap (λ (j : KeptAside). with_waiting j w) is
            ∙ ap (λ (l : List PlainJob). record w { woken = l }) (ap (λ (l : List PlainJob). drop 1 l) e ∙ sym e),
        none_resumes w n e,
      )

-- The lists that the device keeps

-- a list that has a job isn't empty
pub has_some : (jobs : List PlainJob) → 0 < length jobs → jobs ≡ [] → ⊥
has_some jobs some none = omega (arith, some, ap (λ (l : List PlainJob). length l) none)

-- a job goes from the front of those that wait behind those that are to be tried again
pub moves : (total : List PlainJob) (woken aside woken' aside' : Jobs) (x : PlainJob) → woken.jobs ++ aside.jobs ≡ total
    → slice_get aside.jobs 0 ≡ Some x → aside' ≡ record aside { jobs = drop 1 aside.jobs }
    → woken' ≡ record woken { jobs = woken.jobs ++ x ∷ [] } → woken'.jobs ++ aside'.jobs ≡ total
moves total woken aside woken' aside' x all first less more =
    ap (λ (j : Jobs). j.jobs ++ aside'.jobs) more
    ∙ ap (λ (j : Jobs). (woken.jobs ++ x ∷ []) ++ j.jobs) less
    ∙ append_assoc woken.jobs (x ∷ []) (drop 1 aside.jobs)
    ∙ ap (λ (l : List PlainJob). woken.jobs ++ l) (sym (begins aside.jobs x first)) ∙ all

-- there is room for it
pub fits : (total : List PlainJob) (limit : ℕ) (woken aside : Jobs) (x : PlainJob) → woken.jobs ++ aside.jobs ≡ total
    → length total ≤ limit → woken.limit ≡ limit → slice_get aside.jobs 0 ≡ Some x → length woken.jobs < woken.limit
fits total limit woken aside x all few same first =
    omega (
      arith,
      ap (λ (l : List PlainJob). length l) all,
      length-append woken.jobs aside.jobs,
      slice_get_within aside.jobs 0 x first,
      few,
      same,
    )

-- fewer wait then
pub lessens : (aside aside' : Jobs) (x : PlainJob) → slice_get aside.jobs 0 ≡ Some x
    → aside' ≡ record aside { jobs = drop 1 aside.jobs } → length aside'.jobs < length aside.jobs
lessens aside aside' x first less =
    omega (
      arith,
      ap (λ (j : Jobs). length j.jobs) less,
      ap (λ (l : List PlainJob). length l) (begins aside.jobs x first),
    )

-- where none waited, a wake changes nothing
pub wakes_nothing : (k : KeptAside) → k.aside ≡ [] → k ≡ awakened k
wakes_nothing k none =
    ap (λ (l : List PlainJob). record { aside = l; woken = k.woken; limit = k.limit }) none
    ∙ ap (λ (l : List PlainJob). record { aside = []; woken = l; limit = k.limit })
    (sym (append-nil k.woken) ∙ ap (λ (l : List PlainJob). k.woken ++ l) (sym none))

-- where none waits any more, each is to be tried again
pub emptied : (k : KeptAside) (woken aside aside' : Jobs) → woken.jobs ++ aside.jobs ≡ k.woken ++ k.aside
    → aside.limit ≡ k.limit → slice_get aside.jobs 0 ≡ None → aside' ≡ record aside { jobs = drop 1 aside.jobs }
    → record { aside = aside'.jobs; woken = woken.jobs; limit = aside'.limit } ≡ awakened k
emptied k woken aside aside' all same none less =
    let e = is_empty aside.jobs none in
    let gone : aside'.jobs ≡ [] = ap (λ (j : Jobs). j.jobs) less ∙ ap (λ (l : List PlainJob). drop 1 l) e in
    let whole : woken.jobs ≡ k.woken ++ k.aside =
    sym (append-nil woken.jobs) ∙ ap (λ (l : List PlainJob). woken.jobs ++ l) (sym e) ∙ all in
    ap (λ (l : List PlainJob). record { aside = l; woken = woken.jobs; limit = aside'.limit }) gone
    ∙ ap (λ (l : List PlainJob). record { aside = []; woken = l; limit = aside'.limit }) whole
    ∙ ap (λ (n : ℕ). record { aside = []; woken = k.woken ++ k.aside; limit = n }) (ap (λ (j : Jobs). j.limit) less ∙ same)

-- both lists share their limit still
pub shares : (limit : ℕ) (total : List PlainJob) (woken aside aside' : Jobs) → woken.jobs ++ aside.jobs ≡ total
    → length total ≤ limit → woken.limit ≡ limit → aside.limit ≡ limit → slice_get aside.jobs 0 ≡ None
    → aside' ≡ record aside { jobs = drop 1 aside.jobs } → ShareLimit aside' woken
shares limit total woken aside aside' all few same own none less =
    let e = is_empty aside.jobs none in
    let gone : aside'.jobs ≡ [] = ap (λ (j : Jobs). j.jobs) less ∙ ap (λ (l : List PlainJob). drop 1 l) e in
    let kept : aside'.limit ≡ limit = ap (λ (j : Jobs). j.limit) less ∙ own in
    record {
      limit = same ∙ sym kept;
      room =
          omega (
            arith,
            ap (λ (l : List PlainJob). length l) gone,
            ap (λ (l : List PlainJob). length l) all,
            length-append woken.jobs aside.jobs,
            few,
            kept,
          );
    }

-- a job that waits now has room beside those that are to be tried again
pub room_kept : (hand : Hand) (u v : PlainUnit) (aside woken aside' : Jobs) (b : Bool) (h : Hand) → ShareLimit aside woken
    → length aside.jobs + length woken.jobs < aside.limit → CommitsOrDefers hand u aside b v h aside' → ShareLimit aside' woken
room_kept (Hand.Taken x) u v aside woken aside' true h share room (inl c) = subst (λ j. ShareLimit j woken) (sym c.1) share
room_kept (Hand.Taken x) u v aside woken aside' true h share room (inr c) =
    let is = (c 0).2 in
    record {
      limit = share.limit ∙ sym (ap (λ (j : Jobs). j.limit) is);
      room =
          omega (
            arith,
            ap (λ (j : Jobs). length j.jobs) is,
            length-append aside.jobs (x ∷ []),
            ap (λ (j : Jobs). j.limit) is,
            room,
          );
    }
room_kept (Hand.Taken x) u v aside woken aside' false h share room c = absurd c
room_kept Hand.Empty u v aside woken aside' b h share room c = subst (λ j. ShareLimit j woken) (sym c.1) share
room_kept (Hand.Done x o) u v aside woken aside' b h share room c = subst (λ j. ShareLimit j woken) (sym c.1) share
room_kept (Hand.Answered p t) u v aside woken aside' b h share room c = subst (λ j. ShareLimit j woken) (sym c.1) share

-- and the limit stays
pub limit_kept : (hand : Hand) (u v : PlainUnit) (aside aside' : Jobs) (b : Bool) (h : Hand)
    → CommitsOrDefers hand u aside b v h aside' → aside'.limit ≡ aside.limit
limit_kept (Hand.Taken x) u v aside aside' true h (inl c) = ap (λ (j : Jobs). j.limit) c.1
limit_kept (Hand.Taken x) u v aside aside' true h (inr c) = ap (λ (j : Jobs). j.limit) (c 0).2
limit_kept (Hand.Taken x) u v aside aside' false h c = absurd c
limit_kept Hand.Empty u v aside aside' b h c = ap (λ (j : Jobs). j.limit) c.1
limit_kept (Hand.Done x o) u v aside aside' b h c = ap (λ (j : Jobs). j.limit) c.1
limit_kept (Hand.Answered p t) u v aside aside' b h c = ap (λ (j : Jobs). j.limit) c.1
