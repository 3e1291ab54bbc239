-- Tasks that are changed in place, from the front of their list on, and the jobs that are given meanwhile.
use Rattle.std.proofs.Common.{◌≡◌, ℕ, Bool, ◌+◌, ◌<◌, List, [], ◌∷◌, ◌++◌, length, get_or, set, take, drop, map, Option, Some, None, refl, sym, ◌∙◌, ap, arith}
use Rattle.std.proofs.lemmas.List.{drop_more, map_more, set_at, get_or_at, append_assoc, length-map, length-take-le}
use Rattle.std.specs.Option.{option_to_list}
use Rattle.unit_model.specs.Tasks.{Entry, is_blocked}
use Rattle.unit_model.specs.Seen.{Seen, freed}
use Rattle.unit_model.specs.Jobs.{PlainJob, Jobs}
use Rattle.task_set.specs.Tasks.{PlainTask, there}
use Rattle.task_set.specs.Inner.Tasks.{moved, given, all_given, enabled_unless}

front_length : {X : Type 0} (f : X → X) (old : List X) (i : ℕ) → i < length old → length (map f (take i old)) ≡ i
front_length f old i h = length-map (take i old) f ∙ length-take-le i old (omega arith)

-- what was not reached is as it was
pub mapped_at : {X : Type 0} (f : X → X) (old now : List X) (i : ℕ) (d : X) → i < length old → now ≡ map f (take i old) ++ drop i old
    → get_or now i d ≡ get_or old i d
mapped_at f old now i d h e =
    ap (λ w. get_or w i d) (e ∙ ap (λ w. map f (take i old) ++ w) (drop_more old i d h)) ∙ get_or_at (map f (take i old)) (get_or old i d) (drop (i + 1) old) d i (front_length f old i h)

-- one more is changed
pub mapped_more : {X : Type 0} (f : X → X) (old now : List X) (i : ℕ) (y d : X) → i < length old → now ≡ map f (take i old) ++ drop i old
    → y ≡ f (get_or now i d) → set now i y ≡ map f (take (i + 1) old) ++ drop (i + 1) old
mapped_more f old now i y d h e g =
    ap (λ w. set w i y) (e ∙ ap (λ w. map f (take i old) ++ w) (drop_more old i d h))
    ∙ set_at (map f (take i old)) (get_or old i d) (drop (i + 1) old) y i (front_length f old i h)
    ∙ ap (λ w. map f (take i old) ++ w ∷ drop (i + 1) old) (g ∙ ap f (mapped_at f old now i d h e))
    ∙ sym (append_assoc (map f (take i old)) (f (get_or old i d) ∷ []) (drop (i + 1) old))
    ∙ sym (ap (λ w. w ++ drop (i + 1) old) (map_more f old i d h))

there_push : (js : List (Option PlainJob)) (j : Option PlainJob) → there (js ++ j ∷ []) ≡ there js ++ option_to_list j
there_push [] None = refl
there_push [] (Some j) = refl
there_push (None ∷ more) j = there_push more j
there_push (Some k ∷ more) j = ap (λ w. k ∷ w) (there_push more j)

-- the job of one more is given
given_more : (f : Seen → Seen) (tasks : List PlainTask) (i : ℕ) (d : PlainTask) (front : List PlainJob) → i < length tasks
    → front ++ all_given f (take (i + 1) tasks) ≡ (front ++ all_given f (take i tasks)) ++ option_to_list (given f (get_or tasks i d))
given_more f tasks i d front h =
    ap (λ w. front ++ there w) (map_more (given f) tasks i d h)
    ∙ ap (λ w. front ++ w) (there_push (map (given f) (take i tasks)) (given f (get_or tasks i d)))
    ∙ sym (append_assoc front (all_given f (take i tasks)) (option_to_list (given f (get_or tasks i d))))

abbrev with_jobs : Jobs → List PlainJob → Jobs
with_jobs out jobs = record out { jobs = jobs }

-- the same of a list of jobs that they are given to
pub given_out : (f : Seen → Seen) (tasks : List PlainTask) (i : ℕ) (d x : PlainTask) (start now new : Jobs) → i < length tasks → x ≡ get_or tasks i d
    → now ≡ record start { jobs = start.jobs ++ all_given f (take i tasks) } → new ≡ record now { jobs = now.jobs ++ option_to_list (given f x) }
    → new ≡ record start { jobs = start.jobs ++ all_given f (take (i + 1) tasks) }
given_out f tasks i d x start now new h is before after =
    after
    ∙ ap (λ (w : Jobs). with_jobs w (w.jobs ++ option_to_list (given f x))) before
    ∙ ap (λ w. with_jobs start ((start.jobs ++ all_given f (take i tasks)) ++ option_to_list (given f w))) is
    ∙ sym (ap (with_jobs start) (given_more f tasks i d start.jobs h))

-- a task that was let run unless it was blocked, where these block it or don't
pub freed_by : (alive : List Entry) (x y : PlainTask) (blocked : Bool) → blocked ≡ is_blocked x.seen.entry alive → y ≡ moved (enabled_unless blocked) x → y ≡ moved (freed alive) x
freed_by alive x y blocked is after = after ∙ ap (λ b. moved (enabled_unless b) x) is

pub given_by : (alive : List Entry) (x : PlainTask) (now new : Jobs) (blocked : Bool) → blocked ≡ is_blocked x.seen.entry alive
    → new ≡ record now { jobs = now.jobs ++ option_to_list (given (enabled_unless blocked) x) } → new ≡ record now { jobs = now.jobs ++ option_to_list (given (freed alive) x) }
given_by alive x now new blocked is after = after ∙ ap (λ b. with_jobs now (now.jobs ++ option_to_list (given (enabled_unless b) x))) is
