-- A Commit is found by what is kept of its step.
use Rattle.std.proofs.Common.{◌≡◌, ℕ, ◌+◌, ◌-◌, Bool, true, false, ◌&&◌, nat_le, nat_lt, cond, List, [], drop, length, map, slice_get, Option, Some, None, refl, sym, ◌∙◌, ap, subst, arith, length-drop}
use Rattle.std.specs.Option.{option_map}
use Rattle.std.proofs.lemmas.Bool.{le-leb, lt-leb, ltb-true, ltb-false}
use Rattle.std.proofs.lemmas.List.{length-map, length-reverse}
use Rattle.std.proofs.lemmas.Option.{slice_get-map}
use Rattle.ring_core.specs.declared.log.Ticket.{Ticket}
use Rattle.command_model.specs.PlainReply.{PlainReply, plain_of}
use Rattle.command_model.specs.declared.reply.Reply.{Reply}
use Rattle.unit_model.specs.Steps.{Step}
use Rattle.unit_model.specs.Receipts.{step_at, latest_kept, is_kept, Agrees}
use Rattle.unit_log.specs.declared.kind.StepKind.{StepKind}
use Rattle.unit_log.specs.declared.kind.StepKind.TheVariants as kind
use Rattle.unit_log.specs.declared.recorded.RecordedStep.{RecordedStep}
use Rattle.unit_log.specs.Kept.{kind_of}
use Rattle.unit_log.specs.Inner.Kept.{latest, reply_kept, commit_kind}
use Rattle.unit_log.specs.Recorded.{step_recorded, steps_recorded}
use Rattle.unit_log.specs.Inner.Recorded.{kept_there, replies_recorded, reply_of_place, AreAlike}
use Rattle.unit_log.proofs.Places.{at_place, drop_get}

-- what is kept is a Commit of the ticket, with a reply that agrees
abbrev pub IsCommit : Option StepKind → Option PlainReply → Ticket → Option PlainReply → Type 0
IsCommit None kept t given = ⊥
IsCommit (Some k) kept t given = (k ≡ commit_kind t) × AreAlike kept given

alike_agrees : (keeps : Bool) (r : PlainReply) (given : Option PlainReply) → AreAlike (cond keeps (Some r) None) given → Agrees keeps given r
alike_agrees true r None a = a
alike_agrees true r (Some g) a = a
alike_agrees false r None a = a
alike_agrees false r (Some g) a = a

agrees_alike : (keeps : Bool) (r : PlainReply) (given : Option PlainReply) → Agrees keeps given r → AreAlike (cond keeps (Some r) None) given
agrees_alike true r None a = a
agrees_alike true r (Some g) a = a
agrees_alike false r None a = a
agrees_alike false r (Some g) a = a

same_ticket : (u t : Ticket) → commit_kind u ≡ commit_kind t → u ≡ t
same_ticket u t e = cc

unlike : false ≡ true → ⊥
unlike e = cc

abbrev is_of_commit : StepKind → Bool
is_of_commit (kind.Commit t) = true
is_of_commit k = false

-- the reply that is still kept of a step at a place, of so many
abbrev kept_still : Bool → ℕ → ℕ → Step → Option PlainReply
kept_still keeps steps place s = cond (nat_le steps (place + latest_kept)) (reply_kept keeps s) None

-- a reply is still kept if it was kept and its step is among the latest
both_kept : (keeps late short : Bool) (o : Option PlainReply) → cond late (cond (keeps && short) o None) None ≡ cond (keeps && (late && short)) o None
both_kept true true short o = refl
both_kept true false short o = refl
both_kept false true short o = refl
both_kept false false short o = refl

still : (keeps : Bool) (steps place : ℕ) (t : Ticket) (r : PlainReply) → kept_still keeps steps place (Step.Commit t r) ≡ cond (is_kept keeps steps place r) (Some r) None
still keeps steps place t r = both_kept keeps (nat_le steps (place + latest_kept)) _ (Some r)

abbrev Found : Bool → ℕ → ℕ → Option PlainReply → Ticket → Option Step → Type 0
Found keeps steps place given t o = (r : PlainReply) × (o ≡ Some (Step.Commit t r)) × Agrees (is_kept keeps steps place r) given r

is_found : (keeps : Bool) (steps place : ℕ) (given : Option PlainReply) (t : Ticket) (s : Step)
    → IsCommit (Some (kind_of s)) (kept_still keeps steps place s) t given → Found keeps steps place given t (Some s)
is_found keeps steps place given t (Step.Commit u r) k = (
  r,
  ap (λ w. Some (Step.Commit w r)) (same_ticket u t k.0),
  alike_agrees (is_kept keeps steps place r) r given (subst (λ o. AreAlike o given) (still keeps steps place u r) k.1),
)
is_found keeps steps place given t (Step.Enter e) k = absurd (unlike (ap is_of_commit k.0))
is_found keeps steps place given t (Step.Full u) k = absurd (unlike (ap is_of_commit k.0))
is_found keeps steps place given t (Step.Busy u) k = absurd (unlike (ap is_of_commit k.0))
is_found keeps steps place given t (Step.Abort rule) k = absurd (unlike (ap is_of_commit k.0))
is_found keeps steps place given t (Step.Reset c) k = absurd (unlike (ap is_of_commit k.0))
is_found keeps steps place given t (Step.Resize blocks) k = absurd (unlike (ap is_of_commit k.0))
is_found keeps steps place given t (Step.Leave u) k = absurd (unlike (ap is_of_commit k.0))

some_same : (a b : Step) → Some a ≡ Some b → a ≡ b
some_same a b e = cc

stays : (keeps : Bool) (steps place : ℕ) (given : Option PlainReply) (t : Ticket) (s : Step)
    → Found keeps steps place given t (Some s) → IsCommit (Some (kind_of s)) (kept_still keeps steps place s) t given
stays keeps steps place given t s f =
    subst (λ w. IsCommit (Some (kind_of w)) (kept_still keeps steps place w) t given) (sym (some_same s (Step.Commit t f.0) f.1)) (
      refl,
      subst (λ o. AreAlike o given) (sym (still keeps steps place t f.0)) (agrees_alike (is_kept keeps steps place f.0) f.0 given f.2),
    )

nothing : {s : Step} → None ≡ Some s → ⊥
nothing e = cc

-- the reply that is kept of a step, if there is one
abbrev kept_one : Bool → ℕ → ℕ → Option Step → Option PlainReply
kept_one keeps steps place None = None
kept_one keeps steps place (Some s) = kept_still keeps steps place s

forth : (keeps : Bool) (steps place : ℕ) (given : Option PlainReply) (t : Ticket) (o : Option Step)
    → IsCommit (option_map kind_of o) (kept_one keeps steps place o) t given → Found keeps steps place given t o
forth keeps steps place given t None k = absurd k
forth keeps steps place given t (Some s) k = is_found keeps steps place given t s k

back : (keeps : Bool) (steps place : ℕ) (given : Option PlainReply) (t : Ticket) (o : Option Step)
    → Found keeps steps place given t o → IsCommit (option_map kind_of o) (kept_one keeps steps place o) t given
back keeps steps place given t None f = nothing f.1
back keeps steps place given t (Some s) f = stays keeps steps place given t s f

abbrev flat : Option (Option PlainReply) → Option PlainReply
flat None = None
flat (Some o) = o

flat_of_place : (o : Option (Option Reply)) → reply_of_place o ≡ flat (option_map (option_map plain_of) o)
flat_of_place None = refl
flat_of_place (Some r) = refl

not_kept : (b : Bool) (s : Step) → None ≡ cond b (reply_kept false s) None
not_kept false s = refl
not_kept true (Step.Commit t r) = refl
not_kept true (Step.Enter e) = refl
not_kept true (Step.Full t) = refl
not_kept true (Step.Busy t) = refl
not_kept true (Step.Abort rule) = refl
not_kept true (Step.Reset c) = refl
not_kept true (Step.Resize blocks) = refl
not_kept true (Step.Leave t) = refl

kept_nowhere : (steps place : ℕ) (o : Option RecordedStep) → None ≡ kept_one false steps place (option_map step_recorded o)
kept_nowhere steps place None = refl
kept_nowhere steps place (Some s) = not_kept (nat_le steps (place + latest_kept)) (step_recorded s)

-- of a step before the latest nothing is kept
kept_before : (steps place : ℕ) (o : Option RecordedStep) → nat_le steps (place + latest_kept) ≡ false → None ≡ kept_one true steps place (option_map step_recorded o)
kept_before steps place None off = refl
kept_before steps place (Some s) off = sym (ap (λ b. cond b (reply_kept true (step_recorded s)) None) off)

kept_where : (steps place : ℕ) (o : Option RecordedStep) → nat_le steps (place + latest_kept) ≡ true
    → flat (option_map (λ (s : RecordedStep). reply_kept true (step_recorded s)) o) ≡ kept_one true steps place (option_map step_recorded o)
kept_where steps place None on = refl
kept_where steps place (Some s) on = sym (ap (λ b. cond b (reply_kept true (step_recorded s)) None) on)

there_from : {X : Type 0} (steps place k : ℕ) (items : List X) → steps - length items ≡ k
    → kept_there steps place items ≡ cond (nat_lt place k) None (slice_get items (place - k))
there_from steps place k items e = ap (λ n. cond (nat_lt place n) None (slice_get items (place - n))) e

there_map : {X Y : Type 0} (f : X → Y) (steps place : ℕ) (items : List X) → option_map f (kept_there steps place items) ≡ kept_there steps place (map f items)
there_map f steps place items =
    (elim (nat_lt place (steps - length items)) as (λ b. option_map f (cond b None (slice_get items (place - (steps - length items)))) ≡ cond b None (slice_get (map f items) (place - (steps - length items)))) [
      | true ↦ refl
      | false ↦ sym (slice_get-map f items (place - (steps - length items)))
    ]) ∙ sym (there_from steps place (steps - length items) (map f items) (ap (λ n. steps - n) (length-map items f)))

-- the latest of a list, by place
there_latest : {X : Type 0} (xs : List X) (place : ℕ)
    → kept_there (length xs) place (latest xs) ≡ cond (nat_lt place (length xs - latest_kept)) None (slice_get (latest xs) (place - (length xs - latest_kept)))
there_latest xs place =
    let l = length-drop (length xs - latest_kept) xs in
    there_from (length xs) place (length xs - latest_kept) (latest xs) (omega (arith, l))

by_place_kept : (place : ℕ) (xs : List RecordedStep)
    → flat (kept_there (length xs) place (latest (replies_recorded true xs))) ≡ kept_one true (length xs) place (option_map step_recorded (slice_get xs place))
by_place_kept place xs =
    let g = λ (s : RecordedStep). reply_kept true (step_recorded s) in
    let k = length xs - latest_kept in
    let n = length-map xs g in
    let there : kept_there (length xs) place (latest (map g xs)) ≡ cond (nat_lt place k) None (slice_get (drop k (map g xs)) (place - k)) =
    ap (λ m. kept_there m place (latest (map g xs))) (sym n) ∙ there_latest (map g xs) place
    ∙ ap (λ m. cond (nat_lt place (m - latest_kept)) None (slice_get (drop (m - latest_kept) (map g xs)) (place - (m - latest_kept)))) n in
    ap flat there
    ∙ ((elim (nat_lt place k) as (λ b. nat_lt place k ≡ b → flat (cond b None (slice_get (drop k (map g xs)) (place - k))) ≡ kept_one true (length xs) place (option_map step_recorded (slice_get xs place))) [
      | true ↦ λ e. kept_before (length xs) place (slice_get xs place) (lt-leb (length xs) (place + latest_kept) (let h = ltb-true place k e in omega (arith, h)))
      | false ↦ λ e.
          let h = ltb-false place k e in
          ap flat (drop_get k (map g xs) (place - k) place (omega (arith, h)))
          ∙ ap flat (slice_get-map g xs place)
          ∙ kept_where (length xs) place (slice_get xs place) (le-leb (length xs) (place + latest_kept) (omega (arith, h)))
    ]) refl)

none_there : (steps place : ℕ) → flat (kept_there steps place []) ≡ None
none_there steps place =
    elim (nat_lt place (steps - length {A = Option PlainReply} [])) as (λ b. flat (cond b None (slice_get [] (place - (steps - length {A = Option PlainReply} [])))) ≡ None) [ true ↦ refl | false ↦ refl ]

by_place : (keeps : Bool) (place : ℕ) (xs : List RecordedStep)
    → flat (kept_there (length xs) place (latest (replies_recorded keeps xs))) ≡ kept_one keeps (length xs) place (option_map step_recorded (slice_get xs place))
by_place true place xs = by_place_kept place xs
by_place false place xs = none_there (length xs) place ∙ kept_nowhere (length xs) place (slice_get xs place)

pub length_recorded : (xs : List RecordedStep) → length (steps_recorded xs) ≡ length xs
length_recorded xs = length-map _ step_recorded ∙ length-reverse xs

-- the reply of the step at a place, by what is kept
reply_there : (keeps : Bool) (place : ℕ) (replies : List (Option Reply)) (xs : List RecordedStep)
    → map (option_map plain_of) replies ≡ latest (replies_recorded keeps xs)
    → reply_of_place (kept_there (length (steps_recorded xs)) place replies) ≡ kept_one keeps (length (steps_recorded xs)) place (step_at place (steps_recorded xs))
reply_there keeps place replies xs e =
    flat_of_place (kept_there (length (steps_recorded xs)) place replies)
    ∙ ap flat (there_map (option_map plain_of) (length (steps_recorded xs)) place replies)
    ∙ ap (λ w. flat (kept_there (length (steps_recorded xs)) place w)) e
    ∙ ap (λ n. flat (kept_there n place (latest (replies_recorded keeps xs)))) (length_recorded xs)
    ∙ by_place keeps place xs
    ∙ ap (λ n. kept_one keeps n place (option_map step_recorded (slice_get xs place))) (sym (length_recorded xs))
    ∙ ap (kept_one keeps (length (steps_recorded xs)) place) (sym (at_place place xs))

module _ (keeps : Bool) (given : Option PlainReply) (t : Ticket) (place : ℕ) (k : Option StepKind) (replies : List (Option Reply)) (xs : List RecordedStep)
    (kind_is : k ≡ option_map kind_of (step_at place (steps_recorded xs))) (are : map (option_map plain_of) replies ≡ latest (replies_recorded keeps xs))
    (steps : ℕ) (many : steps ≡ length (steps_recorded xs)) where
  there : reply_of_place (kept_there steps place replies) ≡ kept_one keeps (length (steps_recorded xs)) place (step_at place (steps_recorded xs))
  there = ap (λ n. reply_of_place (kept_there n place replies)) many ∙ reply_there keeps place replies xs are

  pub found : IsCommit k (reply_of_place (kept_there steps place replies)) t given
      → (r : PlainReply) × (step_at place (steps_recorded xs) ≡ Some (Step.Commit t r)) × Agrees (is_kept keeps (length (steps_recorded xs)) place r) given r
  found is =
      forth keeps (length (steps_recorded xs)) place given t (step_at place (steps_recorded xs))
      (subst (λ w. IsCommit (option_map kind_of (step_at place (steps_recorded xs))) w t given) there
      (subst (λ w. IsCommit w (reply_of_place (kept_there steps place replies)) t given) kind_is is))

  pub stands : ((r : PlainReply) × (step_at place (steps_recorded xs) ≡ Some (Step.Commit t r)) × Agrees (is_kept keeps (length (steps_recorded xs)) place r) given r)
      → IsCommit k (reply_of_place (kept_there steps place replies)) t given
  stands f =
      subst (λ w. IsCommit w (reply_of_place (kept_there steps place replies)) t given) (sym kind_is)
      (subst (λ w. IsCommit (option_map kind_of (step_at place (steps_recorded xs))) w t given) (sym there)
      (back keeps (length (steps_recorded xs)) place given t (step_at place (steps_recorded xs)) f))

none_kind : {k : StepKind} → None ≡ Some k → ⊥
none_kind e = cc

same_kind : (a b : StepKind) → Some a ≡ Some b → a ≡ b
same_kind a b e = cc

-- a Commit that is folded, whose reply isn't kept any more
pub folded_found : (keeps : Bool) (steps place : ℕ) (given : Option PlainReply) (t : Ticket) (o : Option Step) → nat_le steps (place + latest_kept) ≡ false
    → (option_map kind_of o ≡ Some (commit_kind t) → (r : PlainReply) × (o ≡ Some (Step.Commit t r)) × Agrees (is_kept keeps steps place r) given r)
    × ((r : PlainReply) × (o ≡ Some (Step.Commit t r)) × Agrees (is_kept keeps steps place r) given r → option_map kind_of o ≡ Some (commit_kind t))
folded_found keeps steps place given t None off = (λ e. absurd (none_kind e), λ f. ap (option_map kind_of) f.1)
folded_found keeps steps place given t (Some s) off = (
  λ e.
      is_found keeps steps place given t s (
        same_kind (kind_of s) (commit_kind t) e,
        subst (λ w. AreAlike w given) (sym (ap (λ b. cond b (reply_kept keeps s) None) off)) tt,
      ),
  λ f. ap (option_map kind_of) f.1,
)
