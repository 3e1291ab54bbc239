-- The step at a place.
use Rattle.std.proofs.Common.{◌≡◌, ◌≢◌, ℕ, ◌+◌, ◌<◌, ◌≤◌, Bool, true, false, ◌&&◌, eqb, cond, List, [], ◌∷◌, ◌++◌, length, Option, Some, None, refl, sym, ◌∙◌, ap, subst, arith, eq-eqb, length-append}
use Rattle.std.proofs.lemmas.Bool.{eqb-true, le-leb, lt-leb}
use Rattle.ring_core.specs.declared.log.Ticket.{Ticket}
use Rattle.command_model.specs.PlainReply.{PlainReply}
use Rattle.unit_model.specs.Steps.{Step}
use Rattle.unit_model.specs.Contents.{Opening}
use Rattle.unit_model.specs.Receipts.{Receipt, receipt_of, step_at, is_kept, latest_kept, longest_kept, Agrees, IsConfirmed}

eqb_off : (m n : ℕ) → (m ≡ n → ⊥) → eqb m n ≡ false
eqb_off m n differ =
    elim (eqb m n) as (λ b. (eqb m n ≡ b) → b ≡ false) [
      | true ↦ λ k. absurd (differ (eqb-true m n k))
      | false ↦ λ k. refl
    ] refl

longer : (later past : List Step) (s : Step) → length past < length (later ++ s ∷ past)
longer [] past s = omega arith
longer (x ∷ later) past s = let h = longer later past s in omega (arith, h)

pub step_there : (later past : List Step) (s : Step) → step_at (length past) (later ++ s ∷ past) ≡ Some s
step_there [] past s = ap (λ b. cond b (Some s) (step_at (length past) past)) (eq-eqb (length past) (length past) refl)
step_there (x ∷ later) past s =
    let more = longer later past s in
    ap (λ b. cond b (Some x) (step_at (length past) (later ++ s ∷ past))) (eqb_off (length (later ++ s ∷ past)) (length past) (λ e. omega (arith, e, more)))
    ∙ step_there later past s

pub step_none : (n : ℕ) (h : List Step) → length h ≤ n → step_at n h ≡ None
step_none n [] le = refl
step_none n (s ∷ past) le =
    ap (λ b. cond b (Some s) (step_at n past)) (eqb_off (length past) n (λ e. omega (arith, e, le)))
    ∙ step_none n past (omega (arith, le))

pub confirmed : (o : Opening) (keeps : Bool) (t : Ticket) (r : PlainReply) (later past : List Step) (kept : Option PlainReply)
    → Agrees (is_kept keeps (length (later ++ Step.Commit t r ∷ past)) (length past) r) kept r
    → IsConfirmed o keeps (later ++ Step.Commit t r ∷ past) (receipt_of o past t kept)
confirmed o keeps t r later past kept agrees = record { of_unit = refl; stands = (r, step_there later past (Step.Commit t r), agrees) }

-- the reply of the Commit agrees, whether the unit still has it or not
pub itself_agrees : (keeps : Bool) (r : PlainReply) → Agrees keeps (Some r) r
itself_agrees true r = refl
itself_agrees false r = tt

nothing : {X : Type 0} {x : X} → None ≡ Some x → ⊥
nothing e = cc

pub unreached : (o : Opening) (keeps : Bool) (h : List Step) (c : Receipt) → length h ≤ c.place → IsConfirmed o keeps h c → ⊥
unreached o keeps h c le k = nothing (sym (step_none c.place h le) ∙ k.stands.1)

same_reply : (t : Ticket) (r s : PlainReply) → Step.Commit t r ≡ Step.Commit t s → r ≡ s
same_reply t r s e = cc

same_step : (a b : Step) → Some a ≡ Some b → a ≡ b
same_step a b e = cc

steps_behind : (t : Ticket) (r : PlainReply) (later past : List Step) → length (later ++ Step.Commit t r ∷ past) ≡ length later + length past + 1
steps_behind t r later past = let e = length-append later (Step.Commit t r ∷ past) in omega (arith, e)

both : (a b : Bool) → a ≡ true → b ≡ true → (true && (a && b)) ≡ true
both a b first second = ap (λ x. x && b) first ∙ second

still_has : (t : Ticket) (r : PlainReply) (later past : List Step) → length later < 256 → length r.payload ≤ 4096
    → is_kept true (length (later ++ Step.Commit t r ∷ past)) (length past) r ≡ true
still_has t r later past few short =
    let n = steps_behind t r later past in
    both _ _ (le-leb (length (later ++ Step.Commit t r ∷ past)) (length past + latest_kept) (omega (arith, n, few))) (le-leb (length r.payload) longest_kept short)

first_off : (keeps a b : Bool) → a ≡ false → (keeps && (a && b)) ≡ false
first_off true a b off = ap (λ x. x && b) off
first_off false a b off = refl

last_off : (keeps a b : Bool) → b ≡ false → (keeps && (a && b)) ≡ false
last_off true true b off = off
last_off true false b off = refl
last_off false a b off = refl

any_agrees : (kept : Bool) (other r : PlainReply) → kept ≡ false → Agrees kept (Some other) r
any_agrees kept other r off = subst (λ b. Agrees b (Some other) r) (sym off) tt

pub later_reply : (o : Opening) (keeps : Bool) (t : Ticket) (r other : PlainReply) (later past : List Step) → 256 ≤ length later
    → IsConfirmed o keeps (later ++ Step.Commit t r ∷ past) (receipt_of o past t (Some other))
later_reply o keeps t r other later past many =
    let n = steps_behind t r later past in
    confirmed o keeps t r later past (Some other)
    (any_agrees _ other r (first_off keeps _ _ (lt-leb (length (later ++ Step.Commit t r ∷ past)) (length past + latest_kept) (omega (arith, n, many)))))

pub longer_reply : (o : Opening) (keeps : Bool) (t : Ticket) (r other : PlainReply) (later past : List Step) → 4096 < length r.payload
    → IsConfirmed o keeps (later ++ Step.Commit t r ∷ past) (receipt_of o past t (Some other))
longer_reply o keeps t r other later past long =
    confirmed o keeps t r later past (Some other) (any_agrees _ other r (last_off keeps _ _ (lt-leb (length r.payload) longest_kept long)))

pub other_reply : (o : Opening) (t : Ticket) (r other : PlainReply) (later past : List Step) → other ≢ r → length later < 256 → length r.payload ≤ 4096
    → IsConfirmed o true (later ++ Step.Commit t r ∷ past) (receipt_of o past t (Some other)) → ⊥
other_reply o t r other later past differ few short k =
    let found = k.stands.0 in
    let same : r ≡ found = same_reply t r found (same_step (Step.Commit t r) (Step.Commit t found) (sym (step_there later past (Step.Commit t r)) ∙ k.stands.1)) in
    let has : is_kept true (length (later ++ Step.Commit t r ∷ past)) (length past) found ≡ true =
    subst (λ w. is_kept true (length (later ++ Step.Commit t r ∷ past)) (length past) w ≡ true) same (still_has t r later past few short) in
    let agrees : other ≡ found = subst (λ b. Agrees b (Some other) found) has k.stands.2 in
    differ (agrees ∙ sym same)
