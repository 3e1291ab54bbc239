-- Each step of a seat keeps the rule.
use Rattle.std.proofs.Common.{◌≡◌, ◌≢◌, ℕ, ◌+◌, ◌<◌, true, true≢false, List, [], ◌∷◌, ◌++◌, length, set, sym, refl, ap, ◌∙◌, subst, ⊎_elim, append_assoc, append-nil as append_nil, arith, ne_eqb, eq-eqb}
use Rattle.std.specs.Prelude.{◌==◌, if◌then◌else◌}
use mathlib.Core.Option.{some, some-ne-none}
use lib.ListN.{get_elem?}
use Rattle.crossbeam_queue.specs.Fifo.{Pushes, Pops, Forks, Merges, Learns}
use Rattle.crossbeam_queue.proofs.Lists.{at_set}
use Rattle.unit_model.specs.Jobs.{PlainJob}
use Rattle.handoff.specs.declared.rule.Account.{Account}
use Rattle.handoff.specs.declared.rule.View.{View}
use Rattle.handoff.specs.Moves.{Move, move}
use Rattle.handoff.specs.Inner.Moves.{Moves, jobs_of, jobs_by, IsInOrder, IsBelow, AreBelow, account, Fits, AllFit, Balances, AreSettled}
use Rattle.handoff.specs.Inner.Rule.{AreWith, IsRight, Agree, opening, one_more, newcomer, joined, spent, after_put, after_take}
use Rattle.handoff.proofs.Moves.{jobs_of_append, jobs_by_append, jobs_by_own, jobs_by_other, jobs_by_none, below_append, all_below_more, front, at_end}

abbrev EachView : (ℕ → View → Type 0) → List View → Type 0
EachView F views = (pass : ℕ) (v : View) → get_elem? views pass ≡ some v → F pass v

-- one view is set, and the others are as they were
each_set : (F : ℕ → View → Type 0) (views : List View) (pass : ℕ) (w : View) → F pass w
    → ((j : ℕ) (u : View) → j ≢ pass → get_elem? views j ≡ some u → F j u) → EachView F (set views pass w)
each_set F views pass w mine others j u e = ⊎_elim (λ (x : (j ≡ pass) × (w ≡ u)). subst (λ (y : ℕ × View). F y.0 y.1) (λ i. (sym x.0 i, x.1 i)) mine)
    (λ (x : (j ≢ pass) × (get_elem? views j ≡ some u)). others j u x.0 x.1) (at_set views pass j w u e)

-- a move that is added to a list is one's own, or another's
pub own_grows : (seat : ℕ) (moves : List Move) (job : PlainJob) → jobs_by seat (moves ++ move seat job ∷ []) ≡ jobs_by seat moves ++ job ∷ []
own_grows seat moves job = jobs_by_append seat moves (move seat job ∷ []) ∙ ap (λ l. jobs_by seat moves ++ l) (jobs_by_own seat job)

pub other_stays : (seat mover : ℕ) (moves : List Move) (job : PlainJob) → mover ≢ seat → jobs_by seat (moves ++ move mover job ∷ []) ≡ jobs_by seat moves
other_stays seat mover moves job ne =
    jobs_by_append seat moves (move mover job ∷ []) ∙ ap (λ l. jobs_by seat moves ++ l) (jobs_by_other seat mover job ne) ∙ append_nil (jobs_by seat moves)

-- the moves after a put
after_putting : Moves → ℕ → PlainJob → Moves
after_putting all seat job = record { gone = all.gone; left = all.left ++ move seat job ∷ []; takes = all.takes }

-- the accounts with other passes don't see a put of this seat
others_put : (all : Moves) (holder : ℕ → ℕ) (made j seat : ℕ) (job : PlainJob) (accounts : List Account) → holder seat ≢ j → AreWith holder made j accounts
    → AllFit all accounts → AllFit (after_putting all seat job) accounts
unfolding after_putting
others_put all holder made j seat job [] n w f = tt
others_put all holder made j seat job (a ∷ accounts) n w f =
    let ne : seat ≢ a.seat = λ e. n (ap holder e ∙ w.0) in (
      record {
        put = f.0.put ∙ ap (λ l. jobs_by a.seat all.gone ++ l) (sym (other_stays a.seat seat all.left job ne));
        taken = f.0.taken;
      },
      others_put all holder made j seat job accounts n w.2 f.1,
    )

-- what the caller's own account knows after its put
mine_put : (all : Moves) (a : Account) (job : PlainJob) → Fits all a → Fits (after_putting all a.seat job) (account a.seat (a.put ++ job ∷ []) a.taken)
unfolding after_putting
mine_put all a job f = record {
  put =
      ap (λ l. l ++ job ∷ []) f.put ∙ append_assoc (jobs_by a.seat all.gone) (jobs_by a.seat all.left) (job ∷ [])
      ∙ ap (λ l. jobs_by a.seat all.gone ++ l) (sym (own_grows a.seat all.left job));
  taken = f.taken;
}

pub puts : (n pass : ℕ) (v : View) (a : Account) (job : PlainJob) → v.accounts ≡ a ∷ [] → Pushes Agree n pass v job (λ w. w ≡ after_put v job)
unfolding after_putting
puts n pass v a job is items views room k at =
    let right = k.right pass v at in
    let with : AreWith k.holder k.made pass (a ∷ []) = subst (λ accounts. AreWith k.holder k.made pass accounts) is right.1 in
    let fit : AllFit k.all (a ∷ []) = subst (λ accounts. AllFit k.all accounts) is right.2 in
    let all : Moves = after_putting k.all a.seat job in (
      after_put v job,
      record {
        all = all;
        made = k.made;
        chief = k.chief;
        holder = k.holder;
        order = record {
          went = k.order.went;
          stands = jobs_of_append k.all.left (move a.seat job ∷ []) ∙ ap (λ l. l ++ job ∷ []) k.order.stands;
        };
        below = record {
          gone = k.below.gone;
          left = below_append k.made k.all.left (move a.seat job ∷ []) k.below.left (with.1, tt);
          takes = k.below.takes;
        };
        right = each_set (IsRight all k.made k.chief k.holder) views pass (after_put v job)
            (right.0, rw is (with.0, with.1, tt), rw is (mine_put k.all a job fit.0, tt))
            (λ j u other e. let their = k.right j u e in (their.0, their.1, others_put k.all k.holder k.made j a.seat job u.accounts (λ q. other (sym q ∙ with.0)) their.1 their.2));
      },
      refl,
    )

-- the moves after the oldest of the puts that were left was taken
after_taking : Moves → Move → List Move → ℕ → PlainJob → Moves
after_taking all m rest seat job = record { gone = all.gone ++ m ∷ []; left = rest; takes = all.takes ++ move seat job ∷ [] }

-- a move goes from what is left to what is gone
moved : (seat : ℕ) (gone left rest : List Move) (m : Move) → left ≡ m ∷ rest → jobs_by seat gone ++ jobs_by seat left ≡ jobs_by seat (gone ++ m ∷ []) ++ jobs_by seat rest
moved seat gone left rest m e =
    ap (λ w. jobs_by seat gone ++ jobs_by seat w) e ∙ ap (λ w. jobs_by seat gone ++ w) (jobs_by_append seat (m ∷ []) rest)
    ∙ sym (append_assoc (jobs_by seat gone) (jobs_by seat (m ∷ [])) (jobs_by seat rest)) ∙ ap (λ w. w ++ jobs_by seat rest) (sym (jobs_by_append seat gone (m ∷ [])))

others_take : (all : Moves) (m : Move) (rest : List Move) (holder : ℕ → ℕ) (made j seat : ℕ) (job : PlainJob) (accounts : List Account) → all.left ≡ m ∷ rest
    → holder seat ≢ j → AreWith holder made j accounts → AllFit all accounts → AllFit (after_taking all m rest seat job) accounts
unfolding after_taking
others_take all m rest holder made j seat job [] e n w f = tt
others_take all m rest holder made j seat job (a ∷ accounts) e n w f =
    let ne : seat ≢ a.seat = λ q. n (ap holder q ∙ w.0) in (
      record {
        put = f.0.put ∙ moved a.seat all.gone all.left rest m e;
        taken = f.0.taken ∙ sym (other_stays a.seat seat all.takes job ne);
      },
      others_take all m rest holder made j seat job accounts e n w.2 f.1,
    )

mine_take : (all : Moves) (m : Move) (rest : List Move) (a : Account) (job : PlainJob) → all.left ≡ m ∷ rest → Fits all a
    → Fits (after_taking all m rest a.seat job) (account a.seat a.put (a.taken ++ job ∷ []))
unfolding after_taking
mine_take all m rest a job e f = record {
  put = f.put ∙ moved a.seat all.gone all.left rest m e;
  taken = ap (λ w. w ++ job ∷ []) f.taken ∙ sym (own_grows a.seat all.takes job);
}

-- the job that comes out is the one that is gone then
in_order_taken : (all : Moves) (m : Move) (rest : List Move) (seat : ℕ) (job : PlainJob) (items : List PlainJob) → IsInOrder all (job ∷ items)
    → m.job ≡ job → jobs_of rest ≡ items → IsInOrder (after_taking all m rest seat job) items
unfolding after_taking
in_order_taken all m rest seat job items o same stands = record {
  went = jobs_of_append all.takes (move seat job ∷ []) ∙ ap (λ w. w ++ job ∷ []) o.went ∙ ap (λ w. jobs_of all.gone ++ w ∷ []) (sym same) ∙ sym (jobs_of_append all.gone (m ∷ []));
  stands = stands;
}

below_taken : (n : ℕ) (all : Moves) (m : Move) (rest : List Move) (seat : ℕ) (job : PlainJob) → AreBelow n all → all.left ≡ m ∷ rest → seat < n
    → AreBelow n (after_taking all m rest seat job)
unfolding after_taking
below_taken n all m rest seat job b e lt = let left : IsBelow n (m ∷ rest) = subst (λ l. IsBelow n l) e b.left in record {
  gone = below_append n all.gone (m ∷ []) b.gone (left.0, tt);
  left = left.1;
  takes = below_append n all.takes (move seat job ∷ []) b.takes (lt, tt);
}

pub takes : (pass : ℕ) (v : View) (a : Account) → v.accounts ≡ a ∷ [] → Pops Agree pass v (λ job w. w ≡ after_take v job)
takes pass v a is job items views k at =
    let right = k.right pass v at in
    let with : AreWith k.holder k.made pass (a ∷ []) = subst (λ accounts. AreWith k.holder k.made pass accounts) is right.1 in
    let fit : AllFit k.all (a ∷ []) = subst (λ accounts. AllFit k.all accounts) is right.2 in
    let first = front k.all.left job items k.order.stands in
    let m : Move = first.0 in
    let rest : List Move = first.1 in
    let e : k.all.left ≡ m ∷ rest = first.2 in
    let all : Moves = after_taking k.all m rest a.seat job in (
      after_take v job,
      record {
        all = all;
        made = k.made;
        chief = k.chief;
        holder = k.holder;
        order = in_order_taken k.all m rest a.seat job items k.order first.3 first.4;
        below = below_taken k.made k.all m rest a.seat job k.below e with.1;
        right = each_set (IsRight all k.made k.chief k.holder) views pass (after_take v job)
            (right.0, rw is (with.0, with.1, tt), rw is (mine_take k.all m rest a job e fit.0, tt))
            (λ j u other q. let their = k.right j u q in (their.0, their.1, others_take k.all m rest k.holder k.made j a.seat job u.accounts e (λ z. other (sym z ∙ with.0)) their.1 their.2));
      },
      refl,
    )

pub learns : (pass : ℕ) (v : View) → Learns Agree pass v (λ items. Balances v.accounts items)
learns pass v items views k at = record { all = k.all; order = k.order; each = (k.right pass v at).2 }

pub begins : Agree [] (opening ∷ [])
begins =
    let all : Moves = record { gone = []; left = []; takes = [] } in record {
      all = all;
      made = 1;
      chief = 0;
      holder = λ s. 0;
      order = record { went = refl; stands = refl };
      below = record { gone = tt; left = tt; takes = tt };
      right = each_set (IsRight all 1 0 (λ s. 0)) (opening ∷ []) 0 opening ((λ _. (refl, refl)), (refl, omega arith, tt), (record { put = refl; taken = refl }, tt))
          (λ j u other e. ⊎_elim (λ q. absurd (some-ne-none u (sym q))) (λ q. absurd (other q.0)) (at_end [] opening u j e));
    }

-- a new seat is with its own pass, and the others are where they were
placed : ℕ → ℕ → (ℕ → ℕ) → ℕ → ℕ
placed made pass holder s = if s == made then pass else holder s

with_more : (holder : ℕ → ℕ) (made pass new : ℕ) (accounts : List Account) → AreWith holder made pass accounts → AreWith (placed made new holder) (made + 1) pass accounts
unfolding placed
with_more holder made pass new [] w = tt
with_more holder made pass new (a ∷ accounts) w =
    let lt = w.1 in let ne : a.seat ≢ made = λ e. omega arith in (
      rw (ne_eqb a.seat made ne) w.0,
      omega arith,
      with_more holder made pass new accounts w.2,
    )

new_with : (holder : ℕ → ℕ) (made new n : ℕ) → n ≡ made → AreWith (placed made new holder) (made + 1) new (account n [] [] ∷ [])
unfolding placed
new_with holder made new n e = (rw (eq-eqb n made e) refl, omega arith, tt)

new_fit : (all : Moves) (made n : ℕ) → n ≡ made → AreBelow made all → AllFit all (account n [] [] ∷ [])
new_fit all made n e b = rw e (
  record {
    put = rw (jobs_by_none made all.gone b.gone, jobs_by_none made all.left b.left) refl;
    taken = sym (jobs_by_none made all.takes b.takes);
  },
  tt,
)

pub forks : (pass : ℕ) (v : View) → v.is_chief ≡ true → Forks Agree pass v (one_more v) (newcomer v)
forks pass v lead items views k at =
    let here = k.right pass v at in
    let chief : pass ≡ k.chief = (here.0 lead).0 in
    let made : v.made ≡ k.made = (here.0 lead).1 in
    let vs : List View = set views pass (one_more v) in
    let new : ℕ = length vs in
    let holder : ℕ → ℕ = placed k.made new k.holder in
    let F : ℕ → View → Type 0 = IsRight k.all (k.made + 1) k.chief holder in
    let old : EachView F vs = each_set F views pass (one_more v)
    ((λ _. (chief, ap (λ n. n + 1) made)), with_more k.holder k.made pass new v.accounts here.1, here.2)
    (λ j u other e. let their = k.right j u e in
    ((λ c. absurd (other ((their.0 c).0 ∙ sym chief))), with_more k.holder k.made j new u.accounts their.1, their.2)) in
    record {
      all = k.all;
      made = k.made + 1;
      chief = k.chief;
      holder = holder;
      order = k.order;
      below = all_below_more k.made k.all k.below;
      right = λ j u e. ⊎_elim (λ q. old j u q)
          (λ (q : (j ≡ new) × (newcomer v ≡ u)). subst (λ (y : ℕ × View). F y.0 y.1) (λ i. (sym q.0 i, q.1 i))
          ((λ c. absurd (true≢false (sym c))), new_with k.holder k.made new v.made made, new_fit k.all k.made v.made made k.below))
          (at_end vs (newcomer v) u j e);
    }

-- who was with the other pass is with this one
handed_on : ℕ → ℕ → (ℕ → ℕ) → ℕ → ℕ
handed_on other pass holder s = if holder s == other then pass else holder s

with_kept : (holder : ℕ → ℕ) (made other pass j : ℕ) (accounts : List Account) → j ≢ other → AreWith holder made j accounts
    → AreWith (handed_on other pass holder) made j accounts
unfolding handed_on
with_kept holder made other pass j [] n w = tt
with_kept holder made other pass j (a ∷ accounts) n w = let ne : holder a.seat ≢ other = λ e. n (sym w.0 ∙ e) in (
  rw (ne_eqb (holder a.seat) other ne) w.0,
  w.1,
  with_kept holder made other pass j accounts n w.2,
)

with_passed : (holder : ℕ → ℕ) (made other pass : ℕ) (accounts : List Account) → AreWith holder made other accounts
    → AreWith (handed_on other pass holder) made pass accounts
unfolding handed_on
with_passed holder made other pass [] w = tt
with_passed holder made other pass (a ∷ accounts) w = (rw (eq-eqb (holder a.seat) other w.0) refl, w.1, with_passed holder made other pass accounts w.2)

with_append : (holder : ℕ → ℕ) (made pass : ℕ) (xs ys : List Account) → AreWith holder made pass xs → AreWith holder made pass ys → AreWith holder made pass (xs ++ ys)
with_append holder made pass [] ys a b = b
with_append holder made pass (x ∷ xs) ys a b = (a.0, a.1, with_append holder made pass xs ys a.2 b)

fit_append : (all : Moves) (xs ys : List Account) → AllFit all xs → AllFit all ys → AllFit all (xs ++ ys)
fit_append all [] ys a b = b
fit_append all (x ∷ xs) ys a b = (a.0, fit_append all xs ys a.1 b)

pub merges : (pass : ℕ) (v : View) (other : ℕ) (w : View) → v.is_chief ≡ true → Merges Agree pass v other w (joined v w) spent
merges pass v other w lead items views k at two at' =
    let both : View = joined v w in
    let vs : List View = set views pass both in
    let here = k.right pass v at in
    let was : get_elem? views other ≡ some w = ⊎_elim (λ x. absurd (two x.0)) (λ x. x.1) (at_set views pass other both w at') in
    let there = k.right other w was in
    let holder : ℕ → ℕ = handed_on other pass k.holder in
    let apart : pass ≢ other = λ e. two (sym e) in
    let F : ℕ → View → Type 0 = IsRight k.all k.made k.chief holder in
    let now : (j : ℕ) (u : View) → get_elem? vs j ≡ some u → j ≢ other → F j u = each_set (λ j u. j ≢ other → F j u) views pass both
    (λ _. (here.0, with_append holder k.made pass v.accounts w.accounts (with_kept k.holder k.made other pass pass v.accounts apart here.1) (with_passed k.holder k.made other pass w.accounts there.1), fit_append k.all v.accounts w.accounts here.2 there.2))
    (λ j u _ e n. let their = k.right j u e in (their.0, with_kept k.holder k.made other pass j u.accounts n their.1, their.2)) in
    record {
      all = k.all;
      made = k.made;
      chief = k.chief;
      holder = holder;
      order = k.order;
      below = k.below;
      right = each_set F vs other spent ((λ c. absurd (true≢false (sym c))), tt, tt) (λ j u n e. now j u e n);
    }

pub settles : (pass : ℕ) (v : View) → v.is_chief ≡ true → v.made ≡ length v.accounts → Learns Agree pass v (λ items. AreSettled v.accounts items)
settles pass v lead full items views k at =
    let here = k.right pass v at in
    let made : k.made ≡ length v.accounts = sym (here.0 lead).1 ∙ full in
    record { all = k.all; order = k.order; theirs = subst (λ n. AreBelow n k.all) made k.below; each = here.2 }
