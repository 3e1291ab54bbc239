-- The rule that holds of a queue and of what every pass of it knows, after each put and each take.
use Rattle.std.specs.Prelude.{◌≡◌, ℕ, ◌+◌, ◌<◌, true, false, List, [], ◌∷◌, ◌++◌, ⊤}
use mathlib.Core.Option.{some}
use lib.ListN.{get_elem?}
use Rattle.unit_model.specs.Jobs.{PlainJob}
use Rattle.handoff.specs.declared.rule.Account.{Account}
use Rattle.handoff.specs.declared.rule.View.{View}
use Rattle.handoff.specs.Inner.Moves.{Moves, IsInOrder, AreBelow, AllFit, account}

-- own: these accounts are with this pass alone
abbrev pub AreWith : (ℕ → ℕ) → ℕ → ℕ → List Account → Type 0
AreWith holder made pass [] = ⊤
AreWith holder made pass (a ∷ accounts) = (holder a.seat ≡ pass) × (a.seat < made) × AreWith holder made pass accounts

-- own: who is the chief is this pass, and knows how many seats were made
abbrev pub IsOnlyChief : ℕ → ℕ → ℕ → View → Type 0
IsOnlyChief chief made pass v = v.is_chief ≡ true → (pass ≡ chief) × (v.made ≡ made)

-- own: what a pass knows is so
abbrev pub IsRight : Moves → ℕ → ℕ → (ℕ → ℕ) → ℕ → View → Type 0
IsRight all made chief holder pass v =
    IsOnlyChief chief made pass v × AreWith holder made pass v.accounts × AllFit all v.accounts

-- own: the rule. It has no case for a seat, nor for a number of them
pub record Agree (items : List PlainJob) (views : List View) : Type 0 where
  pub all : Moves
  pub made : ℕ
  pub chief : ℕ
  pub holder : ℕ → ℕ
  pub order : IsInOrder all items
  pub below : AreBelow made all
  pub right : (pass : ℕ) (v : View) → get_elem? views pass ≡ some v → IsRight all made chief holder pass v

-- own: the first pass is the chief, and has the seat 0
abbrev pub opening : View
opening = record { accounts = account 0 [] [] ∷ []; is_chief = true; made = 1 }

-- own: the chief once it has made a seat, and the pass of that seat
abbrev pub one_more : View → View
one_more v = record { accounts = v.accounts; is_chief = v.is_chief; made = v.made + 1 }

abbrev pub newcomer : View → View
newcomer v = record { accounts = account v.made [] [] ∷ []; is_chief = false; made = 0 }

-- own: a pass once it was given the accounts of another, and that other
abbrev pub joined : View → View → View
joined v w = record { accounts = v.accounts ++ w.accounts; is_chief = v.is_chief; made = v.made }

abbrev pub spent : View
spent = record { accounts = []; is_chief = false; made = 0 }

-- own: the first seat put a job, or took one
abbrev pub first_puts : List Account → PlainJob → List Account
first_puts [] job = []
first_puts (a ∷ accounts) job = account a.seat (a.put ++ job ∷ []) a.taken ∷ accounts

abbrev pub first_takes : List Account → PlainJob → List Account
first_takes [] job = []
first_takes (a ∷ accounts) job = account a.seat a.put (a.taken ++ job ∷ []) ∷ accounts

abbrev pub after_put : View → PlainJob → View
after_put v job = record { accounts = first_puts v.accounts job; is_chief = v.is_chief; made = v.made }

abbrev pub after_take : View → PlainJob → View
after_take v job = record { accounts = first_takes v.accounts job; is_chief = v.is_chief; made = v.made }
