-- The log of the steps: what its calls say, and what is kept in it.
use Rattle.std.specs.Prelude.{ℕ, ◌≡◌, ◌+◌, ◌-◌, ◌≤◌, ◌<◌, ◌⊎◌, Bool, true, false, nat_lt, List, [], map, length, take, slice_get, Option, Some, None, if◌then◌else◌, ⊤}
use Rattle.std.specs.Option.{option_map}
use Rattle.command_model.specs.PlainReply.{PlainReply, plain_of}
use Rattle.command_model.specs.declared.reply.Reply.{Reply}
use Rattle.unit_model.specs.Steps.{Step}
use Rattle.unit_model.specs.Base.{most_before, most_kept}
use Rattle.unit_model.specs.Clearing.{rule_at}
use Rattle.unit_model.specs.declared.rule.Rule.{Rule}
use Rattle.unit_log.specs.declared.kind.StepKind.{StepKind}
use Rattle.unit_log.specs.declared.recorded.RecordedStep.{RecordedStep}
use Rattle.unit_log.specs.Kept.{kind_of}
use Rattle.unit_log.specs.Inner.Kept.{reply_kept, latest}
use Rattle.unit_log.specs.Recorded.{step_recorded}

-- the kinds of steps, in their order
abbrev pub kinds_recorded : List RecordedStep → List StepKind
kinds_recorded items = map (λ (s : RecordedStep). kind_of (step_recorded s)) items

-- the replies of steps by place, as far as they are short enough to be kept, where replies are kept; and else none
abbrev pub replies_recorded : Bool → List RecordedStep → List (Option PlainReply)
replies_recorded true items = map (λ (s : RecordedStep). reply_kept true (step_recorded s)) items
replies_recorded false items = []

-- own: folded steps are the oldest
abbrev pub AreFirst : List StepKind → List StepKind → Type 0
AreFirst folded kinds = folded ≡ take (length folded) kinds

-- what is kept of the steps: folded are those before the base, and maybe more
pub record AreRecorded (keeps folds : Bool) (base cap : ℕ) (folded kinds : List StepKind) (replies : List (Option Reply))
    (items : List RecordedStep) : Type 0 where
  pub alike : folds ≡ keeps
  pub kinds_are : kinds ≡ kinds_recorded items
  pub counted : length kinds ≡ length items
  pub folded_are : AreFirst folded kinds
  pub behind : base ≤ length folded
  pub low : base ≤ length kinds - most_before
  pub few : length kinds ≤ base + most_kept
  pub full : 0 < base → most_kept ≤ cap
  pub replies_are : map (option_map plain_of) replies ≡ latest (replies_recorded keeps items)

-- what is kept of the step at a place, where items are kept of as many of the latest steps as there are items
abbrev pub kept_there : {X : Type 0} → ℕ → ℕ → List X → Option X
kept_there steps place items =
    if nat_lt place (steps - length items) then None else slice_get items (place - (steps - length items))

-- the reply at a place, if there is one
abbrev pub reply_of_place : Option (Option Reply) → Option PlainReply
reply_of_place None = None
reply_of_place (Some r) = option_map plain_of r

-- own: which tasks the step at a place met, if any, or that it is forgotten
abbrev pub Tells : ℕ → ℕ → List Step → Option Rule → Type 0
Tells forgotten place steps None = (rule_at place steps ≡ None) ⊎ (place < forgotten)
Tells forgotten place steps (Some rule) = rule_at place steps ≡ Some rule

-- replies agree: where both are there they are one
abbrev pub AreAlike : Option PlainReply → Option PlainReply → Type 0
AreAlike (Some kept) (Some given) = given ≡ kept
AreAlike kept given = ⊤
