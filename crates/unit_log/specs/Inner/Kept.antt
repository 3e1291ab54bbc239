-- What is kept of a step at run time: its kind, and of a Commit its reply, where replies are kept.
use Rattle.std.specs.Prelude.{◌-◌, Bool, ◌&&◌, nat_le, List, length, drop, Option, Some, None, if◌then◌else◌}
use Rattle.command_model.specs.PlainReply.{PlainReply}
use Rattle.ring_core.specs.declared.log.Ticket.{Ticket}
use Rattle.unit_model.specs.Steps.{Step}
use Rattle.unit_model.specs.Receipts.{latest_kept, longest_kept}
use Rattle.unit_model.specs.declared.rule.Rule.{Rule}
use Rattle.unit_model.specs.declared.rule.Rule.TheVariants as rules
use Rattle.unit_log.specs.declared.kind.StepKind.{StepKind}
use Rattle.unit_log.specs.declared.kind.StepKind.TheVariants as kind

-- own: what is kept of a reply, where replies are: all of it, or nothing where its data are longer than what is kept
abbrev pub kept_reply : Bool → PlainReply → Option PlainReply
kept_reply keeps r = if keeps && nat_le (length r.payload) longest_kept then Some r else None

-- own: the reply of a step, where replies are kept
abbrev pub reply_kept : Bool → Step → Option PlainReply
reply_kept keeps (Step.Commit t r) = kept_reply keeps r
reply_kept keeps step = None

-- own: of what came by steps, in their order, that of the latest whose replies are kept
abbrev pub latest : {X : Type 0} → List X → List X
latest xs = drop (length xs - latest_kept) xs

-- own: which tasks a step of a kind meets
abbrev pub met_kind : StepKind → Option Rule
met_kind (kind.Abort rule) = Some rule
met_kind kind.Reset = Some rules.All
met_kind k = None

abbrev pub commit_kind : Ticket → StepKind
commit_kind t = kind.Commit t
