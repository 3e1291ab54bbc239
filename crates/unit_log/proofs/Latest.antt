-- The replies of the latest steps, and one more.
use Rattle.std.proofs.Common.{◌≡◌, ℕ, ◌+◌, ◌-◌, ◌<◌, ◌≤◌, Bool, true, false, cond, List, [], ◌∷◌, ◌++◌, length, drop, map, Option, sym, ◌∙◌, ap, subst, arith, length-append, length-drop}
use Rattle.std.specs.Option.{option_map}
use Rattle.std.proofs.lemmas.List.{drop-append-le, drop-drop, drop-map, length-map, map-append}
use Rattle.command_model.specs.PlainReply.{PlainReply, plain_of}
use Rattle.command_model.specs.declared.reply.Reply.{Reply}
use Rattle.unit_model.specs.Base.{most_kept}
use Rattle.unit_model.specs.Receipts.{latest_kept}
use Rattle.unit_log.specs.declared.kind.StepKind.{StepKind}
use Rattle.unit_log.specs.declared.recorded.RecordedStep.{RecordedStep}
use Rattle.unit_log.specs.Kept.{kind_of}
use Rattle.unit_log.specs.Inner.Kept.{latest, reply_kept}
use Rattle.unit_log.specs.Recorded.{step_recorded}
use Rattle.unit_log.specs.Inner.Recorded.{AreRecorded, kinds_recorded, replies_recorded}
use Rattle.unit_log.proofs.Bounds.{first_still}

length_latest : {X : Type 0} (xs : List X) → length (latest xs) ≡ length xs - (length xs - latest_kept)
length_latest xs = length-drop (length xs - latest_kept) xs

latest_map : {X Y : Type 0} (f : X → Y) (xs : List X) → map f (latest xs) ≡ latest (map f xs)
latest_map f xs =
    sym (drop-map f (length xs - latest_kept) xs)
    ∙ ap (λ n. drop (n - latest_kept) (map f xs)) (sym (length-map xs f))

-- the latest of the latest and one more are the latest of all and that one
latest_more : {X : Type 0} (xs : List X) (y : X) → latest (latest xs ++ y ∷ []) ≡ latest (xs ++ y ∷ [])
latest_more {X} xs y =
    let k = length xs - latest_kept in
    let a = length-append (latest xs) (y ∷ []) in
    let b = length-append xs (y ∷ []) in
    let l = length_latest xs in
    ap (λ (w : List X). drop (length (latest xs ++ y ∷ []) - latest_kept) w) (sym (drop-append-le k xs (y ∷ []) (omega arith)))
    ∙ drop-drop (length (latest xs ++ y ∷ []) - latest_kept) k (xs ++ y ∷ [])
    ∙ ap (λ n. drop n (xs ++ y ∷ [])) (omega (arith, a, b, l))

pub few_replies : (keeps : Bool) (replies : List (Option Reply)) (items : List RecordedStep) → map (option_map plain_of) replies ≡ latest (replies_recorded keeps items)
    → (length replies ≤ latest_kept) × (length replies ≤ length items)
few_replies true replies items are =
    let g = λ (s : RecordedStep). reply_kept true (step_recorded s) in
    let n = sym (length-map replies (option_map plain_of)) ∙ ap (λ (w : List (Option PlainReply)). length w) are ∙ length_latest (map g items) in
    let m = length-map items g in
    (omega (arith, n, m), omega (arith, n, m))
few_replies false replies items are =
    let n = sym (length-map replies (option_map plain_of)) ∙ ap (λ (w : List (Option PlainReply)). length w) are ∙ length_latest {X = Option PlainReply} [] in
    (omega (arith, n), omega (arith, n))

replies_more : (keeps : Bool) (replies : List (Option Reply)) (items : List RecordedStep) (s : RecordedStep) (reply : Option Reply)
    → map (option_map plain_of) replies ≡ latest (replies_recorded keeps items) → option_map plain_of reply ≡ reply_kept keeps (step_recorded s)
    → map (option_map plain_of) (cond keeps (latest (replies ++ reply ∷ [])) replies) ≡ latest (replies_recorded keeps (items ++ s ∷ []))
replies_more false replies items s reply e is = e
replies_more true replies items s reply e is =
    let g = λ (s : RecordedStep). reply_kept true (step_recorded s) in
    latest_map (option_map plain_of) (replies ++ reply ∷ [])
    ∙ ap latest (map-append (option_map plain_of) replies (reply ∷ []))
    ∙ ap (λ (w : List (Option PlainReply)). latest (w ++ option_map plain_of reply ∷ [])) e
    ∙ ap (λ (o : Option PlainReply). latest (latest (map g items) ++ o ∷ [])) is
    ∙ latest_more (map g items) (g s)
    ∙ ap latest (sym (map-append g items (s ∷ [])))

-- what is kept of the steps and one more
pub recorded_more : (keeps folds : Bool) (base cap cap' : ℕ) (folded kinds kinds' : List StepKind) (replies replies' : List (Option Reply)) (items items' : List RecordedStep)
    (s : RecordedStep) (kind : StepKind) (reply : Option Reply) → AreRecorded keeps folds base cap folded kinds replies items → length kinds < base + most_kept
    → kind ≡ kind_of (step_recorded s) → option_map plain_of reply ≡ reply_kept keeps (step_recorded s) → cap' ≡ cap → kinds' ≡ kinds ++ kind ∷ []
    → replies' ≡ cond keeps (latest (replies ++ reply ∷ [])) replies → items' ≡ items ++ s ∷ [] → AreRecorded keeps folds base cap' folded kinds' replies' items'
recorded_more keeps folds base cap cap' folded kinds kinds' replies replies' items items' s kind reply k below as_kind as_reply is_cap is_kinds is_replies is_items =
    let f = λ (s : RecordedStep). kind_of (step_recorded s) in
    let one = length-append items (s ∷ []) in
    let counted = k.counted in
    let low = k.low in
    let full = k.full in
    let more = length-append kinds (kind ∷ []) in
    subst (AreRecorded keeps folds base cap' folded kinds' replies') (sym is_items)
    (subst (λ w. AreRecorded keeps folds base cap' folded w replies' (items ++ s ∷ [])) (sym is_kinds) (record {
      alike = k.alike;
      kinds_are =
          ap (λ (w : List StepKind). w ++ kind ∷ []) k.kinds_are ∙ ap (λ (w : StepKind). kinds_recorded items ++ w ∷ []) as_kind
          ∙ sym (map-append f items (s ∷ []));
      counted = omega (arith, counted, one, more);
      folded_are = first_still folded kinds kind k.folded_are;
      behind = k.behind;
      low = omega (arith, low, more);
      few = omega (arith, below, more);
      full = λ some. subst (λ n. most_kept ≤ n) (sym is_cap) (full some);
      replies_are = ap (map (option_map plain_of)) is_replies ∙ replies_more keeps replies items s reply k.replies_are as_reply;
    }))
