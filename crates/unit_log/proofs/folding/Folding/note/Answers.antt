use Rattle.std.proofs.Common.{map, refl, sym, ap, ◌∙◌, subst}
use Rattle.std.proofs.lemmas.List.{length-map}
use Rattle.unit_log.specs.Runs.{committed}
use Rattle.unit_log.specs.Inner.Runs.{AreBefore, FoldsOne, runs_of}
use Rattle.unit_log.specs.Inner.Folding.{mark_at}
use Rattle.unit_log.proofs.Marks.{folded_more}
use Rattle.unit_log.proofs.Tables.{commits_before, folds_none, folds_same, mark_commits_none}
use Rattle.unit_log.proofs.folding.Folding.note.Goals as goal

pub push_commit-requires : goal.push_commit-requires
push_commit-requires c = λ on q.
    subst (λ n. AreBefore n (runs_of q c.self.inside.commits)) (length-map c.self.inside.gone.items committed ∙ sym c.self.invariant.counted)
    (commits_before (map committed c.self.inside.gone.items) c.self.inside.commits q (c.self.invariant.stand on))

pub invariant_of-self : goal.invariant_of-self
invariant_of-self c =
    record {
      counted = c.self.invariant.counted;
      marked = c.self.invariant.marked;
      stand =
          folds_same (map committed c.self.inside.gone.items) c.self.inside.commits c.push_commit.new.commits c.self.inside.keeps
          c.in_err-push_commit.ensures.err c.self.invariant.stand;
    }

pub invariant_of-self-in_err-push_mark : goal.invariant_of-self-in_err-push_mark
invariant_of-self-in_err-push_mark c =
    let err = c.in_err-push_mark.ensures.err in
    record {
      counted = c.self.invariant.counted;
      marked = λ p le. ap (mark_at p) err.0 ∙ c.self.invariant.marked p le;
      stand =
          folds_none c.self.inside.keeps c.self.inside.len c.committed.result (map committed c.self.inside.gone.items) c.self.inside.commits c.push_commit.new.commits
          (c.committed.ensures ∙ mark_commits_none c.args.kind c.rule_of_kind.result c.rule_of_kind.ensures err.1) c.self.invariant.stand c.in_ok-push_commit.ensures.ok;
    }

pub invariant_of-self-2 : goal.invariant_of-self-2
invariant_of-self-2 c =
    folded_more c.self.inside.keeps c.self.inside.len _ c.self.inside.forgotten c.rule_of_kind.result c.self.inside.marks.items _ c.self.inside.commits c.push_commit.new.commits
    c.self.inside.gone.items _ c.args.kind c.self.invariant c.rule_of_kind.ensures refl c.in_ok-push_mark.ensures.ok
    (subst (λ o. FoldsOne c.self.inside.keeps c.self.inside.len o c.self.inside.commits c.push_commit.new.commits) c.committed.ensures c.in_ok-push_commit.ensures.ok)
    c.push.ensures
