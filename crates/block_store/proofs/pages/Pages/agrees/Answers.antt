use Rattle.std.specs.Prelude.{IsTrue}
use Rattle.std.proofs.Common.{◌≡◌, ◌↔◌, ℕ, ◌+◌, ◌-◌, ◌/◌, ◌%◌, ◌&&◌, refl, subst, arith}
use Rattle.block_store.specs.Blocks.{is_within}
use Rattle.block_store.specs.Pages.{paged}
use Rattle.block_store.specs.Kept.{blocks_of, kept_from}
use Rattle.block_store.proofs.Agreeing.{parts-agree}
use Rattle.block_store.proofs.pages.Pages.agrees.Goals as goal

pub returns-then-head : goal.returns-then-head
returns-then-head c =
    let pages = c.args.self.now in
    let row = c.args.row.now in
    let first = c.args.first in
    let end : first + c.from.result ≡ first + c.args.count = omega (arith, c.from.ensures) in
    let behind : (8 - c.position_of.result) % 8 ≡ (8 - (first + c.args.count) % 8) % 8 = omega (arith, c.from.ensures, c.position_of.ensures) in
    let by_head = subst (λ s. IsTrue c.is_same-head.result ↔ ((b : ℕ) → IsTrue (is_within (first - c.position_of-before.result) c.position_of-before.result b) → blocks_of pages b ≡ paged (kept_from s row) b))
    c.page_of-start.ensures c.is_same-head.ensures in
    let by_tail = subst (λ s. IsTrue c.is_same-tail.result ↔ ((b : ℕ) → IsTrue (is_within (first + c.from.result) ((8 - c.position_of.result) % 8) b) → blocks_of pages b ≡ paged (kept_from s row) b))
    c.page_of-start.ensures c.is_same-tail.ensures in
    let tail = c.is_same-tail.result in
    let is : tail ≡ (c.is_same-head.result && tail) = rw c.if-head.true refl in
    parts-agree (blocks_of pages) (paged (kept_from (first / 8) row)) first c.args.count
    (first - c.position_of-before.result) c.position_of-before.result (first + c.from.result) ((8 - c.position_of.result) % 8)
    c.is_same-head.result tail tail is (omega arith) (omega arith) c.position_of-before.ensures end behind by_head by_tail

pub returns-else-head : goal.returns-else-head
returns-else-head c =
    let pages = c.args.self.now in
    let row = c.args.row.now in
    let first = c.args.first in
    let end : first + c.from.result ≡ first + c.args.count = omega (arith, c.from.ensures) in
    let behind : (8 - c.position_of.result) % 8 ≡ (8 - (first + c.args.count) % 8) % 8 = omega (arith, c.from.ensures, c.position_of.ensures) in
    let by_head = subst (λ s. IsTrue c.is_same-head.result ↔ ((b : ℕ) → IsTrue (is_within (first - c.position_of-before.result) c.position_of-before.result b) → blocks_of pages b ≡ paged (kept_from s row) b))
    c.page_of-start.ensures c.is_same-head.ensures in
    let by_tail = subst (λ s. IsTrue c.is_same-tail.result ↔ ((b : ℕ) → IsTrue (is_within (first + c.from.result) ((8 - c.position_of.result) % 8) b) → blocks_of pages b ≡ paged (kept_from s row) b))
    c.page_of-start.ensures c.is_same-tail.ensures in
    let head = c.is_same-head.result in
    let is : head ≡ (head && c.is_same-tail.result) = rw c.if-head.false refl in
    parts-agree (blocks_of pages) (paged (kept_from (first / 8) row)) first c.args.count
    (first - c.position_of-before.result) c.position_of-before.result (first + c.from.result) ((8 - c.position_of.result) % 8)
    head c.is_same-tail.result head is (omega arith) (omega arith) c.position_of-before.ensures end behind by_head by_tail
