use Rattle.std.proofs.Common.{◌≡◌, ℕ, ◌+◌, ◌<◌, length, slice_index_or}
use Rattle.logbook.specs.Pages.{Named}
use Rattle.shared_trace.specs.Inner.Rules.{word_of}
use Rattle.shared_trace.proofs.book.Opened.new.Given as goal

abbrev pub invariant-loop : goal.invariant-loop
invariant-loop g l = record {
  made : length l.words.items ≡ l.counter;
  book : l.pens.book ≡ l.seen.book;
  next : l.pens.next ≡ l.counter;
  left : l.pens.left + l.counter ≡ l.parts;
  empty : l.seen.log ≡ l.initial.seen.log;
  words_are : (k : ℕ) (w : Named) → k < length l.words.items → slice_index_or l.words.items k w ≡ word_of k l.seen.book;
}
