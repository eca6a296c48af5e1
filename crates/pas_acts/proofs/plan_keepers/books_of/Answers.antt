use Rattle.std.proofs.Common.{arith}
use Rattle.pas_acts.proofs.Making.{no_books, next_book}
use Rattle.pas_acts.proofs.plan_keepers.books_of.Goals as goal

pub loop-below-init : goal.loop-below-init
loop-below-init c = search (arith, no_books)

pub loop-below-preserved : goal.loop-below-preserved
loop-below-preserved c =
    let i = c.loop-below.invariant in
    record {
      made = next_book _ c.in_ok-book.book c.push_reserved.ensures.items c.in_ok-book.ensures.empty c.in_ok-book.ensures.size i.made;
      reserved = omega (arith, i.reserved, c.push_reserved.ensures.capacity);
    }

-- at the loop's end all books are made
pub returns : goal.returns
returns c =
    search arith
